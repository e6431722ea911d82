-- What a step on a ticket word tells, by the halves that it found.
use Rattle.std.proofs.Common.{◌==◌, ◌≡◌, ◌+◌, ◌∙◌}
use Rattle.msrp_plan.proofs.Common.{ℕ, sym, ap, subst, none}
use Rattle.msrp_board.proofs.Common.{Call, HasEntered, Me, Poll, Tells, View, ViewIsBehind, ViewMayAct, Waits, high, low, page_with_entry, page_with_poll, step, ticket_of, with_pages}
use Rattle.msrp_board.specs.declared.words.TicketWord.{TicketWord}
use Rattle.msrp_board.proofs.Seats.{sole_change}

-- the word, by its halves
abbrev pub IsHalves : TicketWord → ℕ → Type 0
IsHalves word n = (word.next ≡ high n) × (word.serving ≡ low n)

-- an entry whose place and call the halves determine
entered_by : (call : ℕ → ℕ → Call) (g : ℕ) (me now : Me (Unit {0}) View) (word : TicketWord) (n : ℕ) → IsHalves word n → now ≡ (with_pages (page_with_entry g (high n + low n) (call (high n) (low n))) me.0, me.1) → ViewIsBehind me.0 g (high n + low n)
    → HasEntered g (word.next + word.serving) (call word.next word.serving) me now
entered_by call g me now word n is changed behind = record {
  changed = changed ∙ ap (λ h. (with_pages (page_with_entry g (h + low n) (call h (low n))) me.0, me.1)) (sym is.0) ∙ ap (λ l. (with_pages (page_with_entry g (word.next + l) (call word.next l)) me.0, me.1)) (sym is.1);
  behind = subst (λ l. ViewIsBehind me.0 g (word.next + l)) (sym is.1) (subst (λ h. ViewIsBehind me.0 g (h + low n)) (sym is.0) behind);
}

-- of a core that waits with this ticket
pub poll_entered : (slots g a ticket : ℕ) (me now : Me (Unit {0}) View) (word : TicketWord) (n : ℕ) → IsHalves word n → ViewMayAct me.0 (Waits g ticket) → Tells page_with_poll (step slots g a 0 none) me n now
    → HasEntered g (word.next + word.serving) (Poll (word.serving == ticket)) me now
poll_entered slots g a ticket me now word n is may t = entered_by (λ h l. Poll (l == ticket)) g me now word n is
    (t.changed ∙ ap (λ (w : View). (w, me.1)) (sole_change me.0 may.at.core may.at.page (page_with_poll g n) (page_with_entry g (high n + low n) (Poll (low n == ticket))) may.at.has
    (ap (λ k. page_with_entry g (high n + low n) (Poll (low n == k)) may.at.page) (ap ticket_of may.claims))))
    t.behind
