-- The turns of a part of the ticks.
use Rattle.std.proofs.Common.{◌≡◌, ◌+◌, ◌*◌, ◌<◌, ◌≤◌, ◌&&◌, ◌∙◌}
use Rattle.msrp_plan.proofs.Common.{ℕ, nat_lt, nat_le, Bool, true, false, cond, min, List, Some, None, refl, ap, sym, arith, length, take, get_or, inl, inr, and-false, cases_lt, lt-ltb, le-ltb, le-leb, lt-leb, length-take-le, PlanModel, IsRunStart, is_in_turn}
use Rattle.msrp_plan.specs.declared.faults.Rule.TheVariants.{A1}
use Rattle.msrp_plan.specs.declared.rows.Row.{Row}
use Rattle.msrp_audit.specs.Inside.Pieces.{part_size, is_in_part, broken_turn, TellsFirst}
use Rattle.msrp_audit.specs.declared.pieces.Piece.TheVariants.{Turns}
use Rattle.msrp_audit.proofs.Scanning.{PassesTo, split_length, passes_more, tells_none, finds_at}
use Rattle.msrp_audit.proofs.Merging.{sound}

module _ (plan : PlanModel) (part : ℕ) (rows : List Row) where
  -- the rows before the part are none of its own
  pub part_begins : (n : ℕ) → n ≡ part * part_size plan → PassesTo plan (broken_turn plan part) rows n
  part_begins n is = record {
    none = λ pre r post at start low.
        ap (λ b. cond (b && nat_lt (length pre) (part * part_size plan + part_size plan)) (cond (is_in_turn plan pre r) None (Some A1)) None) (lt-leb (part * part_size plan) (length pre) (omega (arith, is, low)));
  }

  in_part : (i : ℕ) → i ≤ length rows → part * part_size plan ≤ i → i < part * part_size plan + part_size plan → is_in_part plan part (length (take i rows)) ≡ true
  in_part i within low high =
      let size : length (take i rows) ≡ i = length-take-le i rows within in
      ap (is_in_part plan part) size ∙ (ap (λ b. b && nat_lt i (part * part_size plan + part_size plan)) (le-leb (part * part_size plan) i low) ∙ lt-ltb i (part * part_size plan + part_size plan) high)

  -- a row of the part that is in its turn
  pub turn_passes : (i : ℕ) (x : Row) (b : Bool) → PassesTo plan (broken_turn plan part) rows i → x ≡ get_or rows i x → (IsRunStart plan (take i rows) → b ≡ is_in_turn plan (take i rows) x) → b ≡ true → PassesTo plan (broken_turn plan part) rows (i + 1)
  turn_passes i x b passes at is due = passes_more plan (broken_turn plan part) rows i x passes at (λ start. by_part (is_in_part plan part (length (take i rows))) (sym (is start) ∙ due))
    where
      by_part : (p : Bool) → is_in_turn plan (take i rows) x ≡ true → cond p (cond (is_in_turn plan (take i rows) x) None (Some A1)) None ≡ None
      by_part true e = ap (λ t. cond t None (Some A1)) e
      by_part false e = refl

  -- and one that isn't
  pub turn_found : (i : ℕ) (x : Row) (b : Bool) → i < length rows → part * part_size plan ≤ i → i < part * part_size plan + part_size plan → PassesTo plan (broken_turn plan part) rows i → x ≡ get_or rows i x → (IsRunStart plan (take i rows) → b ≡ is_in_turn plan (take i rows) x) → b ≡ false
      → TellsFirst plan (broken_turn plan part) rows (Some (record { row = i + 1; rule = A1 }))
  turn_found i x b within low high passes at is not_due =
      finds_at plan (broken_turn plan part) rows i x A1 (sound plan (Turns part)) within passes at
      (λ start. rw (in_part i (omega (arith, within)) low high, sym (is start) ∙ not_due) refl)

  -- no row of it is left
  pub part_ends : (i n : ℕ) → n ≡ min (length rows) (part * part_size plan + part_size plan) → n ≤ i → PassesTo plan (broken_turn plan part) rows i → TellsFirst plan (broken_turn plan part) rows None
  part_ends i n is past passes = tells_none plan (broken_turn plan part) rows (λ pre r post at start. elim (cases_lt (length pre) i) [
    | inl low ↦ passes.none pre r post at start low
    | inr high ↦
        let size = split_length rows pre post r at in
        let behind : nat_lt (length pre) (part * part_size plan + part_size plan) ≡ false = le-ltb (length pre) (part * part_size plan + part_size plan) (omega (arith, is, past, high, size)) in
        ap (λ b. cond (nat_le (part * part_size plan) (length pre) && b) (cond (is_in_turn plan pre r) None (Some A1)) None) behind
        ∙ ap (λ b. cond b (cond (is_in_turn plan pre r) None (Some A1)) None) (and-false (nat_le (part * part_size plan) (length pre)))
  ])
