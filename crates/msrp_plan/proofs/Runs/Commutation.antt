-- A row is legal by the rows of its core and those on its resource: so turns of different cores
-- that aren't on one resource commute.
use Rattle.msrp_plan.specs.Common.{ℕ, Bool, true, false, cond, not, nat_lt, List, [], length, Option, Some, None, filter, PlanModel, choice, does_next, is_on, fifo, is_reply_of, EachAfter, IsLegal, IsRunStart, is_in_turn, is_of_core, is_chosen, is_next_action, had_turn, same_choice, replies_on, is_of, log_of, rows_on}
use Rattle.msrp_plan.specs.declared.ids.ResId.{ResId}
use Rattle.msrp_plan.specs.declared.rows.Row.{Row}
use Rattle.std.proofs.Common.{◌≡◌, ◌/◌, ◌&&◌, ◌||◌, ◌==◌, ◌∷◌, ◌++◌, refl, ap, sym, ◌∙◌, arith, eq-eqb, eqb-true, lt-ltb, length-append, append-nil, append_assoc}
use Rattle.std.proofs.lemmas.Bool.{and_parts, false_from_ne_true}
use Rattle.std.proofs.lemmas.List.Elements.{filter-append}
use Rattle.msrp_plan.specs.Logs.{AreApart}
use Rattle.msrp_plan.proofs.Lists.AnyAll.{any_push, all_push}
use Rattle.msrp_plan.proofs.Lists.Filters.{any_within, all_of}
use Rattle.msrp_plan.proofs.Legality.Locality.{AreOwn, choice_local, does_next_local}
use Rattle.msrp_plan.proofs.Legality.LegalRows.{legal_due}
use Rattle.msrp_plan.proofs.Lists.Prefixes.{each_before, each_rest, each_append, along}
use Rattle.msrp_plan.proofs.Legality.ReplyLocality.{fifo_local}
use Rattle.msrp_plan.proofs.Runs.RoundRobin.{in_turn_of}
use Rattle.msrp_plan.proofs.Tests.{or_neither}

-- ---- rows that look alike to one row
-- the row's core finds the same rows of its own in both lists, and its resource the same rows on it
record LookAlike (plan : PlanModel) (x : Row) (pre other : List Row) : Type 0 where
  own : AreOwn plan pre
  owned : AreOwn plan other
  log : log_of x.core.0 pre ≡ log_of x.core.0 other
  on : (g : ℕ) → is_on g x.res ≡ true → rows_on g pre ≡ rows_on g other

-- so its job has the turn after both or neither
chosen_alike : (plan : PlanModel) (x : Row) (pre other : List Row) → LookAlike plan x pre other → is_chosen plan pre x ≡ is_chosen plan other x
chosen_alike plan x pre other a = ap (same_choice x.job) (sym (choice_local plan x.core.0 x.tick pre a.own) ∙ (ap (choice plan x.core.0 x.tick) a.log ∙ choice_local plan x.core.0 x.tick other a.owned))

-- and it does its job's next action after both or neither
action_alike : (plan : PlanModel) (x : Row) (pre other : List Row) → LookAlike plan x pre other → is_of_core plan x ≡ true → is_next_action plan pre x ≡ is_next_action plan other x
action_alike plan x pre other a mine = sym (does_next_local plan x.core.0 pre x.job x a.own mine) ∙ (ap (λ l. does_next plan l x.job x) a.log ∙ does_next_local plan x.core.0 other x.job x a.owned mine)

-- and it has its queue's reply after both or neither
reply_alike : (plan : PlanModel) (x : Row) (pre other : List Row) → LookAlike plan x pre other → (o : Option ResId) → o ≡ x.res → replies_on pre o x ≡ replies_on other o x
reply_alike plan x pre other a None e = refl
reply_alike plan x pre other a (Some g) e =
    let here : is_on g.0 x.res ≡ true = ap (is_on g.0) (sym e) ∙ eq-eqb g.0 g.0 refl in
    ap (λ q. is_reply_of q x) (sym (fifo_local g.0 pre) ∙ (ap (fifo g.0) (a.on g.0 here) ∙ fifo_local g.0 other))

-- a row that is legal after some rows is legal after others that look alike to it, if it is its
-- turn there
legal_alike : (plan : PlanModel) (x : Row) (pre other : List Row) → LookAlike plan x pre other → is_in_turn plan other x ≡ true → IsLegal plan pre x → IsLegal plan other x
legal_alike plan x pre other a turn h = record {
  turn = turn;
  own = h.own;
  chosen = sym (chosen_alike plan x pre other a) ∙ h.chosen;
  action = sym (action_alike plan x pre other a h.own) ∙ h.action;
  reply = sym (reply_alike plan x pre other a x.res refl) ∙ h.reply;
}

-- ---- rows that look alike to every row
-- the lists are of one length and look alike to each row
record AllAlike (plan : PlanModel) (pre other : List Row) : Type 0 where
  size : length pre ≡ length other
  each : (x : Row) → LookAlike plan x pre other

-- whether a core had its turn is told by its log
had_turn_local : (c t : ℕ) (pre : List Row) → had_turn c t (log_of c pre) ≡ had_turn c t pre
had_turn_local c t pre = any_within (λ r. (r.tick == t) && (r.core.0 == c)) (is_of c) pre (all_of _ (λ r h. (and_parts (r.tick == t) (r.core.0 == c) h).1) pre)

-- so a row is in its turn after both or neither
in_turn_alike : (plan : PlanModel) (x : Row) (pre other : List Row) → AllAlike plan pre other → is_in_turn plan pre x ≡ is_in_turn plan other x
in_turn_alike plan x pre other a =
    let turns : had_turn x.core.0 x.tick pre ≡ had_turn x.core.0 x.tick other = sym (had_turn_local x.core.0 x.tick pre) ∙ (ap (had_turn x.core.0 x.tick) (a.each x).log ∙ had_turn_local x.core.0 x.tick other) in
    ap (λ n. (x.tick == n / plan.cores) && (nat_lt x.core.0 plan.cores && not (had_turn x.core.0 x.tick pre))) a.size
    ∙ ap (λ b. (x.tick == length other / plan.cores) && (nat_lt x.core.0 plan.cores && not b)) turns

-- lists that filter alike do so with one row more
filter_push : (p : Row → Bool) (pre other : List Row) (r : Row) → filter p pre ≡ filter p other → filter p (pre ++ r ∷ []) ≡ filter p (other ++ r ∷ [])
filter_push p pre other r e = filter-append p pre (r ∷ []) ∙ (ap (λ l. l ++ filter p (r ∷ [])) e ∙ sym (filter-append p other (r ∷ [])))

-- lists that look alike do so with one row more
alike_push : (plan : PlanModel) (pre other : List Row) (r : Row) → AllAlike plan pre other → is_of_core plan r ≡ true → AllAlike plan (pre ++ r ∷ []) (other ++ r ∷ [])
alike_push plan pre other r a mine = record {
  size = omega (arith, a.size, length-append pre (r ∷ []), length-append other (r ∷ []));
  each = λ x. let b = a.each x in record {
    own = all_push (λ w. is_of_core plan w ≡ true) pre r b.own mine;
    owned = all_push (λ w. is_of_core plan w ≡ true) other r b.owned mine;
    log = filter_push (is_of x.core.0) pre other r b.log;
    on = λ g e. filter_push (λ w. is_on g w.res) pre other r (b.on g e);
  };
}

-- what is legal row by row stays so after rows that look alike to every row
each_alike : (plan : PlanModel) (pre other rows : List Row) → AllAlike plan pre other → EachAfter (IsLegal plan) pre rows → EachAfter (IsLegal plan) other rows
each_alike plan pre other [] a each = tt
each_alike plan pre other (r ∷ rows) a each = (
  legal_alike plan r pre other (a.each r) (sym (in_turn_alike plan r pre other a) ∙ each.0.turn) each.0,
  each_alike plan (pre ++ r ∷ []) (other ++ r ∷ []) rows (alike_push plan pre other r a each.0.own) each.1,
)

-- ---- two rows that change places
-- at most one of two rows passes: their order makes no difference
pairs_swapped : (r s : Row) (a b : Bool) → (a ≡ true → b ≡ false) → cond a (r ∷ []) [] ++ cond b (s ∷ []) [] ≡ cond b (s ∷ []) [] ++ cond a (r ∷ []) []
pairs_swapped r s true true h = absurd (let e = h refl in cc)
pairs_swapped r s true false h = refl
pairs_swapped r s false true h = refl
pairs_swapped r s false false h = refl

-- what a filter keeps of two rows more
filter_two : (p : Row → Bool) (pre : List Row) (r s : Row) → filter p ((pre ++ r ∷ []) ++ s ∷ []) ≡ filter p pre ++ (cond (p r) (r ∷ []) [] ++ cond (p s) (s ∷ []) [])
filter_two p pre r s = filter-append p (pre ++ r ∷ []) (s ∷ []) ∙ (ap (λ l. l ++ filter p (s ∷ [])) (filter-append p pre (r ∷ [])) ∙ append_assoc (filter p pre) (filter p (r ∷ [])) (filter p (s ∷ [])))

-- so two last rows may change places before a filter that keeps at most one
filter_swapped : (p : Row → Bool) (pre : List Row) (r s : Row) → (p r ≡ true → p s ≡ false) → filter p ((pre ++ r ∷ []) ++ s ∷ []) ≡ filter p ((pre ++ s ∷ []) ++ r ∷ [])
filter_swapped p pre r s h = filter_two p pre r s ∙ (ap (λ l. filter p pre ++ l) (pairs_swapped r s (p r) (p s) h) ∙ sym (filter_two p pre s r))

-- a row that doesn't pass changes nothing
filter_unmoved : (p : Row → Bool) (pre : List Row) (r : Row) → p r ≡ false → filter p (pre ++ r ∷ []) ≡ filter p pre
filter_unmoved p pre r e = filter-append p pre (r ∷ []) ∙ (ap (λ b. filter p pre ++ cond b (r ∷ []) []) e ∙ append-nil (filter p pre))

-- ---- turns that commute
-- of two tests that exclude each other the first fails where the second passes
not_both : (a b : Bool) → (a ≡ true → b ≡ false) → b ≡ true → a ≡ false
not_both a b h e = false_from_ne_true a (λ k. let no : false ≡ true = sym (h k) ∙ e in absurd (cc))

-- of two rows that are apart at most one is of core c
other_core : (r s : Row) → AreApart r s → (c : ℕ) → is_of c r ≡ true → is_of c s ≡ false
other_core r s apart c e = false_from_ne_true (s.core.0 == c) (λ k. apart.cores (eqb-true r.core.0 c e ∙ sym (eqb-true s.core.0 c k)))

-- the second row, if the first hadn't been, and the first after the second
second_alike : (plan : PlanModel) (pre : List Row) (r s : Row) → AreOwn plan pre → is_of_core plan r ≡ true → AreApart r s → LookAlike plan s (pre ++ r ∷ []) pre
second_alike plan pre r s own mine apart = record {
  own = all_push (λ w. is_of_core plan w ≡ true) pre r own mine;
  owned = own;
  log = filter_unmoved (is_of s.core.0) pre r (not_both (is_of s.core.0 r) (is_of s.core.0 s) (other_core r s apart s.core.0) (eq-eqb s.core.0 s.core.0 refl));
  on = λ g e. filter_unmoved (λ w. is_on g w.res) pre r (not_both (is_on g r.res) (is_on g s.res) (apart.resources g) e);
}

-- the first row, if the second stands before it
first_alike : (plan : PlanModel) (pre : List Row) (r s : Row) → AreOwn plan pre → is_of_core plan s ≡ true → AreApart r s → LookAlike plan r pre (pre ++ s ∷ [])
first_alike plan pre r s own mine apart = record {
  own = own;
  owned = all_push (λ w. is_of_core plan w ≡ true) pre s own mine;
  log = sym (filter_unmoved (is_of r.core.0) pre s (other_core r s apart r.core.0 (eq-eqb r.core.0 r.core.0 refl)));
  on = λ g e. sym (filter_unmoved (λ w. is_on g w.res) pre s (apart.resources g e));
}

-- both orders look alike to every row
swapped_alike : (plan : PlanModel) (pre : List Row) (r s : Row) → AreOwn plan pre → is_of_core plan r ≡ true → is_of_core plan s ≡ true → AreApart r s → AllAlike plan ((pre ++ r ∷ []) ++ s ∷ []) ((pre ++ s ∷ []) ++ r ∷ [])
swapped_alike plan pre r s own mine its apart = record {
  size = omega (arith, length-append (pre ++ r ∷ []) (s ∷ []), length-append pre (r ∷ []), length-append (pre ++ s ∷ []) (r ∷ []), length-append pre (s ∷ []));
  each = λ x. record {
    own = all_push (λ w. is_of_core plan w ≡ true) (pre ++ r ∷ []) s (all_push (λ w. is_of_core plan w ≡ true) pre r own mine) its;
    owned = all_push (λ w. is_of_core plan w ≡ true) (pre ++ s ∷ []) r (all_push (λ w. is_of_core plan w ≡ true) pre s own its) mine;
    log = filter_swapped (is_of x.core.0) pre r s (other_core r s apart x.core.0);
    on = λ g e. filter_swapped (λ w. is_on g w.res) pre r s (apart.resources g);
  };
}

-- where neither is true the first isn't
or_left : (a b : Bool) → (a || b) ≡ false → a ≡ false
or_left true b h = h
or_left false b h = refl

-- a conjunction is false where its second part is
and_right : (a b : Bool) → b ≡ false → (a && b) ≡ false
and_right true b e = e
and_right false b e = refl

-- the second row is in turn before the first
second_turn : (plan : PlanModel) (pre : List Row) (r s : Row) → IsLegal plan pre r → IsLegal plan (pre ++ r ∷ []) s → r.tick ≡ s.tick → is_in_turn plan pre s ≡ true
second_turn plan pre r s h k tick =
    let a = legal_due plan pre r h in
    let b = legal_due plan (pre ++ r ∷ []) s k in
    in_turn_of s.tick (length pre / plan.cores) (nat_lt s.core.0 plan.cores) (had_turn s.core.0 s.tick pre) (sym tick ∙ a.tick) (lt-ltb s.core.0 plan.cores b.core)
    (or_left (had_turn s.core.0 s.tick pre) _ (sym (any_push (λ w. (w.tick == s.tick) && (w.core.0 == s.core.0)) pre r) ∙ b.once))

-- and the first after the second
first_turn : (plan : PlanModel) (pre : List Row) (r s : Row) → IsLegal plan pre r → IsLegal plan (pre ++ r ∷ []) s → r.tick ≡ s.tick → AreApart r s → is_in_turn plan (pre ++ s ∷ []) r ≡ true
first_turn plan pre r s h k tick apart =
    let a = legal_due plan pre r h in
    let b = legal_due plan (pre ++ r ∷ []) s k in
    let size : length (pre ++ r ∷ []) ≡ length (pre ++ s ∷ []) = length-append pre (r ∷ []) ∙ sym (length-append pre (s ∷ [])) in
    in_turn_of r.tick (length (pre ++ s ∷ []) / plan.cores) (nat_lt r.core.0 plan.cores) (had_turn r.core.0 r.tick (pre ++ s ∷ [])) (tick ∙ (b.tick ∙ ap (λ n. n / plan.cores) size)) (lt-ltb r.core.0 plan.cores a.core)
    (any_push (λ w. (w.tick == r.tick) && (w.core.0 == r.core.0)) pre s
    ∙ or_neither (had_turn r.core.0 r.tick pre) _ a.once (and_right (s.tick == r.tick) _ (other_core r s apart r.core.0 (eq-eqb r.core.0 r.core.0 refl))))

-- in a start of a legal run each job keeps to its core
own_rows : (plan : PlanModel) (rows : List Row) → EachAfter (IsLegal plan) [] rows → AreOwn plan rows
own_rows plan rows each = along (AreOwn plan) (IsLegal plan) (λ pre x own h. all_push (λ w. is_of_core plan w ≡ true) pre x own h.own) [] rows tt each

-- two turns of one tick, next to each other, of different cores and not on one resource, may change
-- places
pub commuted : (plan : PlanModel) (pre post : List Row) (r s : Row) → IsRunStart plan (pre ++ r ∷ s ∷ post) → r.tick ≡ s.tick → AreApart r s → IsRunStart plan (pre ++ s ∷ r ∷ post)
commuted plan pre post r s h tick apart =
    let front : EachAfter (IsLegal plan) [] pre = each_before (IsLegal plan) [] pre (r ∷ s ∷ post) h.each in
    let rest : EachAfter (IsLegal plan) pre (r ∷ s ∷ post) = each_rest (IsLegal plan) [] pre (r ∷ s ∷ post) h.each in
    let own : AreOwn plan pre = own_rows plan pre front in
    let first : IsLegal plan pre r = rest.0 in
    let second : IsLegal plan (pre ++ r ∷ []) s = rest.1.0 in
    record {
      size = omega (arith, h.size, length-append pre (r ∷ s ∷ post), length-append pre (s ∷ r ∷ post));
      each = each_append (IsLegal plan) [] pre (s ∷ r ∷ post) front (
        legal_alike plan s (pre ++ r ∷ []) pre (second_alike plan pre r s own first.own apart) (second_turn plan pre r s first second tick) second,
        (
          legal_alike plan r pre (pre ++ s ∷ []) (first_alike plan pre r s own second.own apart) (first_turn plan pre r s first second tick apart) first,
          each_alike plan ((pre ++ r ∷ []) ++ s ∷ []) ((pre ++ s ∷ []) ++ r ∷ []) post (swapped_alike plan pre r s own first.own second.own apart) rest.1.1,
        ),
      );
    }
