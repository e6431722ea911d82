-- The conductor's steps keep the rule.
use Rattle.std.proofs.Common.{◌≡◌, ◌≢◌, ◌+◌, ◌%◌, ◌^◌, ◌∙◌}
use Rattle.msrp_plan.proofs.Common.{⊎_elim, ℕ, List, [], set, Some, refl, sym, ap, subst, arith, slice_index, some, none, get_elem?, length-set, get_or-set_same, get_or-set_other, same_Some}
use Rattle.msrp_board.proofs.Common.{Aborted, Allows, BoardSize, Conductor, Gathered, HasConductor, HasPage, IsHeld, IsServedNewest, Me, Opened, Option, OwnsBy, Ruled, SharedConductor, State, States, TellsChange, Unopened, View, at_set, keeps, set_here, step, stepped, view_with_conductor}
use Rattle.msrp_board.proofs.Sharing.{same_shared}
use Rattle.msrp_board.proofs.BarrierSteps.{few_arrivals}
use Rattle.msrp_board.proofs.Queue.{in_range}

conductor_shared : (views : List View) (id : ℕ) (v : View) (o w : Conductor) → get_elem? views id ≡ some v → v.conductor ≡ Some o → SharedConductor views o → SharedConductor (set views id (view_with_conductor w v)) w
conductor_shared views id v o w at_id mine sh = record {
  true_of = λ i k x p. ⊎_elim (λ (t : (i ≡ id) × (view_with_conductor w v ≡ p.0)). (p.2.0, same_Some w x (ap (λ (y : View). y.conductor) t.1 ∙ p.2.1))) (λ (t : (i ≢ id) × (get_elem? views i ≡ some p.0)). absurd (t.0 (whose i k x p t.1))) (at_set views id i (view_with_conductor w v) p.0 p.1);
  with_no_other = λ i j k x y p q. at i k x p ∙ sym (at j k y q);
  with_one = λ k x t. (id, (view_with_conductor w v, set_here views id (view_with_conductor w v) (in_range views id v at_id), (t.0, ap Some t.1)));
}
  where
    whose : (i k : ℕ) (x : Conductor) → (p : OwnsBy HasConductor (set views id (view_with_conductor w v)) i k x) → get_elem? views i ≡ some p.0 → i ≡ id
    whose i k x p e = sh.with_no_other i id k x o (p.0, e, p.2) (v, at_id, (p.2.0, mine))

    at : (i k : ℕ) (x : Conductor) → OwnsBy HasConductor (set views id (view_with_conductor w v)) i k x → i ≡ id
    at i k x p = ⊎_elim (λ (t : (i ≡ id) × (view_with_conductor w v ≡ p.0)). t.0) (λ (t : (i ≢ id) × (get_elem? views i ≡ some p.0)). whose i k x p t.1) (at_set views id i (view_with_conductor w v) p.0 p.1)

conducts : (z : BoardSize) (s : State (Unit {0}) View) (id m : ℕ) (v : View) (o w : Conductor) (r : Ruled z s) → get_elem? s.views id ≡ some v → v.conductor ≡ Some o → Gathered m r.pages w → Ruled z (stepped s z.resources m id [] (view_with_conductor w v) keeps)
conducts z s id m v o w r at_id mine gat =
    let is : r.conductor ≡ o = (r.shared_conductor.true_of id 0 o (v, at_id, (refl, mine))).1 in
    record {
      pages = r.pages;
      conductor = w;
      shared = same_shared HasPage s.views (λ c b. get_elem? r.pages c ≡ some b) id v (view_with_conductor w v) at_id (λ k b h. h) (λ k b h. h) r.shared;
      shared_conductor = conductor_shared s.views id v o w at_id mine (subst (SharedConductor s.views) is r.shared_conductor);
      tied = record {
        cores = r.tied.cores;
        served = λ h in_h. subst (λ k. IsServedNewest h k r.pages) (sym (get_or-set_other s.words z.resources h m 0 (λ q. omega (arith, q, in_h)))) (r.tied.served h in_h);
        kept = r.tied.kept;
        gathered = subst (λ k. Gathered k r.pages w) (sym (get_or-set_same s.words z.resources m 0 (let l = r.words in omega (arith, l)))) gat;
      };
      limits = r.limits;
      words = length-set s.words z.resources m ∙ r.words;
    }

not_aborted : Unopened ≡ Aborted → ⊥
not_aborted e = cc

not_opened : Unopened ≡ Opened → ⊥
not_opened e = cc

pub open_allowed : (z : BoardSize) (slots id : ℕ) (me : Me (Unit {0}) View) → me.0.conductor ≡ Some Unopened → Allows (Ruled z) slots id me z.resources (λ n. (n + 1) % 2 ^ 64) (TellsChange (view_with_conductor Opened) (step slots z.resources 1 0 none) me)
open_allowed z slots id me mine s r _ at_id fits =
    let n = slice_index s.words z.resources in
    let is : r.conductor ≡ Unopened = (r.shared_conductor.true_of id 0 Unopened (me.0, at_id, (refl, mine))).1 in
    let g : Gathered n r.pages Unopened = subst (Gathered n r.pages) is r.tied.gathered in
    let few = few_arrivals z s r in let w = g.counts in (
      view_with_conductor Opened me.0,
      keeps,
      tt,
      conducts z s id ((n + 1) % 2 ^ 64) me.0 Unopened Opened r at_id mine
          (record { counts = omega (arith, few, w); told = λ c b e h. absurd (not_aborted (g.told c b e h)); met = λ c b e h. absurd (not_opened (g.met c b e h).0) }),
      refl,
    )

pub abort_allowed : (z : BoardSize) (slots id : ℕ) (me : Me (Unit {0}) View) → me.0.conductor ≡ Some Unopened → Allows (Ruled z) slots id me z.resources (λ n. (n + 4294967296) % 2 ^ 64) (TellsChange (view_with_conductor Aborted) (step slots z.resources 4294967296 0 none) me)
abort_allowed z slots id me mine s r _ at_id fits =
    let n = slice_index s.words z.resources in
    let is : r.conductor ≡ Unopened = (r.shared_conductor.true_of id 0 Unopened (me.0, at_id, (refl, mine))).1 in
    let g : Gathered n r.pages Unopened = subst (Gathered n r.pages) is r.tied.gathered in
    let few = few_arrivals z s r in let w = g.counts in (
      view_with_conductor Aborted me.0,
      keeps,
      tt,
      conducts z s id ((n + 4294967296) % 2 ^ 64) me.0 Unopened Aborted r at_id mine
          (record { counts = omega (arith, few, w); told = λ c b e h. refl; met = λ c b e h. absurd (not_opened (g.met c b e h).0) }),
      refl,
    )

-- what a seat keeps after the opening or the abort
pub conducted_held : (z : BoardSize) (held : States) (o : Option Conductor) (me now : Me (Unit {0}) View) (w : Conductor) → IsHeld z held o me → now ≡ (view_with_conductor w me.0, me.1) → IsHeld z held (Some w) now
conducted_held z held o me now w s is = subst (IsHeld z held (Some w)) (sym is) (record { no_slot = s.no_slot; limits = s.limits; states = s.states; conducts = refl; cores = s.cores; kept = s.kept })
