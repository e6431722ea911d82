-- The rows of outermost sections, unit by unit.
use Rattle.std.proofs.Common.{◌≡◌, ◌≢◌, ◌+◌, ◌-◌, ◌*◌, ◌<◌, ◌≤◌, ◌==◌, ◌∙◌}
use Rattle.msrp_plan.proofs.Common.{ℕ, zero, suc, Bool, true, false, cond, [], map, max, slice_get, Some, refl, ap, sym, subst, arith, length, eq-eqb, range_with_len, same_Some, PlanModel, TaskModel, greatest, wait_bound, IsLocking, not_equal}
use Rattle.msrp_plan.specs.declared.units.Op.{Op}
use Rattle.msrp_plan.specs.Bounds.{in_section, section_start}
use Rattle.msrp_plan.specs.declared.units.Op.TheVariants.{Run}
use Rattle.msrp_levels.specs.Outermost.{held_with_unit}
use Rattle.msrp_levels.proofs.HeldUnits.{IsHeldAt, held_first, held_step, inside, outside}
use Rattle.msrp_levels.proofs.Ranges.{range_grows, range_more_zero}
use Rattle.msrp_plan.proofs.Blocking.Bound.{spent_none}
use Rattle.msrp_plan.proofs.Blocking.SectionRows.{spent, rows_at, spent_more}
use Rattle.msrp_plan.proofs.Blocking.Sections.{start_within, start_outside, start_inside}

-- ---- the rows of a section so far
module _ (plan : PlanModel) (task : TaskModel) where
  -- how many rows the first n units add to the section that unit a begins
  abbrev rows_below : ℕ → ℕ → ℕ
  rows_below n a = spent plan task a n

  rows_own : (n a : ℕ) → section_start plan task.units n ≡ a → rows_below (n + 1) a ≡ rows_below n a + rows_at plan task n
  rows_own n a e = spent_more plan task a n ∙ ap (λ b. rows_below n a + cond b (rows_at plan task n) 0) (eq-eqb (section_start plan task.units n) a e)

  rows_other : (n a : ℕ) → section_start plan task.units n ≢ a → rows_below (n + 1) a ≡ rows_below n a
  rows_other n a ne = let e = spent_more plan task a n ∙ ap (λ b. rows_below n a + cond b (rows_at plan task n) 0) (not_equal (section_start plan task.units n) a ne) in omega (arith, e)

  -- a unit that was not reached began none yet
  rows_none : (n : ℕ) → rows_below n n ≡ 0
  rows_none n = spent_none plan task n n (omega arith)

  -- what a pass over the first n units has counted
  pub record IsCounted (n held rows longest : ℕ) : Type 0 where
    pub holds : IsHeldAt task.units n held
    pub current : (m : ℕ) → n ≡ m + 1 → rows ≡ rows_below n (section_start plan task.units m)
    pub most : longest ≡ greatest (map (rows_below n) (range_with_len 0 n))
    pub bound : rows ≤ n * 40000

  pub counted_first : IsCounted 0 0 0 0
  counted_first = record { holds = held_first task.units; current = λ m e. absurd (omega (arith, e)); most = refl; bound = omega arith }

  -- the section of the next unit, with its rows
  section_rows : (n held rows longest w : ℕ) (u : Op) → IsLocking plan task.units → slice_get task.units n ≡ Some u → w ≡ wait_bound plan task.core (Some u) → IsCounted n held rows longest
      → cond (held == 0) 0 (rows + 1) + w ≡ rows_below (n + 1) (section_start plan task.units n)
  section_rows n held rows longest w u locking at wait h = by_held held refl
    where
      unit_rows : rows_at plan task n ≡ cond (in_section plan task.units n) 1 0 + w
      unit_rows = ap (λ o. cond (in_section plan task.units n) 1 0 + wait_bound plan task.core o) at ∙ ap (λ k. cond (in_section plan task.units n) 1 0 + k) (sym wait)

      by_held : (k : ℕ) → k ≡ held → cond (k == 0) 0 (rows + 1) + w ≡ rows_below (n + 1) (section_start plan task.units n)
      by_held zero e =
          let off = outside plan task.units n (subst (IsHeldAt task.units n) (sym e) h.holds) in
          let here = start_outside plan task.units n off in
          let unit : rows_at plan task n ≡ 0 + w = unit_rows ∙ ap (λ b. cond b 1 0 + w) off in
          let own = rows_own n (section_start plan task.units n) refl in
          let none = ap (rows_below n) here ∙ rows_none n in
          omega (arith, unit, own, none)
      by_held (suc k) e =
          let on = inside plan task.units n held locking (omega (arith, e)) h.holds in
          let unit : rows_at plan task n ≡ 1 + w = unit_rows ∙ ap (λ b. cond b 1 0 + w) on in
          let own = rows_own n (section_start plan task.units n) refl in
          let some : (suc k == 0) ≡ false = not_equal (suc k) 0 (λ z. absurd (omega (arith, z))) in
          ap (λ b. cond b 0 (rows + 1) + w) some ∙ by_place n refl on unit own
        where
          by_place : (p : ℕ) → p ≡ n → in_section plan task.units n ≡ true → rows_at plan task n ≡ 1 + w → rows_below (n + 1) (section_start plan task.units n) ≡ rows_below n (section_start plan task.units n) + rows_at plan task n
              → (rows + 1) + w ≡ rows_below (n + 1) (section_start plan task.units n)
          by_place zero z on unit own =
              let first : IsHeldAt task.units 0 held = subst (λ q. IsHeldAt task.units q held) (sym z) h.holds in
              let none = ap length (same_Some [] first.names first.after) in
              absurd (omega (arith, none, first.size, e))
          by_place (suc m) s on unit own =
              let before : n ≡ m + 1 = omega (arith, s) in
              let next : section_start plan task.units n ≡ section_start plan task.units m = ap (section_start plan task.units) before ∙ start_inside plan task.units m (subst (λ k. in_section plan task.units k ≡ true) before on) in
              let same = ap (rows_below n) next in
              let rest = h.current m before in
              omega (arith, unit, own, same, rest)

  -- one unit more
  pub counted_step : (n held rows longest w r : ℕ) (u : Op) → IsLocking plan task.units → slice_get task.units n ≡ Some u → w ≡ wait_bound plan task.core (Some u) → w ≤ 32777 → r ≡ cond (held == 0) 0 (rows + 1) + w
      → IsCounted n held rows longest → IsCounted (n + 1) (held_with_unit held u) r (max longest r)
  counted_step n held rows longest w r u locking at wait small is h =
      let now : r ≡ rows_below (n + 1) (section_start plan task.units n) = is ∙ section_rows n held rows longest w u locking at wait h in
      let within = start_within plan task.units n in
      let own = rows_own n (section_start plan task.units n) refl in
      let grown = range_grows (rows_below n) (rows_below (n + 1)) (n + 1) (section_start plan task.units n) (omega (arith, within)) (omega (arith, own)) (λ k ne. rows_other n k (λ e. ne (sym e))) in
      let old = range_more_zero (rows_below n) n (rows_none n) in
      record {
        holds = (held_step plan task.units n held u locking at h.holds).1;
        current = λ m e. now ∙ ap (λ k. rows_below (n + 1) (section_start plan task.units k)) (omega (arith, e));
        most = ap (max longest) now ∙ (ap (λ k. max k (rows_below (n + 1) (section_start plan task.units n))) (h.most ∙ sym old) ∙ sym grown);
        bound = let c = few (held == 0) in omega (arith, is, small, h.bound, c);
      }
    where
      few : (b : Bool) → cond b 0 (rows + 1) ≤ rows + 1
      few true = omega arith
      few false = omega arith

  -- ---- work in between
  -- what a pass that counts at locks and unlocks alone has counted, the last of which was this one
  pub record IsPassed (n held rows last longest : ℕ) : Type 0 where
    pub all : ℕ
    pub most : ℕ
    pub counted : IsCounted n held all most
    pub closed : held ≡ 0 → most ≡ longest
    pub opened : 0 < held → (last < n) × (all + last + 1 ≡ rows + n) × (most ≡ max longest all)

  pub passed_first : IsPassed 0 0 0 0 0
  passed_first = record { all = 0; most = 0; counted = counted_first; closed = λ e. refl; opened = λ l. absurd (omega (arith, l)) }

  -- one unit of work more
  pub passed_work : (n held rows last longest : ℕ) → IsLocking plan task.units → slice_get task.units n ≡ Some Run → IsPassed n held rows last longest → IsPassed (n + 1) held rows last longest
  passed_work n held rows last longest locking at h =
      let next = cond (held == 0) 0 (h.all + 1) in
      let step = counted_step n held h.all h.most 0 (next + 0) Run locking at refl (omega arith) refl h.counted in
      record {
        all = next + 0;
        most = max h.most (next + 0);
        counted = step;
        closed = λ e. let none : next ≡ 0 = ap (λ b. cond b 0 (h.all + 1)) (eq-eqb held 0 e) in let same = h.closed e in omega (arith, none, same);
        opened = λ l.
            let one : next ≡ h.all + 1 = ap (λ b. cond b 0 (h.all + 1)) (not_equal held 0 (λ z. absurd (omega (arith, z, l)))) in
            let before = h.opened l in
            (omega (arith, before.0), omega (arith, one, before.1), omega (arith, one, before.2));
      }

  -- a lock or an unlock more
  pub passed_step : (n held rows last longest w r : ℕ) (u : Op) → IsLocking plan task.units → slice_get task.units n ≡ Some u → w ≡ wait_bound plan task.core (Some u) → w ≤ 32777 → r ≡ cond (held == 0) 0 (rows + (n - last)) + w
      → IsPassed n held rows last longest → IsPassed (n + 1) (held_with_unit held u) r n (max longest r)
  passed_step n held rows last longest w r u locking at wait small is h =
      let next = cond (held == 0) 0 (h.all + 1) + w in
      let step = counted_step n held h.all h.most w next u locking at wait small refl h.counted in
      let same = by_held held refl in
      record {
        all = next;
        most = max h.most next;
        counted = step;
        closed = λ e. same.1;
        opened = λ l. (omega arith, omega (arith, same.0), omega (arith, same.0, same.1));
      }
    where
      by_held : (k : ℕ) → k ≡ held → (r ≡ cond (held == 0) 0 (h.all + 1) + w) × (max h.most (cond (held == 0) 0 (h.all + 1) + w) ≡ max longest r)
      by_held zero e =
          let none : (held == 0) ≡ true = eq-eqb held 0 (sym e) in
          let old = is ∙ ap (λ b. cond b 0 (rows + (n - last)) + w) none in
          let new : cond (held == 0) 0 (h.all + 1) + w ≡ 0 + w = ap (λ b. cond b 0 (h.all + 1) + w) none in
          let same = h.closed (sym e) in
          (omega (arith, old, new), omega (arith, old, new, same))
      by_held (suc k) e =
          let some : (held == 0) ≡ false = not_equal held 0 (λ z. absurd (omega (arith, z, e))) in
          let old = is ∙ ap (λ b. cond b 0 (rows + (n - last)) + w) some in
          let new : cond (held == 0) 0 (h.all + 1) + w ≡ (h.all + 1) + w = ap (λ b. cond b 0 (h.all + 1) + w) some in
          let before = h.opened (omega (arith, e)) in
          (omega (arith, old, new, before.0, before.1), omega (arith, old, new, before.0, before.1, before.2))
