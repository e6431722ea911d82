-- Rows that show the same are equal.
use Rattle.msrp_plan.specs.Common.{ℕ, true, Option, has_shape, may_carry}
use Rattle.msrp_plan.specs.declared.ids.JobId.{JobId}
use Rattle.msrp_plan.specs.declared.ids.CoreId.{CoreId}
use Rattle.msrp_plan.specs.declared.ids.ResId.{ResId}
use Rattle.msrp_plan.specs.declared.rows.Kind.{Kind}
use Rattle.msrp_plan.specs.declared.rows.Row.{Row}
use Rattle.std.proofs.Common.{◌≡◌, ap, sym, ◌∙◌, subst}
use mathlib.Core.Bool.{Bool-set}

-- tick, core, kind, job, resource and ahead
abbrev pub Parts : Type 0
Parts = ℕ × CoreId × Kind × Option JobId × Option ResId × Option ℕ

-- the row that has them
abbrev row_of : (p : Parts) → has_shape p.2 p.3 p.4 ≡ true → may_carry p.2 p.5 ≡ true → Row
row_of p h a = record { tick = p.0; core = p.1; kind = p.2; job = p.3; res = p.4; ahead = p.5; shape = h; carrier = a }

-- what a row shows: all of it but the proofs of its shape
abbrev pub parts : Row → Parts
parts r = (r.tick, r.core, r.kind, r.job, r.res, r.ahead)

-- rows with the same parts are one
pub same_row : (r s : Row) → parts r ≡ parts s → r ≡ s
same_row r s h =
    let P : Parts → Type 0 = λ p. (e : has_shape p.2 p.3 p.4 ≡ true) (a : may_carry p.2 p.5 ≡ true) → row_of p e a ≡ s in
    subst P (sym h) (λ e a. ap (λ x. row_of (parts s) x a) (Bool-set _ _ e s.shape) ∙ ap (row_of (parts s) s.shape) (Bool-set _ _ a s.carrier)) r.shape r.carrier
