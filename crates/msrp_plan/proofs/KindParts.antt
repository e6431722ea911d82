-- The parts of a row, by its kind.
use Rattle.msrp_plan.specs.Common.{ℕ, true, Option, Some, None, is_some, ahead_of_kind, has_shape, job_of_kind, may_carry, res_of_kind}
use Rattle.msrp_plan.specs.declared.ids.JobId.{JobId}
use Rattle.msrp_plan.specs.declared.ids.ResId.{ResId}
use Rattle.msrp_plan.specs.declared.rows.Kind.{Kind}
use Rattle.msrp_plan.specs.declared.rows.Kind.TheVariants.{Idle, Run, Queue}
use Rattle.msrp_plan.specs.declared.rows.Row.{Row}
use Rattle.std.proofs.Common.{◌≡◌, refl}
use Rattle.std.specs.Option.{unwrap_or}
use Rattle.msrp_plan.proofs.Legality.SameRow.{parts}

-- of a value that stands in place of one that a row lacks, what a row of this kind has is told, and
-- what it lacks is not
pub job_told : (kind : Kind) (job : Option JobId) (res : Option ResId) (d : JobId) → has_shape kind job res ≡ true → job_of_kind kind (unwrap_or job d) ≡ job
job_told Idle None res d h = refl
job_told Idle (Some x) res d h = absurd (cc)
job_told _ None res d h = absurd (cc)
job_told _ (Some x) res d h = refl

pub res_told : (kind : Kind) (job : Option JobId) (res : Option ResId) (d : ResId) → has_shape kind job res ≡ true → res_of_kind kind (unwrap_or res d) ≡ res
res_told Idle None None d h = refl
res_told Run (Some x) None d h = refl
res_told Idle None (Some g) d h = absurd (cc)
res_told Idle (Some x) res d h = absurd (cc)
res_told Run (Some x) (Some g) d h = absurd (cc)
res_told _ None res d h = absurd (cc)
res_told _ (Some x) None d h = absurd (cc)
res_told _ (Some x) (Some g) d h = refl

pub ahead_told : (kind : Kind) (ahead : Option ℕ) (d : ℕ) → may_carry kind ahead ≡ true → ahead_of_kind kind (is_some ahead) (unwrap_or ahead d) ≡ ahead
ahead_told Queue None d h = refl
ahead_told Queue (Some n) d h = refl
ahead_told _ None d h = refl
ahead_told _ (Some n) d h = absurd (cc)

pub same_parts : (r s : Row) → r.tick ≡ s.tick → r.core ≡ s.core → r.kind ≡ s.kind → r.job ≡ s.job → r.res ≡ s.res → r.ahead ≡ s.ahead → parts r ≡ parts s
same_parts r s t c k j g a = cc
