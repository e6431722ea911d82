-- What a row of each kind has.
use Rattle.std.specs.Prelude.{◌≡◌, ℕ, Bool, true, false, Option, Some, None, is_some, is_none, ◌&&◌, refl}
use Rattle.msrp_plan.specs.declared.ids.JobId.{JobId}
use Rattle.msrp_plan.specs.declared.ids.ResId.{ResId}
use Rattle.msrp_plan.specs.declared.rows.Kind.{Kind}
use Rattle.msrp_plan.specs.declared.rows.Kind.TheVariants.{Idle, Run, Lock, Unlock, Take, Queue, Grant, Spin, Release}

-- idle has neither job nor resource, run has a job alone, every other kind has both
abbrev pub has_shape : Kind → Option JobId → Option ResId → Bool
has_shape Idle job res = is_none job && is_none res
has_shape Run job res = is_some job && is_none res
has_shape _ job res = is_some job && is_some res

-- a row in which a job joins a queue
abbrev pub is_queue : Kind → Bool
is_queue Queue = true
is_queue _ = false

-- only a queue row may carry the number of jobs ahead
abbrev pub may_carry : Kind → Option ℕ → Bool
may_carry kind None = true
may_carry kind (Some n) = is_queue kind

-- ---- the parts of a row by its kind, with values for those that it lacks
-- an idle row has no job
abbrev pub job_of_kind : Kind → JobId → Option JobId
job_of_kind Idle job = None
job_of_kind _ job = Some job

-- idle rows and rows of work have no resource
abbrev pub res_of_kind : Kind → ResId → Option ResId
res_of_kind Idle res = None
res_of_kind Run res = None
res_of_kind _ res = Some res

-- only a queue row has an ahead, if it carries it
abbrev pub ahead_of_kind : Kind → Bool → ℕ → Option ℕ
ahead_of_kind Queue true ahead = Some ahead
ahead_of_kind _ _ ahead = None

-- so each row has the shape of its kind
pub shape_of_kind : (kind : Kind) (job : JobId) (res : ResId) → has_shape kind (job_of_kind kind job) (res_of_kind kind res) ≡ true
shape_of_kind Idle job res = refl
shape_of_kind Run job res = refl
shape_of_kind Lock job res = refl
shape_of_kind Unlock job res = refl
shape_of_kind Take job res = refl
shape_of_kind Queue job res = refl
shape_of_kind Grant job res = refl
shape_of_kind Spin job res = refl
shape_of_kind Release job res = refl

-- so each row carries an ahead only where its kind may
pub carrier_of_kind : (kind : Kind) (carries : Bool) (ahead : ℕ) → may_carry kind (ahead_of_kind kind carries ahead) ≡ true
carrier_of_kind Idle carries ahead = refl
carrier_of_kind Run carries ahead = refl
carrier_of_kind Lock carries ahead = refl
carrier_of_kind Unlock carries ahead = refl
carrier_of_kind Take carries ahead = refl
carrier_of_kind Queue true ahead = refl
carrier_of_kind Queue false ahead = refl
carrier_of_kind Grant carries ahead = refl
carrier_of_kind Spin carries ahead = refl
carrier_of_kind Release carries ahead = refl
