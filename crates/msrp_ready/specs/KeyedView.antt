-- What a clause sees of a job stored by its key: the key, which includes the job. It is stored as
-- one number: the deadline is the greatest part, then 16 bits for the release, 8 for the task and
-- 16 for the job number. So two keys compare as their numbers do.
use Rattle.std.specs.Prelude.{◌≡◌, ◌+◌, ◌*◌, ◌^◌, ◌/◌, ◌%◌}
use Rattle.msrp_plan.specs.Common.{ℕ}
use Rattle.msrp_plan.specs.declared.ids.JobKey.{JobKey}
use Rattle.std.proofs.Common.{ap, arith}
use Rattle.msrp_ready.specs.declared.keyed.KeyedJob.TheInside.{Inside}

-- the key, part by part
abbrev pub keyed_view : Inside → JobKey
keyed_view job = record { deadline = job.number / 2 ^ 40; release = job.number % 2 ^ 40 / 2 ^ 24; task = job.number % 2 ^ 24 / 2 ^ 16; k = job.number % 2 ^ 16 }

-- the number, computed from the key
abbrev pub keyed_inside : JobKey → Inside
keyed_inside key = record { number = key.deadline * 2 ^ 40 + key.release * 2 ^ 24 + key.task * 2 ^ 16 + key.k }

-- the key of a job has all of the number
pub inside_again : (job : Inside) → keyed_inside (keyed_view job) ≡ job
inside_again job = ap kept (omega arith)
  where
    kept : ℕ → Inside
    kept n = record { number = n }
