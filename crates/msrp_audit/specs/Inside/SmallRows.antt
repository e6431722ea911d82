-- A row in eight bytes, and the row that it encodes.
use Rattle.std.specs.Prelude.{◌∷◌, ◌++◌, ◌-◌}
use Rattle.msrp_plan.specs.Common.{ℕ, List, [], map, nat_le, slice_index_or, ahead_of_kind, job_of_kind, res_of_kind}
use Rattle.msrp_plan.specs.Shape.{carrier_of_kind, shape_of_kind}
use Rattle.msrp_plan.specs.declared.ids.JobId.{JobId}
use Rattle.msrp_plan.specs.declared.ids.ResId.{ResId}
use Rattle.msrp_plan.specs.declared.rows.Kind.{Kind}
use Rattle.msrp_plan.specs.declared.rows.Kind.TheVariants.{Idle, Run, Lock, Unlock, Take, Queue, Grant, Spin, Release}
use Rattle.msrp_plan.specs.declared.rows.Row.{Row}
use Rattle.msrp_audit.specs.declared.small_row.SmallRow.{SmallRow}

-- the kinds by their codes
abbrev pub kinds : List Kind
kinds = Idle ∷ Run ∷ Lock ∷ Unlock ∷ Take ∷ Queue ∷ Spin ∷ Grant ∷ Release ∷ []

-- the kind of a code: the codes after these are those of queue rows that carry the queue length
abbrev pub kind_coded : ℕ → Kind
kind_coded code = slice_index_or kinds code Queue

-- the job in a row's bytes
abbrev pub job_in : SmallRow → JobId
job_in s = record { task = record { 0 = s.task }; k = s.k }

-- the resource in a row's bytes
abbrev pub res_in : SmallRow → ResId
res_in s = record { 0 = s.res }

-- the row in these bytes: only what a row of its kind has is read
abbrev pub row_of : SmallRow → Row
row_of s = record {
  tick = s.tick;
  core = record { 0 = s.core };
  kind = kind_coded s.code;
  job = job_of_kind (kind_coded s.code) (job_in s);
  res = res_of_kind (kind_coded s.code) (res_in s);
  ahead = ahead_of_kind (kind_coded s.code) (nat_le 9 s.code) (s.code - 9);
  shape = shape_of_kind (kind_coded s.code) (job_in s) (res_in s);
  carrier = carrier_of_kind (kind_coded s.code) (nat_le 9 s.code) (s.code - 9);
}

-- the small rows, then the others
abbrev pub rows_of : List SmallRow → List Row → List Row
rows_of small others = map row_of small ++ others
