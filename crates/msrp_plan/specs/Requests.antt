-- The queue of a resource, as it is kept row by row.
use Rattle.std.specs.Prelude.{◌≡◌, ℕ, List, count_by, filter_map, min, ◌-◌, ◌^◌}
use Rattle.msrp_plan.specs.Queues.{is_release_of, requester}
use Rattle.msrp_plan.specs.declared.requests.Requests.{Requests}
use Rattle.msrp_plan.specs.declared.rows.Row.{Row}

-- the resource's requests in these rows, and the number of its releases, at most 2^64 - 1
pub record HasTaken (kept : Requests) (g : ℕ) (rows : List Row) : Type 0 where
  pub resource : kept.res.0 ≡ g
  pub jobs : kept.jobs.items ≡ filter_map (requester g) rows
  pub releases : kept.releases ≡ min (count_by (is_release_of g) rows) (2 ^ 64 - 1)
