-- The queue of a global resource, and its answers (Gai, Lipari and Di Natale 2001, the MSRP rules:
-- requests are served in their order).
use Rattle.std.specs.Prelude.{ℕ, List, [], ◌∷◌, Bool, true, false, ◌==◌, ◌&&◌, not, Option, Some, None, if◌then◌else◌, filter_map, count_by, drop, length}
use Rattle.std.specs.List.{list_any}
use Rattle.msrp_plan.specs.Jobs.{is_job}
use Rattle.msrp_plan.specs.declared.ids.JobId.{JobId}
use Rattle.msrp_plan.specs.declared.ids.ResId.{ResId}
use Rattle.msrp_plan.specs.declared.rows.Kind.{Kind}
use Rattle.msrp_plan.specs.declared.rows.Kind.TheVariants.{Take, Queue, Spin, Grant, Release}
use Rattle.msrp_plan.specs.declared.rows.Row.{Row}

-- the resource is this one
abbrev pub is_on : ℕ → Option ResId → Bool
is_on g None = false
is_on g (Some r) = r.0 == g

-- a row that requests a resource: it is taken at once, or the job joins the queue
abbrev pub is_request : Kind → Bool
is_request Take = true
is_request Queue = true
is_request _ = false

-- a row that releases a global resource
abbrev pub is_release : Kind → Bool
is_release Release = true
is_release _ = false

-- the job of a row that requests the resource
abbrev pub requester : ℕ → Row → Option JobId
requester g r = if is_on g r.res && is_request r.kind then r.job else None

-- the row releases this resource
abbrev pub is_release_of : ℕ → Row → Bool
is_release_of g r = is_on g r.res && is_release r.kind

-- the jobs that requested the resource, in order, without as many at the front as released it
abbrev pub fifo : ℕ → List Row → List JobId
fifo g pre = drop (count_by (is_release_of g) pre) (filter_map (requester g) pre)

-- nobody is in the queue
abbrev pub is_free : List JobId → Bool
is_free [] = true
is_free (i ∷ is) = false

-- the job is the first in the queue
abbrev pub is_first : List JobId → Option JobId → Bool
is_first [] j = false
is_first (i ∷ is) j = is_job j i

-- the job is in the queue, and not first
abbrev pub is_behind : List JobId → Option JobId → Bool
is_behind queue j = list_any (is_job j) queue && not (is_first queue j)

-- take if the queue is empty, queue if it isn't, grant to the first, spin to a later one
abbrev pub replies : List JobId → Option JobId → Kind → Bool
replies queue j Take = is_free queue
replies queue j Queue = not (is_free queue)
replies queue j Grant = is_first queue j
replies queue j Spin = is_behind queue j
replies queue j _ = true

-- an ahead, if there is one, is the number of jobs in the queue
abbrev pub counts : List JobId → Option ℕ → Bool
counts queue None = true
counts queue (Some n) = n == length queue

-- the row's reply is that of the queue, and so is the ahead that it carries
abbrev pub is_reply_of : List JobId → Row → Bool
is_reply_of queue r = replies queue r.job r.kind && counts queue r.ahead
