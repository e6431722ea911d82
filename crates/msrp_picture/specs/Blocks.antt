-- The blocks of a picture: of rows, that is stretches of ticks in which one job runs on a core, or
-- does the same; of critical sections, of the ceilings of cores, and of the queues of resources.
use Rattle.std.specs.Prelude.{◌∷◌, ◌&&◌, ◌||◌, if◌then◌else◌, ◌==◌, ◌≡◌, ◌+◌, ◌-◌, ◌*◌, ◌++◌, filter_map}
use Rattle.msrp_plan.specs.Common.{ℕ, List, [], PlanModel, Bool, true, false, Option, Some, None, is_some, is_none, cons_option, drop, find, length, map, nat_lt, take, flat_map, range_with_len, option_map, ceiling, fault_in, fifo, is_grant, is_of, is_release, same_res, same_kind, same_choice}
use Rattle.msrp_plan.specs.declared.rows.Kind.TheVariants.{Lock, Take, Unlock}
use Rattle.msrp_picture.specs.Types.{Block, CoreId, JobId, Lane, Look, ResId, Row, TaskId}
use Rattle.msrp_picture.specs.Rows.{is_job_of, ticks_begun}
use Rattle.msrp_picture.specs.declared.shapes.Lane.TheVariants.{Ceiling as CeilingLane, Core, Queue, Task}
use Rattle.msrp_picture.specs.declared.shapes.Look.TheVariants.{Ceiling, Does, First, Holds, Runs}

-- a block of legal rows
abbrev pub lasting : Lane → ℕ → ℕ → Look → Option JobId → Option ResId → Block
lasting lane a b look job res = record { lane = lane; first = a; end = b; look = look; is_legal = true; job = job; res = res }

-- ---- the tick of a row
-- in the lane of a core which job runs, in that of a task what its job does, and on which resource
abbrev pub look_of : Lane → Row → Option (Look × Option ResId)
look_of (Core c) r = if is_of c.0 r && is_some r.job then Some (Runs, None) else None
look_of (Task t) r = if is_job_of t.0 r.job then Some (Does r.kind, r.res) else None
look_of _ r = None

-- the tick of a row, if the lane shows it
abbrev pub tick_of : Lane → Bool → Row → Option Block
tick_of lane is_legal r = option_map (λ shown. record (lasting lane r.tick (r.tick + 1) shown.0 r.job shown.1) { is_legal = is_legal }) (look_of lane r)

-- the rows that a lane shows, each in its tick
abbrev pub shown_rows : Lane → Bool → List Row → List Block
shown_rows lane is_legal rows = filter_map (tick_of lane is_legal) rows

-- ---- stretches
abbrev pub same_look : Look → Look → Bool
same_look Runs Runs = true
same_look (Does kind) (Does other) = same_kind kind other
same_look (First n) (First m) = n == m
same_look (Ceiling n) (Ceiling m) = n == m
same_look _ _ = false

-- the next block continues one: it begins where that ends, and shows the same
abbrev pub goes_on : Block → Block → Bool
goes_on s t = (s.end == t.first) && (same_look s.look t.look && (same_choice s.job t.job && same_res s.res t.res))

-- a block with those after it: it lasts as long as they continue it
unfoldable pub joined : Block → List Block → List Block
joined s [] = s ∷ []
joined s (t ∷ rest) = if goes_on s t then joined (record s { end = t.end }) rest else (s ∷ joined t rest)

-- one block for each longest stretch
abbrev pub merged : List Block → List Block
merged [] = []
merged (s ∷ rest) = joined s rest

-- the blocks of legal rows in a lane, and of the rows from the fault on
abbrev pub row_blocks : Lane → List Row → List Row → List Block
row_blocks lane legal later = merged (shown_rows lane true legal) ++ merged (shown_rows lane false later)

-- a block, taken apart into its ticks
abbrev pub ticks_of : Block → List Block
ticks_of s = map (λ t. record s { first = t; end = t + 1 }) (range_with_len s.first (s.end - s.first))

-- the blocks of a lane, taken apart, are the rows that it shows, in their order: each row is in
-- exactly one block, which shows what the row is
abbrev pub EachRowInOneBlock : Lane → Bool → List Row → Type 0
EachRowInOneBlock lane is_legal rows = flat_map ticks_of (merged (shown_rows lane is_legal rows)) ≡ shown_rows lane is_legal rows

-- ---- critical sections: from the row that gives a job a resource to the one that takes it back
-- the section that begins with a row ends with this one
abbrev pub ends_section : Row → Row → Bool
ends_section r s = same_choice r.job s.job && (same_res r.res s.res && (same_kind s.kind Unlock || is_release s.kind))

-- the tick after that row, and where there is none the end of all rows
abbrev pub section_end : ℕ → Option Row → ℕ
section_end end None = end
section_end end (Some s) = s.tick + 1

-- the section that begins with the first of these rows, if one does
abbrev pub first_section : TaskId → ℕ → List Row → List Block
first_section t end [] = []
first_section t end (r ∷ rest) = if same_kind r.kind Lock || (same_kind r.kind Take || is_grant r.kind) then lasting (Task t) r.tick (section_end end (find (ends_section r) rest)) Holds r.job r.res ∷ [] else []

-- the sections of a task's rows, where all rows end with a tick
abbrev pub sections : TaskId → ℕ → List Row → List Block
sections t end rows = flat_map (λ i. first_section t end (drop i rows)) (range_with_len 0 (length rows))

-- ---- the ceilings of cores
-- the last of these rows with the current ceiling of its core after them, if none of them is
-- refused
abbrev pub ceiling_after : PlanModel → List Row → Row → Option (Row × ℕ)
ceiling_after plan rows r = if is_none (fault_in plan rows) then Some (r, ceiling plan r.core.0 rows) else None

-- each row behind others with that
unfoldable pub ceilings : PlanModel → List Row → List Row → List (Row × ℕ)
ceilings plan pre [] = []
ceilings plan pre (r ∷ rows) = cons_option (ceiling_after plan (pre ++ r ∷ []) r) (ceilings plan (pre ++ r ∷ []) rows)

-- the tick of a row of the core, if its ceiling is above 0
abbrev pub ceiling_tick : CoreId → (Row × ℕ) → Option Block
ceiling_tick c after = if is_of c.0 after.0 && nat_lt 0 after.1 then Some (lasting (CeilingLane c) after.0.tick (after.0.tick + 1) (Ceiling after.1) None None) else None

-- ---- the queue of a global resource after each tick
-- in a tick who is first in the queue, and how many wait behind; nothing where the queue is empty
abbrev pub first_of : ResId → ℕ → List JobId → List Block
first_of g t [] = []
first_of g t (j ∷ waiting) = lasting (Queue g) t (t + 1) (First (length waiting)) (Some j) (Some g) ∷ []

-- after each tick
abbrev pub queue_ticks : PlanModel → List Row → ResId → List Block
queue_ticks plan rows g = flat_map (λ t. first_of g t (fifo g.0 (take ((t + 1) * plan.cores) rows))) (range_with_len 0 (ticks_begun plan rows))
