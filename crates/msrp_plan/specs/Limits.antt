-- The limits of every plan, and those of a source of bytes.
use Rattle.std.specs.Prelude.{ℕ, ◌*◌}

-- the most cores of a plan
abbrev pub most_cores : ℕ
most_cores = 8

-- the most ticks of a plan
abbrev pub most_ticks : ℕ
most_ticks = 20000

-- the most tasks of a plan
abbrev pub most_tasks : ℕ
most_tasks = 64

-- the most resources of a plan
abbrev pub most_resources : ℕ
most_resources = 32

-- the most units of a task
abbrev pub most_units : ℕ
most_units = 4096

-- the most resources that a task holds at once
abbrev pub most_held : ℕ
most_held = 8

-- the most jobs of a plan
abbrev pub most_jobs : ℕ
most_jobs = 8192

-- the most releases of a listed task, those after the plan's end included
abbrev pub most_releases : ℕ
most_releases = 8192

-- the greatest period, relative deadline, offset and tick of a listed release, in ticks
abbrev pub longest_time : ℕ
longest_time = 1000000

-- the most rows of a run: one for each core in each tick
abbrev pub most_rows : ℕ
most_rows = most_cores * most_ticks

-- the most bytes that a source gives
abbrev pub most_bytes : ℕ
most_bytes = 16777216

-- how often a source asks its reader at most
abbrev pub most_calls : ℕ
most_calls = 33554432
