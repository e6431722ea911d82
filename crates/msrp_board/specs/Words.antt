-- The words of a board, each of 64 bits: two counts of 32 bits.
use Rattle.std.specs.Prelude.{◌+◌, ◌*◌, ◌/◌, ◌%◌}
use Rattle.msrp_plan.specs.Common.{ℕ}

-- what one more in the high half adds to a word
abbrev pub half_word : ℕ
half_word = 4294967296

-- the high half of a word
abbrev pub high : ℕ → ℕ
high word = word / half_word

-- the low half of a word
abbrev pub low : ℕ → ℕ
low word = word % half_word

-- the ticket word with these numbers of requests and releases
abbrev pub ticket_word : ℕ → ℕ → ℕ
ticket_word requests releases = requests * half_word + releases
