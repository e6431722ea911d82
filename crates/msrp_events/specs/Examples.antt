-- Worked examples: logs short enough to follow by hand. `src/worked.rt` says what each shows.
pub mod Notation
pub mod TwoCores
