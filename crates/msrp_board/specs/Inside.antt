-- How the promises are proved; no caller needs these definitions. Here entries are newest first, so
-- that one more entry is one step of a recursion. A definition named like one of `Books`, `History`
-- or `Boards` with the suffix `Newest` says the same of the reversed list.
pub mod Newest
pub mod Rule
pub mod Held
