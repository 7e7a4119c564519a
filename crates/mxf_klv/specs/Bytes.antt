-- Lists of bytes, for clauses that range over all lists of numbers.
use Rattle.std.specs.Prelude.{ℕ, ◌<◌, List, slice_index}

-- Each number of the list is that of a byte.
abbrev pub AreBytes : List ℕ → Type 0
AreBytes xs = (i : ℕ) → slice_index xs i < 256
