-- Four messages side by side: a vector has one word of each.
use Rattle.std.specs.Prelude.{ℕ, List, [], map, slice_index, slice_index_or}

-- the words of message j
abbrev pub lane : ℕ → List (List ℕ) → List ℕ
lane j x = map (λ v. slice_index v j) x

-- the block of message j
abbrev pub block : List (List ℕ) → ℕ → List ℕ
block blocks j = slice_index_or blocks j []
