-- A message in blocks, as FIPS 180-4 parses it after its padding (5.1.1 and 5.2.1).
use Rattle.std.specs.Prelude.{ℕ, ◌*◌, ◌/◌, List, length, take, drop}
use Rattle.sha2.specs.Sha256.{padded_message}

-- how many blocks a message has
abbrev pub block_count : List ℕ → ℕ
block_count m = length (padded_message m) / 64

-- block i of a message
abbrev pub block_of : List ℕ → ℕ → List ℕ
block_of m i = take 64 (drop (i * 64) (padded_message m))
