-- What four lanes are at, of messages that are hashed in their order.
use Rattle.std.specs.Prelude.{◌≡◌, ◌≢◌, ℕ, ◌-◌, ◌≤◌, ◌<◌, List, [], length, slice_index, slice_index_or}
use Rattle.sha2.specs.Sha256.{hash_after, initial_hash_256, padded_message, sha256}
use Rattle.mxf_digests.specs.Blocks.{block_count}
use Rattle.mxf_digests.specs.Lanes.{lane}
use Rattle.mxf_digests.specs.declared.lanes.Lanes.{Lanes}

-- message i of several; one that isn't among them is empty
abbrev pub message : List (List ℕ) → ℕ → List ℕ
message ms i = slice_index_or ms i []

-- h is the hash value of a message after its first n blocks (6.2.2)
abbrev pub HasTaken : List ℕ → ℕ → List ℕ → Type 0
HasTaken m n h = (n ≤ block_count m) × (h ≡ hash_after initial_hash_256 (padded_message m) n)

-- lane j, unless it is idle, has taken as many blocks of its message as it says
abbrev pub IsUnderWay : List (List ℕ) → Lanes → List (List ℕ) → ℕ → Type 0
IsUnderWay ms lanes state j = slice_index lanes.value j < length ms
    → HasTaken (message ms (slice_index lanes.value j)) (slice_index lanes.done j) (lane j state)

-- how many blocks lane j has left of its message
abbrev pub left : List (List ℕ) → Lanes → ℕ → ℕ
left ms lanes j = block_count (message ms (slice_index lanes.value j)) - slice_index lanes.done j

-- the lanes are at the messages before `next`: each of these that no lane has any more has its digest
pub record IsHashing (ms : List (List ℕ)) (lanes : Lanes) (state : List (List ℕ)) (next : ℕ)
    (ds : List (List ℕ)) : Type 0 where
  pub long : length ds ≡ length ms
  pub low : next ≤ length ms
  pub under_way : (j : ℕ) → j < 4 → IsUnderWay ms lanes state j
  pub hashed : (i : ℕ) → i < next → ((j : ℕ) → j < 4 → slice_index lanes.value j ≢ i)
      → slice_index_or ds i [] ≡ sha256 (message ms i)
