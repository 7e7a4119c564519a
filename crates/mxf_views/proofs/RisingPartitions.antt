-- The partitions of a file rise.
use Rattle.mxf_views.proofs.Common.{ℕ, ◌+◌, ◌≤◌, List, [], ◌∷◌, None, Some, cons_option, option_map, arith, size_of}
use Rattle.mxf_views.proofs.Common.{PacketParts, In, PartitionParts, partitions_read, read_pack, from_lower}
use Rattle.mxf_klv.proofs.RisingBy.{IsRisingFrom as RisesFrom, at_or_above as above_from}

-- Partitions that rise from an offset on.
abbrev pub IsRisingFrom : ℕ → List PartitionParts → Type 0
IsRisingFrom low ps = RisesFrom (λ p. p.offset) low ps

pub rising-read : (at : ℕ) (l : List PacketParts) → IsRisingFrom at (partitions_read at l)
rising-read at [] = tt
rising-read at (p ∷ ps) =
    let end : ℕ = at + size_of p in
    let later : List PartitionParts = partitions_read end ps in
    let rest : IsRisingFrom end later = rising-read end ps in
    elim (read_pack p) as (λ o. IsRisingFrom at
    (cons_option (option_map (λ pack. record { offset = at; end = end; pack = pack }) o) later)) [
      | None ↦ from_lower (λ p. p.offset) at end later (omega arith) rest
      | Some pack ↦ (omega arith, from_lower (λ p. p.offset) (at + 1) end later (omega arith) rest)
    ]

-- Each of them stands at the offset or above it.
pub at_or_above : (low : ℕ) (ps : List PartitionParts) (p : PartitionParts) → IsRisingFrom low ps → In p ps
    → low ≤ p.offset
at_or_above = above_from (λ p. p.offset)
