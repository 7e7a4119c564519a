-- Random index packs (ST 377-1, Random Index Pack): an entry of twelve bytes for each partition, in the order of the
-- file, and then the number of bytes of the pack's packet (ST 336, KLV triplet).
use Rattle.std.specs.Prelude.{◌≡◌, ◌≢◌, ℕ, zero, suc, ◌+◌, ◌-◌, ◌*◌, ◌/◌, ◌%◌, ◌^◌, ◌<◌, ◌≤◌, ◌⊎◌, List, [], ◌∷◌, ◌++◌}
use Rattle.std.specs.Prelude.{length, drop, Result, Ok, Err}
use Rattle.std.specs.List.{flat_map, AllByRecursion}
use Rattle.byteorder.specs.Endian.{big_number, big_bytes}
use Rattle.mxf_sets.specs.declared.pack.PackFault.{PackFault}
use Rattle.mxf_sets.specs.declared.pack.PackFault.TheVariants as faults
use Rattle.mxf_sets.specs.declared.pack.random_index.RipEntry.{RipEntry}

-- Both numbers of an entry fit the bytes that they have.
pub record IsEntry (entry : RipEntry) : Type 0 where
  pub body_sid : entry.body_sid < 2 ^ 32
  pub offset : entry.offset < 2 ^ 64

-- The bytes of an entry.
abbrev pub entry_bytes : RipEntry → List ℕ
entry_bytes entry = big_bytes 4 entry.body_sid ++ big_bytes 8 entry.offset

-- A random index pack: its entries, and how many bytes spell the length of its packet.
pub record RipParts : Type 0 where
  pub width : ℕ
  pub entries : List RipEntry

-- The random index pack of these parts.
abbrev pub rip_parts : ℕ → List RipEntry → RipParts
rip_parts width entries = record { width = width; entries = entries }

-- The number of bytes of the packet: a key of sixteen, the length, and a value of the entries and a number of four.
abbrev pub packet_length : RipParts → ℕ
packet_length rip = 16 + rip.width + (12 * length rip.entries + 4)

-- Which random index packs there are: each number fits the bytes that it has.
pub record AreRipParts (rip : RipParts) : Type 0 where
  pub entries : AllByRecursion IsEntry rip.entries
  pub fits : packet_length rip < 2 ^ 32

-- The value of a random index pack: the entries, then the length of the packet.
abbrev pub rip_bytes : RipParts → List ℕ
rip_bytes rip = flat_map entry_bytes rip.entries ++ big_bytes 4 (packet_length rip)

-- The value is that of the random index pack.
pub record IsRip (bytes : List ℕ) (rip : RipParts) : Type 0 where
  pub parts : AreRipParts rip
  pub whole : bytes ≡ rip_bytes rip

-- The number that the last four bytes state.
abbrev pub last_number : List ℕ → ℕ
last_number bytes = big_number 4 (drop (length bytes - 4) bytes)

-- What the value of a packet is, whose length has a width, when a random index pack is asked for: the pack; fewer bytes
-- than the last number has; or no whole number of entries, or another last number.
abbrev pub ReadsRip : ℕ → List ℕ → Result RipParts PackFault → Type 0
ReadsRip width bytes (Ok rip) = (rip.width ≡ width) × IsRip bytes rip
ReadsRip width bytes (Err faults.Short) = length bytes < 4
ReadsRip width bytes (Err faults.WrongLength) =
    (4 ≤ length bytes) × (((length bytes - 4) % 12 ≢ 0) ⊎ (last_number bytes ≢ 16 + width + length bytes))
ReadsRip width bytes (Err faults.NotThisKind) = ⊥
ReadsRip width bytes (Err faults.BadBatch) = ⊥

-- The entry at the front.
abbrev pub entry_in : List ℕ → RipEntry
entry_in bytes = record { body_sid = big_number 4 bytes; offset = big_number 8 (drop 4 bytes) }

-- The given number of entries from the front.
abbrev pub entries_by : ℕ → List ℕ → List RipEntry
entries_by zero bytes = []
entries_by (suc n) bytes = entry_in bytes ∷ entries_by n (drop 12 bytes)

-- The entries of bytes.
unfoldable pub entries_of : List ℕ → List RipEntry
entries_of bytes = entries_by (length bytes / 12) bytes
