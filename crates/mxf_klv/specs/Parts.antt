-- Lengths and packets (ST 336, length field and KLV triplet) and notes (this project's profile) as values, without
-- where they lie in memory.
use Rattle.std.specs.Prelude.{◌≡◌, ℕ, ◌-◌, ◌^◌, ◌<◌, ◌≤◌, ◌⊎◌, Bool, true, false, List, []}

-- A length: its value, and how many bytes spell it.
pub record LengthParts : Type 0 where
  pub width : ℕ
  pub value : ℕ

-- Which lengths have a spelling: one byte for values up to 127, or a first byte and 1 to 8 more that hold the value.
-- That there are 8 at most is this project's profile.
abbrev pub CanSpell : ℕ → ℕ → Type 0
CanSpell width value = ((width ≡ 1) × (value ≤ 127)) ⊎ ((2 ≤ width) × (width ≤ 9) × (value < 256 ^ (width - 1)))

-- A packet: its key, how many bytes spell the length of its value, and the value.
pub record PacketParts : Type 0 where
  pub key : List ℕ
  pub width : ℕ
  pub value : List ℕ

abbrev pub packet_parts : List ℕ → ℕ → List ℕ → PacketParts
packet_parts key width value = record { key = key; width = width; value = value }

-- A note: a packet's offset in the file, its key, the width and value of its length, whether the packet was read whole,
-- and what is held of its value.
pub record NoteParts : Type 0 where
  pub offset : ℕ
  pub key : List ℕ
  pub width : ℕ
  pub length : ℕ
  pub whole : Bool
  pub held : List ℕ

-- The note of a packet that was read whole.
abbrev pub note_parts : ℕ → List ℕ → ℕ → ℕ → List ℕ → NoteParts
note_parts offset key width length held =
    record { offset = offset; key = key; width = width; length = length; whole = true; held = held }

-- A head: the note of a packet of which key and length alone were read.
abbrev pub head_parts : ℕ → List ℕ → ℕ → ℕ → NoteParts
head_parts offset key width length =
    record { offset = offset; key = key; width = width; length = length; whole = false; held = [] }
