-- Index table segments (ST 377-1, Index Table Segment; which fields have to be there and what absent ones stand for is
-- this project's profile).
use Rattle.std.specs.Prelude.{◌≡◌, ℕ, ℤ, ◌+◌, ◌*◌, ◌/◌, ◌%◌, ◌^◌, ◌<◌, ◌≤◌, pos, ◌≤ℤ◌, nat_lt, Bool, if◌then◌else◌}
use Rattle.std.specs.Prelude.{List, [], ◌∷◌, ◌++◌, length, drop, Option, Some, None, Result, Ok, Err, FitsSigned}
use Rattle.std.specs.Option.{option_map, option_map_or, ok_or}
use Rattle.std.specs.List.{flat_map}
use Rattle.std.specs.Int.{w32, w64, cast_unsigned, is_negative}
use Rattle.byteorder.specs.Endian.{big_number, big_bytes}
use Rattle.mxf_sets.specs.declared.record.Field.{Field}
use Rattle.mxf_sets.specs.declared.record.FieldFault.{FieldFault}
use Rattle.mxf_sets.specs.declared.record.Shape.TheVariants.{Exactly, Any}
use Rattle.mxf_sets.specs.declared.segment.SegmentFault.{SegmentFault}
use Rattle.mxf_sets.specs.declared.segment.SegmentFault.TheVariants.{Negative, BadEntries}
use Rattle.mxf_sets.specs.declared.segment.numbers.SegmentNumbers.{SegmentNumbers}
use Rattle.mxf_sets.specs.Faults.{segment_fault}
use Rattle.mxf_sets.specs.Fields.{required, optional, fields_at, is_batch}
use Rattle.mxf_sets.specs.Items.{ItemParts, item, item_bytes}
use Rattle.mxf_sets.specs.Lookup.{bytes_of, value_of}
use Rattle.mxf_sets.specs.Numbers.{number_in, signed_4, signed_8}
use Rattle.mxf_sets.specs.Tags.{edit_rate_tag, start_tag, duration_tag, unit_bytes_tag, index_sid_tag, body_sid_tag}
use Rattle.mxf_sets.specs.Tags.{slices_tag, positions_tag, entries_tag}

-- A segment: its numbers, and the bytes of its entries, one entry after another.
pub record SegmentParts : Type 0 where
  pub numbers : SegmentNumbers
  pub entries : List ℕ

-- The segment of these numbers and entries.
abbrev pub segment_parts : SegmentNumbers → List ℕ → SegmentParts
segment_parts numbers entries = record { numbers = numbers; entries = entries }

-- Edit units have a constant size.
abbrev pub is_constant : SegmentNumbers → Bool
is_constant n = nat_lt 0 n.unit_bytes

-- The bytes of an entry: a temporal offset, a key frame offset and flags of one byte each, a stream offset of eight
-- bytes, then four bytes for each slice and eight for each position entry.
abbrev pub entry_size : SegmentNumbers → ℕ
entry_size n = 11 + 4 * n.slices + 8 * n.positions

-- The number of entries.
abbrev pub entry_count : SegmentParts → ℕ
entry_count s = length s.entries / entry_size s.numbers

-- Which segments there are (this project's profile): the entries are whole and fit into one item, and there are none if
-- edit units have a constant size.
pub record IsSegment (s : SegmentParts) : Type 0 where
  pub start : pos 0 ≤ℤ s.numbers.start
  pub duration : pos 0 ≤ℤ s.numbers.duration
  pub whole : length s.entries % entry_size s.numbers ≡ 0
  pub room : 8 + length s.entries ≤ 65535
  pub constant : 0 < s.numbers.unit_bytes → s.entries ≡ []

-- Each number fits the bytes that it has.
pub record AreSegmentNumbers (n : SegmentNumbers) : Type 0 where
  pub rate : FitsSigned w32 n.edit_rate.0 × FitsSigned w32 n.edit_rate.1
  pub start : FitsSigned w64 n.start
  pub duration : FitsSigned w64 n.duration
  pub unit_bytes : n.unit_bytes < 2 ^ 32
  pub index_sid : n.index_sid < 2 ^ 32
  pub body_sid : n.body_sid < 2 ^ 32
  pub slices : n.slices < 2 ^ 8
  pub positions : n.positions < 2 ^ 8

-- The fields in the order of testing and writing.
abbrev pub segment_fields : List Field
segment_fields =
    required edit_rate_tag (Exactly 8)
    ∷ required start_tag (Exactly 8)
    ∷ required duration_tag (Exactly 8)
    ∷ optional unit_bytes_tag (Exactly 4)
    ∷ optional index_sid_tag (Exactly 4)
    ∷ required body_sid_tag (Exactly 4)
    ∷ optional slices_tag (Exactly 1)
    ∷ optional positions_tag (Exactly 1)
    ∷ optional entries_tag Any
    ∷ []

-- The numbers of items that have met the table.
abbrev pub segment_numbers : List ItemParts → SegmentNumbers
segment_numbers items = record {
  edit_rate = (signed_4 (bytes_of edit_rate_tag items), signed_4 (drop 4 (bytes_of edit_rate_tag items)));
  start = signed_8 (bytes_of start_tag items);
  duration = signed_8 (bytes_of duration_tag items);
  unit_bytes = number_in 4 unit_bytes_tag items;
  index_sid = number_in 4 index_sid_tag items;
  body_sid = big_number 4 (bytes_of body_sid_tag items);
  slices = number_in 1 slices_tag items;
  positions = number_in 1 positions_tag items;
}

-- The entries of an entry array, which has to be a batch of whole entries: what follows its count and item size.
abbrev pub entries_at : SegmentNumbers → List ℕ → Option (List ℕ)
entries_at n array = if is_batch (entry_size n) array then Some (drop 8 array) else None

-- The entries of items. If edit units have a constant size, there are none, whatever the entry array is. Otherwise they
-- are those of the entry array, if there is one.
abbrev pub entries_in : SegmentNumbers → List ItemParts → Option (List ℕ)
entries_in n items =
    if is_constant n then Some [] else option_map_or (entries_at n) (value_of entries_tag items) (Some [])

-- The segment of items that have met the table.
abbrev pub segment_of : List ItemParts → Result SegmentParts SegmentFault
segment_of items =
    let n = segment_numbers items in
    if is_negative n.start then Err (Negative start_tag)
    else (if is_negative n.duration then Err (Negative duration_tag)
    else ok_or (option_map (segment_parts n) (entries_in n items)) BadEntries)

-- What follows if the items have met the table, and otherwise their fault.
abbrev pub then_segment : (List ItemParts → Result SegmentParts SegmentFault) → Result (List ItemParts) FieldFault
    → Result SegmentParts SegmentFault
then_segment next (Ok items) = next items
then_segment next (Err fault) = Err (segment_fault fault)

-- The segment of a value, or the first fault.
abbrev pub segment_at : List ℕ → Result SegmentParts SegmentFault
segment_at bytes = then_segment segment_of (fields_at segment_fields bytes)

-- The four bytes of a signed number.
abbrev pub signed_bytes_4 : ℤ → List ℕ
signed_bytes_4 z = big_bytes 4 (cast_unsigned w32 z)

-- The eight bytes of a signed number.
abbrev pub signed_bytes_8 : ℤ → List ℕ
signed_bytes_8 z = big_bytes 8 (cast_unsigned w64 z)

-- The items of the numbers, all of which are written (this project's profile).
abbrev pub number_items : SegmentNumbers → List ItemParts
number_items n =
    item edit_rate_tag (signed_bytes_4 n.edit_rate.0 ++ signed_bytes_4 n.edit_rate.1)
    ∷ item start_tag (signed_bytes_8 n.start)
    ∷ item duration_tag (signed_bytes_8 n.duration)
    ∷ item unit_bytes_tag (big_bytes 4 n.unit_bytes)
    ∷ item index_sid_tag (big_bytes 4 n.index_sid)
    ∷ item body_sid_tag (big_bytes 4 n.body_sid)
    ∷ item slices_tag (n.slices ∷ [])
    ∷ item positions_tag (n.positions ∷ [])
    ∷ []

-- The entry array: the batch of the entries.
abbrev pub entry_item : SegmentParts → ItemParts
entry_item s = item entries_tag ((big_bytes 4 (entry_count s) ++ big_bytes 4 (entry_size s.numbers)) ++ s.entries)

-- The entry array is written only if edit units have no constant size, and then even if it has no entry.
abbrev pub entry_items : SegmentParts → List ItemParts
entry_items s = if is_constant s.numbers then [] else entry_item s ∷ []

-- The items that a segment is written as.
abbrev pub segment_items : SegmentParts → List ItemParts
segment_items s = number_items s.numbers ++ entry_items s

-- The value of a segment as it is written.
abbrev pub segment_bytes : SegmentParts → List ℕ
segment_bytes s = flat_map item_bytes (segment_items s)
