-- Small index table segments whose stream offsets are worked by hand (ST 377-1, look-up of the stream offset).
use Rattle.std.specs.Prelude.{ℕ, ◌*◌, pos, List, [], ◌∷◌, ◌++◌, replicate}
use Rattle.mxf_klv.specs.Parts.{PacketParts, packet_parts}
use Rattle.mxf_sets.specs.Segment.{SegmentParts, segment_parts}
use Rattle.mxf_sets.specs.declared.segment.numbers.SegmentNumbers.{SegmentNumbers}
use Rattle.mxf_findings.specs.WorkedFiles.{structure_key}

-- The numbers of a segment from a unit on, of a duration, of units that all have that many bytes or, if that is 0, have
-- entries, and of slices and position tables.
abbrev pub units : ℕ → ℕ → ℕ → ℕ → ℕ → SegmentNumbers
units start duration unit_bytes slices positions = record {
  edit_rate = (pos 25, pos 1);
  start = pos start;
  duration = pos duration;
  unit_bytes = unit_bytes;
  index_sid = 1;
  body_sid = 2;
  slices = slices;
  positions = positions;
}

-- Units of 250,000 bytes each.
abbrev pub constant_units : ℕ → ℕ → SegmentParts
constant_units start duration = segment_parts (units start duration 250000 0 0) []

-- An entry of a stream offset below 2^16, which these bytes follow.
abbrev pub offset_entry : ℕ → ℕ → List ℕ → List ℕ
offset_entry high low after = replicate 9 0x00 ++ (high ∷ low ∷ after)

-- Two entries from unit 5 on, of the stream offsets 1000 and 1500.
abbrev pub entry_units : ℕ → SegmentParts
entry_units duration =
    segment_parts (units 5 duration 0 0 0) (offset_entry 0x03 0xE8 [] ++ offset_entry 0x05 0xDC [])

-- Two entries of the stream offsets 258 and 772, each followed by four bytes 09 for each slice and then eight bytes 08
-- for each position table.
abbrev pub two_entries_of : ℕ → ℕ → List ℕ
two_entries_of slices positions =
    let after = replicate (4 * slices) 0x09 ++ replicate (8 * positions) 0x08 in
    offset_entry 0x01 0x02 after ++ offset_entry 0x03 0x04 after

-- Two units from unit 3 on with these entries.
abbrev pub sliced_units : ℕ → ℕ → SegmentParts
sliced_units slices positions = segment_parts (units 3 2 0 slices positions) (two_entries_of slices positions)

-- The packet of a segment of two units from unit 0 on, of IndexSID 1 and BodySID 2, with two slices and one position
-- table, each item by its tag: entries of 27 bytes.
abbrev pub sliced_segment : PacketParts
sliced_segment =
    packet_parts (structure_key 0x53 0x10 0x01) 4
    ((0x3F ∷ 0x0B ∷ 0x00 ∷ 0x08 ∷ 0x00 ∷ 0x00 ∷ 0x00 ∷ 0x19 ∷ 0x00 ∷ 0x00 ∷ 0x00 ∷ 0x01 ∷ [])
    ++ ((0x3F ∷ 0x0C ∷ 0x00 ∷ 0x08 ∷ replicate 8 0x00)
    ++ ((0x3F ∷ 0x0D ∷ 0x00 ∷ 0x08 ∷ (replicate 7 0x00 ++ (0x02 ∷ [])))
    ++ ((0x3F ∷ 0x06 ∷ 0x00 ∷ 0x04 ∷ 0x00 ∷ 0x00 ∷ 0x00 ∷ 0x01 ∷ [])
    ++ ((0x3F ∷ 0x07 ∷ 0x00 ∷ 0x04 ∷ 0x00 ∷ 0x00 ∷ 0x00 ∷ 0x02 ∷ [])
    ++ ((0x3F ∷ 0x08 ∷ 0x00 ∷ 0x01 ∷ 0x02 ∷ [])
    ++ ((0x3F ∷ 0x0E ∷ 0x00 ∷ 0x01 ∷ 0x01 ∷ [])
    ++ ((0x3F ∷ 0x0A ∷ 0x00 ∷ 0x3E ∷ 0x00 ∷ 0x00 ∷ 0x00 ∷ 0x02 ∷ 0x00 ∷ 0x00 ∷ 0x00 ∷ 0x1B ∷ [])
    ++ two_entries_of 2 1))))))))
