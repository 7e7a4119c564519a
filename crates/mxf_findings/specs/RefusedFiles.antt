-- Small files that aren't well-formed: each misses one condition alone (ST 377-1; narrowed by this project's profile).
use Rattle.std.specs.Prelude.{ℕ, List, [], ◌∷◌, ◌++◌, replicate}
use Rattle.mxf_klv.specs.Parts.{PacketParts, packet_parts}
use Rattle.mxf_sets.specs.declared.pack.part.PackPart.TheVariants.{Header, Body, Footer}
use Rattle.mxf_findings.specs.WorkedFiles.{bare_file, constant, entry, essence, essence_key, numbers, pack, preface}
use Rattle.mxf_findings.specs.WorkedFiles.{primer, segment, structure_key, two_entries}

-- A packet spells the length of its 128 bytes in one byte, which can say 127 at most.
abbrev pub narrow_length : List PacketParts
narrow_length = bare_file (packet_parts essence_key 1 (replicate 128 0x00) ∷ [])

-- A packet has that many bytes of essence, and ends 241 bytes further on.
abbrev pub long_file : ℕ → List PacketParts
long_file bytes = bare_file (packet_parts essence_key 9 (replicate bytes 0x00) ∷ [])

-- The first packet is a body partition pack, and no packet is a header partition pack.
abbrev pub no_header : List PacketParts
no_header = pack Body (numbers 0 0 108 0 0 0 0) ∷ pack Footer (numbers 108 0 108 0 0 0 0) ∷ []

-- A second packet is a header partition pack.
abbrev pub two_headers : List PacketParts
two_headers =
    pack Header (numbers 0 0 216 0 0 0 0) ∷ pack Header (numbers 108 0 216 0 0 0 0)
    ∷ pack Footer (numbers 216 108 216 0 0 0 0) ∷ []

-- No packet is a footer partition pack.
abbrev pub no_footer : List PacketParts
no_footer = pack Header (numbers 0 0 0 0 0 0 0) ∷ []

-- A body partition pack comes after the footer partition pack.
abbrev pub early_footer : List PacketParts
early_footer = bare_file (pack Body (numbers 216 108 108 0 0 0 0) ∷ [])

-- An index table segment has no bytes, and so none of its fields.
abbrev pub empty_segment : List PacketParts
empty_segment = bare_file (packet_parts (structure_key 0x53 0x10 0x01) 4 [] ∷ [])

-- The footer partition pack at 108 states 107 as its own offset.
abbrev pub misplaced_footer : List PacketParts
misplaced_footer = pack Header (numbers 0 0 108 0 0 0 0) ∷ pack Footer (numbers 107 0 108 0 0 0 0) ∷ []

-- The footer partition pack names 1 as the offset of the one before it, which is at 0.
abbrev pub unlinked_footer : List PacketParts
unlinked_footer = pack Header (numbers 0 0 108 0 0 0 0) ∷ pack Footer (numbers 108 1 108 0 0 0 0) ∷ []

-- The header partition states header metadata, and none follow its pack.
abbrev pub no_metadata : List PacketParts
no_metadata = pack Header (numbers 0 0 108 86 0 0 0) ∷ pack Footer (numbers 108 0 108 0 0 0 0) ∷ []

-- The header partition states a byte more than its primer and its Preface have.
abbrev pub short_metadata : List PacketParts
short_metadata =
    pack Header (numbers 0 0 194 87 0 0 0) ∷ primer ∷ preface ∷ pack Footer (numbers 194 0 194 0 0 0 0) ∷ []

-- The header partition states the bytes of its primer, its Preface and the footer partition pack after them.
abbrev pub metadata_with_a_pack : List PacketParts
metadata_with_a_pack =
    pack Header (numbers 0 0 194 194 0 0 0) ∷ primer ∷ preface ∷ pack Footer (numbers 194 0 194 0 0 0 0) ∷ []

-- The segments of one index put unit 50 at different offsets.
abbrev pub differing_segments : List PacketParts
differing_segments = bare_file (constant ∷ segment 0x32 0x91 ∷ [])

-- The random index pack has the footer partition at 109, which is at 108.
abbrev pub other_entries : List PacketParts
other_entries =
    bare_file (packet_parts (structure_key 0x05 0x11 0x01) 4
    (entry 0x00 0x00 0x00 ++ (entry 0x00 0x00 0x6D ++ (0x00 ∷ 0x00 ∷ 0x00 ∷ 0x30 ∷ []))) ∷ [])

-- Essence comes after the random index pack.
abbrev pub early_random_index : List PacketParts
early_random_index = bare_file (two_entries ∷ essence ∷ [])
