-- The keys of the sets that are read as records of tracks, and the labels of what sequences hold (ST 377-1; RP 224 and
-- ST 400, data definitions). Bytes of a key or a label are counted from 1, and byte 8, the version, decides nothing.
use Rattle.std.specs.Prelude.{ℕ, Bool, true, ◌&&◌, ◌||◌, if◌then◌else◌, List, [], ◌∷◌, take, drop}
use Rattle.std.specs.Str.{bytes_eq}
use Rattle.mxf_tracks.specs.declared.target.Wanted.{Wanted}
use Rattle.mxf_tracks.specs.declared.target.Wanted.TheVariants as wanted
use Rattle.mxf_tracks.specs.declared.sequence.SequenceKind.{SequenceKind}
use Rattle.mxf_tracks.specs.declared.sequence.SequenceKind.TheVariants.{Picture, Sound, Data, Timecode, Descriptive}
use Rattle.mxf_tracks.specs.declared.sequence.SequenceKind.TheVariants.{Other}

-- The key is that of a header metadata set: by bytes 5 to 7, and bytes 9 to 16, of which byte 15 says which set it is.
abbrev pub is_set_key : ℕ → List ℕ → Bool
is_set_key which key =
    bytes_eq (take 3 (drop 4 key)) (0x02 ∷ 0x53 ∷ 0x01 ∷ [])
    && bytes_eq (drop 8 key) (0x0D ∷ 0x01 ∷ 0x01 ∷ 0x01 ∷ 0x01 ∷ 0x01 ∷ which ∷ 0x00 ∷ [])

-- A Timeline Track.
abbrev pub is_track : List ℕ → Bool
is_track key = is_set_key 0x3B key

-- A Sequence.
abbrev pub is_sequence : List ℕ → Bool
is_sequence key = is_set_key 0x0F key

-- A Source Clip.
abbrev pub is_clip : List ℕ → Bool
is_clip key = is_set_key 0x11 key

-- A Timecode Component.
abbrev pub is_timecode : List ℕ → Bool
is_timecode key = is_set_key 0x14 key

-- A Filler.
abbrev pub is_filler : List ℕ → Bool
is_filler key = is_set_key 0x09 key

-- An Essence Container Data set.
abbrev pub is_container_data : List ℕ → Bool
is_container_data key = is_set_key 0x23 key

-- The key of a raw set is that of such a set as the reference wants; any will do as a descriptor.
abbrev pub fits : Wanted → List ℕ → Bool
fits wanted.Track key = is_track key
fits wanted.Sequence key = is_sequence key
fits wanted.Component key = is_clip key || is_timecode key || is_filler key
fits wanted.Descriptor key = true

-- Bytes 1 to 7 of the label of a data definition.
abbrev pub definition_start : List ℕ
definition_start = 0x06 ∷ 0x0E ∷ 0x2B ∷ 0x34 ∷ 0x04 ∷ 0x01 ∷ 0x01 ∷ []

-- The label is that of a data definition with these bytes 9 to 16.
abbrev pub is_definition : List ℕ → List ℕ → Bool
is_definition item label = bytes_eq (take 7 label) definition_start && bytes_eq (drop 8 label) item

-- Bytes 9 to 16 of a data definition of essence, of which byte 13 says which essence it is.
abbrev pub essence_item : ℕ → List ℕ
essence_item which = 0x01 ∷ 0x03 ∷ 0x02 ∷ 0x02 ∷ which ∷ 0x00 ∷ 0x00 ∷ 0x00 ∷ []

-- The same of a timecode, of which byte 13 says by which standard.
abbrev pub timecode_item : ℕ → List ℕ
timecode_item which = 0x01 ∷ 0x03 ∷ 0x02 ∷ 0x01 ∷ which ∷ 0x00 ∷ 0x00 ∷ 0x00 ∷ []

-- Bytes 9 to 13 of a data definition of descriptive metadata.
abbrev pub descriptive_item : List ℕ
descriptive_item = 0x01 ∷ 0x03 ∷ 0x02 ∷ 0x01 ∷ 0x10 ∷ []

-- What a sequence of this data definition holds.
abbrev pub sequence_kind : List ℕ → SequenceKind
sequence_kind label =
    if is_definition (essence_item 0x01) label then Picture
    else (if is_definition (essence_item 0x02) label then Sound
    else (if is_definition (essence_item 0x03) label then Data
    else (if is_definition (timecode_item 0x01) label || is_definition (timecode_item 0x02) label
    || is_definition (timecode_item 0x03) label then Timecode
    else (if bytes_eq (take 7 label) definition_start && bytes_eq (take 5 (drop 8 label)) descriptive_item
    then Descriptive else Other label))))
