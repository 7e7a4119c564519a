-- Components of sequences (ST 377-1, Source Clip, Timecode Component and Filler sets; which fields are read and have to
-- be there, and what absent ones stand for, is this project's profile).
use Rattle.std.specs.Prelude.{ℕ, ℤ, ◌==◌, ◌&&◌, ◌||◌, not, Bool, List, [], ◌∷◌, Option, Result}
use Rattle.byteorder.specs.Endian.{big_number}
use Rattle.mxf_sets.specs.declared.record.Field.{Field}
use Rattle.mxf_sets.specs.declared.record.FieldFault.{FieldFault}
use Rattle.mxf_sets.specs.declared.record.Shape.TheVariants.{Exactly}
use Rattle.mxf_sets.specs.Fields.{required, optional, record_at}
use Rattle.mxf_sets.specs.Items.{ItemParts}
use Rattle.mxf_sets.specs.Lookup.{bytes_of}
use Rattle.mxf_sets.specs.Numbers.{number_in, signed_8, signed_in, duration_in, bytes_or_zeros}
use Rattle.mxf_sets.specs.Tags.{instance_uid_tag, component_duration_tag, start_position_tag, source_package_tag}
use Rattle.mxf_sets.specs.Tags.{source_track_tag, start_timecode_tag, timecode_base_tag, drop_frame_tag}

-- A clip: its duration if it is known, and where what it shows stands: the package, its track, the position there.
pub record ClipParts : Type 0 where
  pub instance_uid : List ℕ
  pub duration : Option ℕ
  pub start_position : ℤ
  pub source_package : List ℕ
  pub source_track : ℕ

-- The fields of a clip in the order of testing.
abbrev pub clip_fields : List Field
clip_fields =
    required instance_uid_tag (Exactly 16)
    ∷ optional component_duration_tag (Exactly 8)
    ∷ optional start_position_tag (Exactly 8)
    ∷ optional source_package_tag (Exactly 32)
    ∷ optional source_track_tag (Exactly 4)
    ∷ []

-- The clip of items that have met the table. Absent numbers are 0, and an absent package is 32 zero bytes.
abbrev pub clip_of : List ItemParts → ClipParts
clip_of items = record {
  instance_uid = bytes_of instance_uid_tag items;
  duration = duration_in component_duration_tag items;
  start_position = signed_in start_position_tag items;
  source_package = bytes_or_zeros 32 source_package_tag items;
  source_track = number_in 4 source_track_tag items;
}

-- The clip of a value, or the first fault.
abbrev pub clip_at : List ℕ → Result ClipParts FieldFault
clip_at bytes = record_at clip_fields clip_of bytes

-- A timecode component: its duration if it is known, the number of its first frame, frames in a second, and the byte
-- that says whether labels are dropped.
pub record TimecodeParts : Type 0 where
  pub instance_uid : List ℕ
  pub duration : Option ℕ
  pub start : ℤ
  pub base : ℕ
  pub drop_frame : ℕ

-- The fields of a timecode component in the order of testing.
abbrev pub timecode_fields : List Field
timecode_fields =
    required instance_uid_tag (Exactly 16)
    ∷ optional component_duration_tag (Exactly 8)
    ∷ required start_timecode_tag (Exactly 8)
    ∷ required timecode_base_tag (Exactly 2)
    ∷ optional drop_frame_tag (Exactly 1)
    ∷ []

-- The timecode component of items that have met the table.
abbrev pub timecode_of : List ItemParts → TimecodeParts
timecode_of items = record {
  instance_uid = bytes_of instance_uid_tag items;
  duration = duration_in component_duration_tag items;
  start = signed_8 (bytes_of start_timecode_tag items);
  base = big_number 2 (bytes_of timecode_base_tag items);
  drop_frame = number_in 1 drop_frame_tag items;
}

-- The timecode component of a value, or the first fault.
abbrev pub timecode_at : List ℕ → Result TimecodeParts FieldFault
timecode_at bytes = record_at timecode_fields timecode_of bytes

-- Labels are dropped at 30 and 60 frames in a second alone (ST 12-1).
abbrev pub is_drop : TimecodeParts → Bool
is_drop t = not (t.drop_frame == 0) && (t.base == 30 || t.base == 60)

-- A filler: its duration if it is known.
pub record FillerParts : Type 0 where
  pub instance_uid : List ℕ
  pub duration : Option ℕ

-- The fields of a filler in the order of testing.
abbrev pub filler_fields : List Field
filler_fields =
    required instance_uid_tag (Exactly 16)
    ∷ optional component_duration_tag (Exactly 8)
    ∷ []

-- The filler of items that have met the table.
abbrev pub filler_of : List ItemParts → FillerParts
filler_of items = record {
  instance_uid = bytes_of instance_uid_tag items;
  duration = duration_in component_duration_tag items;
}

-- The filler of a value, or the first fault.
abbrev pub filler_at : List ℕ → Result FillerParts FieldFault
filler_at bytes = record_at filler_fields filler_of bytes
