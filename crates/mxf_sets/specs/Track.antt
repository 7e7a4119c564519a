-- Timeline tracks (ST 377-1, Timeline Track set; which fields are read and have to be there, and what absent ones stand
-- for, is this project's profile).
use Rattle.std.specs.Prelude.{ℕ, ℤ, List, [], ◌∷◌, Option, Result}
use Rattle.mxf_sets.specs.declared.record.Field.{Field}
use Rattle.mxf_sets.specs.declared.record.FieldFault.{FieldFault}
use Rattle.mxf_sets.specs.declared.record.Shape.TheVariants.{Exactly, Any}
use Rattle.mxf_sets.specs.declared.record.rate.Rate.{Rate}
use Rattle.mxf_sets.specs.Fields.{required, optional, record_at}
use Rattle.mxf_sets.specs.Items.{ItemParts}
use Rattle.mxf_sets.specs.Lookup.{bytes_of, value_of}
use Rattle.mxf_sets.specs.Numbers.{number_in, signed_in}
use Rattle.mxf_sets.specs.Rate.{rate_of}
use Rattle.mxf_sets.specs.Tags.{instance_uid_tag, track_id_tag, track_number_tag, track_name_tag, track_rate_tag}
use Rattle.mxf_sets.specs.Tags.{origin_tag, sequence_tag}

-- A track; the name is the bytes of its item.
pub record TrackParts : Type 0 where
  pub instance_uid : List ℕ
  pub id : ℕ
  pub number : ℕ
  pub name : Option (List ℕ)
  pub edit_rate : Rate
  pub origin : ℤ
  pub sequence : List ℕ

-- The fields in the order of testing.
abbrev pub track_fields : List Field
track_fields =
    required instance_uid_tag (Exactly 16)
    ∷ optional track_id_tag (Exactly 4)
    ∷ optional track_number_tag (Exactly 4)
    ∷ optional track_name_tag Any
    ∷ required track_rate_tag (Exactly 8)
    ∷ optional origin_tag (Exactly 8)
    ∷ required sequence_tag (Exactly 16)
    ∷ []

-- The record of items that have met the table. Absent numbers are 0.
abbrev pub track_of : List ItemParts → TrackParts
track_of items = record {
  instance_uid = bytes_of instance_uid_tag items;
  id = number_in 4 track_id_tag items;
  number = number_in 4 track_number_tag items;
  name = value_of track_name_tag items;
  edit_rate = rate_of (bytes_of track_rate_tag items);
  origin = signed_in origin_tag items;
  sequence = bytes_of sequence_tag items;
}

-- The record of a value, or the first fault.
abbrev pub track_at : List ℕ → Result TrackParts FieldFault
track_at bytes = record_at track_fields track_of bytes
