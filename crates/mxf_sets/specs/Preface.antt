-- The Preface (ST 377-1, Preface set; which fields are read and have to be there is this project's profile).
use Rattle.std.specs.Prelude.{ℕ, List, [], ◌∷◌, Result}
use Rattle.mxf_sets.specs.declared.record.Field.{Field}
use Rattle.mxf_sets.specs.declared.record.FieldFault.{FieldFault}
use Rattle.mxf_sets.specs.declared.record.Shape.TheVariants.{Exactly, References}
use Rattle.mxf_sets.specs.Fields.{required, optional, record_at}
use Rattle.mxf_sets.specs.Items.{ItemParts}
use Rattle.mxf_sets.specs.Lookup.{bytes_of}
use Rattle.mxf_sets.specs.Reference.{references_in}
use Rattle.mxf_sets.specs.Tags.{instance_uid_tag, content_storage_tag, identifications_tag}

-- A Preface: identifiers of sixteen bytes, and references to the identifications.
pub record PrefaceParts : Type 0 where
  pub instance_uid : List ℕ
  pub content_storage : List ℕ
  pub identifications : List (List ℕ)

-- The fields in the order of testing.
abbrev pub preface_fields : List Field
preface_fields =
    required instance_uid_tag (Exactly 16)
    ∷ required content_storage_tag (Exactly 16)
    ∷ optional identifications_tag References
    ∷ []

-- The record of items that have met the table.
abbrev pub preface_of : List ItemParts → PrefaceParts
preface_of items = record {
  instance_uid = bytes_of instance_uid_tag items;
  content_storage = bytes_of content_storage_tag items;
  identifications = references_in identifications_tag items;
}

-- The record of a value, or the first fault.
abbrev pub preface_at : List ℕ → Result PrefaceParts FieldFault
preface_at bytes = record_at preface_fields preface_of bytes
