-- Sequences (ST 377-1, Sequence set; which fields are read and have to be there is this project's profile).
use Rattle.std.specs.Prelude.{ℕ, List, [], ◌∷◌, Option, Result}
use Rattle.mxf_sets.specs.declared.record.Field.{Field}
use Rattle.mxf_sets.specs.declared.record.FieldFault.{FieldFault}
use Rattle.mxf_sets.specs.declared.record.Shape.TheVariants.{Exactly, References}
use Rattle.mxf_sets.specs.Fields.{required, optional, record_at}
use Rattle.mxf_sets.specs.Items.{ItemParts}
use Rattle.mxf_sets.specs.Lookup.{bytes_of}
use Rattle.mxf_sets.specs.Numbers.{duration_in}
use Rattle.mxf_sets.specs.Reference.{references_in}
use Rattle.mxf_sets.specs.Tags.{instance_uid_tag, data_definition_tag, component_duration_tag, components_tag}

-- A sequence: the label of what its track holds, its duration if it is known, and references to the components.
pub record SequenceParts : Type 0 where
  pub instance_uid : List ℕ
  pub data_definition : List ℕ
  pub duration : Option ℕ
  pub components : List (List ℕ)

-- The fields in the order of testing.
abbrev pub sequence_fields : List Field
sequence_fields =
    required instance_uid_tag (Exactly 16)
    ∷ required data_definition_tag (Exactly 16)
    ∷ optional component_duration_tag (Exactly 8)
    ∷ required components_tag References
    ∷ []

-- The record of items that have met the table.
abbrev pub sequence_of : List ItemParts → SequenceParts
sequence_of items = record {
  instance_uid = bytes_of instance_uid_tag items;
  data_definition = bytes_of data_definition_tag items;
  duration = duration_in component_duration_tag items;
  components = references_in components_tag items;
}

-- The record of a value, or the first fault.
abbrev pub sequence_at : List ℕ → Result SequenceParts FieldFault
sequence_at bytes = record_at sequence_fields sequence_of bytes
