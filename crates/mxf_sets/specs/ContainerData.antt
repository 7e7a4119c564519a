-- Which streams hold the essence of a package (ST 377-1, Essence Container Data set; which fields are read and have to
-- be there, and what absent ones stand for, is this project's profile).
use Rattle.std.specs.Prelude.{ℕ, List, [], ◌∷◌, Result}
use Rattle.mxf_sets.specs.declared.record.Field.{Field}
use Rattle.mxf_sets.specs.declared.record.FieldFault.{FieldFault}
use Rattle.mxf_sets.specs.declared.record.Shape.TheVariants.{Exactly}
use Rattle.mxf_sets.specs.Fields.{required, optional, record_at}
use Rattle.mxf_sets.specs.Items.{ItemParts}
use Rattle.mxf_sets.specs.Lookup.{bytes_of}
use Rattle.mxf_sets.specs.Numbers.{number_in}
use Rattle.mxf_sets.specs.Tags.{instance_uid_tag, linked_package_tag, index_sid_tag, body_sid_tag}

-- The package, the stream of its essence and that of its index.
pub record ContainerDataParts : Type 0 where
  pub instance_uid : List ℕ
  pub linked_package : List ℕ
  pub index_sid : ℕ
  pub body_sid : ℕ

-- The fields in the order of testing.
abbrev pub container_data_fields : List Field
container_data_fields =
    required instance_uid_tag (Exactly 16)
    ∷ required linked_package_tag (Exactly 32)
    ∷ optional index_sid_tag (Exactly 4)
    ∷ optional body_sid_tag (Exactly 4)
    ∷ []

-- The record of items that have met the table. Absent numbers are 0.
abbrev pub container_data_of : List ItemParts → ContainerDataParts
container_data_of items = record {
  instance_uid = bytes_of instance_uid_tag items;
  linked_package = bytes_of linked_package_tag items;
  index_sid = number_in 4 index_sid_tag items;
  body_sid = number_in 4 body_sid_tag items;
}

-- The record of a value, or the first fault.
abbrev pub container_data_at : List ℕ → Result ContainerDataParts FieldFault
container_data_at bytes = record_at container_data_fields container_data_of bytes
