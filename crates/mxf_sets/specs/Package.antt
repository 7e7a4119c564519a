-- Packages of both kinds (ST 377-1, Material Package and Source Package sets; which fields are read and have to be
-- there is this project's profile).
use Rattle.std.specs.Prelude.{ℕ, List, [], ◌∷◌, Option, Result}
use Rattle.std.specs.Option.{option_map}
use Rattle.mxf_sets.specs.declared.record.Field.{Field}
use Rattle.mxf_sets.specs.declared.record.FieldFault.{FieldFault}
use Rattle.mxf_sets.specs.declared.record.Shape.TheVariants.{Exactly, References, Any}
use Rattle.mxf_sets.specs.declared.record.timestamp.Timestamp.{Timestamp}
use Rattle.mxf_sets.specs.Fields.{required, optional, record_at}
use Rattle.mxf_sets.specs.Items.{ItemParts}
use Rattle.mxf_sets.specs.Lookup.{bytes_of, value_of}
use Rattle.mxf_sets.specs.Reference.{references_in}
use Rattle.mxf_sets.specs.Timestamp.{timestamp_of}
use Rattle.mxf_sets.specs.Tags.{instance_uid_tag, package_uid_tag, name_tag, creation_date_tag, modified_date_tag}
use Rattle.mxf_sets.specs.Tags.{tracks_tag, descriptor_tag}

-- A package; the name is the bytes of its item.
pub record PackageParts : Type 0 where
  pub instance_uid : List ℕ
  pub package_uid : List ℕ
  pub name : Option (List ℕ)
  pub creation_date : Option Timestamp
  pub modified_date : Option Timestamp
  pub tracks : List (List ℕ)
  pub descriptor : Option (List ℕ)

-- The fields in the order of testing.
abbrev pub package_fields : List Field
package_fields =
    required instance_uid_tag (Exactly 16)
    ∷ required package_uid_tag (Exactly 32)
    ∷ optional name_tag Any
    ∷ optional creation_date_tag (Exactly 8)
    ∷ optional modified_date_tag (Exactly 8)
    ∷ optional tracks_tag References
    ∷ optional descriptor_tag (Exactly 16)
    ∷ []

-- The record of items that have met the table.
abbrev pub package_of : List ItemParts → PackageParts
package_of items = record {
  instance_uid = bytes_of instance_uid_tag items;
  package_uid = bytes_of package_uid_tag items;
  name = value_of name_tag items;
  creation_date = option_map timestamp_of (value_of creation_date_tag items);
  modified_date = option_map timestamp_of (value_of modified_date_tag items);
  tracks = references_in tracks_tag items;
  descriptor = value_of descriptor_tag items;
}

-- The record of a value, or the first fault.
abbrev pub package_at : List ℕ → Result PackageParts FieldFault
package_at bytes = record_at package_fields package_of bytes
