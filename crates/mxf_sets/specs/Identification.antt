-- The Identification (ST 377-1, Identification set; which fields are read and have to be there is this project's
-- profile).
use Rattle.std.specs.Prelude.{ℕ, List, [], ◌∷◌, Option, Result}
use Rattle.std.specs.Option.{option_map}
use Rattle.mxf_sets.specs.declared.record.Field.{Field}
use Rattle.mxf_sets.specs.declared.record.FieldFault.{FieldFault}
use Rattle.mxf_sets.specs.declared.record.Shape.TheVariants.{Exactly, Any}
use Rattle.mxf_sets.specs.declared.record.timestamp.Timestamp.{Timestamp}
use Rattle.mxf_sets.specs.Fields.{required, optional, record_at}
use Rattle.mxf_sets.specs.Items.{ItemParts}
use Rattle.mxf_sets.specs.Lookup.{bytes_of, value_of}
use Rattle.mxf_sets.specs.Timestamp.{timestamp_of}
use Rattle.mxf_sets.specs.Tags.{instance_uid_tag, this_generation_uid_tag, company_name_tag, product_name_tag}
use Rattle.mxf_sets.specs.Tags.{version_string_tag, product_uid_tag, modification_date_tag}

-- An Identification; texts are the bytes of their items.
pub record IdentificationParts : Type 0 where
  pub instance_uid : List ℕ
  pub this_generation_uid : Option (List ℕ)
  pub company_name : Option (List ℕ)
  pub product_name : Option (List ℕ)
  pub version_string : Option (List ℕ)
  pub product_uid : Option (List ℕ)
  pub modification_date : Option Timestamp

-- The fields in the order of testing.
abbrev pub identification_fields : List Field
identification_fields =
    required instance_uid_tag (Exactly 16)
    ∷ optional this_generation_uid_tag (Exactly 16)
    ∷ optional company_name_tag Any
    ∷ optional product_name_tag Any
    ∷ optional version_string_tag Any
    ∷ optional product_uid_tag (Exactly 16)
    ∷ optional modification_date_tag (Exactly 8)
    ∷ []

-- The record of items that have met the table.
abbrev pub identification_of : List ItemParts → IdentificationParts
identification_of items = record {
  instance_uid = bytes_of instance_uid_tag items;
  this_generation_uid = value_of this_generation_uid_tag items;
  company_name = value_of company_name_tag items;
  product_name = value_of product_name_tag items;
  version_string = value_of version_string_tag items;
  product_uid = value_of product_uid_tag items;
  modification_date = option_map timestamp_of (value_of modification_date_tag items);
}

-- The record of a value, or the first fault.
abbrev pub identification_at : List ℕ → Result IdentificationParts FieldFault
identification_at bytes = record_at identification_fields identification_of bytes
