-- The instance identifier of a header metadata set (ST 377-1, Interchange Object).
use Rattle.std.specs.Prelude.{ℕ, List, [], ◌∷◌, Result}
use Rattle.mxf_sets.specs.declared.record.Field.{Field}
use Rattle.mxf_sets.specs.declared.record.FieldFault.{FieldFault}
use Rattle.mxf_sets.specs.declared.record.Shape.TheVariants.{Exactly}
use Rattle.mxf_sets.specs.Fields.{required, record_at}
use Rattle.mxf_sets.specs.Lookup.{bytes_of}
use Rattle.mxf_sets.specs.Tags.{instance_uid_tag}

-- The one field that is read.
abbrev pub instance_fields : List Field
instance_fields = required instance_uid_tag (Exactly 16) ∷ []

-- The identifier of a value, or the first fault.
abbrev pub instance_uid_at : List ℕ → Result (List ℕ) FieldFault
instance_uid_at bytes = record_at instance_fields (bytes_of instance_uid_tag) bytes
