-- Packets that can be read by their kind (ST 377-1: sets and packs; which are read is this project's profile).
use Rattle.std.specs.Prelude.{ℕ, Bool, true, not, ◌&&◌, is_ok, is_some, List}
use Rattle.mxf_klv.specs.declared.kinds.Kind.{Kind}
use Rattle.mxf_klv.specs.declared.kinds.Kind.TheVariants as kinds
use Rattle.mxf_klv.specs.Parts.{NoteParts}
use Rattle.mxf_klv.specs.Note.{keeps_value}
use Rattle.mxf_klv.specs.Kind.{kind_of}
use Rattle.mxf_sets.specs.PackReadings.{primer_at}
use Rattle.mxf_sets.specs.Preface.{preface_at}
use Rattle.mxf_sets.specs.Identification.{identification_at}
use Rattle.mxf_sets.specs.Storage.{storage_at}
use Rattle.mxf_sets.specs.Package.{package_at}
use Rattle.mxf_sets.specs.Segment.{segment_at}
use Rattle.mxf_views.specs.SetItems.{whole_items}

-- The value can be read by its kind: as a primer pack, as a metadata set, as the items of a raw set, or as an index
-- table segment.
abbrev pub reads_value : Kind → List ℕ → Bool
reads_value kinds.Primer bytes = is_ok (primer_at bytes)
reads_value kinds.Preface bytes = is_ok (preface_at bytes)
reads_value kinds.Identification bytes = is_ok (identification_at bytes)
reads_value kinds.ContentStorage bytes = is_ok (storage_at bytes)
reads_value kinds.MaterialPackage bytes = is_ok (package_at bytes)
reads_value kinds.SourcePackage bytes = is_ok (package_at bytes)
reads_value kinds.RawSet bytes = is_some (whole_items bytes)
reads_value kinds.Segment bytes = is_ok (segment_at bytes)
reads_value _ bytes = true

-- The value isn't kept, or can't be read by its kind.
abbrev pub is_unreadable : NoteParts → Bool
is_unreadable n = not (keeps_value n && reads_value (kind_of n.key) n.held)
