-- What to restore of header metadata, as long as no copy of them tells which edit units are meant (this project's
-- profile).
use Rattle.std.specs.Prelude.{◌≡◌, ◌⊎◌, Bool, true, false, List, [], filter, flat_map}
use Rattle.mxf_klv.specs.Parts.{NoteParts}
use Rattle.mxf_klv.specs.Rising.{In, union}
use Rattle.mxf_places.specs.AtHand.{AtHandParts}
use Rattle.mxf_places.specs.Held.{end_of_file}
use Rattle.mxf_places.specs.declared.reason.Reason.{Reason}
use Rattle.mxf_places.specs.declared.reason.Reason.TheVariants.{Footer, Header, Metadata}
use Rattle.mxf_restore.specs.Plan.{order_cmp}
use Rattle.mxf_restore.specs.Sections.{sections_of}
use Rattle.mxf_restore.specs.declared.plan.Order.{Order}
use Rattle.mxf_partial.specs.Helping.{helping_of}
use Rattle.mxf_partial.specs.Orders.{UnitPlanParts}

-- The order is restored first of all sections, as long as the header metadata are wanted, and is of the header, of a
-- footer, or of header metadata.
pub record IsMetadataOrder (at : AtHandParts) (notes : List NoteParts) (o : Order) : Type 0 where
  pub helping : In o (flat_map (helping_of false at notes) (sections_of notes))
  pub reason : (o.reason ≡ Header) ⊎ ((o.reason ≡ Footer) ⊎ (o.reason ≡ Metadata))

-- The same as a function. A law ties it to the relation.

abbrev pub has_metadata : Reason → Bool
has_metadata Header = true
has_metadata Footer = true
has_metadata Metadata = true
has_metadata _ = false

abbrev pub is_of_metadata : Order → Bool
is_of_metadata o = has_metadata o.reason

abbrev pub metadata_plan : AtHandParts → List NoteParts → UnitPlanParts
metadata_plan at notes = record {
  orders = union order_cmp [] (filter is_of_metadata (flat_map (helping_of false at notes) (sections_of notes)));
  end = end_of_file notes;
}
