-- What to restore so that edit units can be cut out of the file (this project's profile).
use Rattle.std.specs.Prelude.{◌≡◌, ◌↔◌, ℕ, ◌<◌, ◌⊎◌, Bool, true, false, ◌&&◌, nat_lt, if◌then◌else◌, Option, None, Some}
use Rattle.std.specs.Prelude.{List, [], flat_map}
use Rattle.std.specs.Option.{option_and_then, option_map_or}
use Rattle.mxf_klv.specs.Note.{greatest_end}
use Rattle.mxf_klv.specs.Rising.{In, IsRising}
use Rattle.mxf_catalogue.specs.Covers.{IsCover}
use Rattle.mxf_catalogue.specs.Runs.{LiesIn}
use Rattle.mxf_catalogue.specs.declared.run.Run.{Run}
use Rattle.mxf_views.specs.Copies.{copies_of, preferred_of}
use Rattle.mxf_places.specs.AtHand.{AtHandParts, lacking}
use Rattle.mxf_places.specs.Held.{end_of_file}
use Rattle.mxf_places.specs.declared.at_hand.OffsetRange.{OffsetRange}
use Rattle.mxf_places.specs.declared.reason.Reason.TheVariants as reasons
use Rattle.mxf_restore.specs.Plan.{LiesInOrder, is_again, order_cmp}
use Rattle.mxf_restore.specs.Sections.{sections_of}
use Rattle.mxf_restore.specs.declared.named.NamedPlace.{NamedPlace}
use Rattle.mxf_restore.specs.declared.plan.Order.{Order}
use Rattle.mxf_restore.specs.declared.section.Section.{Section}
use Rattle.mxf_units.specs.Units.{IsKnown}
use Rattle.mxf_partial.specs.Asks.{IsAskedByIndex, IsAskedByUnit}
use Rattle.mxf_partial.specs.Fronts.{IsFrontOf}
use Rattle.mxf_partial.specs.Helping.{helping_of}
use Rattle.mxf_partial.specs.Wanted.{IsWantedByte, WantedParts, are_indexed, hand_of, notes_of}

-- The header metadata need not be restored: the preferred copy is finished, and each wanted unit is indexed.
abbrev pub is_described : WantedParts → Bool
is_described w = option_map_or (λ c. c.finished) (preferred_of (copies_of (notes_of w))) false && are_indexed w

-- What is restored first of all sections: what says more of where units lie.
abbrev pub helping_orders : WantedParts → List Order
helping_orders w =
    flat_map (helping_of (is_described w) (hand_of w) (notes_of w)) (sections_of (notes_of w))

-- A wanted unit asks for the place; or the index may go on there, and nothing else is to be restored first.
abbrev pub IsAsked : WantedParts → ℕ → Option ℕ → Type 0
IsAsked w x source = IsAskedByUnit w x source ⊎ ((helping_orders w ≡ []) × IsAskedByIndex w x source)

-- All places that are asked for, each with the packs by which it is known.
abbrev pub AreAsked : WantedParts → List NamedPlace → Type 0
AreAsked w asked = (n : NamedPlace) → In n asked ↔ IsAsked w n.place n.source

-- The front of a section in which one of them lies.
pub record IsFrontOrder (w : WantedParts) (o : Order) : Type 0 where
  pub asked : List NamedPlace
  pub are_asked : AreAsked w asked
  pub section : Section
  pub among : In section (sections_of (notes_of w))
  pub front : IsFrontOf (is_described w) (hand_of w) (notes_of w) asked section o

-- What is restored to find partitions and index table segments.
abbrev pub IsFindingOrder : WantedParts → Order → Type 0
IsFindingOrder w o = In o (helping_orders w) ⊎ IsFrontOrder w o

-- The byte is held or at hand, or is restored to find something.
abbrev pub IsThere : WantedParts → ℕ → Type 0
IsThere w x = IsKnown w.units.known x ⊎ ((o : Order) × IsFindingOrder w o × LiesInOrder o x)

-- The byte is ordered, as far as files reach.
abbrev pub IsOrdered : List Order → ℕ → Type 0
IsOrdered orders x = ((o : Order) × In o orders × LiesInOrder o x) × (x < greatest_end)

-- The runs have the offsets of which this holds, as far as files reach.
pub record AreOffsetsOf (P : ℕ → Type 0) (runs : List Run) : Type 0 where
  pub cover : IsCover runs
  pub offsets : (x : ℕ) → LiesIn runs x ↔ (P x × (x < greatest_end))

-- What reaches as far as files do has no end that is known.
abbrev pub known_end : Option ℕ → Option ℕ
known_end end = option_and_then (λ e. if nat_lt e greatest_end then Some e else None) end

-- The order of a range of bytes of edit units.
abbrev pub unit_order : AtHandParts → OffsetRange → Order
unit_order at r = record {
  reason = reasons.Unit;
  start = r.start;
  end = known_end r.end;
  source = None;
  inside = true;
  again = is_again at (record { start = r.start; end = known_end r.end });
}

-- The order of a maximal range of bytes that are wanted and not there.
pub record IsUnitOrder (at : AtHandParts) (there wanted : List Run) (o : Order) : Type 0 where
  pub run : Run
  pub among : In run wanted
  pub range : OffsetRange
  pub lacks : In range (lacking there run.start (Some run.end))
  pub is : o ≡ unit_order at range

-- What is to be restored for the units, and the end of the file if it is known.
pub record UnitPlanParts : Type 0 where
  pub orders : List Order
  pub end : Option ℕ

-- The plan for the units: what finds them, and what is wanted of them and isn't there.
pub record IsUnitPlan (w : WantedParts) (p : UnitPlanParts) : Type 0 where
  pub wanted : List Run
  pub wanted_are : AreOffsetsOf (IsWantedByte w) wanted
  pub there : List Run
  pub there_are : AreOffsetsOf (IsThere w) there
  pub rising : IsRising order_cmp p.orders
  pub members : (o : Order) → In o p.orders ↔ (IsFindingOrder w o ⊎ IsUnitOrder (hand_of w) there wanted o)
  pub end : p.end ≡ end_of_file (notes_of w)
