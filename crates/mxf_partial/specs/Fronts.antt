-- The fronts that are restored of sections in which places are asked for (this project's profile).
use Rattle.std.specs.Prelude.{◌≡◌, ℕ, ◌≤◌, ◌&&◌, nat_le, nat_lt, min, Bool, true, Option, None, Some, List, [], ◌∷◌}
use Rattle.std.specs.Prelude.{filter}
use Rattle.std.specs.Option.{option_and_then, option_map, option_map_or}
use Rattle.mxf_klv.specs.Parts.{NoteParts}
use Rattle.mxf_klv.specs.Rising.{In}
use Rattle.mxf_places.specs.AtHand.{AtHandParts, LiesBetween}
use Rattle.mxf_places.specs.declared.reason.Reason.TheVariants as reasons
use Rattle.mxf_restore.specs.Fronts.{front_of}
use Rattle.mxf_places.specs.Heads.{start_of}
use Rattle.mxf_restore.specs.declared.named.NamedPlace.{NamedPlace}
use Rattle.mxf_restore.specs.declared.plan.Order.{Order}
use Rattle.mxf_restore.specs.declared.section.Section.{Section}
use Rattle.mxf_partial.specs.Helping.{helping_of}

-- No source goes before any; others go by their offsets.
abbrev pub GoesFirst : Option ℕ → Option ℕ → Type 0
GoesFirst None other = Unit {0}
GoesFirst (Some x) None = ⊥
GoesFirst (Some x) (Some y) = x ≤ y

-- Of the places from an offset on, up to an end if there is one, none has a source that goes before this one.
pub record IsFirstSource (asked : List NamedPlace) (from : ℕ) (end : Option ℕ) (source : Option ℕ) : Type 0 where
  pub place : NamedPlace
  pub among : In place asked
  pub lies : LiesBetween from end place.place
  pub is : place.source ≡ source
  pub first : (n : NamedPlace) → In n asked → LiesBetween from end n.place → GoesFirst source n.source

-- The front of a section, as it is restored to find a partition.
abbrev pub front_by : Option ℕ → Order → Order
front_by source o = record {
  reason = reasons.Front;
  start = o.start;
  end = o.end;
  source = source;
  inside = o.inside;
  again = o.again;
}

-- The front of a section of which nothing is restored first, if a place is asked for in it, or in the packet whose rest
-- it is.
pub record IsFrontOf (described : Bool) (at : AtHandParts) (notes : List NoteParts) (asked : List NamedPlace)
    (p : Section) (o : Order) : Type 0 where
  pub none_first : helping_of described at notes p ≡ []
  pub source : Option ℕ
  pub source_is : IsFirstSource asked (start_of notes p.first) p.end source
  pub front : Order
  pub front_is : front_of at notes p ≡ Some front
  pub is : o ≡ front_by source front

-- The same as functions. Lemmas tie them to the relations.

-- The source that goes first of one, if there is one, and another.
abbrev pub earlier : Option (Option ℕ) → Option ℕ → Option ℕ
earlier None source = source
earlier (Some None) source = None
earlier (Some (Some x)) None = None
earlier (Some (Some x)) (Some y) = Some (min x y)

abbrev pub first_of : Option (Option ℕ) → List NamedPlace → Option (Option ℕ)
first_of first [] = first
first_of first (n ∷ places) = first_of (Some (earlier first n.source)) places

abbrev pub lies_between : ℕ → Option ℕ → NamedPlace → Bool
lies_between from end n = nat_le from n.place && option_map_or (λ e. nat_lt n.place e) end true

abbrev pub first_source : List NamedPlace → ℕ → Option ℕ → Option (Option ℕ)
first_source asked from end = first_of None (filter (lies_between from end) asked)

abbrev pub if_none : List Order → Option Order → Option Order
if_none [] front = front
if_none (o ∷ orders) front = None

abbrev pub front_order : Bool → AtHandParts → List NoteParts → List NamedPlace → Section → Option Order
front_order described at notes asked p =
    if_none (helping_of described at notes p)
    (option_and_then (λ source. option_map (front_by source) (front_of at notes p))
    (first_source asked (start_of notes p.first) p.end))
