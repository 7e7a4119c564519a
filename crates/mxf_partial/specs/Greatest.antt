-- The greatest offsets of streams that ending segments of an index give (this project's profile).
use Rattle.std.specs.Prelude.{◌≡◌, ◌≢◌, ℕ, ◌≤◌, ◌⊎◌, max, Option, None, Some, List, ◌++◌, ◌∷◌, []}
use Rattle.mxf_klv.specs.Rising.{In}
use Rattle.mxf_sets.specs.Segment.{SegmentParts}
use Rattle.mxf_sets.specs.Offset.{stream_offset}
use Rattle.mxf_views.specs.Places.{SegmentAtParts}
use Rattle.mxf_units.specs.LastUnits.{IsEndless}
use Rattle.mxf_units.specs.Units.{UnitsParts}
use Rattle.mxf_partial.specs.InStreams.{IsInOrder}
use Rattle.mxf_partial.specs.Streams.{IsEndingPlace}
use Rattle.mxf_partial.specs.declared.greatest.GreatestPlace.{GreatestPlace}

-- The greater of two numbers, if there are any.
abbrev pub greater : Option ℕ → Option ℕ → Option ℕ
greater None y = y
greater (Some x) None = Some x
greater (Some x) (Some y) = Some (max x y)

-- No offset is given by the segment.
abbrev pub GivesNone : SegmentParts → Type 0
GivesNone s = (unit offset : ℕ) → stream_offset s unit ≢ Some offset

-- The greatest offset that a segment gives a unit.
pub record IsGreatestOf (s : SegmentParts) (greatest : ℕ) : Type 0 where
  pub unit : ℕ
  pub given : stream_offset s unit ≡ Some greatest
  pub others : (unit offset : ℕ) → stream_offset s unit ≡ Some offset → offset ≤ greatest

-- The greatest offset that a segment gives has been added, if it ends and gives one.
abbrev pub HasAdded : SegmentAtParts → List GreatestPlace → List GreatestPlace → Type 0
HasAdded s places more =
    ((more ≡ places) × (¬ IsEndless s.segment → GivesNone s.segment))
    ⊎ ((greatest : ℕ) × (more ≡ places ++ record { body_sid = s.segment.numbers.body_sid; offset = greatest } ∷ [])
    × (¬ IsEndless s.segment) × IsGreatestOf s.segment greatest)

-- Offsets that ending segments give, in their order, with the greatest one of each.
pub record AreGreatest (u : UnitsParts) (places : List GreatestPlace) : Type 0 where
  pub order : IsInOrder (λ g. g.body_sid) (λ g. 0) (λ g. g.offset) places
  pub given : (g : GreatestPlace) → In g places → IsEndingPlace u g.body_sid g.offset
  pub reached : (body_sid offset : ℕ) → IsEndingPlace u body_sid offset
      → (g : GreatestPlace) × In g places × (g.body_sid ≡ body_sid) × (offset ≤ g.offset)
