-- The front of what is looked for of a section, if edit units ask for a partition there (this project's profile).
use Rattle.std.specs.Prelude.{◌≡◌, ◌↔◌, ◌≢◌, ℕ, ◌+◌, ◌≤◌, ◌⊎◌, false, IsTrue, min, Option, None, Some, unwrap_or, List}
use Rattle.std.specs.Option.{option_map}
use Rattle.std.specs.List.{slice_get}
use Rattle.mxf_klv.specs.Parts.{NoteParts}
use Rattle.mxf_klv.specs.Note.{greatest_end}
use Rattle.mxf_catalogue.specs.Runs.{LiesIn}
use Rattle.mxf_places.specs.AtHand.{AtHandParts}
use Rattle.mxf_places.specs.declared.at_hand.OffsetRange.{OffsetRange}
use Rattle.mxf_places.specs.declared.reason.Reason.TheVariants.{Gap}
use Rattle.mxf_restore.specs.Orders.{IsAsked, IsPart, IsStartOf}
use Rattle.mxf_restore.specs.Plan.{LiesInOrder, asked_of, part_order, parts_of}
use Rattle.mxf_places.specs.Heads.{start_of}
use Rattle.mxf_restore.specs.declared.section.Section.{Section}
use Rattle.mxf_restore.specs.declared.plan.Order.{Order}

-- All from a start on; no pack says what lies there.
abbrev pub all_from : ℕ → Order
all_from start = record { reason = Gap; start = start; end = None; source = None; inside = false; again = false }

-- What is looked for of a section is what is asked for, or all from its start on if nothing is asked for.
abbrev pub IsLookedFor : AtHandParts → List NoteParts → Section → Order → Type 0
IsLookedFor at notes p o =
    IsAsked at notes p o
    ⊎ (((asked : Order) → IsAsked at notes p asked → ⊥)
    × ((start : ℕ) × IsStartOf notes p.first start × (o ≡ all_from start)))

-- The front of a section begins where the first part of what is looked for does, for its reason and source, and ends
-- 65,536 bytes after that or where the part does, whichever is less; a part without an end goes up to the greatest end
-- of a packet, since no byte of a file lies there. It is inside of a packet if it begins elsewhere than what is looked
-- for, and asked for again if all its bytes were handed in.
pub record IsFront (at : AtHandParts) (notes : List NoteParts) (p : Section) (o : Order) : Type 0 where
  pub asked : Order
  pub is_asked : IsLookedFor at notes p asked
  pub part : OffsetRange
  pub is_part : IsPart at p asked part.start part.end
  pub first : (start : ℕ) (end : Option ℕ) → IsPart at p asked start end → part.start ≤ start
  pub reason : o.reason ≡ asked.reason
  pub source : o.source ≡ asked.source
  pub start : o.start ≡ part.start
  pub end : o.end ≡ Some (min (part.start + 65536) (unwrap_or part.end greatest_end))
  pub inside : IsTrue o.inside ↔ (o.start ≢ asked.start)
  pub again : IsTrue o.again ↔ ((x : ℕ) → LiesInOrder o x → LiesIn at.given x)

-- The same as functions. A law ties them to the relation.

abbrev pub looked_for : AtHandParts → List NoteParts → Section → Order
looked_for at notes p = unwrap_or (asked_of at notes p) (all_from (start_of notes p.first))

-- The first bytes of a range, 65,536 at most.
abbrev pub front_range : OffsetRange → OffsetRange
front_range r = record { start = r.start; end = Some (min (r.start + 65536) (unwrap_or r.end greatest_end)) }

-- The order of the first bytes of the first part of what is looked for.
abbrev pub front_by : AtHandParts → Section → Order → Option Order
front_by at p o = option_map (λ r. part_order at o (front_range r)) (slice_get (parts_of at p o) 0)

unfoldable pub front_of : AtHandParts → List NoteParts → Section → Option Order
front_of at notes p = front_by at p (looked_for at notes p)
