-- The lines of a plan for edit units (this project's profile).
use Rattle.std.specs.Prelude.{◌≢◌, ℕ, ◌+◌, ◌==◌, ◌&&◌, ◌||◌, Bool, not, if◌then◌else◌, Option, None, List, [], ◌∷◌}
use Rattle.std.specs.Prelude.{◌++◌, count_by, flat_map, is_none, length, sum_by}
use Rattle.std.specs.List.{list_any}
use Rattle.mxf_klv.specs.Rising.{In}
use Rattle.mxf_klv.specs.Parts.{NoteParts}
use Rattle.mxf_places.specs.AtHand.{AtHandParts}
use Rattle.mxf_restore.specs.Disputes.{AreDisputes, disputes_of}
use Rattle.mxf_restore.specs.declared.disputes.Disputes.{Disputes}
use Rattle.mxf_units.specs.Ranges.{units_from}
use Rattle.mxf_units.specs.Units.{UnitsParts}
use Rattle.mxf_units.specs.declared.range.UnitRange.{UnitRange}
use Rattle.mxf_units.specs.declared.standing.UnitStanding.TheVariants as standings
use Rattle.mxf_units.specs.declared.unit.EditUnit.{EditUnit}
use Rattle.mxf_partial.specs.Many.{ManyParts}
use Rattle.mxf_partial.specs.Orders.{UnitPlanParts}
use Rattle.mxf_partial.specs.Wanted.{WantedParts, notes_of, wanted_in, wanted_units}
use Rattle.mxf_forms.specs.Forms.{PrintedLine}
use Rattle.mxf_lines.specs.Lines.{lines_where}
use Rattle.mxf_lines.specs.PlanLines.{disputes_line, ordered_bytes, planned_line, restore_line}
use Rattle.mxf_lines.specs.UnitLines.{is_hand, is_held, last_line, units_line, units_status}

-- The units of a range that are wanted of an index.
abbrev pub wanted_of : UnitsParts → UnitRange → WantedParts
wanted_of units range = wanted_in units range.first range.count

-- The units of the index of an IndexSID, by what is at hand and a content.
abbrev pub units_at : ℕ → AtHandParts → List NoteParts → UnitsParts
units_at index at content = record { known = record { notes = content; at = at }; index_sid = index }

-- Those of a range that are wanted.
abbrev pub asked_of : ℕ → UnitRange → AtHandParts → List NoteParts → WantedParts
asked_of index range at content = wanted_of (units_at index at content) range

-- Those that are asked for, without the key frames before them.
abbrev pub told_units : WantedParts → List EditUnit
told_units w = units_from w.units w.first w.count

-- Not all bytes of the unit are held or at hand.
pub record IsOpen (u : EditUnit) : Type 0 where
  pub not_held : u.standing ≢ standings.Held
  pub not_hand : u.standing ≢ standings.Hand

-- These are the disputes of the content, and a wanted unit is open: a dispute elsewhere is no matter of units that are
-- there.
pub record AreToldDisputes (w : WantedParts) (d : Disputes) : Type 0 where
  pub disputes : AreDisputes (notes_of w) d
  pub waiting : (u : EditUnit) × In u (wanted_units w) × IsOpen u

-- The same as functions. A law ties them to the relation.

abbrev pub is_open : EditUnit → Bool
is_open u = not (is_held u.standing || is_hand u.standing)

abbrev pub told_disputes : WantedParts → Option Disputes
told_disputes w = if list_any is_open (wanted_units w) then disputes_of (notes_of w) else None

-- The lines of a plan for units: of each order, of the disputes, if they are told, of all orders, and last of the units
-- that are asked for.
abbrev pub told_plan_lines : Option Disputes → PrintedLine → UnitPlanParts → List PrintedLine
told_plan_lines disputes last p =
    flat_map (λ o. restore_line o ∷ []) p.orders
    ++ (lines_where (λ d. disputes_line d ∷ []) disputes
    ++ (planned_line (length p.orders) (sum_by ordered_bytes p.orders) (count_by (λ o. is_none o.end) p.orders) p.end
    ∷ last ∷ []))

abbrev pub unit_plan_lines : WantedParts → UnitPlanParts → List PrintedLine
unit_plan_lines w p = told_plan_lines (told_disputes w) (last_line w.first (told_units w)) p

-- Not all of many units are held or at hand, as far as that is known.
abbrev pub are_waiting : ManyParts → Bool
are_waiting m = not (m.counts.held + m.counts.hand == m.wanted.count)

-- The disputes, unless all of many units are held or at hand.
abbrev pub disputes_of_many : ManyParts → Option Disputes
disputes_of_many m = if are_waiting m then disputes_of (notes_of m.wanted) else None

-- The same lines of many units; the last has how many of them are held and at hand, as far as that is known.
abbrev pub many_plan_lines : ManyParts → UnitPlanParts → List PrintedLine
many_plan_lines m p =
    told_plan_lines (disputes_of_many m) (units_line m.wanted.count m.counts.held m.counts.hand m.wanted.first) p

-- The lines of a plan that orders header metadata alone: of each order, and of all.
abbrev pub order_lines : UnitPlanParts → List PrintedLine
order_lines p =
    flat_map (λ o. restore_line o ∷ []) p.orders
    ++ planned_line (length p.orders) (sum_by ordered_bytes p.orders) (count_by (λ o. is_none o.end) p.orders) p.end ∷ []

-- 0 if there is nothing to restore, no disputes are told, and each unit that is asked for is held or at hand, otherwise
-- 1.
abbrev pub unit_plan_status : WantedParts → UnitPlanParts → ℕ
unit_plan_status w p =
    if length p.orders == 0 && is_none (told_disputes w) then units_status (told_units w) else 1

-- The same of many units.
abbrev pub many_plan_status : ManyParts → UnitPlanParts → ℕ
many_plan_status m p =
    if length p.orders == 0 && is_none (disputes_of_many m)
    then (if m.counts.held + m.counts.hand == m.wanted.count then 0 else 1) else 1
