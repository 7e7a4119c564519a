-- What a content answers to each question for which lines are printed, and contents that print the same (this project's
-- profile).
use Rattle.std.specs.Prelude.{ℕ, ◌≡◌, ◌*◌, ◌+◌, ◌-◌, if◌then◌else◌, Bool, List, ◌∷◌, ◌++◌, Option, None, Some}
use Rattle.mxf_klv.specs.Parts.{NoteParts}
use Rattle.mxf_references.specs.Resolved.{resolved_of}
use Rattle.mxf_tracks.specs.Walk.{tracks_from_resolved}
use Rattle.mxf_clocks.specs.Clocks.{ClocksParts, clocks_of}
use Rattle.mxf_places.specs.AtHand.{AtHandParts}
use Rattle.mxf_read.specs.declared.gathering.report.PieceReport.{PieceReport}
use Rattle.mxf_map.specs.Map.{IsMap, MapParts}
use Rattle.mxf_map.specs.declared.extent.MapExtent.{MapExtent}
use Rattle.mxf_units.specs.Units.{UnitsParts}
use Rattle.mxf_units.specs.declared.range.UnitRange.{UnitRange}
use Rattle.mxf_timed.specs.Shown.{TimedParts}
use Rattle.mxf_partial.specs.Many.{AreMany, ManyParts}
use Rattle.mxf_partial.specs.Orders.{IsUnitPlan, UnitPlanParts}
use Rattle.mxf_verify.specs.Fixities.{AreVerifiedUnits, VerifiedUnitsParts}
use Rattle.mxf_verify.specs.Renewing.{dropped_of, renewed_of}
use Rattle.mxf_verify.specs.Verifications.{IsVerification, VerificationParts}
use Rattle.mxf_verify.specs.Verifying.{Source}
use Rattle.mxf_asked.specs.declared.ask.Ask.{Ask}
use Rattle.mxf_forms.specs.declared.form.Form.{Form}
use Rattle.mxf_lines.specs.Answering.{answer_lines, answer_status}
use Rattle.mxf_forms.specs.Forms.{PrintedLine, lines_in}
use Rattle.mxf_lines.specs.MapLines.{AreToldExtents, map_lines}
use Rattle.mxf_lines.specs.RenewalLines.{renewal_lines}
use Rattle.mxf_lines.specs.SourceLines.{sources_lines, sources_status}
use Rattle.mxf_lines.specs.UnitLines.{AreToldTimes, unit_lines, units_status}
use Rattle.mxf_lines.specs.UnitPlanLines.{asked_of, many_plan_lines, many_plan_status, told_units, unit_plan_lines}
use Rattle.mxf_lines.specs.UnitPlanLines.{unit_plan_status, units_at}
use Rattle.mxf_lines.specs.VerificationLines.{verification_lines, verification_status}

-- Edit units of a reference: those from one up to another of an index, by what is at hand beside the reference, and
-- whether it is told which timecodes they show.
pub record AskedUnits : Type 0 where
  pub index_sid : ℕ
  pub from : ℕ
  pub to : ℕ
  pub at : AtHandParts
  pub timed : Bool

-- A question that is asked of a content, with all else that it is asked of.
pub data Question : Type 0 where
  -- What a run is asked for, of pieces with these reports and of what is at hand.
  Answer : Ask → List PieceReport → AtHandParts → Question
  -- A map in a number of columns and rows, and whether the ranges that stand alike are told.
  Map : ℕ → ℕ → Bool → AtHandParts → Question
  -- Where the units of a range lie, by the index of an IndexSID, and whether it is told which timecodes they show.
  Units : ℕ → UnitRange → Bool → AtHandParts → Question
  -- What is to be restored for the units of a range, by the index of an IndexSID.
  UnitPlan : ℕ → UnitRange → AtHandParts → Question
  -- The same for units from a first one up to a last one that are more than are told one by one.
  ManyPlan : ℕ → ℕ → ℕ → AtHandParts → Question
  -- What sources verify of the content: all of it or some of its units, and whether all is to be verified.
  Verification : List Source → List PieceReport → Option AskedUnits → Bool → Question
  -- How the content stands beside those of the sources before it and after it, which have names.
  Sources : List (List NoteParts) → List (List NoteParts) → List (List ℕ) → Question
  -- What the content becomes if this one was read anew, and whether that is saved.
  Renewal : List NoteParts → Bool → Question

-- Lines, and a status if the call answers one.
pub record Printed : Type 0 where
  pub lines : List PrintedLine
  pub status : Option ℕ

-- The clocks of a content, if timecodes are told.
abbrev pub clocks_told : Bool → List NoteParts → Option ClocksParts
clocks_told timed content =
    if timed then Some (clocks_of content (tracks_from_resolved content (resolved_of content))) else None

-- The units of a content that are asked for.
abbrev pub units_told : AskedUnits → List NoteParts → UnitsParts
units_told asked content = record {
  known = record { notes = content; at = asked.at };
  index_sid = asked.index_sid;
}

-- The timecodes that are told of them.
abbrev pub AreTimes : Option AskedUnits → List NoteParts → Option TimedParts → Type 0
AreTimes None content shown = shown ≡ None
AreTimes (Some asked) content shown =
    AreToldTimes (units_told asked content) asked.from (asked.to + 1 - asked.from) (clocks_told asked.timed content) shown

-- What is told of the units that are asked for, by the verification of a reference with this content.
abbrev pub AreTold : Option AskedUnits → List NoteParts → VerificationParts → Option VerifiedUnitsParts → Type 0
AreTold None content v told = told ≡ None
AreTold (Some asked) content v None = ⊥
AreTold (Some asked) content v (Some units) =
    AreVerifiedUnits v.verified v.altered (units_told asked content) asked.from asked.to units

-- This is printed of the content for the question.
abbrev pub IsPrinted : Question → List NoteParts → Printed → Type 0
IsPrinted (Answer ask reports at) content printed =
    (printed.lines ≡ answer_lines ask reports at content)
    × (printed.status ≡ Some (answer_status ask reports at content))
IsPrinted (Map columns rows with_extents at) content printed =
    (m : MapParts) × (extents : List MapExtent) × IsMap (record { notes = content; at = at }) (columns * rows) m
    × AreToldExtents (record { notes = content; at = at }) m.end with_extents extents
    × (printed.lines ≡ map_lines columns m extents) × (printed.status ≡ None)
IsPrinted (Units index range timed at) content printed =
    (shown : Option TimedParts)
    × AreToldTimes (asked_of index range at content).units range.first range.count (clocks_told timed content) shown
    × (printed.lines ≡ unit_lines shown range.first (told_units (asked_of index range at content)))
    × (printed.status ≡ Some (units_status (told_units (asked_of index range at content))))
IsPrinted (UnitPlan index range at) content printed =
    (p : UnitPlanParts) × IsUnitPlan (asked_of index range at content) p
    × (printed.lines ≡ unit_plan_lines (asked_of index range at content) p)
    × (printed.status ≡ Some (unit_plan_status (asked_of index range at content) p))
IsPrinted (ManyPlan index first last at) content printed =
    (m : ManyParts) × (p : UnitPlanParts) × AreMany (units_at index at content) first last (Some m)
    × IsUnitPlan m.wanted p × (printed.lines ≡ many_plan_lines m p) × (printed.status ≡ Some (many_plan_status m p))
IsPrinted (Verification sources reports asked is_whole) content printed =
    (v : VerificationParts) × (told : Option VerifiedUnitsParts) × (shown : Option TimedParts)
    × IsVerification content sources v × AreTold asked content v told × AreTimes asked content shown
    × (printed.lines ≡ verification_lines reports v told shown)
    × (printed.status ≡ Some (verification_status reports v told is_whole))
IsPrinted (Sources before after names) content printed =
    (printed.lines ≡ sources_lines (before ++ content ∷ after) names)
    × (printed.status ≡ Some (sources_status (before ++ content ∷ after)))
IsPrinted (Renewal new is_saved) content printed =
    (printed.lines ≡ renewal_lines is_saved (renewed_of content new) (dropped_of content new))
    × (printed.status ≡ None)

-- Whatever the question, what is printed of the one content has in each form the bytes of what is printed of the other,
-- and its status.
pub record PrintSame (m n : List NoteParts) : Type 0 where
  pub bytes : (question : Question) (form : Form) (a b : Printed) → IsPrinted question m a → IsPrinted question n b
      → lines_in form a.lines ≡ lines_in form b.lines
  pub status : (question : Question) (a b : Printed) → IsPrinted question m a → IsPrinted question n b
      → a.status ≡ b.status
