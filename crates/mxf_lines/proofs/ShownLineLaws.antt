-- Lines with the timecodes that units show: two accounts of the same print the same.
use Rattle.mxf_views.proofs.Common.{◌≡◌, ◌∙◌, ◌==◌, ◌++◌, ℕ, List, [], ◌∷◌, Option, None, Some, ap, flat_map, sym}
use Rattle.std.specs.Prelude.{filter}
use Rattle.mxf_clocks.specs.Clocks.{ClocksParts}
use Rattle.mxf_clocks.specs.Runs.{RunParts}
use Rattle.mxf_tracks.specs.Digits.{timecode_text}
use Rattle.mxf_tracks.specs.declared.timecode.Timecode.{Timecode}
use Rattle.mxf_units.specs.Units.{UnitsParts}
use Rattle.mxf_units.specs.Words.{unit_standing_name}
use Rattle.mxf_units.specs.declared.unit.EditUnit.{EditUnit}
use Rattle.mxf_timed.specs.Shown.{TimedParts}
use Rattle.mxf_timed.specs.declared.timecodes.ShownEnds.{ShownEnds}
use Rattle.mxf_timed.proofs.TimecodeLaws.{ends-same, timecode-same}
use Rattle.mxf_verify.specs.Fixities.{fixity_name}
use Rattle.mxf_verify.specs.declared.verified_units.UnitRun.{UnitRun}
use Rattle.mxf_forms.specs.Forms.{Field, known_member, line, number, word}
use Rattle.mxf_lines.specs.DescriptionLines.{word_if}
use Rattle.mxf_lines.specs.UnitLines.{AreToldTimes, entry_fields, extent_fields, extent_length, last_line, shown_fields}
use Rattle.mxf_lines.specs.UnitLines.{unit_line, unit_lines}
use Rattle.mxf_lines.specs.VerificationLines.{ends_fields, unit_run_line}

-- The runs of the clock of an index.
abbrev clock_of : ClocksParts → ℕ → List RunParts
clock_of clocks index = filter (λ r. r.index_sid == index) clocks.runs

module _ (u : UnitsParts) (first count : ℕ) where
  shown_same : (clocks : Option ClocksParts) (a b : Option TimedParts) → AreToldTimes u first count clocks a
      → AreToldTimes u first count clocks b → (unit : ℕ) → shown_fields a unit ≡ shown_fields b unit
  shown_same None a b p q unit = ap (λ (s : Option TimedParts). shown_fields s unit) (p ∙ sym q)
  shown_same (Some c) None b p q unit = absurd p
  shown_same (Some c) (Some s) None p q unit = absurd q
  shown_same (Some c) (Some s) (Some t) p q unit = ap
      (λ (o : Option Timecode). word_if " at " "at" timecode_text o ∷ [])
      (timecode-same u (clock_of c u.index_sid) first count s t p q unit)

  ends_same : (clocks : Option ClocksParts) (a b : Option TimedParts) → AreToldTimes u first count clocks a
      → AreToldTimes u first count clocks b → (from to : ℕ) → ends_fields a from to ≡ ends_fields b from to
  ends_same None a b p q from to = ap (λ (s : Option TimedParts). ends_fields s from to) (p ∙ sym q)
  ends_same (Some c) None b p q from to = absurd p
  ends_same (Some c) (Some s) None p q from to = absurd q
  ends_same (Some c) (Some s) (Some t) p q from to = ap (λ (e : ShownEnds).
      word_if " at " "first-at" timecode_text e.first ∷ word_if " " "last-at" timecode_text e.last ∷ [])
      (ends-same u (clock_of c u.index_sid) first count s t p q from to)

line_same : (a b : Option TimedParts) (v : EditUnit) → shown_fields a v.number ≡ shown_fields b v.number
    → unit_line a v ≡ unit_line b v
unfolding unit_line
line_same a b v same = ap (λ (fields : List Field). line "unit" (number " " "unit" v.number
    ∷ word " " "standing" (unit_standing_name v.standing) ∷ (extent_fields v.extent
    ++ (entry_fields v ++ (fields ++ known_member "length" (extent_length v.extent) ∷ []))))) same

run_same : (a b : Option TimedParts) (r : UnitRun) → ends_fields a r.first r.last ≡ ends_fields b r.first r.last
    → unit_run_line a r ≡ unit_run_line b r
unfolding unit_run_line
run_same a b r same = ap (λ (fields : List Field). line "units" (number " " "first" r.first ∷ number " " "last" r.last
    ∷ word " " "standing" (fixity_name r.fixity) ∷ fields)) same

module _ (u : UnitsParts) (first count : ℕ) (clocks : Option ClocksParts) (a b : Option TimedParts)
    (one : AreToldTimes u first count clocks a) (other : AreToldTimes u first count clocks b) where
  pub same_lines : (from : ℕ) (units : List EditUnit) → unit_lines a from units ≡ unit_lines b from units
  same_lines from units = λ i.
      flat_map (λ v. line_same a b v (shown_same u first count clocks a b one other v.number) i ∷ []) units
      ++ last_line from units ∷ []

  pub same_runs : (runs : List UnitRun)
      → flat_map (λ r. unit_run_line a r ∷ []) runs ≡ flat_map (λ r. unit_run_line b r ∷ []) runs
  same_runs runs = λ i.
      flat_map (λ r. run_same a b r (ends_same u first count clocks a b one other r.first r.last) i ∷ []) runs
