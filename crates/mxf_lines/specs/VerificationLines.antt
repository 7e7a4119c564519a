-- The lines of a reference beside sources, and the status that follows (this project's profile).
use denote.Bor.{Bor}
use Rattle.std.specs.Prelude.{ℕ, ◌==◌, ◌&&◌, ◌||◌, not, if◌then◌else◌, Bool, true, false, List, [], ◌∷◌, ◌++◌, codes}
use Rattle.std.specs.Prelude.{filter, flat_map, Option, None, Some}
use Rattle.std.specs.List.{list_all}
use Rattle.std.specs.Option.{option_map}
use Rattle.mxf_klv.specs.Parts.{NoteParts}
use Rattle.mxf_klv.specs.declared.piece.Stop.{Stop}
use Rattle.mxf_klv.specs.declared.piece.Stop.TheVariants.{End, Truncated}
use Rattle.mxf_catalogue.specs.declared.run.Run.{Run}
use Rattle.mxf_read.specs.declared.gathering.report.PieceReport.{PieceReport}
use Rattle.mxf_tracks.specs.Digits.{timecode_text}
use Rattle.mxf_timed.specs.Shown.{TimedParts, timecodes_shown}
use Rattle.mxf_verify.specs.Fixities.{VerifiedUnitsParts, fixity_name, is_verified, units_in}
use Rattle.mxf_verify.specs.TouchedUnits.{units_touched}
use Rattle.mxf_verify.specs.Verifications.{DifferingParts, VerificationParts, counts_of}
use Rattle.mxf_verify.specs.declared.verification.VerifiedCounts.{VerifiedCounts}
use Rattle.mxf_verify.specs.declared.verified_units.UnitRun.{UnitRun}
use Rattle.mxf_verify.specs.declared.unit_places.UnitSpan.{UnitSpan}
use Rattle.mxf_lines.specs.Answering.{stop_lines}
use Rattle.mxf_lines.specs.DescriptionLines.{word_if}
use Rattle.mxf_forms.specs.Forms.{Field, PrintedLine, known, line, line_of, number, word}
use Rattle.mxf_lines.specs.Lines.{note_fields}

-- The units that are lent, if some are asked for.
abbrev pub lent_units : Option (Bor VerifiedUnitsParts) → Option VerifiedUnitsParts
lent_units units = option_map (λ (u : Bor VerifiedUnitsParts). u.now) units

-- The first and the last unit of a span, or dashes.
abbrev pub span_fields : Option UnitSpan → List Field
span_fields span =
    known " units " "first" "-" (option_map (λ s. s.first) span)
    ∷ known " " "last" "-" (option_map (λ s. s.last) span) ∷ []

-- If units are asked for, the first and the last that a note has a byte of.
abbrev pub touched_fields : Option VerifiedUnitsParts → NoteParts → List Field
touched_fields None n = []
touched_fields (Some units) n = span_fields (units_touched units.places n)

-- The line of a note that differs: the source, what a note says, and the units that it has a byte of.
unfoldable pub differs_line : Option VerifiedUnitsParts → ℕ → NoteParts → PrintedLine
differs_line units source n =
    line "differs" (number " " "source" source ∷ (note_fields n ++ touched_fields units n))

-- The line of a note that wasn't compared: what a note says.
unfoldable pub cut_line : NoteParts → PrintedLine
cut_line n = line "cut" (note_fields n)

-- The line of a range of this name: where it begins and ends.
unfoldable pub range_line : List ℕ → Run → PrintedLine
range_line name r = line_of name name (number " " "start" r.start ∷ number " " "end" r.end ∷ []) []

-- The timecodes of the least and the greatest position that units from one up to another show, if timecodes are told.
abbrev pub ends_fields : Option TimedParts → ℕ → ℕ → List Field
ends_fields None first last = []
ends_fields (Some t) first last =
    word_if " at " "first-at" timecode_text (timecodes_shown t first last).first
    ∷ word_if " " "last-at" timecode_text (timecodes_shown t first last).last ∷ []

-- The line of units that stand alike: the first, the last, how they stand, and between which timecodes lies what they
-- show.
unfoldable pub unit_run_line : Option TimedParts → UnitRun → PrintedLine
unit_run_line shown r =
    line "units" (number " " "first" r.first ∷ number " " "last" r.last
    ∷ word " " "standing" (fixity_name r.fixity) ∷ ends_fields shown r.first r.last)

-- How many of the units are verified.
abbrev pub verified_in : VerifiedUnitsParts → ℕ
verified_in units = units_in (filter (λ r. is_verified r.fixity) units.runs)

-- How many packets and bytes were verified, of how many.
abbrev pub verified_fields : VerifiedCounts → List Field
verified_fields c =
    number " " "packets" c.packets ∷ number " of " "all-packets" c.all_packets ∷ number " packets " "bytes" c.bytes
    ∷ number " of " "all-bytes" c.all_bytes ∷ []

-- How many notes differ, how many weren't compared, and of how many bytes the reference says nothing.
abbrev pub other_fields : VerifiedCounts → List Field
other_fields c =
    number " bytes differs " "differs" c.differs ∷ number " cut " "cut" c.cut ∷ number " unknown " "unknown" c.unknown ∷ []

-- If units are asked for, how many of them are verified, of how many.
abbrev pub unit_count_fields : Option VerifiedUnitsParts → List Field
unit_count_fields None = []
unit_count_fields (Some units) =
    number " units " "units" (verified_in units) ∷ number " of " "all-units" (units_in units.runs) ∷ []

-- The last line: how much was verified.
unfoldable pub verified_line : VerifiedCounts → Option VerifiedUnitsParts → PrintedLine
verified_line c units = line "verified" (verified_fields c ++ (other_fields c ++ unit_count_fields units))

-- A line for each note that differs.
abbrev pub differing_lines : Option VerifiedUnitsParts → List DifferingParts → List PrintedLine
differing_lines units differing = flat_map (λ d. differs_line units d.source d.note ∷ []) differing

-- A line for each note that wasn't compared.
abbrev pub cut_lines : List NoteParts → List PrintedLine
cut_lines cut = flat_map (λ n. cut_line n ∷ []) cut

-- A line for each range of this name.
abbrev pub range_lines : List ℕ → List Run → List PrintedLine
range_lines name ranges = flat_map (λ r. range_line name r ∷ []) ranges

-- The runs of the units, if some are asked for.
abbrev pub runs_of : Option VerifiedUnitsParts → List UnitRun
runs_of None = []
runs_of (Some units) = units.runs

-- The lines of a verification by a reference whose pieces have these reports, and of the units that are asked for: of
-- each piece that doesn't end with a packet, each note that differs, each that wasn't compared, each range that the
-- reference says nothing of, each of its ranges that wasn't verified, units that stand alike, and the last.
abbrev pub verification_lines : List PieceReport → VerificationParts → Option VerifiedUnitsParts → Option TimedParts
    → List PrintedLine
verification_lines reports v units shown =
    flat_map stop_lines reports
    ++ (differing_lines units v.differing
    ++ (cut_lines v.cut
    ++ (range_lines (codes "unknown") v.unknown
    ++ (range_lines (codes "unverified") v.unverified
    ++ (flat_map (λ r. unit_run_line shown r ∷ []) (runs_of units)
    ++ verified_line (counts_of v) units ∷ [])))))

-- A piece that stops so was noted up to its end: it ends with a packet, or with one that is cut.
abbrev pub is_noted : Stop → Bool
is_noted End = true
is_noted (Truncated at) = true
is_noted _ = false

abbrev pub has_none : List Run → Bool
has_none [] = true
has_none (r ∷ runs) = false

-- All that is asked for was verified: the units; or without units all bytes of the reference, and the sources have no
-- other.
abbrev pub is_all_verified : VerificationParts → Option VerifiedUnitsParts → Bool
is_all_verified v None = has_none v.unverified && has_none v.unknown
is_all_verified v (Some units) = verified_in units == units_in units.runs

-- Nothing differs, something is the same, and the pieces of the reference were noted up to their ends; if all is to be
-- verified, that was.
abbrev pub is_good : List PieceReport → VerificationParts → Option VerifiedUnitsParts → Bool → Bool
is_good reports v units is_whole =
    list_all (λ r. is_noted r.report.stop) reports && v.damaged == 0 && not (v.packets == 0)
    && (not is_whole || is_all_verified v units)

-- 0 if it is so, otherwise 1.
abbrev pub verification_status : List PieceReport → VerificationParts → Option VerifiedUnitsParts → Bool → ℕ
verification_status reports v units is_whole = if is_good reports v units is_whole then 0 else 1
