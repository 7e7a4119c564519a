-- The lines of edit units (this project's profile; the fields of an entry are those of ST 377-1, Index Table Segment).
use Rattle.std.specs.Prelude.{◌≡◌, ℕ, ℤ, ◌+◌, ◌-◌, ◌==◌, if◌then◌else◌, Bool, true, false, List, [], ◌∷◌, ◌++◌, Option}
use Rattle.std.specs.Prelude.{None, Some, codes, count_by, filter, flat_map, length}
use Rattle.std.specs.Fmt.{signed_decimal}
use Rattle.std.specs.Option.{option_and_then, option_map}
use Rattle.mxf_clocks.specs.Clocks.{ClocksParts}
use Rattle.mxf_tracks.specs.Digits.{timecode_text}
use Rattle.mxf_timed.specs.Shown.{AreTimed, TimedParts, timecode_shown}
use Rattle.mxf_units.specs.Ranges.{needed_from}
use Rattle.mxf_units.specs.Units.{UnitsParts}
use Rattle.mxf_units.specs.Words.{unit_standing_name}
use Rattle.mxf_units.specs.declared.standing.UnitStanding.{UnitStanding}
use Rattle.mxf_units.specs.declared.standing.UnitStanding.TheVariants as standings
use Rattle.mxf_units.specs.declared.unit.EditUnit.{EditUnit}
use Rattle.mxf_units.specs.declared.unit.Extent.{Extent}
use Rattle.mxf_forms.specs.Forms.{Absent, Characters, Field, PrintedLine, Value, digits_or, field, known, known_member}
use Rattle.mxf_forms.specs.Forms.{line, number, word}
use Rattle.mxf_lines.specs.DescriptionLines.{word_if}
use Rattle.mxf_forms.specs.Hexadecimal.{hex_of}

-- How far away the unit is stored that is shown in the place of this one, or a dash.
abbrev pub temporal_value : Option ℤ → Value
temporal_value offset = digits_or signed_decimal (codes "-") offset

-- The two digits of the flags, or a dash.
abbrev pub flags_value : Option ℕ → Value
flags_value None = Absent (codes "-")
flags_value (Some flags) = Characters (hex_of (flags ∷ []))

-- From where up to where bytes lie.
abbrev pub extent_fields : Option Extent → List Field
extent_fields extent =
    known " " "start" "-" (option_map (λ e. e.start) extent)
    ∷ known " " "end" "-" (option_and_then (λ e. e.end) extent) ∷ []

-- What the entry of a unit says: its key frame, its place of display, and flags.
abbrev pub entry_fields : EditUnit → List Field
entry_fields u =
    known " key " "key" "-" u.key ∷ field (codes " temporal ") (codes "temporal") (temporal_value u.temporal)
    ∷ field (codes " flags ") (codes "flags") (flags_value u.flags) ∷ []

-- How many bytes an extent has, if its end is known.
abbrev pub extent_length : Option Extent → Option ℕ
extent_length extent = option_and_then (λ e. option_map (λ end. end - e.start) e.end) extent

-- The timecode that a unit shows, if timecodes are told; a dash where it shows none.
abbrev pub shown_fields : Option TimedParts → ℕ → List Field
shown_fields None unit = []
shown_fields (Some t) unit = word_if " at " "at" timecode_text (timecode_shown t unit) ∷ []

-- The line of a unit: its number, how its bytes stand, from where up to where they lie, what its entry says, which
-- timecode it shows, and in JSON how many bytes it has.
unfoldable pub unit_line : Option TimedParts → EditUnit → PrintedLine
unit_line shown u =
    line "unit" (number " " "unit" u.number ∷ word " " "standing" (unit_standing_name u.standing)
    ∷ (extent_fields u.extent
    ++ (entry_fields u ++ (shown_fields shown u.number ++ known_member "length" (extent_length u.extent) ∷ []))))

-- All bytes of the unit are held.
abbrev pub is_held : UnitStanding → Bool
is_held standings.Held = true
is_held _ = false

-- All bytes of the unit are held or at hand, and not all are held.
abbrev pub is_hand : UnitStanding → Bool
is_hand standings.Hand = true
is_hand _ = false

-- The number of units of which all bytes are held.
abbrev pub held_count : List EditUnit → ℕ
held_count units = count_by (λ u. is_held u.standing) units

-- The number of the others of which all bytes are held or at hand.
abbrev pub hand_count : List EditUnit → ℕ
hand_count units = count_by (λ u. is_hand u.standing) units

-- The last line: how many units there are, how many of them are held, how many others are at hand, and from which on
-- they need units.
unfoldable pub units_line : ℕ → ℕ → ℕ → ℕ → PrintedLine
units_line units held hand from =
    line "units" (number " " "units" units ∷ number " held " "held" held ∷ number " hand " "hand" hand
    ∷ number " from " "from" from ∷ [])

abbrev pub last_line : ℕ → List EditUnit → PrintedLine
last_line first units = units_line (length units) (held_count units) (hand_count units) (needed_from first units)

-- The lines of units, the first of which has this number.
abbrev pub unit_lines : Option TimedParts → ℕ → List EditUnit → List PrintedLine
unit_lines shown first units = flat_map (λ u. unit_line shown u ∷ []) units ++ last_line first units ∷ []

-- Timecodes are told exactly if there are clocks: those that so many units from a first one on show, by the clock of
-- their index.
abbrev pub AreToldTimes : UnitsParts → ℕ → ℕ → Option ClocksParts → Option TimedParts → Type 0
AreToldTimes u first count None shown = shown ≡ None
AreToldTimes u first count (Some clocks) None = ⊥
AreToldTimes u first count (Some clocks) (Some t) =
    AreTimed u (filter (λ r. r.index_sid == u.index_sid) clocks.runs) first count t

-- 0 if each unit is held or at hand, otherwise 1.
abbrev pub units_status : List EditUnit → ℕ
units_status units = if held_count units + hand_count units == length units then 0 else 1
