-- The positions that have a timecode (labels as in SMPTE ST 12-1; which words fit which runs, and how far a run is
-- asked, is this project's profile). A position is an edit unit as it is shown, counted from 0.
use Rattle.std.specs.Prelude.{◌≡◌, ◌↔◌, ◌+◌, ◌-◌, ◌*◌, ◌/◌, ◌%◌, ◌<◌, ◌≤◌, ℕ, Bool, true, List, None}
use Rattle.mxf_klv.specs.Rising.{In}
use Rattle.mxf_timed.specs.declared.timecode_word.TimecodeWord.{TimecodeWord}
use Rattle.mxf_views.specs.Places.{greatest_unit}
use Rattle.mxf_tracks.specs.Timecodes.{IsLabel, labels_of_day, number_of}
use Rattle.mxf_tracks.specs.declared.timecode.Timecode.{Timecode}
use Rattle.mxf_clocks.specs.Runs.{RunParts, has_position}
use Rattle.mxf_timed.specs.declared.positions.ShownAt.{ShownAt}
use Rattle.mxf_timed.specs.declared.positions.ShownAt.TheVariants.{Nowhere, At, Several}

-- The word as a label.
abbrev pub label_of : TimecodeWord → Bool → Timecode
label_of w is_drop = record {
  hours = w.hours;
  minutes = w.minutes;
  seconds = w.seconds;
  frames = w.frames;
  is_drop = is_drop;
}

-- The word is a label of a day at the base, and of one that leaves labels out if the word says so.
pub record Fits (base : ℕ) (is_drop : Bool) (w : TimecodeWord) : Type 0 where
  pub label : IsLabel base (label_of w is_drop)
  pub drop : w.is_drop ≡ true → is_drop ≡ true

-- The number of a position of a run, counted on over midnight.
abbrev pub counted_at : RunParts → ℕ → ℕ
counted_at r position =
    r.number + (r.passed + (position - r.position) * r.step.numerator) / r.step.denominator

-- A number of the run, counted on over midnight, has the word as its label. A run without end is asked for its first
-- day.
pub record IsAsked (r : RunParts) (w : TimecodeWord) (number : ℕ) : Type 0 where
  pub fits : Fits r.base r.is_drop w
  pub label : number % labels_of_day r.base r.is_drop ≡ number_of r.base (label_of w r.is_drop)
  pub first_day : r.count ≡ None → number < r.number + labels_of_day r.base r.is_drop

-- The positions of the run with the number, up to the greatest that can be asked for, are those from the first up to
-- the last.
pub record IsRangeAt (r : RunParts) (number first last : ℕ) : Type 0 where
  pub some : first ≤ last
  pub each : (p : ℕ) → ((first ≤ p) × (p ≤ last))
      ↔ ((has_position r p ≡ true) × (p ≤ greatest_unit) × (counted_at r p ≡ number))

-- They have a number of the run that the word asks for.
pub record IsRangeOf (r : RunParts) (w : TimecodeWord) (first last : ℕ) : Type 0 where
  pub number : ℕ
  pub asked : IsAsked r w number
  pub range : IsRangeAt r number first last

-- The same of one of the runs.
pub record IsRange (runs : List RunParts) (w : TimecodeWord) (first last : ℕ) : Type 0 where
  pub run : RunParts
  pub held : In run runs
  pub range : IsRangeOf run w first last

-- Two ranges, and they aren't one.
pub record AreTwo (Range : ℕ → ℕ → Type 0) : Type 0 where
  pub first : ℕ
  pub last : ℕ
  pub one : Range first last
  pub other_first : ℕ
  pub other_last : ℕ
  pub other : Range other_first other_last
  pub differ : ¬ ((first ≡ other_first) × (last ≡ other_last))

-- The answer is the only range, or says that there is none, or more than one.
abbrev pub IsAnswer : (ℕ → ℕ → Type 0) → ShownAt → Type 0
IsAnswer Range Nowhere = (first last : ℕ) → ¬ Range first last
IsAnswer Range (At first last) =
    Range first last × ((f l : ℕ) → Range f l → (f ≡ first) × (l ≡ last))
IsAnswer Range Several = AreTwo Range
