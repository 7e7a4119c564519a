-- Timecodes as they are asked for (SMPTE ST 12-1, time address): `HH:MM:SS:FF`, or `HH:MM:SS;FF` where labels are left
-- out.
use Rattle.std.specs.Prelude.{◌≡◌, ◌≤◌, ◌&&◌, ◌||◌, ◌==◌, ◌++◌, if◌then◌else◌, nat_lt, not, codes, length}
use Rattle.std.specs.Prelude.{ℕ, Bool, true, List, Option, Some, None}
use Rattle.std.specs.Char.{is_ascii_digit}
use Rattle.std.specs.Str.Parse.{digits_value}
use Rattle.std.specs.List.{list_all, slice_index, slice_range}
use Rattle.std.specs.Option.{option_and_then, option_map}
use Rattle.mxf_timed.specs.declared.timecode_word.TimecodeWord.{TimecodeWord}

-- Each is a digit, 0 to 9.
abbrev pub are_digits : List ℕ → Bool
are_digits text = list_all (λ c. is_ascii_digit c) text

-- So many digits spell the number.
pub record IsNumber (digits : List ℕ) (number : ℕ) : Type 0 where
  pub each : are_digits digits ≡ true
  pub value : digits_value 10 digits ≡ number

-- The text is the timecode: two digits each for hours, minutes and seconds, and two to five for the frames; `;` stands
-- before the frames exactly if labels are left out.
pub record IsWritten (text : List ℕ) (w : TimecodeWord) : Type 0 where
  pub hours : List ℕ
  pub minutes : List ℕ
  pub seconds : List ℕ
  pub frames : List ℕ
  pub text_is : text
      ≡ hours ++ (codes ":" ++ (minutes ++ (codes ":" ++ (seconds
      ++ ((if w.is_drop then codes ";" else codes ":") ++ frames)))))
  pub hours_are : IsNumber hours w.hours
  pub minutes_are : IsNumber minutes w.minutes
  pub seconds_are : IsNumber seconds w.seconds
  pub frames_are : IsNumber frames w.frames
  pub two_hours : length hours ≡ 2
  pub two_minutes : length minutes ≡ 2
  pub two_seconds : length seconds ≡ 2
  pub some_frames : 2 ≤ length frames
  pub few_frames : length frames ≤ 5

-- The number that digits spell; none where one isn't a digit.
abbrev pub number_in : List ℕ → Option ℕ
number_in text = if are_digits text then Some (digits_value 10 text) else None

-- The timecode of four numbers.
abbrev pub word_of : Bool → ℕ → ℕ → ℕ → ℕ → TimecodeWord
word_of is_drop hours minutes seconds frames = record {
  hours = hours;
  minutes = minutes;
  seconds = seconds;
  frames = frames;
  is_drop = is_drop;
}

-- The timecode that digits spell.
abbrev pub word_by : Bool → List ℕ → List ℕ → List ℕ → List ℕ → Option TimecodeWord
word_by is_drop hours minutes seconds frames =
    option_and_then (λ h. option_and_then (λ m. option_and_then (λ s. option_map (word_of is_drop h m s)
    (number_in frames)) (number_in seconds)) (number_in minutes)) (number_in hours)

-- Separators stand where they have to.
abbrev pub are_separated : List ℕ → Bool
are_separated text =
    slice_index text 2 == 58 && slice_index text 5 == 58 && (slice_index text 8 == 58 || slice_index text 8 == 59)

-- The timecode that a text says.
abbrev pub word_in : List ℕ → Option TimecodeWord
word_in text =
    if nat_lt (length text) 11 || nat_lt 14 (length text) || not (are_separated text) then None
    else word_by (slice_index text 8 == 59) (slice_range text 0 2) (slice_range text 3 5) (slice_range text 6 8)
    (slice_range text 9 (length text))
