-- Timecodes: the labels that number the frames of a day (SMPTE ST 12-1, time address and drop frame compensation).
use Rattle.std.specs.Prelude.{◌≡◌, ◌≢◌, ◌==◌, ◌+◌, ◌-◌, ◌*◌, ◌/◌, ◌%◌, ◌<◌, ◌&&◌, ◌||◌, ◌⊎◌, ℕ, ℤ, pos, Bool, true}
use Rattle.std.specs.Prelude.{if◌then◌else◌, unsigned_abs, Option, Some, None, MatchOption}
use Rattle.std.specs.Int.{int_rem_euclid}
use Rattle.mxf_tracks.specs.declared.timecode.Timecode.{Timecode}

-- Labels are left out at the bases 30 and 60 alone.
abbrev pub drops : ℕ → Bool → Bool
drops base is_drop = is_drop && (base == 30 || base == 60)

-- The whole minutes of a label since midnight.
abbrev pub minutes_of : Timecode → ℕ
minutes_of t = t.hours * 60 + t.minutes

-- Drop frame leaves out the first labels of each minute but each tenth: 2 at base 30, 4 at base 60.
abbrev pub IsLeftOut : ℕ → Timecode → Type 0
IsLeftOut base t =
    (t.is_drop ≡ true) × (t.seconds ≡ 0) × (t.frames < base / 15) × (t.minutes % 10 ≢ 0)

-- A label of a day at a base of frames a second.
pub record IsLabel (base : ℕ) (t : Timecode) : Type 0 where
  pub hours : t.hours < 24
  pub minutes : t.minutes < 60
  pub seconds : t.seconds < 60
  pub frames : t.frames < base
  pub bases : t.is_drop ≡ true → (base ≡ 30) ⊎ (base ≡ 60)
  pub kept : ¬ IsLeftOut base t

-- How many labels drop frame leaves out before this one since midnight.
abbrev pub left_out_before : ℕ → Timecode → ℕ
left_out_before base t = (base / 15) * (minutes_of t - minutes_of t / 10)

-- The number of a label: how many come before it since midnight.
abbrev pub number_of : ℕ → Timecode → ℕ
number_of base t =
    let counted = (minutes_of t * 60 + t.seconds) * base + t.frames in
    if t.is_drop then counted - left_out_before base t else counted

-- How many labels a day has: of its 1440 minutes 144 are tenth ones.
abbrev pub labels_of_day : ℕ → Bool → ℕ
labels_of_day base is_drop = if is_drop then 86400 * base - (base / 15) * 1296 else 86400 * base

-- The number within the day of a number of frames since midnight: below 0 it is of the day before.
abbrev pub number_in_day : ℤ → ℕ → Bool → ℕ
number_in_day number base is_drop = unsigned_abs (int_rem_euclid number (pos (labels_of_day base is_drop)))

-- Of this timecode all is said: there is none at base 0; otherwise it is the label of the day with that number.
abbrev pub IsTimecodeOf : ℤ → ℕ → Bool → Option Timecode → Type 0
IsTimecodeOf number base is_drop timecode =
    MatchOption timecode (base ≡ 0) (λ t. IsLabel base t × (t.is_drop ≡ drops base is_drop)
    × (number_of base t ≡ number_in_day number base (drops base is_drop)))

-- The label of a frame that is so many frames after midnight, as all are counted.
abbrev pub label_at : ℕ → ℕ → Bool → Timecode
label_at frame base is_drop = record {
  hours = frame / base / 3600;
  minutes = frame / base / 60 % 60;
  seconds = frame / base % 60;
  frames = frame % base;
  is_drop = is_drop;
}

-- How many labels drop frame leaves out before the one with this number: of each ten minutes the first leaves out none,
-- and has so many labels more than each of the others.
abbrev pub left_out_up_to : ℕ → ℕ → ℕ
left_out_up_to base number =
    let out = base / 15 in
    let minute = 60 * base - out in
    let ten = 10 * minute + out in
    (9 * (number / ten) + (number % ten - out) / minute) * out

-- The frame with this number, as all are counted.
abbrev pub frame_with : ℕ → Bool → ℕ → ℕ
frame_with base is_drop number = if is_drop then number + left_out_up_to base number else number

abbrev pub label_with : ℕ → Bool → ℕ → Timecode
label_with base is_drop number = label_at (frame_with base is_drop number) base is_drop

-- The timecode of a number of frames since midnight.
abbrev pub timecode_of : ℤ → ℕ → Bool → Option Timecode
timecode_of number base is_drop =
    let dropping = drops base is_drop in
    if base == 0 then None else Some (label_with base dropping (number_in_day number base dropping))
