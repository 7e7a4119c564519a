-- What is answered lies between the timecodes.
use Rattle.std.proofs.Common.{◌≡◌, ◌≤◌, ℕ, List, Option, None, Some, refl, arith}
use Rattle.mxf_timed.specs.declared.timecode_word.TimecodeWord.{TimecodeWord}
use Rattle.mxf_timed.specs.declared.asked.UnitBound.TheVariants.{Timecode}
use Rattle.mxf_views.specs.Places.{greatest_unit}
use Rattle.mxf_clocks.specs.Runs.{RunParts}
use Rattle.mxf_units.specs.Units.{UnitsParts}
use Rattle.mxf_timed.specs.Bounds.{AreBounds, IsBound, LieBetween}
use Rattle.mxf_timed.specs.Positions.{IsRange}
use Rattle.mxf_timed.specs.Stored.{IsGreatestStored, IsLeastStored}
use Rattle.mxf_timed.specs.declared.asked.StoredBounds.{StoredBounds}

-- The last position of a range can be asked for.
pub last_small : (runs : List RunParts) (w : TimecodeWord) (f l : ℕ) → IsRange runs w f l → l ≤ greatest_unit
last_small runs w f l x =
    let range = x.range.range in ((range.each l).0 (range.some, omega arith)).1

bound_some : (Stored : ℕ → Type 0) (w : TimecodeWord) (o : Option ℕ) → IsBound Stored (Some (Timecode w)) o
    → (n : ℕ) × (o ≡ Some n) × Stored n
bound_some Stored w None h = absurd h
bound_some Stored w (Some n) h = (n, refl, h)

pub lie_between : (u : UnitsParts) (runs : List RunParts) (v w : TimecodeWord) (b : StoredBounds)
    → AreBounds u runs (Some (Timecode v)) (Some (Timecode w)) b → LieBetween u runs v w b
lie_between u runs v w b h =
    let least = bound_some (IsLeastStored u h.first h.last) v b.from h.least in
    let greatest = bound_some (IsGreatestStored u h.first h.last) w b.to h.greatest in
    record {
      first = h.first;
      first_end = h.begins.0;
      from_range = h.begins.1;
      last_start = h.ends.0;
      last = h.last;
      to_range = h.ends.1;
      least = least.0;
      from_is = least.1;
      greatest = greatest.0;
      to_is = greatest.1;
      each = λ p low high. (least.2.each p low high, greatest.2.each p low high);
      least_stored = least.2.some;
      greatest_stored = greatest.2.some;
    }
