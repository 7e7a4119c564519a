-- The timecode of a position by the one run of a clock that has it (this project's profile).
use Rattle.std.specs.Prelude.{◌≡◌, ℕ, List, [], ◌∷◌, Option, None, Some, filter}
use Rattle.std.specs.Option.{option_and_then}
use Rattle.mxf_tracks.specs.declared.timecode.Timecode.{Timecode}
use Rattle.mxf_clocks.specs.Runs.{RunParts, has_position}
use Rattle.mxf_clocks.specs.RunTimecodes.{timecode_at}

-- Of these runs, as they are listed, one alone has the position.
abbrev pub IsOneRunAt : List RunParts → ℕ → RunParts → Type 0
IsOneRunAt runs position run = filter (λ r. has_position r position) runs ≡ run ∷ []

-- One alone has the position, and gives it this timecode.
pub record IsTimecodeAt (runs : List RunParts) (position : ℕ) (t : Timecode) : Type 0 where
  pub run : RunParts
  pub one : IsOneRunAt runs position run
  pub timecode : timecode_at run position ≡ Some t

-- None has it, or more than one.
abbrev pub HasNoOneRun : List RunParts → ℕ → Type 0
HasNoOneRun runs position = (run : RunParts) → ¬ IsOneRunAt runs position run

-- The same as functions. A law ties them to the relations.

-- What is alone in its list.
abbrev pub only : {X : Type 0} → List X → Option X
only (x ∷ []) = Some x
only _ = None

abbrev pub one_run_at : List RunParts → ℕ → Option RunParts
one_run_at runs position = only (filter (λ r. has_position r position) runs)

abbrev pub one_timecode_at : List RunParts → ℕ → Option Timecode
one_timecode_at runs position = option_and_then (λ r. timecode_at r position) (one_run_at runs position)
