-- Skims of a reader's bytes: what is passed over counts as taken, whatever bytes it has (this project's profile).
use Rattle.std.specs.Prelude.{◌≡◌, ℕ, ◌≤◌, ◌⊎◌, true, is_some, List, [], length, Option, Result, Ok, Err, MatchResult}
use Rattle.std.specs.Io.KnownBytes.{Keeps, Consumes, IsAtEnd}
use Rattle.mxf_read.specs.Feeding.{Feeds}
use Rattle.mxf_read.specs.Reads.{Takes}
use Rattle.mxf_read.specs.declared.piece.Piece.{Piece}
use Rattle.mxf_read.specs.declared.reading.Cause.{Cause}
use Rattle.mxf_read.specs.declared.reading.StepFault.{StepFault}
use Rattle.mxf_read.specs.declared.reading.StepFault.TheVariants as faults

-- So many of the bytes that a reader has left are gone: none only at the end.
pub record Passed (old new : Option (List ℕ)) (count n : ℕ) : Type 0 where
  pub within : n ≤ count
  pub bytes : List ℕ
  pub counted : length bytes ≡ n
  pub consumed : Consumes old new bytes
  pub ended : n ≡ 0 → IsAtEnd new

-- A call that passes over bytes, `count` at most; one that fails passes over none.
abbrev pub PassesOver : {E : Type 0} → Option (List ℕ) → Option (List ℕ) → ℕ → Result ℕ E → Type 0
PassesOver old new count r = MatchResult r (Passed old new count) (λ _. Keeps old new)

-- So many bytes were taken, `left` at most, and the piece was fed them: none only at the end.
pub record Skimmed (old new : Option (List ℕ)) (p q : Piece) (left n : ℕ) : Type 0 where
  pub within : n ≤ left
  pub bytes : List ℕ
  pub counted : length bytes ≡ n
  pub consumed : Consumes old new bytes
  pub fed : Feeds p q bytes
  pub ended : n ≡ 0 → IsAtEnd new

-- One step of a skim, or of a reading: bytes were taken, or nothing was; or memory ran out among those that were.
abbrev pub SkimsOnce : Option (List ℕ) → Option (List ℕ) → Piece → Piece → ℕ → Result ℕ StepFault → Type 0
SkimsOnce old new p q left (Ok n) = Skimmed old new p q left n
SkimsOnce old new p q left (Err faults.OutOfMemory) = (taken : List ℕ) × Takes old new left taken
SkimsOnce old new p q left (Err faults.Interrupted) = Keeps old new × Feeds p q []
SkimsOnce old new p q left (Err faults.Failed) = Keeps old new

-- Many steps: the bytes taken were fed, as many as may be, or the reader has ended, or the piece has stopped. After a
-- fault some were taken.
abbrev pub SkimsAll : Option (List ℕ) → Option (List ℕ) → Piece → Piece → ℕ → Result (Unit {0}) Cause → Type 0
SkimsAll old new p q limit (Ok x) =
    (taken : List ℕ) × Takes old new limit taken × Feeds p q taken
    × (((length taken ≡ limit) ⊎ IsAtEnd new) ⊎ (is_some q.stop ≡ true))
SkimsAll old new p q limit (Err fault) = (taken : List ℕ) × Takes old new limit taken
