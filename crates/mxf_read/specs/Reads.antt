-- What reads come to (this project's profile).
use Rattle.std.specs.Prelude.{◌≡◌, ℕ, ◌<◌, ◌≤◌, ◌⊎◌, true, is_some, List, [], length, take, Option, None, Result, Ok}
use Rattle.std.specs.Prelude.{Err}
use Rattle.std.specs.Io.KnownBytes.{Keeps, Consumes, IsAtEnd}
use Rattle.mxf_read.specs.Feeding.{Fails, Feeds}
use Rattle.mxf_read.specs.declared.piece.Piece.{Piece}
use Rattle.mxf_read.specs.declared.reading.Step.{Step}
use Rattle.mxf_read.specs.declared.reading.Step.TheVariants.{Took, Ended, Interrupted, Failed}
use Rattle.mxf_read.specs.declared.reading.Cause.{Cause}
use Rattle.mxf_read.specs.declared.reading.Cause.TheVariants as causes

-- One read: bytes were taken and stand at the front of the room, or the reader has ended, or nothing was taken.
abbrev pub ReadsOnce : Option (List ℕ) → Option (List ℕ) → List ℕ → Step → Type 0
ReadsOnce old new room (Took n) = (0 < n) × (n ≤ length room) × Consumes old new (take n room)
ReadsOnce old new room Ended = Consumes old new [] × IsAtEnd new
ReadsOnce old new room Interrupted = Keeps old new
ReadsOnce old new room Failed = Keeps old new

-- The bytes taken from a reader, at most `limit`.
pub record Takes (old new : Option (List ℕ)) (limit : ℕ) (taken : List ℕ) : Type 0 where
  pub within : length taken ≤ limit
  pub consumed : Consumes old new taken

-- Many reads: the bytes taken were fed unless memory ran out. At `Ok` they are as many as may be, or the reader has
-- ended, or the piece has stopped; it hasn't if a read failed.
abbrev pub ReadsAll : Option (List ℕ) → Option (List ℕ) → Piece → Piece → ℕ → Result (Unit {0}) Cause → Type 0
ReadsAll old new p q limit (Ok x) =
    (taken : List ℕ) × Takes old new limit taken × Feeds p q taken
    × (((length taken ≡ limit) ⊎ IsAtEnd new) ⊎ (is_some q.stop ≡ true))
ReadsAll old new p q limit (Err causes.ReadFault) =
    (taken : List ℕ) × Takes old new limit taken × Feeds p q taken × (q.stop ≡ None)
ReadsAll old new p q limit (Err causes.OutOfMemory) =
    (taken : List ℕ) × Takes old new limit taken × Fails p q taken
