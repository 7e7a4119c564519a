-- What a call that writes a value, or a part of one, answers (this project's profile).
use Rattle.std.specs.Prelude.{◌≡◌, ℕ, ◌+◌, ◌-◌, ◌^◌, ◌<◌, List, length, take, min, MatchResult, Option, Result}
use Rattle.std.specs.Io.KnownBytes.{Appends}
use Rattle.mxf_klv.specs.declared.writing.WriteFault.{WriteFault}
use Rattle.mxf_klv.specs.declared.writing.progress.Progress.{Progress}

-- A count as a `u64` holds it, which stops at its greatest value.
abbrev pub counted : ℕ → ℕ
counted n = min n (2 ^ 64 - 1)

-- The writer failed inside these bytes, after the first n of them, and the fault counts those and the ones before.
abbrev pub StopsIn : Option (List ℕ) → Option (List ℕ) → ℕ → WriteFault → List ℕ → Type 0
StopsIn old new before e bytes =
    (n : ℕ) × (n < length bytes) × (e.written ≡ counted (before + n)) × Appends old new (take n bytes)

-- At `Ok` exactly the bytes were appended; at `Err` exactly the first of them were, and the fault says how many.
abbrev pub Writes : {X : Type 0} → Option (List ℕ) → Option (List ℕ) → Result X WriteFault → List ℕ → Type 0
Writes old new r bytes = MatchResult r (λ _. Appends old new bytes) (λ e. StopsIn old new 0 e bytes)

-- The same of a part of a value: `before` bytes of the value were written before the part. `after` are written now, at
-- `Err` as many as the fault says.
abbrev pub WritesPart : {X : Type 0} → Option (List ℕ) → Option (List ℕ) → ℕ → ℕ → Result X WriteFault → List ℕ
    → Type 0
WritesPart old new before after r bytes =
    MatchResult r (λ _. Appends old new bytes × (after ≡ counted (before + length bytes)))
    (λ e. StopsIn old new before e bytes × (after ≡ e.written))

-- A part is put to a writer: the same by what the writer holds and how far the value has come.
abbrev pub Puts : {W X : Type 0} → (W → Option (List ℕ)) → W → W → Progress → Progress → Result X WriteFault
    → List ℕ → Type 0
Puts contents old new before after r bytes =
    WritesPart (contents old) (contents new) before.written after.written r bytes
