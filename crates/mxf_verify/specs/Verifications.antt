-- What a verification says of a reference beside sources (this project's profile).
use Rattle.std.specs.Prelude.{◌≡◌, ◌↔◌, ◌+◌, ℕ, Bool, IsTrue, List, [], ◌∷◌, ◌++◌, length, map}
use Rattle.mxf_klv.specs.Parts.{NoteParts}
use Rattle.mxf_klv.specs.Rising.{In}
use Rattle.mxf_catalogue.specs.Runs.{AreMaximal, LiesIn}
use Rattle.mxf_catalogue.specs.declared.run.Run.{Run}
use Rattle.mxf_places.specs.Held.{bytes_of}
use Rattle.mxf_verify.specs.Verifying.{DiffersIn, IsByteOf, IsCut, IsDiffering, IsDifferingByte, IsHeldBy}
use Rattle.mxf_verify.specs.Verifying.{IsUnknownByte, IsUnverifiedByte, IsVerified, IsVerifiedByte, Source}
use Rattle.mxf_verify.specs.Telling.{AreThose}
use Rattle.mxf_verify.specs.declared.verification.Differing.{Differing}
use Rattle.mxf_verify.specs.declared.verification.VerifiedCounts.{VerifiedCounts}

-- A note that differs in the source with a number.
pub record DifferingParts : Type 0 where
  pub source : ℕ
  pub note : NoteParts

abbrev pub differing_in : ℕ → NoteParts → DifferingParts
differing_in source n = record { source = source; note = n }

-- The same of all that is lent.
abbrev pub parts_of : List Differing → List DifferingParts
parts_of differing = map (λ (d : Differing). differing_in d.source d.note.now) differing

-- The runs are the maximal ones of the offsets of which this holds.
pub record AreRunsOf (P : ℕ → Type 0) (runs : List Run) : Type 0 where
  pub maximal : AreMaximal 0 runs
  pub offsets : (at : ℕ) → LiesIn runs at ↔ P at

-- It is the number of the notes of a reference of which this holds.
pub record IsCountOf (reference : List NoteParts) (P : NoteParts → Type 0) (count : ℕ) : Type 0 where
  pub notes : List NoteParts
  pub those : AreThose reference P notes
  pub count_is : count ≡ length notes

-- What sources that are numbered from a first on say differs, source after source, and of each in the order of notes.
abbrev pub AreDiffering : List NoteParts → ℕ → List Source → List DifferingParts → Type 0
AreDiffering reference first [] told = told ≡ []
AreDiffering reference first (s ∷ sources) told =
    (notes : List NoteParts) × (rest : List DifferingParts) × AreThose reference (λ n. DiffersIn reference n s) notes
    × AreDiffering reference (first + 1) sources rest × (told ≡ map (differing_in first) notes ++ rest)

-- What a verification says.
pub record VerificationParts : Type 0 where
  -- How many notes the reference has, how many of them are the same in some source, and how many differ in some.
  pub all_packets : ℕ
  pub packets : ℕ
  pub damaged : ℕ
  pub differing : List DifferingParts
  pub cut : List NoteParts
  -- The bytes held by the reference; those of notes that are the same in some source, and of notes that differ in some.
  pub held : List Run
  pub verified : List Run
  pub altered : List Run
  pub unverified : List Run
  pub unknown : List Run
  -- Some source has a byte.
  pub came : Bool

-- That of a reference beside sources.
pub record IsVerification (reference : List NoteParts) (sources : List Source) (v : VerificationParts) : Type 0 where
  pub all_packets : v.all_packets ≡ length reference
  pub packets : IsCountOf reference (IsVerified reference sources) v.packets
  pub damaged : IsCountOf reference (IsDiffering reference sources) v.damaged
  pub differing : AreDiffering reference 1 sources v.differing
  pub cut : AreThose reference (IsCut reference sources) v.cut
  pub held : AreRunsOf (IsHeldBy reference) v.held
  pub verified : AreRunsOf (IsVerifiedByte reference sources) v.verified
  pub altered : AreRunsOf (IsDifferingByte reference sources) v.altered
  pub unverified : AreRunsOf (IsUnverifiedByte reference sources) v.unverified
  pub unknown : AreRunsOf (IsUnknownByte reference sources) v.unknown
  pub came : IsTrue v.came ↔ ((at : ℕ) × (s : Source) × In s sources × IsByteOf s at)

-- The numbers of the last line.
abbrev pub counts_of : VerificationParts → VerifiedCounts
counts_of v = record {
  packets = v.packets;
  all_packets = v.all_packets;
  bytes = bytes_of v.verified;
  all_bytes = bytes_of v.held;
  differs = v.damaged;
  cut = length v.cut;
  unknown = bytes_of v.unknown;
}
