-- What is said of references and sources in the laws of verifications (this project's profile).
use Rattle.std.specs.Prelude.{◌≡◌, ◌≢◌, ◌↔◌, ◌+◌, ◌<◌, ℕ, IsTrue, List, [], drop, length, take}
use Rattle.mxf_klv.specs.Note.{end_of}
use Rattle.mxf_klv.specs.Parts.{NoteParts}
use Rattle.mxf_klv.specs.Rising.{In}
use Rattle.mxf_catalogue.specs.Content.{IsCatalogue}
use Rattle.mxf_catalogue.specs.Disputes.{IsClear}
use Rattle.mxf_verify.specs.Verifications.{VerificationParts}
use Rattle.mxf_verify.specs.Verifying.{IsCut, IsDiffering, IsHeldBy, IsUnknownByte, IsUnverifiedByte, IsVerified}
use Rattle.mxf_verify.specs.Verifying.{Source}

-- Each note of the reference is clear: of a packet that was read whole, and no other shares a byte with it.
abbrev pub AreAllClear : List NoteParts → Type 0
AreAllClear reference = (n : NoteParts) → In n reference → IsClear n reference

-- The bytes are as many, and the same but for the one at a place.
pub record AreOneByteApart (at : ℕ) (a b : List ℕ) : Type 0 where
  pub as_many : length a ≡ length b
  pub ahead : take at a ≡ take at b
  pub behind : drop (at + 1) a ≡ drop (at + 1) b

-- No offset below the end of a note is missing.
abbrev pub HasNoGap : List NoteParts → Type 0
HasNoGap reference = (n : NoteParts) (at : ℕ) → In n reference → at < end_of n → IsHeldBy reference at

-- All packets of a file, from its first byte on: clear, and without a gap.
pub record IsWholeReference (reference : List NoteParts) : Type 0 where
  pub catalogue : IsCatalogue reference
  pub some : reference ≢ []
  pub clear : AreAllClear reference
  pub no_gap : HasNoGap reference

-- No head of the reference is that of a packet without a value.
abbrev pub HasNoEmptyHead : List NoteParts → Type 0
HasNoEmptyHead reference = (n : NoteParts) → In n reference → ¬ IsTrue n.whole → 0 < n.length

-- Sources say the same of a reference: which notes are the same, differ and are cut, and which bytes are unverified and
-- unknown.
pub record SaysSame (reference : List NoteParts) (a b : List Source) : Type 0 where
  pub verified : (n : NoteParts) → IsVerified reference a n ↔ IsVerified reference b n
  pub differing : (n : NoteParts) → IsDiffering reference a n ↔ IsDiffering reference b n
  pub cut : (n : NoteParts) → IsCut reference a n ↔ IsCut reference b n
  pub unverified : (at : ℕ) → IsUnverifiedByte reference a at ↔ IsUnverifiedByte reference b at
  pub unknown : (at : ℕ) → IsUnknownByte reference a at ↔ IsUnknownByte reference b at

-- Something is the same and nothing differs, each byte that the reference holds is verified, and it says something of
-- each byte of the sources.
pub record SaysWhole (v : VerificationParts) : Type 0 where
  pub some : 0 < v.packets
  pub differs : v.damaged ≡ 0
  pub verified : v.unverified ≡ []
  pub known : v.unknown ≡ []
