-- What all sources together say of the notes of a reference, by what each said (this project's profile).
use Rattle.std.specs.Prelude.{◌≡◌, ◌⊎◌, ◌<◌, ◌≤◌, ℕ, Bool, List, length}
use Rattle.mxf_klv.specs.Note.{covered_end}
use Rattle.mxf_klv.specs.Parts.{NoteParts}
use Rattle.mxf_klv.specs.Rising.{In}
use Rattle.mxf_catalogue.specs.Runs.{LiesIn}
use Rattle.mxf_catalogue.specs.declared.run.Run.{Run}
use Rattle.mxf_verify.specs.Verifications.{AreRunsOf, DifferingParts, VerificationParts}
use Rattle.mxf_verify.specs.Verifying.{IsHeldBy}
use Rattle.mxf_verify.specs.declared.finishing.ToldBytes.{ToldBytes}
use Rattle.mxf_verify.specs.declared.finishing.Uncompared.{Uncompared}

-- One of the ranges has all bytes that the note holds.
abbrev pub IsWithinOne : List Run → NoteParts → Type 0
IsWithinOne ranges n = (r : Run) × In r ranges × (r.start ≤ n.offset) × (covered_end n ≤ r.end)

-- Some byte that the note holds lies in the runs.
abbrev pub IsMet : List Run → NoteParts → Type 0
IsMet runs n = (at : ℕ) × LiesIn runs at × (n.offset ≤ at) × (at < covered_end n)

-- The note is neither the same nor differs, and no source has all of its bytes, though one has some, or its head.
pub record IsLeftOut (u : Uncompared) (n : NoteParts) : Type 0 where
  pub unverified : ¬ In n u.verified
  pub undiffering : ¬ In n u.damaged
  pub apart : ¬ IsWithinOne u.reach n
  pub touched : IsMet u.read n ⊎ In n u.headed

-- The bytes of notes that are the same or differ, those that the reference holds beside these, and those of the sources
-- that it doesn't hold.
pub record AreBytes (reference verified damaged : List NoteParts) (came : List Run) (b : ToldBytes) : Type 0 where
  pub verified_are : AreRunsOf (IsHeldBy verified) b.verified
  pub altered_are : AreRunsOf (IsHeldBy damaged) b.altered
  pub unverified_are : AreRunsOf
      (λ at. IsHeldBy reference at × ¬ IsHeldBy verified at × ¬ IsHeldBy damaged at) b.unverified
  pub unknown_are : AreRunsOf (λ at. LiesIn came at × ¬ IsHeldBy reference at) b.unknown

-- What is reported is what these say: of the reference, of the notes that are the same or differ and of the bytes;
-- which notes differ where, which are cut, and whether a byte came.
pub record IsToldBy (reference : List NoteParts) (u : Uncompared) (b : ToldBytes) (differing : List DifferingParts)
    (cut : List NoteParts) (came : Bool) (v : VerificationParts) : Type 0 where
  pub all_packets : v.all_packets ≡ length reference
  pub packets : v.packets ≡ length u.verified
  pub damaged : v.damaged ≡ length u.damaged
  pub differing_are : v.differing ≡ differing
  pub cut_are : v.cut ≡ cut
  pub held : AreRunsOf (IsHeldBy reference) v.held
  pub verified : v.verified ≡ b.verified
  pub altered : v.altered ≡ b.altered
  pub unverified : v.unverified ≡ b.unverified
  pub unknown : v.unknown ≡ b.unknown
  pub came_is : v.came ≡ came
