-- What the status of a verification says of a reference beside sources (this project's profile).
use Rattle.std.specs.Prelude.{◌≡◌, ◌⊎◌, ℕ, List}
use Rattle.mxf_klv.specs.Parts.{NoteParts}
use Rattle.mxf_klv.specs.Rising.{In}
use Rattle.mxf_klv.specs.declared.piece.Stop.{Stop}
use Rattle.mxf_klv.specs.declared.piece.Stop.TheVariants.{End, Truncated}
use Rattle.mxf_read.specs.declared.gathering.report.PieceReport.{PieceReport}
use Rattle.mxf_verify.specs.Verifying.{IsDiffering, IsUnknownByte, IsUnverifiedByte, IsVerified, Source}
use Rattle.mxf_verify.specs.declared.fixity.UnitFixity.TheVariants.{Verified}
use Rattle.mxf_verify.specs.declared.verified_units.UnitRun.{UnitRun}

-- The piece was noted up to its end: it ends with a packet, or with one that is cut.
abbrev pub IsNoted : Stop → Type 0
IsNoted stop = (stop ≡ End) ⊎ ((at : ℕ) × (stop ≡ Truncated at))

-- All pieces were.
abbrev pub AreNoted : List PieceReport → Type 0
AreNoted reports = (r : PieceReport) → In r reports → IsNoted r.report.stop

-- The pieces of a reference were; some note of it is the same in a source, and none differs in one.
pub record IsAsItSays (reports : List PieceReport) (reference : List NoteParts) (sources : List Source) : Type 0 where
  pub noted : AreNoted reports
  pub same : (n : NoteParts) × In n reference × IsVerified reference sources n
  pub none : (n : NoteParts) → In n reference → ¬ IsDiffering reference sources n

-- No byte of the reference is unverified, and it says something of each byte of the sources.
pub record IsAllKnown (reference : List NoteParts) (sources : List Source) : Type 0 where
  pub verified : (at : ℕ) → ¬ IsUnverifiedByte reference sources at
  pub known : (at : ℕ) → ¬ IsUnknownByte reference sources at

-- The units of all runs are verified.
abbrev pub AreAllVerified : List UnitRun → Type 0
AreAllVerified runs = (r : UnitRun) → In r runs → r.fixity ≡ Verified
