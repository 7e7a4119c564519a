-- The bytes of verified units.
use Rattle.mxf_views.proofs.Common.{◌≡◌, ◌+◌, ◌≤◌, ℕ, List, [], ◌∷◌, inl, inr, subst, arith}
use Rattle.mxf_views.proofs.Common.{NoteParts, In, LiesIn}
use Rattle.mxf_catalogue.specs.declared.run.Run.{Run}
use Rattle.mxf_units.specs.Units.{UnitsParts, unit_of}
use Rattle.mxf_units.specs.declared.unit.EditUnit.{EditUnit}
use Rattle.mxf_verify.specs.Fixities.{AreUnitRuns, AreVerifiedUnits, HasEachByte, IsFixityOf}
use Rattle.mxf_verify.specs.Fixities.{VerifiedUnitsParts}
use Rattle.mxf_verify.specs.Verifications.{IsVerification, VerificationParts}
use Rattle.mxf_verify.specs.Verifying.{IsVerifiedByte, Source}
use Rattle.mxf_verify.specs.declared.fixity.UnitFixity.{UnitFixity}
use Rattle.mxf_verify.specs.declared.fixity.UnitFixity.TheVariants.{Verified}
use Rattle.mxf_verify.specs.declared.verified_units.UnitRun.{UnitRun}

-- What a run says of its units is so.
in_run : (P : ℕ → UnitFixity → Type 0) (from to : ℕ) (runs : List UnitRun) → AreUnitRuns P from to runs
    → (r : UnitRun) → In r runs → (unit : ℕ) → r.first ≤ unit → unit ≤ r.last → P unit r.fixity
in_run P from to [] are r i unit low high = absurd i
in_run P from to (q ∷ runs) are r (inl e) unit low high = grind arith
in_run P from to (q ∷ runs) are r (inr i) unit low high = in_run P (q.last + 1) to runs are.5 r i unit low high

-- A unit that is verified lies in the verified bytes.
lies_verified : (verified altered : List Run) (P : ℕ → Type 0) (unit : EditUnit)
    → ((at : ℕ) → LiesIn verified at → P at) → IsFixityOf verified altered unit Verified → HasEachByte P unit
lies_verified verified altered P unit say is = grind arith

pub verified_bytes : (reference : List NoteParts) (sources : List Source) (v : VerificationParts) (units : UnitsParts)
    (from to : ℕ) (told : VerifiedUnitsParts) → IsVerification reference sources v
    → AreVerifiedUnits v.verified v.altered units from to told → (r : UnitRun) (unit : ℕ) → In r told.runs
    → r.fixity ≡ Verified → r.first ≤ unit → unit ≤ r.last
    → HasEachByte (IsVerifiedByte reference sources) (unit_of units.known units.index_sid unit)
verified_bytes reference sources v units from to told is are r unit i e low high =
    lies_verified v.verified v.altered (IsVerifiedByte reference sources) (unit_of units.known units.index_sid unit)
    (λ at. (is.verified.offsets at).0)
    (subst (IsFixityOf v.verified v.altered (unit_of units.known units.index_sid unit)) e
    (in_run _ from to told.runs are.runs r i unit low high))
