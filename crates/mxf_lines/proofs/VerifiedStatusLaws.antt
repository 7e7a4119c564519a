-- Where the status of a verification is 0.
use Rattle.mxf_views.proofs.Common.{◌≡◌, ◌≢◌, ◌↔◌, ◌+◌, ◌-◌, ◌<◌, ◌≤◌, ◌∙◌, ◌==◌, ◌&&◌, ℕ, zero, suc, Bool, true, false}
use Rattle.mxf_views.proofs.Common.{not, cond, List, [], ◌∷◌, None, Some, Option, filter, length, inl, inr, refl, ap}
use Rattle.mxf_views.proofs.Common.{arith, list_all, AreBytes, greatest_end, NoteParts, notes_in, stop_in, In}
use Rattle.mxf_views.proofs.Common.{In-list_all, list_all-In, equals_itself, not_equal}
use Rattle.mxf_klv.specs.declared.piece.Stop.{Stop}
use Rattle.mxf_klv.specs.declared.piece.Stop.TheVariants.{BadLength, End, NoStart, NotUl, TooFar, Truncated}
use Rattle.mxf_catalogue.specs.declared.run.Run.{Run}
use Rattle.mxf_read.specs.declared.gathering.report.PieceReport.{PieceReport}
use Rattle.mxf_units.specs.Units.{UnitsParts}
use Rattle.mxf_verify.specs.Fixities.{AreUnitRuns, AreVerifiedUnits, VerifiedUnitsParts, is_verified, units_in}
use Rattle.mxf_verify.specs.VerificationLaws.{IsWholeReference}
use Rattle.mxf_verify.specs.Verifications.{AreRunsOf, IsCountOf, IsVerification, VerificationParts}
use Rattle.mxf_verify.specs.Verifying.{IsDiffering, IsUnknownByte, IsUnverifiedByte, IsVerified, Source, Bytes}
use Rattle.mxf_verify.proofs.WholeLaws.{count_none, no_runs, none_of, none_runs, whole_says}
use Rattle.mxf_verify.specs.declared.fixity.UnitFixity.{UnitFixity}
use Rattle.mxf_verify.specs.declared.fixity.UnitFixity.TheVariants.{Differs, Part, Unplaced, Unverified, Verified}
use Rattle.mxf_verify.specs.declared.verified_units.UnitRun.{UnitRun}
use Rattle.mxf_lines.specs.VerificationLines.{has_none, is_good, is_noted, verification_status, verified_in}
use Rattle.mxf_lines.specs.VerifiedStatus.{AreAllVerified, AreNoted, IsAllKnown, IsAsItSays, IsNoted}

-- ---- tests

zero_is : (b : Bool) → ◌≡◌ {A = ℕ} (cond b 0 1) 0 → b ≡ true
zero_is true e = refl
zero_is false e = absurd cc

zero_of : (b : Bool) → b ≡ true → ◌≡◌ {A = ℕ} (cond b 0 1) 0
zero_of b e = rw e refl

four_parts : (a b c d : Bool) → (a && b && c && d) ≡ true → (a ≡ true) × (b ≡ true) × (c ≡ true) × (d ≡ true)
four_parts true true true d h = (refl, refl, refl, h)
four_parts true true false d h = absurd cc
four_parts true false c d h = absurd cc
four_parts false b c d h = absurd cc

all_four : (a b c d : Bool) → a ≡ true → b ≡ true → c ≡ true → d ≡ true → (a && b && c && d) ≡ true
all_four true true true d p q r s = s
all_four true true false d p q r s = absurd cc
all_four true false c d p q r s = absurd cc
all_four false b c d p q r s = absurd cc

two_parts : (a b : Bool) → (a && b) ≡ true → (a ≡ true) × (b ≡ true)
two_parts true b h = (refl, h)
two_parts false b h = absurd cc

both : (a b : Bool) → a ≡ true → b ≡ true → (a && b) ≡ true
both true b p q = q
both false b p q = absurd cc

noted_is : (s : Stop) → is_noted s ≡ true → IsNoted s
noted_is End h = inl refl
noted_is (Truncated at) h = inr (at, refl)
noted_is (NotUl at) h = absurd cc
noted_is (BadLength at) h = absurd cc
noted_is (TooFar at) h = absurd cc
noted_is (NoStart at) h = absurd cc

noted_of : (s : Stop) → IsNoted s → is_noted s ≡ true
noted_of s (inl e) = ap is_noted e
noted_of s (inr t) = ap is_noted t.1

-- ---- counts and runs

first_of : (ns : List NoteParts) → length ns ≢ 0 → (n : NoteParts) × In n ns
first_of [] some = absurd (some refl)
first_of (n ∷ ns) some = (n, inl refl)

module _ (reference : List NoteParts) (P : NoteParts → Type 0) (count : ℕ) (c : IsCountOf reference P count) where
  some_count : count ≢ 0 → (n : NoteParts) × In n reference × P n
  some_count some =
      let one = first_of c.notes (λ e. some (c.count_is ∙ e)) in
      let m = (c.those.members one.0).0 one.1 in (one.0, m.0, m.1)

  counted_some : (n : NoteParts) × In n reference × P n → count ≢ 0
  counted_some one e = none_of reference P count c e one.0 one.1 one.2

none_is : (runs : List Run) → has_none runs ≡ true → runs ≡ []
none_is [] h = refl
none_is (r ∷ runs) h = absurd cc

module _ (P : ℕ → Type 0) (runs : List Run) (are : AreRunsOf P runs) where
  no_offset : has_none runs ≡ true → (at : ℕ) → ¬ P at
  no_offset h = no_runs P runs are (none_is runs h)

  no_run : ((at : ℕ) → ¬ P at) → has_none runs ≡ true
  no_run none = ap has_none (none_runs runs are.maximal (λ at h. none at ((are.offsets at).0 h)))

-- ---- units

verified_is : (f : UnitFixity) → is_verified f ≡ true → f ≡ Verified
verified_is Verified h = refl
verified_is Differs h = absurd cc
verified_is Unverified h = absurd cc
verified_is Part h = absurd cc
verified_is (Unplaced standing) h = absurd cc

abbrev those : List UnitRun → List UnitRun
those runs = filter (λ r. is_verified r.fixity) runs

few : (runs : List UnitRun) → units_in (those runs) ≤ units_in runs
few [] = omega arith
few (r ∷ runs) =
    let rest = few runs in
    elim (is_verified r.fixity)
    as (λ b. units_in (cond b (r ∷ those runs) (those runs)) ≤ (r.last + 1 - r.first) + units_in runs) [
      | true ↦ omega (arith, rest)
      | false ↦ omega (arith, rest)
    ]

-- Runs that aren't empty have as many verified units as units only where each is of verified ones.
each_verified : (P : ℕ → UnitFixity → Type 0) (from to : ℕ) (runs : List UnitRun) → AreUnitRuns P from to runs
    → units_in (those runs) ≡ units_in runs → AreAllVerified runs
each_verified P from to [] are e q i = absurd i
each_verified P from to (r ∷ runs) are e q i =
    let rest = few runs in
    let begin = are.0 in
    let order : from ≤ r.last = are.1 in
    let own : (is_verified r.fixity ≡ true) × (units_in (those runs) ≡ units_in runs) = elim (is_verified r.fixity)
    as (λ b. units_in (cond b (r ∷ those runs) (those runs)) ≡ (r.last + 1 - r.first) + units_in runs
    → (b ≡ true) × (units_in (those runs) ≡ units_in runs)) [
      | true ↦ λ f. (refl, omega (arith, f))
      | false ↦ λ f. absurd (omega (arith, f, rest, begin, order))
    ] e in
    elim i [
      | inl k ↦ ap (λ (x : UnitRun). x.fixity) k ∙ verified_is r.fixity own.0
      | inr k ↦ each_verified P (r.last + 1) to runs are.5 own.1 q k
    ]

all_verified : (runs : List UnitRun) → AreAllVerified runs → units_in (those runs) ≡ units_in runs
all_verified [] all = refl
all_verified (r ∷ runs) all =
    let own : is_verified r.fixity ≡ true = ap is_verified (all r (inl refl)) in
    rw own (ap (λ n. (r.last + 1 - r.first) + n) (all_verified runs (λ q i. all q (inr i))))

-- ---- the status

module _ (reports : List PieceReport) (reference : List NoteParts) (sources : List Source) (v : VerificationParts)
    (told : IsVerification reference sources v) where
  says : list_all (λ r. is_noted r.report.stop) reports ≡ true → (v.damaged == 0) ≡ true → not (v.packets == 0) ≡ true
      → IsAsItSays reports reference sources
  says a b c = record {
    noted = λ r i. noted_is r.report.stop (list_all-In (λ r. is_noted r.report.stop) reports r a i);
    same = some_count reference (IsVerified reference sources) v.packets told.packets ((not_equal v.packets 0).0 c);
    none = none_of reference (IsDiffering reference sources) v.damaged told.damaged ((equals_itself v.damaged 0).0 b);
  }

  module _ (s : IsAsItSays reports reference sources) where
    are_noted : list_all (λ r. is_noted r.report.stop) reports ≡ true
    are_noted = In-list_all (λ r. is_noted r.report.stop) reports (λ r i. noted_of r.report.stop (s.noted r i))

    none_damaged : (v.damaged == 0) ≡ true
    none_damaged = (equals_itself v.damaged 0).1
        (count_none reference (IsDiffering reference sources) v.damaged told.damaged s.none)

    some_same : not (v.packets == 0) ≡ true
    some_same = (not_equal v.packets 0).1
        (counted_some reference (IsVerified reference sources) v.packets told.packets s.same)

  pub status_known : (units : Option VerifiedUnitsParts)
      → (verification_status reports v units false ≡ 0) ↔ IsAsItSays reports reference sources
  status_known units = (
    λ e. let f = four_parts _ _ _ _ (zero_is (is_good reports v units false) e) in says f.0 f.1 f.2,
    λ s. zero_of (is_good reports v units false) (all_four _ _ _ _ (are_noted s) (none_damaged s) (some_same s) refl),
  )

  pub status_whole : (verification_status reports v None true ≡ 0)
      ↔ (IsAsItSays reports reference sources × IsAllKnown reference sources)
  status_whole = (
    λ e.
        let f = four_parts _ _ _ _ (zero_is (is_good reports v None true) e) in
        let g = two_parts _ _ f.3 in (
          says f.0 f.1 f.2,
          record {
            verified = no_offset (IsUnverifiedByte reference sources) v.unverified told.unverified g.0;
            known = no_offset (IsUnknownByte reference sources) v.unknown told.unknown g.1;
          },
        ),
    λ h. zero_of (is_good reports v None true) (all_four _ _ _ _ (are_noted h.0) (none_damaged h.0) (some_same h.0)
        (both _ _ (no_run (IsUnverifiedByte reference sources) v.unverified told.unverified h.1.verified)
        (no_run (IsUnknownByte reference sources) v.unknown told.unknown h.1.known))),
  )

  pub status_of_units : (asked : UnitsParts) (from to : ℕ) (units : VerifiedUnitsParts)
      → AreVerifiedUnits v.verified v.altered asked from to units
      → (verification_status reports v (Some units) true ≡ 0)
      ↔ (IsAsItSays reports reference sources × AreAllVerified units.runs)
  status_of_units asked from to units are = (
    λ e.
        let f = four_parts _ _ _ _ (zero_is (is_good reports v (Some units) true) e) in (
          says f.0 f.1 f.2,
          each_verified _ from to units.runs are.runs ((equals_itself (verified_in units) (units_in units.runs)).0 f.3),
        ),
    λ h. zero_of (is_good reports v (Some units) true) (all_four _ _ _ _ (are_noted h.0) (none_damaged h.0)
        (some_same h.0) ((equals_itself (verified_in units) (units_in units.runs)).1 (all_verified units.runs h.1))),
  )

-- ---- a whole file

some_above : (n : ℕ) → n ≢ 0 → 0 < n
some_above zero some = absurd (some refl)
some_above (suc n) some = omega arith

not_zero : (n : ℕ) → 0 < n → n ≢ 0
not_zero n some e = absurd (omega (arith, some, e))

pub status_by_packets : (reports : List PieceReport) (reference : List NoteParts) (bytes : List ℕ)
    (v : VerificationParts) → AreNoted reports → IsWholeReference reference → AreBytes bytes
    → length bytes ≤ greatest_end → IsVerification reference (Bytes 0 bytes ∷ []) v
    → (verification_status reports v None true ≡ 0) ↔ ((notes_in 0 bytes ≡ reference) × (stop_in 0 bytes ≡ End))
status_by_packets reports reference bytes v noted whole are within told =
    let says = whole_says reference bytes v whole are within told in (
      λ e.
          let f = four_parts _ _ _ _ (zero_is (is_good reports v None true) e) in
          let g = two_parts _ _ f.3 in says.0 record {
            some = some_above v.packets ((not_equal v.packets 0).0 f.2);
            differs = (equals_itself v.damaged 0).0 f.1;
            verified = none_is v.unverified g.0;
            known = none_is v.unknown g.1;
          },
      λ h.
          let s = says.1 h in
          zero_of (is_good reports v None true) (all_four _ _ _ _
          (In-list_all (λ r. is_noted r.report.stop) reports (λ r i. noted_of r.report.stop (noted r i)))
          ((equals_itself v.damaged 0).1 s.differs) ((not_equal v.packets 0).1 (not_zero v.packets s.some))
          (both _ _ (ap has_none s.verified) (ap has_none s.known))),
    )
