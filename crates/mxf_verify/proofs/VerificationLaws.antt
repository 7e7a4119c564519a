-- Of a reference beside sources there is one verification, and what that says.
use Rattle.mxf_views.proofs.Common.{◌≡◌, ◌↔◌, ◌⊎◌, ◌+◌, ◌∙◌, ℕ, ◌&&◌, ◌||◌, not, List, [], ◌∷◌, ◌++◌, length, map, refl}
use Rattle.mxf_views.proofs.Common.{sym, ap, subst, inl, inr, arith, IsCovered, IsInSpan, IsNote, NoteParts, In}
use Rattle.mxf_views.proofs.Common.{SameMembers, all-In, In-append, In-map, same_bool, IsCatalogue, SharesByte, LiesIn}
use Rattle.mxf_views.proofs.Common.{clear_same, same_content, covers_below_end, same_runs}
use Rattle.mxf_catalogue.specs.declared.run.Run.{Run}
use Rattle.mxf_verify.specs.Comparing.{SharesHeldByte}
use Rattle.mxf_verify.specs.Taking.{has_digest}
use Rattle.mxf_verify.specs.Agreeing.{agrees_with}
use Rattle.mxf_verify.specs.Telling.{AreThose}
use Rattle.mxf_verify.specs.Verifications.{AreDiffering, AreRunsOf, DifferingParts, IsCountOf, IsVerification}
use Rattle.mxf_verify.specs.Verifications.{VerificationParts, differing_in}
use Rattle.mxf_verify.specs.VerificationLaws.{AreAllClear, SaysSame}
use Rattle.mxf_verify.specs.Verifying.{DiffersIn, IsAmong, IsByteOf, IsCompared, IsCut, IsDiffering, IsDifferingByte}
use Rattle.mxf_verify.specs.Verifying.{IsHeldBy, IsSaidBy, IsSameIn, IsUnknownByte, IsUnverifiedByte, IsVerified}
use Rattle.mxf_verify.specs.Verifying.{IsVerifiedByte, Source, held_in, held_size, is_digested, Bytes}
use Rattle.mxf_verify.proofs.KnownLaws.{or_not}
use Rattle.mxf_verify.proofs.RangeLaws.{lies_or_not}
use Rattle.mxf_verify.proofs.SaidLaws.{said_told}
use Rattle.mxf_verify.proofs.SeenLaws.{damaged_says}
use Rattle.mxf_verify.proofs.TakingLaws.{all_held}

-- ---- one verification

same_those : (reference : List NoteParts) (P : NoteParts → Type 0) (a b : List NoteParts) → AreThose reference P a
    → AreThose reference P b → a ≡ b
same_those reference P a b s t = same_content a b s.rising t.rising
    (λ n. (λ h. (t.members n).1 ((s.members n).0 h), λ h. (s.members n).1 ((t.members n).0 h)))

same_count : (reference : List NoteParts) (P : NoteParts → Type 0) (a b : ℕ) → IsCountOf reference P a
    → IsCountOf reference P b → a ≡ b
same_count reference P a b s t =
    s.count_is ∙ ap length (same_those reference P s.notes t.notes s.those t.those) ∙ sym t.count_is

same_offsets : (P : ℕ → Type 0) (a b : List Run) → AreRunsOf P a → AreRunsOf P b → a ≡ b
same_offsets P a b s t = same_runs 0 0 a b s.maximal t.maximal
    (λ at. (λ h. (t.offsets at).1 ((s.offsets at).0 h), λ h. (s.offsets at).1 ((t.offsets at).0 h)))

same_differing : (reference : List NoteParts) (first : ℕ) (sources : List Source) (a b : List DifferingParts)
    → AreDiffering reference first sources a → AreDiffering reference first sources b → a ≡ b
same_differing reference first [] a b d e = d ∙ sym e
same_differing reference first (s ∷ sources) a b (ns, rest, those, more, d) (ms, left, these, others, e) =
    let front = same_those reference (λ n. DiffersIn reference n s) ns ms those these in
    let back = same_differing reference (first + 1) sources rest left more others in
    d ∙ ap (λ l. map (differing_in first) l ++ rest) front ∙ ap (λ l. map (differing_in first) ms ++ l) back ∙ sym e

same_parts : (a b : VerificationParts) → a.all_packets ≡ b.all_packets → a.packets ≡ b.packets → a.damaged ≡ b.damaged
    → a.differing ≡ b.differing → a.cut ≡ b.cut → a.held ≡ b.held → a.verified ≡ b.verified → a.altered ≡ b.altered
    → a.unverified ≡ b.unverified → a.unknown ≡ b.unknown → a.came ≡ b.came → a ≡ b
same_parts a b p q r s t u v w x y z i = record {
  all_packets = p i;
  packets = q i;
  damaged = r i;
  differing = s i;
  cut = t i;
  held = u i;
  verified = v i;
  altered = w i;
  unverified = x i;
  unknown = y i;
  came = z i;
}

pub one_verification : (reference : List NoteParts) (sources : List Source) (a b : VerificationParts)
    → IsVerification reference sources a → IsVerification reference sources b → a ≡ b
one_verification reference sources a b s t = same_parts a b (s.all_packets ∙ sym t.all_packets)
    (same_count reference (IsVerified reference sources) _ _ s.packets t.packets)
    (same_count reference (IsDiffering reference sources) _ _ s.damaged t.damaged)
    (same_differing reference 1 sources _ _ s.differing t.differing)
    (same_those reference (IsCut reference sources) _ _ s.cut t.cut)
    (same_offsets (IsHeldBy reference) _ _ s.held t.held)
    (same_offsets (IsVerifiedByte reference sources) _ _ s.verified t.verified)
    (same_offsets (IsDifferingByte reference sources) _ _ s.altered t.altered)
    (same_offsets (IsUnverifiedByte reference sources) _ _ s.unverified t.unverified)
    (same_offsets (IsUnknownByte reference sources) _ _ s.unknown t.unknown)
    (same_bool a.came b.came (λ h. t.came.1 (s.came.0 h)) (λ h. s.came.1 (t.came.0 h)))

-- ---- what is told is so

module _ (reference : List NoteParts) (sources : List Source) (v : VerificationParts)
    (is : IsVerification reference sources v) where
  pub verified_so : (at : ℕ) → LiesIn v.verified at → (n : NoteParts) × (s : Source) × In n reference × In s sources
      × IsSameIn reference n s × IsCovered n at
  verified_so at h =
      let b = (is.verified.offsets at).0 h in
      (b.0, b.2.0, b.1, b.2.1, b.2.2, b.3)

  pub differs_so : (d : DifferingParts) → In d v.differing → In d.note reference × IsDiffering reference sources d.note
  differs_so d h = (damaged_says reference 1 sources v.differing d.note is.differing).0
      ((In-map (λ (x : DifferingParts). x.note) v.differing d.note).1 (d, h, refl))

  pub held_so : (at : ℕ) → LiesIn v.held at ↔ (LiesIn v.verified at ⊎ LiesIn v.altered at ⊎ LiesIn v.unverified at)
  held_so at = (
    λ h. elim (lies_or_not v.verified at) [
      | inl k ↦ inl k
      | inr f ↦ inr (elim (lies_or_not v.altered at) [
        | inl k ↦ inl k
        | inr g ↦ inr ((is.unverified.offsets at).1 (
          (is.held.offsets at).0 h,
          λ b. f ((is.verified.offsets at).1 b),
          λ b. g ((is.altered.offsets at).1 b),
        ))
      ])
    ],
    λ h. (is.held.offsets at).1 (elim h [
      | inl k ↦ let b = (is.verified.offsets at).0 k in (b.0, b.1, b.3)
      | inr m ↦ elim m [
        | inl k ↦ let b = (is.altered.offsets at).0 k in (b.0, b.1, b.3)
        | inr k ↦ ((is.unverified.offsets at).0 k).0
      ]
    ]),
  )

  pub apart_so : (at : ℕ) → LiesIn v.unverified at → ¬ LiesIn v.verified at × ¬ LiesIn v.altered at
  apart_so at h =
      let b = (is.unverified.offsets at).0 h in
      (λ k. b.1 ((is.verified.offsets at).0 k), λ k. b.2 ((is.altered.offsets at).0 k))

-- ---- each compared note is the same or differs

-- they are as the note says, or aren't
pub said_or_not : (n : NoteParts) (bytes : List ℕ) → IsNote n → length bytes ≡ held_size n
    → IsSaidBy n bytes ⊎ ¬ IsSaidBy n bytes
said_or_not n bytes is size =
    or_not (agrees_with n bytes && (not (is_digested n) || has_digest n bytes)) (said_told n bytes is size)

-- a byte that a note holds lies in its span
pub in_span : (n : NoteParts) (at : ℕ) → IsCovered n at → IsInSpan n at
in_span n at h =
    let before = h.before in
    let below = covers_below_end n in record { from = h.from; before = omega (arith, before, below) }

pub shares_span : (m n : NoteParts) → SharesHeldByte m n → SharesByte m n
shares_span m n s = (s.0, in_span m s.0 s.1, in_span n s.0 s.2)

-- clear notes that hold a byte in common are one
pub clear_one : (reference : List NoteParts) (m n : NoteParts) → AreAllClear reference → In m reference → In n reference
    → SharesHeldByte m n → m ≡ n
clear_one reference m n clear i j s = clear_same reference m n (clear m i) (clear n j) (shares_span m n s)

pub compared_so : (reference : List NoteParts) (n : NoteParts) (offset : ℕ) (bytes : List ℕ) → IsCatalogue reference
    → AreAllClear reference → In n reference → IsAmong n offset bytes
    ↔ (IsSameIn reference n (Bytes offset bytes) ⊎ DiffersIn reference n (Bytes offset bytes))
compared_so reference n offset bytes is clear held = (
  λ among.
      let compared : IsCompared reference n offset bytes = record {
        free = λ crowded. (clear n held).undisputed crowded.0;
        among = among;
      } in
      let note = all-In IsNote reference n is.members held in
      elim (said_or_not n (held_in n offset bytes) note (all_held n offset bytes among)) [
        | inl s ↦ inl (compared, s)
        | inr f ↦ inr (
          compared,
          f,
          λ m i same shares.
              let e = clear_one reference m n clear i held shares in
              f (subst (λ x. IsSaidBy x (held_in x offset bytes)) e same.1),
        )
      ],
  λ h. elim h [ inl s ↦ s.0.among | inr d ↦ d.0.among ],
)

-- ---- a set of sources

some_alike : (P : Source → Type 0) (a b : List Source) → SameMembers a b
    → ((s : Source) × In s a × P s) → ((s : Source) × In s b × P s)
some_alike P a b same h = (h.0, (same h.0).0 h.1, h.2)

back : (a b : List Source) → SameMembers a b → SameMembers b a
back a b same s = ((same s).1, (same s).0)

module _ (reference : List NoteParts) where
  verified_alike : (a b : List Source) → SameMembers a b → (n : NoteParts)
      → IsVerified reference a n ↔ IsVerified reference b n
  verified_alike a b same n = grind (arith, some_alike, back)

  differing_alike : (a b : List Source) → SameMembers a b → (n : NoteParts)
      → IsDiffering reference a n ↔ IsDiffering reference b n
  differing_alike a b same n = grind (arith, some_alike, back)

  cut_alike : (a b : List Source) → SameMembers a b → (n : NoteParts) → IsCut reference a n → IsCut reference b n
  cut_alike a b same n h = grind (arith, verified_alike, differing_alike, some_alike)

  unverified_alike : (a b : List Source) → SameMembers a b → (at : ℕ) → IsUnverifiedByte reference a at
      → IsUnverifiedByte reference b at
  unverified_alike a b same at h = grind (arith, verified_alike, differing_alike)

  unknown_alike : (a b : List Source) → SameMembers a b → (at : ℕ) → IsUnknownByte reference a at
      → IsUnknownByte reference b at
  unknown_alike a b same at h = (some_alike (λ s. IsByteOf s at) a b same h.0, h.1)

  pub says_same : (a b : List Source) → SameMembers a b → SaysSame reference a b
  says_same a b same = record {
    verified = verified_alike a b same;
    differing = differing_alike a b same;
    cut = λ n. (cut_alike a b same n, cut_alike b a (back a b same) n);
    unverified = λ at. (unverified_alike a b same at, unverified_alike b a (back a b same) at);
    unknown = λ at. (unknown_alike a b same at, unknown_alike b a (back a b same) at);
  }

  pub more_verified : (sources more : List Source) (n : NoteParts) → IsVerified reference sources n
      → IsVerified reference (sources ++ more) n
  more_verified sources more n h = (h.0, (In-append h.0 sources more).1 (inl h.1), h.2)
