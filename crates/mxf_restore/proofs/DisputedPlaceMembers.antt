-- Disputed places, by the list and by what they are.
use Rattle.mxf_views.proofs.Common.{◌≡◌, ◌↔◌, ◌∙◌, ◌&&◌, ◌==◌, ◌-◌, ◌+◌, ℕ, true, false, IsTrue, List, [], ◌∷◌, Option}
use Rattle.mxf_views.proofs.Common.{Some, None, refl, sym, ap, subst, inl, inr, arith, filter_map, find, if◌then◌else◌}
use Rattle.mxf_views.proofs.Common.{eq-eqb, eqb-true, option_and_then, Bool, cons_option, and_from, and_parts}
use Rattle.mxf_views.proofs.Common.{same_Some, NoteParts, In, In-filter_map, all-In, found-In, none_found, guarded}
use Rattle.mxf_views.proofs.Common.{IsContent}
use Rattle.mxf_places.specs.AtHand.{AtHandParts}
use Rattle.mxf_places.specs.Claims.{claims_of}
use Rattle.mxf_places.specs.FirstClaims.{AreInOrder, GoesUpTo}
use Rattle.mxf_places.specs.Held.{IsDisputedAt, is_disputed_at, is_in_file}
use Rattle.mxf_places.specs.Named.{IsClaim, IsInFile}
use Rattle.mxf_places.specs.declared.claim.Claim.{Claim}
use Rattle.mxf_places.proofs.ClaimLaws.{claims_say}
use Rattle.mxf_places.proofs.EndLaws.{in_file_says}
use Rattle.mxf_places.proofs.FirstLaws.{claim_some, claims_in_order, same_claimed, up_itself}
use Rattle.mxf_places.proofs.HeldLaws.{is_disputed_at-says}
use Rattle.mxf_restore.specs.DisputedPlaces.{IsDisputedPlace, IsPointOf}
use Rattle.mxf_restore.specs.Plan.{disputed_place_of, plan_of, point_of}
use Rattle.mxf_restore.specs.declared.plan.DisputedPlace.{DisputedPlace}
use Rattle.mxf_restore.proofs.ClaimedPlaces.{named_says, open_says}
use Rattle.mxf_restore.proofs.PlanMembers.{disputed_place_members}

-- What is found first of what a function tells of claims in their order.
module _ (f : Claim → Option DisputedPlace) (x : ℕ) where
  -- The claim tells what is found, and no claim that tells of the place goes before it.
  pub record IsToldBy (claims : List Claim) (d : DisputedPlace) : Type 0 where
    pub by : Claim
    pub there : In by claims
    pub tells : f by ≡ Some d
    pub first : (c : Claim) (e : DisputedPlace) → In c claims → f c ≡ Some e → IsTrue (e.place == x) → GoesUpTo by c

  not_here : (b : Claim) (claims : List Claim) (d : DisputedPlace)
      → ((e : DisputedPlace) → f b ≡ Some e → IsTrue (e.place == x) → ⊥) → IsToldBy claims d → IsToldBy (b ∷ claims) d
  not_here b claims d none t = record {
    by = t.by;
    there = inr t.there;
    tells = t.tells;
    first = λ c e h k same. elim h [ inl s ↦ absurd (none e (ap f (sym s) ∙ k) same) | inr i ↦ t.first c e i k same ];
  }

  told_by : (claims : List Claim) (d : DisputedPlace) → ((c : Claim) → GoesUpTo c c) → AreInOrder claims
      → find (λ e. e.place == x) (filter_map f claims) ≡ Some d → IsToldBy claims d
  told_by [] d up r e = absurd (cc (e))
  told_by (b ∷ claims) d up r e =
      elim (f b) as (λ o. f b ≡ o → find (λ e. e.place == x) (cons_option o (filter_map f claims)) ≡ Some d
      → IsToldBy (b ∷ claims) d) [
        | None ↦ λ n u. not_here b claims d (λ e k _. absurd (let g = n in cc (g, k))) (told_by claims d up r.1 u)
        | Some g ↦ λ n u. elim (g.place == x) as (λ z. (g.place == x) ≡ z
            → (if z then Some g else find (λ e. e.place == x) (filter_map f claims)) ≡ Some d
            → IsToldBy (b ∷ claims) d) [
              | true ↦ λ _ v. record {
                by = b;
                there = inl refl;
                tells = n ∙ v;
                first = λ c e h k same. elim h [
                  | inl s ↦ subst (GoesUpTo b) (sym s) (up b)
                  | inr i ↦ all-In (GoesUpTo b) claims c r.0 i
                ];
              }
              | false ↦ λ other v. not_here b claims d (λ e k same. let q = same_Some g e (sym n ∙ k) in
                  let w = ap (λ (y : DisputedPlace). y.place == x) q in absurd (cc (w, other, same)))
                  (told_by claims d up r.1 v)
            ] refl u
      ] refl e

module _ (notes : List NoteParts) (content : IsContent notes) where
  -- An open claim has a byte.
  open_some : (c : Claim) → IsClaim notes c → c.is_open ≡ true → (x : ℕ) → (c.end - 1 ≡ x) ↔ (x + 1 ≡ c.end)
  open_some c is opened x = let some = claim_some notes c is in (λ e. omega (arith, e, some), λ e. omega (arith, e))

  point_says : (c : Claim) (x : ℕ) → IsClaim notes c → (point_of c ≡ Some x) ↔ IsPointOf c x
  point_says c x is =
      let last = open_says c.is_open (c.end - 1) x in
      named_says c (if c.is_open then Some (c.end - 1) else None) x true (x + 1 ≡ c.end) (
        λ e. let k = last.0 e in (k.0, (open_some c is k.0 x).0 k.1),
        λ k. last.1 (k.0, (open_some c is k.0 x).1 k.1),
      )

  -- What a claim tells of a place.
  pub record Tells (c : Claim) (d : DisputedPlace) : Type 0 where
    pub point : IsPointOf c d.place
    pub in_file : IsInFile notes d.place
    pub disputed : IsDisputedAt notes d.place
    pub reason : d.reason ≡ c.reason
    pub source : d.source ≡ c.source

  abbrev place_by : Claim → ℕ → DisputedPlace
  place_by c x = record { reason = c.reason; place = x; source = c.source }

  abbrev tests : ℕ → Bool
  tests x = is_in_file notes x && is_disputed_at notes x

  tells_at : (c : Claim) (d : DisputedPlace) (x : ℕ) → IsClaim notes c → point_of c ≡ Some x
      → (if tests x then Some (place_by c x) else None) ≡ Some d → Tells c d
  tells_at c d x is point e =
      let g = guarded (tests x) (Some (place_by c x)) d e in
      let same = same_Some _ _ g.1 in
      let p = and_parts (is_in_file notes x) (is_disputed_at notes x) g.0 in
      let at = ap (λ (y : DisputedPlace). y.place) same in
      record {
        point = subst (IsPointOf c) at ((point_says c x is).0 point);
        in_file = subst (IsInFile notes) at ((in_file_says notes x).0 p.0);
        disputed = subst (IsDisputedAt notes) at ((is_disputed_at-says notes x).0 p.1);
        reason = ap (λ (y : DisputedPlace). y.reason) (sym same);
        source = ap (λ (y : DisputedPlace). y.source) (sym same);
      }

  tells_says : (c : Claim) (d : DisputedPlace) → IsClaim notes c → (disputed_place_of notes c ≡ Some d) ↔ Tells c d
  unfolding disputed_place_of
  tells_says c d is = (
    λ e. elim (point_of c) as (λ o. point_of c ≡ o
        → option_and_then (λ x. if tests x then Some (place_by c x) else None) o ≡ Some d → Tells c d) [
          | None ↦ λ _ u. absurd (cc (u))
          | Some x ↦ λ p u. tells_at c d x is p u
        ] refl e,
    λ t.
        let x = d.place in
        let passes : tests x ≡ true =
        and_from (is_in_file notes x) (is_disputed_at notes x) ((in_file_says notes x).1 t.in_file)
        ((is_disputed_at-says notes x).1 t.disputed) in
        ap (option_and_then (λ y. if tests y then Some (place_by c y) else None)) ((point_says c x is).1 t.point)
        ∙ ap (λ b. if b then Some (place_by c x) else None) passes
        ∙ (λ i. Some (record { reason = sym t.reason i; place = x; source = sym t.source i })),
  )

  abbrev all : List DisputedPlace
  all = filter_map (disputed_place_of notes) (claims_of notes)

  found_says : (d : DisputedPlace) → find (λ e. e.place == d.place) all ≡ Some d → IsDisputedPlace notes d
  found_says d e =
      let t = told_by (disputed_place_of notes) d.place (claims_of notes) d up_itself
      (claims_in_order notes content) e in
      let is = (claims_say notes content t.by).0 t.there in
      let told = (tells_says t.by d is).0 t.tells in
      record {
        by = t.by;
        claim = is;
        point = told.point;
        first = λ c k p.
            let other = place_by c d.place in
            t.first c other ((claims_say notes content c).1 k) ((tells_says c other k).1 (record {
              point = p;
              in_file = told.in_file;
              disputed = told.disputed;
              reason = refl;
              source = refl;
            })) (eq-eqb d.place d.place refl);
        in_file = told.in_file;
        disputed = told.disputed;
        reason = told.reason;
        source = told.source;
      }

  is_told : (d : DisputedPlace) (k : IsDisputedPlace notes d) → Tells k.by d
  is_told d k =
      record { point = k.point; in_file = k.in_file; disputed = k.disputed; reason = k.reason; source = k.source }

  one_there : (d e : DisputedPlace) → IsDisputedPlace notes d → IsDisputedPlace notes e → d.place ≡ e.place → d ≡ e
  one_there d e a b same =
      let s = same_claimed a.by b.by (a.first b.by b.claim (subst (IsPointOf b.by) (sym same) b.point))
      (b.first a.by a.claim (subst (IsPointOf a.by) same a.point)) in
      λ i. record {
        reason = (a.reason ∙ s.0 ∙ sym b.reason) i;
        place = same i;
        source = (a.source ∙ s.1 ∙ sym b.source) i;
      }

  says_found : (d : DisputedPlace) → IsDisputedPlace notes d → find (λ e. e.place == d.place) all ≡ Some d
  says_found d k =
      elim (find (λ e. e.place == d.place) all) as (λ o. find (λ e. e.place == d.place) all ≡ o → o ≡ Some d) [
        | None ↦ λ n.
            let there = (In-filter_map (disputed_place_of notes) (claims_of notes) d).1
            (k.by, (claims_say notes content k.by).1 k.claim, (tells_says k.by d k.claim).1 (is_told d k)) in
            absurd (none_found (λ (e : DisputedPlace). e.place == d.place) all d n there (eq-eqb d.place d.place refl))
        | Some e ↦ λ n.
            let same = eqb-true e.place d.place (found-In (λ (e : DisputedPlace). e.place == d.place) all e n).1 in
            let other = found_says e (ap (λ x. find (λ (e : DisputedPlace). e.place == x) all) same ∙ n) in
            ap (λ (y : DisputedPlace). Some y) (one_there e d other k same)
      ] refl

  pub disputed_places_say : (at : AtHandParts) (d : DisputedPlace)
      → In d (plan_of at notes).disputed_places ↔ IsDisputedPlace notes d
  disputed_places_say at d =
      let m = disputed_place_members at notes d in (λ h. found_says d (m.0 h), λ k. m.1 (says_found d k))
