-- The order of the claims, and which of those of an offset goes first.
use Rattle.mxf_views.proofs.Common.{◌≡◌, ◌↔◌, ◌∙◌, ◌<◌, ◌≤◌, ◌&&◌, ◌++◌, ℕ, IsTrue, true, false, List, [], ◌∷◌, Option}
use Rattle.mxf_views.proofs.Common.{Some, None, refl, sym, ap, subst, inl, inr, nat_le, nat_lt, find, arith, ◌⊎◌}
use Rattle.mxf_views.proofs.Common.{if◌then◌else◌, option_map, ltb-true, lt-ltb, and_from, and_parts, same_Some}
use Rattle.mxf_views.proofs.Common.{cons_option, NoteParts, In, In-append, In-filter_map, all-In, all_append}
use Rattle.mxf_views.proofs.Common.{all_from_In, find-none, found-In, none_found, IsRisingBy, guarded, IsContent}
use Rattle.mxf_views.proofs.Common.{PartitionParts, partitions_of, RipAtParts, rip_view_of, end_of}
use Rattle.mxf_views.specs.declared.random_index.RipView.TheVariants.{One}
use Rattle.std.proofs.Common.{leb-true, le-leb}
use Rattle.std.specs.List.{filter_map}
use Rattle.mxf_views.proofs.KeyedLists.{rise_by}
use Rattle.mxf_views.proofs.PartitionLaws.{one_there, partitions_rise}
use Rattle.mxf_places.specs.Claims.{claim_at, claims_of, entry_claims, footer_claim, is_claimed, is_of_stretch}
use Rattle.mxf_places.specs.Claims.{named_place, place_claim, previous_claim, stretch_claim, zone_claim, zone_of}
use Rattle.mxf_places.specs.Claims.{zone_reason}
use Rattle.mxf_places.specs.FirstClaims.{AreInOrder, GoesUpTo, IsFirstClaim, IsSourceUpTo, SpeaksOf, reason_rank}
use Rattle.mxf_places.specs.Named.{Follow, IsClaim, IsClaimFor, IsOfStretch, IsStretch, Names, SaysEntry, SaysPlace}
use Rattle.mxf_places.specs.Named.{SaysZone}
use Rattle.mxf_places.specs.declared.claim.Claim.{Claim}
use Rattle.mxf_places.specs.declared.reason.Reason.{Reason}
use Rattle.mxf_places.specs.declared.reason.Reason.TheVariants.{Header, Footer, Metadata, Index, Entry, Previous, Gap}
use Rattle.mxf_places.specs.declared.stretch.Stretch.{Stretch}
use Rattle.mxf_places.specs.declared.stretch.Zone.{Zone}
use Rattle.mxf_places.proofs.ClaimLaws.{claims_say, entries_say}
use Rattle.mxf_places.proofs.ZoneLaws.{zone_says}
use Rattle.mxf_places.specs.declared.reason.Reason.TheVariants as reasons
use Rattle.mxf_places.specs.declared.stretch.Zone.TheVariants as zones

abbrev reason_of : Claim → Reason
reason_of c = c.reason

abbrev source_of : Claim → Option ℕ
source_of c = c.source

-- ---- which of two goes first

source_up : {s t : Option ℕ} {x y : ℕ} → s ≡ Some x → t ≡ Some y → x ≤ y → IsSourceUpTo s t
source_up {s} {t} {x} {y} a b l = subst (λ o. IsSourceUpTo o t) (sym a) (subst (λ o. IsSourceUpTo (Some x) o) (sym b) l)

source_itself : (s : Option ℕ) → IsSourceUpTo s s
source_itself None = tt
source_itself (Some x) = omega arith

pub up_itself : (c : Claim) → GoesUpTo c c
up_itself c = inr (refl, source_itself c.source)

one_source : (s t : Option ℕ) → IsSourceUpTo s t → IsSourceUpTo t s → s ≡ t
one_source None None a b = refl
one_source None (Some y) a b = absurd b
one_source (Some x) None a b = absurd a
one_source (Some x) (Some y) a b = let e : x ≡ y = omega (arith, a, b) in ap (λ (z : ℕ). Some z) e

pub same_claimed : (c d : Claim) → GoesUpTo c d → GoesUpTo d c → (c.reason ≡ d.reason) × (c.source ≡ d.source)
same_claimed c d (inl l) (inl m) = absurd (omega (arith, l, m))
same_claimed c d (inl l) (inr k) = let e = ap reason_rank k.0 in absurd (omega (arith, l, e))
same_claimed c d (inr k) (inl m) = let e = ap reason_rank k.0 in absurd (omega (arith, m, e))
same_claimed c d (inr k) (inr n) = (k.0, one_source c.source d.source k.1 n.1)

-- ---- lists of claims in their order

order-append : (xs ys : List Claim) → AreInOrder xs → AreInOrder ys
    → ((c d : Claim) → In c xs → In d ys → GoesUpTo c d) → AreInOrder (xs ++ ys)
order-append [] ys r s f = s
order-append (x ∷ xs) ys r s f = (
  all_append (GoesUpTo x) xs ys r.0 (all_from_In (GoesUpTo x) ys (λ d h. f x d (inl refl) h)),
  order-append xs ys r.1 s (λ c d h k. f c d (inr h) k),
)

all_up : (xs : List Claim) → ((c d : Claim) → In c xs → In d xs → GoesUpTo c d) → AreInOrder xs
all_up [] f = tt
all_up (x ∷ xs) f = (
  all_from_In (GoesUpTo x) xs (λ d h. f x d (inl refl) (inr h)),
  all_up xs (λ c d h k. f c d (inr h) (inr k)),
)

-- The claims that a function finds of partitions have a reason, and the partition as their source.
abbrev AreFor : Reason → (PartitionParts → Option Claim) → Type 0
AreFor r f = (p : PartitionParts) (c : Claim) → f p ≡ Some c → (c.reason ≡ r) × (c.source ≡ Some p.offset)

found_in_order : (r : Reason) (f : PartitionParts → Option Claim) → AreFor r f → (ps : List PartitionParts)
    → IsRisingBy (λ (p : PartitionParts). p.offset) ps → AreInOrder (filter_map f ps)
found_in_order r f says [] rise = tt
found_in_order r f says (p ∷ ps) rise =
    let ih = found_in_order r f says ps rise.1 in
    elim (f p) as (λ o. f p ≡ o → AreInOrder (cons_option o (filter_map f ps))) [
      | None ↦ λ e. ih
      | Some c ↦ λ e. (
        all_from_In (GoesUpTo c) (filter_map f ps) (λ d h.
            let s = (In-filter_map f ps d).0 h in
            let a = says p c e in
            let b = says s.0 d s.2 in
            let l : p.offset < s.0.offset = all-In (λ (q : PartitionParts). p.offset < q.offset) ps s.0 rise.0 s.1 in
            inr (a.0 ∙ sym b.0, source_up a.1 b.1 (omega (arith, l)))),
        ih,
      )
    ] refl

-- All claims of a list have this rank at least.
abbrev AreFrom : ℕ → List Claim → Type 0
AreFrom rank claims = (c : Claim) → In c claims → rank ≤ reason_rank c.reason

from-append : (rank : ℕ) (xs ys : List Claim) → AreFrom rank xs → AreFrom rank ys → AreFrom rank (xs ++ ys)
from-append rank xs ys f g c h = elim ((In-append c xs ys).0 h) [ inl k ↦ f c k | inr k ↦ g c k ]

-- Claims for a reason go before claims of greater ranks.
before_all : (r : Reason) (rank : ℕ) (xs ys : List Claim) → ((c : Claim) → In c xs → c.reason ≡ r) → AreFrom rank ys
    → reason_rank r < rank → AreInOrder xs → AreInOrder ys → AreInOrder (xs ++ ys) × AreFrom (reason_rank r) (xs ++ ys)
before_all r rank xs ys are from l first second = (
  order-append xs ys first second (λ c d h k.
      let e = ap reason_rank (are c h) in let m = from d k in inl (omega (arith, l, e, m))),
  from-append (reason_rank r) xs ys (λ c h. let e = ap reason_rank (are c h) in omega (arith, e))
      (λ d k. let m = from d k in omega (arith, l, m)),
)

-- ---- the claims of packs

footer_for : AreFor Footer footer_claim
unfolding footer_claim
footer_for p c e =
    let place = p.pack.numbers.footer_partition in
    let g = guarded (nat_lt p.offset place) (Some (place_claim Footer (Some p.offset) place)) c e in
    let s = same_Some _ _ g.1 in (sym (ap reason_of s), sym (ap source_of s))

previous_for : AreFor Previous previous_claim
unfolding previous_claim
previous_for p c e =
    let place = p.pack.numbers.previous_partition in
    let g = guarded (nat_lt 0 place && nat_lt place p.offset) (Some (place_claim Previous (Some p.offset) place)) c e in
    let s = same_Some _ _ g.1 in (sym (ap reason_of s), sym (ap source_of s))

module _ (notes : List NoteParts) where
  zone_for : (zone : Zone) → AreFor (zone_reason zone) (zone_claim zone notes)
  unfolding zone_claim
  zone_for zone p c e = elim (zone_of zone notes p) as (λ o. option_map (stretch_claim (zone_reason zone) p) o ≡ Some c
      → (c.reason ≡ zone_reason zone) × (c.source ≡ Some p.offset)) [
        | None ↦ λ u. absurd (cc (u))
        | Some s ↦ λ u. let t = same_Some _ _ u in (sym (ap reason_of t), sym (ap source_of t))
      ] e

  abbrev found : (PartitionParts → Option Claim) → List Claim
  found f = filter_map f (partitions_of notes)

  are_for : (r : Reason) (f : PartitionParts → Option Claim) → AreFor r f → (c : Claim) → In c (found f) → c.reason ≡ r
  are_for r f says c h = let s = (In-filter_map f (partitions_of notes) c).0 h in (says s.0 c s.2).0

  module _ (content : IsContent notes) where
    in_order_for : (r : Reason) (f : PartitionParts → Option Claim) → AreFor r f → AreInOrder (found f)
    in_order_for r f says = found_in_order r f says (partitions_of notes)
        ((rise_by (λ (p : PartitionParts). p.offset) (partitions_of notes)).0 (partitions_rise notes content))

    abbrev entries : List Claim
    entries = entry_claims (rip_view_of notes)

    entry_reason : (c : Claim) → In c entries → c.reason ≡ Entry
    entry_reason c h = ap reason_of (((entries_say notes content c).0 h).2.3)

    one_pack : (r s : RipAtParts) → rip_view_of notes ≡ One r → rip_view_of notes ≡ One s → r ≡ s
    one_pack r s a b = same_one r s (sym a ∙ b)
      where
        same_one : (r s : RipAtParts) → One r ≡ One s → r ≡ s
        same_one r s e = cc (e)

    entries_in_order : AreInOrder entries
    entries_in_order = all_up entries (λ c d h k.
        let a = (entries_say notes content c).0 h in
        let b = (entries_say notes content d).0 k in
        let same = one_pack a.0 b.0 a.1 b.1 in
        inr (
          ap reason_of a.2.3 ∙ sym (ap reason_of b.2.3),
          source_up (ap source_of a.2.3) (ap source_of b.2.3) (let e = ap (λ (r : RipAtParts). r.offset) same in
              omega (arith, e)),
        ))

    pub claims_in_order : AreInOrder (claims_of notes)
    unfolding claims_of
    claims_in_order =
        let previous = found previous_claim in
        let from_previous : AreFrom 5 previous =
        λ c h. let e = ap reason_rank (are_for Previous previous_claim previous_for c h) in omega (arith, e) in
        let entry = before_all Entry 5 entries previous entry_reason from_previous (omega arith) entries_in_order
        (in_order_for Previous previous_claim previous_for) in
        let index = before_all Index 4 (found (zone_claim zones.Index notes)) (entries ++ previous)
        (are_for Index (zone_claim zones.Index notes) (zone_for zones.Index)) entry.1 (omega arith)
        (in_order_for Index (zone_claim zones.Index notes) (zone_for zones.Index)) entry.0 in
        let behind_metadata = found (zone_claim zones.Index notes) ++ (entries ++ previous) in
        let metadata = before_all Metadata 3 (found (zone_claim zones.Metadata notes)) behind_metadata
        (are_for Metadata (zone_claim zones.Metadata notes) (zone_for zones.Metadata)) index.1 (omega arith)
        (in_order_for Metadata (zone_claim zones.Metadata notes) (zone_for zones.Metadata)) index.0 in
        let behind_footers = found (zone_claim zones.Metadata notes) ++ behind_metadata in
        let footers = before_all Footer 2 (found footer_claim) behind_footers
        (are_for Footer footer_claim footer_for) metadata.1 (omega arith)
        (in_order_for Footer footer_claim footer_for) metadata.0 in (
          all_from_In (GoesUpTo (place_claim Header None 0)) (found footer_claim ++ behind_footers)
              (λ c h. let l = footers.1 c h in inl (omega (arith, l))),
          footers.0,
        )

    -- ---- the first claim of an offset

    claimed_says : (x : ℕ) (c : Claim) → IsTrue (is_claimed x c) ↔ SpeaksOf c x
    claimed_says x c = (
      λ h. let p = and_parts (nat_le c.from x) (nat_lt x c.end) h in (leb-true _ _ p.0, ltb-true _ _ p.1),
      λ s. and_from (nat_le c.from x) (nat_lt x c.end) (le-leb c.from x s.0) (lt-ltb x c.end s.1),
    )

    no_later : (x : ℕ) (claims : List Claim) (c d : Claim) → AreInOrder claims → find (is_claimed x) claims ≡ Some c
        → In d claims → IsTrue (is_claimed x d) → GoesUpTo c d
    no_later x [] c d r e h t = absurd h
    no_later x (b ∷ claims) c d r e h t = elim (is_claimed x b) as (λ z. is_claimed x b ≡ z
        → (if z then Some b else find (is_claimed x) claims) ≡ Some c → GoesUpTo c d) [
          | true ↦ λ _ u. subst (λ c. GoesUpTo c d) (same_Some b c u) (elim h [
            | inl s ↦ subst (λ z. GoesUpTo b z) (sym s) (up_itself b)
            | inr k ↦ all-In (GoesUpTo b) claims d r.0 k
          ])
          | false ↦ λ f u. elim h [
            | inl s ↦ absurd (let g = ap (is_claimed x) s in cc (g, f, t))
            | inr k ↦ no_later x claims c d r.1 u k t
          ]
        ] refl e

    -- What is said for one reason with one source of one offset is one claim.
    same_place : (r : Reason) (Says : PartitionParts → ℕ → Type 0) (c d : Claim)
        → ((p : PartitionParts) (x y : ℕ) → Says p x → Says p y → x ≡ y) → SaysPlace notes r Says c
        → SaysPlace notes r Says d → c.source ≡ d.source → c ≡ d
    same_place r Says c d one a b e =
        let p = a.0 in
        let q = b.0 in
        let offsets : p.offset ≡ q.offset =
        same_Some _ _ (sym (ap source_of a.2.2) ∙ e ∙ ap source_of b.2.2) in
        let same = one_there (partitions_of notes) p q (partitions_rise notes content) a.1 b.1 offsets in
        let place = one q a.2.0 b.2.0 (subst (λ (z : PartitionParts). Says z a.2.0) same a.2.1) b.2.1 in
        a.2.2 ∙ (λ i. place_claim r (Some (same i).offset) (place i)) ∙ sym b.2.2

    same_zone : (r : Reason) (zone : Zone) (c d : Claim) → SaysZone notes r zone c → SaysZone notes r zone d
        → c.source ≡ d.source → c ≡ d
    same_zone r zone c d a b e =
        let p = a.0 in
        let q = b.0 in
        let offsets : p.offset ≡ q.offset =
        same_Some _ _ (sym (ap source_of a.2.2) ∙ e ∙ ap source_of b.2.2) in
        let same = one_there (partitions_of notes) p q (partitions_rise notes content) a.1 b.1 offsets in
        let stretch : a.2.0 ≡ b.2.0 =
        same_Some _ _ (sym ((zone_says notes content p zone a.2.0).1 a.2.1) ∙ ap (zone_of zone notes) same
        ∙ (zone_says notes content q zone b.2.0).1 b.2.1) in
        a.2.2 ∙ (λ i. stretch_claim r (same i) (stretch i)) ∙ sym b.2.2

    same_entry : (x : ℕ) (c d : Claim) → SaysEntry notes c → SaysEntry notes d → SpeaksOf c x → SpeaksOf d x → c ≡ d
    same_entry x c d a b s t =
        let same = one_pack a.0 b.0 a.1 b.1 in
        let u = subst (λ (c : Claim). SpeaksOf c x) a.2.3 s in
        let v = subst (λ (c : Claim). SpeaksOf c x) b.2.3 t in
        let place : a.2.0.0.offset ≡ b.2.0.0.offset = omega (arith, u.0, u.1, v.0, v.1) in
        a.2.3 ∙ (λ i. place_claim Entry (Some (same i).offset) (place i)) ∙ sym b.2.3

    one_claim : (x : ℕ) (r : Reason) (c d : Claim) → IsClaimFor r notes c → IsClaimFor r notes d → SpeaksOf c x
        → SpeaksOf d x → c.source ≡ d.source → c ≡ d
    one_claim x Header c d a b s t e = a ∙ sym b
    one_claim x Footer c d a b s t e = same_place Footer _ c d (λ p x y k l. k.0 ∙ sym l.0) a b e
    one_claim x Metadata c d a b s t e = same_zone Metadata zones.Metadata c d a b e
    one_claim x Index c d a b s t e = same_zone Index zones.Index c d a b e
    one_claim x Entry c d a b s t e = same_entry x c d a b s t
    one_claim x Previous c d a b s t e = same_place Previous _ c d (λ p x y k l. k.0 ∙ sym l.0) a b e
    one_claim x Gap c d a b s t e = absurd a
    one_claim x reasons.Front c d a b s t e = absurd a
    one_claim x reasons.Unit c d a b s t e = absurd a

    pub one_first : (x : ℕ) (c d : Claim) → IsFirstClaim notes x c → IsFirstClaim notes x d → c ≡ d
    one_first x c d a b =
        let s = same_claimed c d (a.first d b.claim b.speaks) (b.first c a.claim a.speaks) in
        one_claim x d.reason c d (subst (λ r. IsClaimFor r notes c) s.0 a.claim) b.claim a.speaks b.speaks s.1

    found_first : (x : ℕ) (c : Claim) → claim_at notes x ≡ Some c → IsFirstClaim notes x c
    found_first x c e =
        let k = found-In (is_claimed x) (claims_of notes) c e in
        record {
          claim = (claims_say notes content c).0 k.0;
          speaks = (claimed_says x c).0 k.1;
          first = λ d is s. no_later x (claims_of notes) c d claims_in_order e ((claims_say notes content d).1 is)
              ((claimed_says x d).1 s);
        }

    none_there : (x : ℕ) → claim_at notes x ≡ None → (c : Claim) → IsClaim notes c → SpeaksOf c x → ⊥
    none_there x e c is s =
        none_found (is_claimed x) (claims_of notes) c e ((claims_say notes content c).1 is) ((claimed_says x c).1 s)

    first_is : (x : ℕ) (c : Claim) → IsFirstClaim notes x c → claim_at notes x ≡ Some c
    first_is x c f = elim (claim_at notes x) as (λ o. claim_at notes x ≡ o → o ≡ Some c) [
      | None ↦ λ e. absurd (none_there x e c f.claim f.speaks)
      | Some d ↦ λ e. ap (λ (z : Claim). Some z) (one_first x d c (found_first x d e) f)
    ] refl

pub first_says : (notes : List NoteParts) (x : ℕ) (c : Claim) → IsContent notes
    → (claim_at notes x ≡ Some c) ↔ IsFirstClaim notes x c
first_says notes x c content = (found_first notes content x c, first_is notes content x c)

pub none_speaks : (notes : List NoteParts) (x : ℕ) → IsContent notes
    → (claim_at notes x ≡ None) ↔ ((c : Claim) → IsClaim notes c → SpeaksOf c x → ⊥)
none_speaks notes x content = (
  none_there notes content x,
  λ none. find-none (is_claimed x) (claims_of notes) (λ c h t.
      none c ((claims_say notes content c).0 h) ((claimed_says notes content x c).0 t)),
)

-- No claim is for a gap, or for what ranks below.
pub ranked_before : (notes : List NoteParts) (c : Claim) → IsClaim notes c → reason_rank c.reason < reason_rank Gap
ranked_before notes c is = elim c.reason as (λ r. IsClaimFor r notes c → reason_rank r < 6) [
  | Header ↦ λ _. omega arith
  | Footer ↦ λ _. omega arith
  | Metadata ↦ λ _. omega arith
  | Index ↦ λ _. omega arith
  | Entry ↦ λ _. omega arith
  | Previous ↦ λ _. omega arith
  | Gap ↦ λ k. absurd k
  | reasons.Front ↦ λ k. absurd k
  | reasons.Unit ↦ λ k. absurd k
] is

-- A claim has a byte.
module _ (notes : List NoteParts) where
  on_from : (fills : List NoteParts) (from to : ℕ) → Follow fills from to → from ≤ to
  on_from [] from to e = omega (arith, e)
  on_from (n ∷ fills) from to f = let at = f.0 in let on = on_from fills (end_of n) to f.1 in omega (arith, at, on)

  stretch_some : (zone : Zone) (from count : ℕ) (s : Stretch) → 0 < count → IsStretch zone notes from count s
      → s.from < s.end
  stretch_some zone from count s some (inl k) =
      let on = on_from k.over.fills from k.first.offset k.over.follow in
      let start = ap (λ (s : Stretch). s.from) k.is in
      let end = ap (λ (s : Stretch). s.end) k.is in omega (arith, some, on, start, end)
  stretch_some zone from count s some (inr k) =
      let on = on_from k.over.fills from k.at k.over.follow in
      let start = ap (λ (s : Stretch). s.from) k.is in
      let end = ap (λ (s : Stretch). s.end) k.is in omega (arith, on, start, end)

  place_some : (r : Reason) (source : Option ℕ) (x : ℕ) (c : Claim) → c ≡ place_claim r source x → c.from < c.end
  place_some r source x c e =
      let from = ap (λ (c : Claim). c.from) e in let end = ap (λ (c : Claim). c.end) e in omega (arith, from, end)

  zone_some : (r : Reason) (p : PartitionParts) (s : Stretch) (c : Claim) → s.from < s.end → c ≡ stretch_claim r p s
      → c.from < c.end
  zone_some r p s c l e =
      let from = ap (λ (c : Claim). c.from) e in let end = ap (λ (c : Claim). c.end) e in omega (arith, l, from, end)

  some_for : (r : Reason) (c : Claim) → IsClaimFor r notes c → c.from < c.end
  some_for Header c k = place_some Header None 0 c k
  some_for Footer c k = place_some Footer _ _ c k.2.2
  some_for Metadata c k =
      let z = k.2.1 in
      zone_some Metadata k.0 k.2.0 c (stretch_some zones.Metadata _ _ k.2.0 z.0 z.1) k.2.2
  some_for Index c k =
      let z = k.2.1 in
      zone_some Index k.0 k.2.0 c (stretch_some zones.Index _ _ k.2.0 z.0 z.1.2) k.2.2
  some_for Entry c k = place_some Entry _ _ c k.2.3
  some_for Previous c k = place_some Previous _ _ c k.2.2
  some_for Gap c k = absurd k
  some_for reasons.Front c k = absurd k
  some_for reasons.Unit c k = absurd k

  pub claim_some : (c : Claim) → IsClaim notes c → c.from < c.end
  claim_some c k = some_for c.reason c k

-- ---- the place that a claim names

pub is_of_stretch-says : (c : Claim) → IsTrue (is_of_stretch c.reason) ↔ IsOfStretch c
is_of_stretch-says c = elim c.reason as (λ r. IsTrue (is_of_stretch r) ↔ ((r ≡ Metadata) ⊎ (r ≡ Index))) [
  | Header ↦ (λ t. absurd (cc (t)), λ k. elim k [ inl e ↦ absurd (cc (e)) | inr e ↦ absurd (cc (e)) ])
  | Footer ↦ (λ t. absurd (cc (t)), λ k. elim k [ inl e ↦ absurd (cc (e)) | inr e ↦ absurd (cc (e)) ])
  | Metadata ↦ (λ _. inl refl, λ _. refl)
  | Index ↦ (λ _. inr refl, λ _. refl)
  | Entry ↦ (λ t. absurd (cc (t)), λ k. elim k [ inl e ↦ absurd (cc (e)) | inr e ↦ absurd (cc (e)) ])
  | Previous ↦ (λ t. absurd (cc (t)), λ k. elim k [ inl e ↦ absurd (cc (e)) | inr e ↦ absurd (cc (e)) ])
  | Gap ↦ (λ t. absurd (cc (t)), λ k. elim k [ inl e ↦ absurd (cc (e)) | inr e ↦ absurd (cc (e)) ])
  | reasons.Front ↦ (λ t. absurd (cc (t)), λ k. elim k [ inl e ↦ absurd (cc (e)) | inr e ↦ absurd (cc (e)) ])
  | reasons.Unit ↦ (λ t. absurd (cc (t)), λ k. elim k [ inl e ↦ absurd (cc (e)) | inr e ↦ absurd (cc (e)) ])
]

pub names_say : (c : Claim) (x : ℕ) → (named_place c ≡ Some x) ↔ Names c x
unfolding named_place
names_say c x =
    let says = is_of_stretch-says c in
    elim (is_of_stretch c.reason) as (λ b. is_of_stretch c.reason ≡ b
    → ((if b then None else Some c.from) ≡ Some x) ↔ Names c x) [
      | true ↦ λ t. (λ e. absurd (cc (e)), λ n. absurd (n.0 (says.0 t)))
      | false ↦ λ f. (
        λ e. (λ s. let t = says.1 s in absurd (cc (t, f)), same_Some _ _ e),
        λ n. ap (λ (z : ℕ). Some z) n.1,
      )
    ] refl
