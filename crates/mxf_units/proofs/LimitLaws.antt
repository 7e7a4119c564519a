-- First packets of essence, and where the essence of a partition lies, by tests and by relations.
use Rattle.mxf_views.proofs.Common.{◌≡◌, ◌∙◌, ◌↔◌, ◌<◌, ◌+◌, ◌-◌, ◌==◌, ◌&&◌, ◌||◌, ◌⊎◌, ℕ, Bool, true, false, not}
use Rattle.mxf_views.proofs.Common.{IsTrue, List, Option, None, Some, refl, sym, ap, subst, inl, inr, arith, eq-eqb}
use Rattle.mxf_views.proofs.Common.{eqb-true, filter_map, find, if◌then◌else◌, is_some, lt-ltb, ltb-true, map, nat_lt}
use Rattle.mxf_views.proofs.Common.{option_and_then, and_from, and_parts, ltb-false, or_cases, option_map_or, option_or}
use Rattle.mxf_views.proofs.Common.{NoteParts, end_of, kind_of, In, In-append, In-filter_map, In-map, find-only}
use Rattle.mxf_views.proofs.Common.{found-In, either, IsContent, undisputed_notes, In-undisputed_notes}
use Rattle.mxf_views.proofs.Common.{undisputed_at-found, PartitionParts, partitions_of, previous_of, segments_of}
use Rattle.mxf_views.proofs.Common.{RipAtParts, rip_view_of}
use Rattle.mxf_klv.specs.declared.kinds.Kind.{Kind}
use Rattle.mxf_views.specs.declared.random_index.RipView.{RipView}
use Rattle.mxf_views.specs.declared.random_index.RipView.TheVariants.{Absent, Several, Unreadable, One}
use Rattle.mxf_views.proofs.PartitionSearch.{one_partition}
use Rattle.mxf_places.specs.Held.{IsDisputedAt, IsHeld, begins_clear_head, end_of_file, is_disputed_at, is_held}
use Rattle.mxf_places.specs.Held.{is_in_file}
use Rattle.mxf_places.specs.Claims.{behind_metadata, claims_of, index_of, known_end, named_place, over_fills}
use Rattle.mxf_places.specs.Named.{AreSegments}
use Rattle.mxf_places.specs.declared.claim.Claim.{Claim}
use Rattle.mxf_places.specs.declared.stretch.Stretch.{Stretch}
use Rattle.mxf_places.proofs.HeldLaws.{is_disputed_at-says, is_held-says}
use Rattle.mxf_places.proofs.OverLaws.{over_says}
use Rattle.mxf_places.proofs.ZoneLaws.{behind_says, zone_says}
use Rattle.mxf_units.specs.EssenceZones.{behind_index, begins_inside, bounds_of, essence_at, first_packet}
use Rattle.mxf_units.specs.EssenceZones.{is_clip_wrapped, is_essence, is_one, is_open_place, is_sure, limit_of}
use Rattle.mxf_units.specs.EssenceZones.{may_be_essence, names_before, open_place, rip_place_by, zone_by}
use Rattle.mxf_units.specs.Limits.{BeginsHead, IsAlone, IsBehindIndex, IsBound, IsClipWrapped, IsEssenceZone}
use Rattle.mxf_units.specs.Limits.{IsFirstPacket, IsLimit, IsOpenPlace, IsRipPlace, IsSure}
use Rattle.mxf_units.specs.declared.essence_zone.EssenceZone.{EssenceZone}
use Rattle.mxf_units.specs.Streams.{least_above, next_of}
use Rattle.mxf_units.proofs.LeastLaws.{IsLeast, least-is}
use Rattle.mxf_units.proofs.NextLaws.{next-is}
use Rattle.mxf_klv.specs.declared.kinds.Kind.TheVariants as kinds
use Rattle.mxf_places.specs.declared.stretch.Zone.TheVariants as zones

-- ---- first packets

alone-says : (notes : List NoteParts) (n : NoteParts) → In n (undisputed_notes notes) ↔ IsAlone notes n
alone-says notes n =
    let u = In-undisputed_notes n notes in (
      λ h. let k = u.0 h in record { held = k.0; undisputed = k.1 },
      λ a. u.1 (a.held, a.undisputed),
    )

kind-says : (k : Kind) → may_be_essence k ≡ true → (k ≡ kinds.Essence) ⊎ (k ≡ kinds.Other)
kind-says kinds.Essence e = inl refl
kind-says kinds.Other e = inr refl
kind-says (kinds.Header s) e = absurd cc
kind-says (kinds.Body s) e = absurd cc
kind-says (kinds.Footer s) e = absurd cc
kind-says kinds.Primer e = absurd cc
kind-says kinds.Segment e = absurd cc
kind-says kinds.Rip e = absurd cc
kind-says kinds.Preface e = absurd cc
kind-says kinds.Identification e = absurd cc
kind-says kinds.ContentStorage e = absurd cc
kind-says kinds.MaterialPackage e = absurd cc
kind-says kinds.SourcePackage e = absurd cc
kind-says kinds.RawSet e = absurd cc
kind-says kinds.Fill e = absurd cc

says-kind : (k : Kind) → (k ≡ kinds.Essence) ⊎ (k ≡ kinds.Other) → may_be_essence k ≡ true
says-kind k (inl e) = ap may_be_essence e
says-kind k (inr e) = ap may_be_essence e

guarded : {K : Type 0} (b : Bool) (x y : K) → (if b then Some x else None) ≡ Some y → (b ≡ true) × (x ≡ y)
guarded true x y e = (refl, cc)
guarded false x y e = absurd cc

essence-says : (notes : List NoteParts) (x : ℕ) (n : NoteParts) → essence_at notes x ≡ Some n
    → IsAlone notes n × (n.offset ≡ x) × ((kind_of n.key ≡ kinds.Essence) ⊎ (kind_of n.key ≡ kinds.Other))
essence-says notes x n e = elim (find (λ m. m.offset == x) (undisputed_notes notes)) as (λ (o : Option NoteParts).
    find (λ m. m.offset == x) (undisputed_notes notes) ≡ o
    → option_and_then (λ m. if may_be_essence (kind_of m.key) then Some m else None) o ≡ Some n
    → IsAlone notes n × (n.offset ≡ x) × ((kind_of n.key ≡ kinds.Essence) ⊎ (kind_of n.key ≡ kinds.Other))) [
      | None ↦ λ f g. absurd cc
      | Some m ↦ λ f g.
          let k = found-In (λ (m : NoteParts). m.offset == x) (undisputed_notes notes) m f in
          let s = guarded (may_be_essence (kind_of m.key)) m n g in
          subst (λ n. IsAlone notes n × (n.offset ≡ x)
          × ((kind_of n.key ≡ kinds.Essence) ⊎ (kind_of n.key ≡ kinds.Other))) s.1
          ((alone-says notes m).0 k.0, eqb-true m.offset x k.1, kind-says (kind_of m.key) s.0)
    ] refl e

says-essence : (notes : List NoteParts) (x : ℕ) (n : NoteParts) → IsAlone notes n → n.offset ≡ x
    → (kind_of n.key ≡ kinds.Essence) ⊎ (kind_of n.key ≡ kinds.Other) → essence_at notes x ≡ Some n
says-essence notes x n a e k =
    ap (λ (o : Option NoteParts). option_and_then (λ m. if may_be_essence (kind_of m.key) then Some m else None) o)
    (undisputed_at-found x notes n ((alone-says notes n).1 a) e)
    ∙ ap (λ b. if b then Some n else None) (says-kind (kind_of n.key) k)

-- ---- behind the header metadata and the index table segments

module _ (notes : List NoteParts) (content : IsContent notes) (p : PartitionParts) where
  -- The end of the segments, which aren't open.
  index-end : (x : ℕ) (o : Option Stretch) → index_of notes p ≡ o → option_and_then known_end o ≡ Some x
      → (s : Stretch) × AreSegments notes p s × (s.is_open ≡ false) × (x ≡ s.end)
  index-end x None f e = absurd cc
  index-end x (Some s) f e = elim s.is_open as (λ b. s.is_open ≡ b → (if b then None else Some s.end) ≡ Some x
      → (s : Stretch) × AreSegments notes p s × (s.is_open ≡ false) × (x ≡ s.end)) [
        | true ↦ λ _ g. absurd cc
        | false ↦ λ closed g. (s, (zone_says notes content p zones.Index s).0 f, closed, cc)
      ] refl e

  behind-says : (x : ℕ) → (behind_index notes p ≡ Some x) ↔ IsBehindIndex notes p x
  behind-says x =
      let count = p.pack.numbers.index_byte_count in
      let end = option_and_then known_end (index_of notes p) in
      let before = behind_metadata notes p in (
        λ e. elim (nat_lt 0 count) as (λ b. nat_lt 0 count ≡ b → (if b then end else before) ≡ Some x
            → IsBehindIndex notes p x) [
              | true ↦ λ _ f. inr (index-end x (index_of notes p) refl f)
              | false ↦ λ t f.
                  let low = ltb-false 0 count t in inl (omega (arith, low), (behind_says notes content p x).0 f)
            ] refl e,
        λ k. elim k [
          | inl z ↦ ap (λ n. if nat_lt 0 n then end else before) z.0 ∙ (behind_says notes content p x).1 z.1
          | inr s ↦ ap (λ b. if b then end else before) (lt-ltb 0 count s.1.0)
              ∙ ap (λ (o : Option Stretch). option_and_then known_end o)
              ((zone_says notes content p zones.Index s.0).1 s.1)
              ∙ ap (λ b. if b then None else Some s.0.end) s.2 ∙ ap (λ (y : ℕ). Some y) (sym s.3)
        ],
      )

  pub first-says : (n : NoteParts) → (first_packet notes p ≡ Some n) ↔ IsFirstPacket notes p n
  unfolding first_packet
  first-says n = (
    λ e. elim (behind_index notes p) as (λ (o : Option ℕ). behind_index notes p ≡ o
        → option_and_then (λ x. essence_at notes (over_fills notes x)) o ≡ Some n → IsFirstPacket notes p n) [
          | None ↦ λ f g. absurd cc
          | Some x ↦ λ f g.
              let s = essence-says notes (over_fills notes x) n g in
              record {
                from = x;
                behind = (behind-says x).0 f;
                begins = (over_says notes content x n.offset).0 (sym s.1);
                alone = s.0;
                kind = s.2;
              }
        ] refl e,
    λ i. ap (λ (o : Option ℕ). option_and_then (λ x. essence_at notes (over_fills notes x)) o)
        ((behind-says i.from).1 i.behind) ∙ says-essence notes (over_fills notes i.from) n i.alone
        (sym ((over_says notes content i.from n.offset).1 i.begins)) i.kind,
  )

-- ---- where all units lie in one packet

essence_kind : (k : Kind) → is_essence k ≡ true → k ≡ kinds.Essence
essence_kind kinds.Essence e = refl
essence_kind kinds.Other e = absurd cc
essence_kind (kinds.Header s) e = absurd cc
essence_kind (kinds.Body s) e = absurd cc
essence_kind (kinds.Footer s) e = absurd cc
essence_kind kinds.Primer e = absurd cc
essence_kind kinds.Segment e = absurd cc
essence_kind kinds.Rip e = absurd cc
essence_kind kinds.Preface e = absurd cc
essence_kind kinds.Identification e = absurd cc
essence_kind kinds.ContentStorage e = absurd cc
essence_kind kinds.MaterialPackage e = absurd cc
essence_kind kinds.SourcePackage e = absurd cc
essence_kind kinds.RawSet e = absurd cc
essence_kind kinds.Fill e = absurd cc

inside-says : (n : NoteParts) (second : Option ℕ) → begins_inside n second ≡ true
    → (m : ℕ) × (second ≡ Some m) × (n.offset + m < end_of n)
inside-says n None e = absurd cc
inside-says n (Some m) e = let l = ltb-true m (end_of n - n.offset) e in (m, refl, omega (arith, l))

pub clip-says : (notes : List NoteParts) (p : PartitionParts) (n : NoteParts)
    → IsTrue (is_clip_wrapped notes p n) ↔ IsClipWrapped notes p n
clip-says notes p n =
    let body = p.pack.numbers.body_sid in
    let second = next_of (segments_of notes) body 0 in
    let first = is_essence (kind_of n.key) && (p.pack.numbers.body_offset == 0) in (
      λ h.
          let a = and_parts first (begins_inside n second) h in
          let b = and_parts (is_essence (kind_of n.key)) (p.pack.numbers.body_offset == 0) a.0 in
          let s = inside-says n second a.1 in
          record {
            kind = essence_kind (kind_of n.key) b.0;
            begins = eqb-true _ _ b.1;
            second = s.0;
            second_is = (next-is (segments_of notes) body 0 (Some s.0)).0 s.1;
            inside = s.2;
          },
      λ c.
          let e = (next-is (segments_of notes) body 0 (Some c.second)).1 c.second_is in
          let l = c.inside in
          and_from first (begins_inside n second)
          (and_from (is_essence (kind_of n.key)) (p.pack.numbers.body_offset == 0) (ap is_essence c.kind)
          (eq-eqb _ _ c.begins)) (ap (begins_inside n) e ∙ lt-ltb c.second (end_of n - n.offset) (omega (arith, l))),
    )

-- ---- limits

head-says : (notes : List NoteParts) (x : ℕ) → IsTrue (begins_clear_head notes x) ↔ BeginsHead notes x
head-says notes x =
    let found = find (λ n. n.offset == x) (undisputed_notes notes) in (
      λ h. elim found as (λ (o : Option NoteParts). found ≡ o → option_map_or (λ n. not n.whole) o false ≡ true
          → BeginsHead notes x) [
            | None ↦ λ f g. absurd cc
            | Some n ↦ λ f g.
                let k = found-In (λ (n : NoteParts). n.offset == x) (undisputed_notes notes) n f in
                (n, (alone-says notes n).0 k.0, no n.whole g, eqb-true n.offset x k.1)
          ] refl h,
      λ b. ap (λ (o : Option NoteParts). option_map_or (λ n. not n.whole) o false)
          (undisputed_at-found x notes b.0 ((alone-says notes b.0).1 b.1) b.3) ∙ ap not b.2,
    )
  where
    no : (b : Bool) → not b ≡ true → b ≡ false
    no true e = absurd cc
    no false e = refl

denied : (P : Type 0) (b : Bool) → (IsTrue b ↔ P) → not b ≡ true → ¬ P
denied P true s e = absurd cc
denied P false s e = λ p. let t = s.1 p in cc (t)

not_so : (P : Type 0) (b : Bool) → (IsTrue b ↔ P) → ¬ P → not b ≡ true
not_so P true s n = absurd (n (s.0 refl))
not_so P false s n = refl

unknown-says : (notes : List NoteParts) (x : ℕ)
    → IsTrue (is_disputed_at notes x || begins_clear_head notes x || not (is_held notes x))
    ↔ ((IsDisputedAt notes x ⊎ BeginsHead notes x) ⊎ ¬ IsHeld notes x)
unknown-says notes x = (
  λ h. elim (or_cases (is_disputed_at notes x || begins_clear_head notes x) (not (is_held notes x)) h) [
    | inl a ↦ inl (elim (or_cases (is_disputed_at notes x) (begins_clear_head notes x) a) [
      | inl b ↦ inl ((is_disputed_at-says notes x).0 b)
      | inr b ↦ inr ((head-says notes x).0 b)
    ])
    | inr a ↦ inr (denied (IsHeld notes x) (is_held notes x) (is_held-says notes x) a)
  ],
  λ u. either (is_disputed_at notes x || begins_clear_head notes x) (not (is_held notes x)) (elim u [
    | inl a ↦ inl (either (is_disputed_at notes x) (begins_clear_head notes x) (elim a [
      | inl b ↦ inl ((is_disputed_at-says notes x).1 b)
      | inr b ↦ inr ((head-says notes x).1 b)
    ]))
    | inr a ↦ inr (not_so (IsHeld notes x) (is_held notes x) (is_held-says notes x) a)
  ]),
)

place-says : (notes : List NoteParts) (c : Claim) (x : ℕ) → open_place notes c ≡ Some x
    → (named_place c ≡ Some x) × IsTrue (is_open_place notes x)
unfolding open_place
place-says notes c x e = elim (named_place c) as (λ (o : Option ℕ).
    option_and_then (λ y. if is_open_place notes y then Some y else None) o ≡ Some x
    → (o ≡ Some x) × IsTrue (is_open_place notes x)) [
      | None ↦ λ f. absurd cc
      | Some y ↦ λ f.
          let s = guarded (is_open_place notes y) y x f in
          (ap (λ (n : ℕ). Some n) s.1, subst (λ z. is_open_place notes z ≡ true) s.1 s.0)
    ] e

says-place : (notes : List NoteParts) (c : Claim) (x : ℕ) → named_place c ≡ Some x → IsTrue (is_open_place notes x)
    → open_place notes c ≡ Some x
unfolding open_place
says-place notes c x e t =
    ap (λ (o : Option ℕ). option_and_then (λ y. if is_open_place notes y then Some y else None) o) e
    ∙ ap (λ b. if b then Some x else None) t

open-says : (notes : List NoteParts) (x : ℕ)
    → In x (filter_map (open_place notes) (claims_of notes)) ↔ IsOpenPlace notes x
open-says notes x =
    let m = In-filter_map (open_place notes) (claims_of notes) x in
    let unknown = is_disputed_at notes x || begins_clear_head notes x || not (is_held notes x) in (
      λ h.
          let s = m.0 h in
          let p = place-says notes s.0 x s.2 in
          let q = and_parts (is_in_file notes x) unknown p.1 in
          record { by = s.0; claimed = s.1; named = p.0; in_file = q.0; unknown = (unknown-says notes x).0 q.1 },
      λ o. m.1 (
        o.by,
        o.claimed,
        says-place notes o.by x o.named
            (and_from (is_in_file notes x) unknown o.in_file ((unknown-says notes x).1 o.unknown)),
      ),
    )

bound-says : (notes : List NoteParts) (x : ℕ) → In x (bounds_of notes) ↔ IsBound notes x
bound-says notes x =
    let a = In-append x (map (λ p. p.offset) (partitions_of notes)) (filter_map (open_place notes) (claims_of notes)) in
    let m = In-map (λ (p : PartitionParts). p.offset) (partitions_of notes) x in
    let o = open-says notes x in (
      λ h. elim (a.0 h) [ inl k ↦ let s = m.0 k in inl (s.0, s.1, sym s.2) | inr k ↦ inr (o.0 k) ],
      λ b. a.1 (elim b [ inl s ↦ inl (m.1 (s.0, s.1, sym s.2)) | inr k ↦ inr (o.1 k) ]),
    )

rip-says : (notes : List NoteParts) (x : ℕ) (view : RipView) → rip_view_of notes ≡ view
    → rip_place_by (end_of_file notes) view ≡ Some x → IsRipPlace notes x
rip-says notes x Absent e f = absurd cc
rip-says notes x Several e f = absurd cc
rip-says notes x (Unreadable offset) e f = absurd cc
rip-says notes x (One r) e f =
    let s = guarded (is_some (end_of_file notes)) r.offset x f in
    record { rip = r; only = e; ended = s.0; offset = s.1 }

says-rip : (notes : List NoteParts) (x : ℕ) → IsRipPlace notes x
    → rip_place_by (end_of_file notes) (rip_view_of notes) ≡ Some x
says-rip notes x r = ap (rip_place_by (end_of_file notes)) r.only
    ∙ ap (λ b. if b then Some r.rip.offset else None) r.ended ∙ ap (λ (n : ℕ). Some n) r.offset

by_least : (notes : List NoteParts) (p : PartitionParts) (least rip : Option ℕ)
    → IsLeast p.offset (bounds_of notes) least → rip_place_by (end_of_file notes) (rip_view_of notes) ≡ rip
    → IsLimit notes p (option_or least rip)
by_least notes p (Some l) rip is e =
    inl ((bound-says notes l).0 is.0, is.1, λ x b above. is.2 x ((bound-says notes x).1 b) above)
by_least notes p None (Some l) is e =
    inr (λ x b. is x ((bound-says notes x).1 b), rip-says notes l (rip_view_of notes) refl e)
by_least notes p None None is e = (
  λ x b. is x ((bound-says notes x).1 b),
  λ x r. let f = sym e ∙ says-rip notes x r in absurd cc,
)

pub limit-says : (notes : List NoteParts) (p : PartitionParts) → IsLimit notes p (limit_of notes p)
limit-says notes p =
    by_least notes p (least_above p.offset (bounds_of notes)) (rip_place_by (end_of_file notes) (rip_view_of notes))
    (least-is p.offset (bounds_of notes)) refl

one-says : (view : RipView) → is_one view ≡ true → (r : RipAtParts) × (view ≡ One r)
one-says Absent e = absurd cc
one-says Several e = absurd cc
one-says (Unreadable offset) e = absurd cc
one-says (One r) e = (r, refl)

names-says : (notes : List NoteParts) (x before : ℕ) → IsTrue (names_before notes x before)
    ↔ ((q : PartitionParts) × In q (partitions_of notes) × (q.offset ≡ x) × (previous_of q ≡ before))
names-says notes x before =
    let found = find (λ q. q.offset == x) (partitions_of notes) in (
      λ h. elim found as (λ (o : Option PartitionParts). found ≡ o
          → option_map_or (λ q. previous_of q == before) o false ≡ true
          → (q : PartitionParts) × In q (partitions_of notes) × (q.offset ≡ x) × (previous_of q ≡ before)) [
            | None ↦ λ f g. absurd cc
            | Some q ↦ λ f g.
                let k = found-In (λ (q : PartitionParts). q.offset == x) (partitions_of notes) q f in
                (q, k.0, eqb-true q.offset x k.1, eqb-true (previous_of q) before g)
          ] refl h,
      λ s.
          let e : found ≡ Some s.0 = find-only (λ (q : PartitionParts). q.offset == x) (partitions_of notes) s.0 s.1
          (eq-eqb s.0.offset x s.2) (λ q k t. one_partition notes q s.0 k s.1 (eqb-true q.offset x t ∙ sym s.2)) in
          ap (λ (o : Option PartitionParts). option_map_or (λ q. previous_of q == before) o false) e
          ∙ eq-eqb (previous_of s.0) before s.3,
    )

pub sure-says : (notes : List NoteParts) (p : PartitionParts) (limit : Option ℕ)
    → IsTrue (is_sure notes p limit) ↔ IsSure notes p limit
sure-says notes p None = (λ h. absurd cc, λ s. let e = s.at_is in absurd cc)
sure-says notes p (Some x) =
    let names = names-says notes x p.offset in (
      λ h. record {
        at = x;
        at_is = refl;
        told = elim (or_cases (is_one (rip_view_of notes)) (names_before notes x p.offset) h) [
          | inl a ↦ inl (one-says (rip_view_of notes) a)
          | inr a ↦ inr (names.0 a)
        ];
      },
      λ s.
          let e : x ≡ s.at = let f = s.at_is in cc in
          either (is_one (rip_view_of notes)) (names_before notes x p.offset) (elim s.told [
            | inl a ↦ inl (ap is_one a.1)
            | inr a ↦ inr (names.1 (a.0, a.1, a.2 ∙ sym e, a.3))
          ]),
    )

-- ---- where the essence lies

pub zone-by : (notes : List NoteParts) (p : PartitionParts) (n : NoteParts)
    → IsEssenceZone notes p n (zone_by notes p n)
zone-by notes p n =
    let clip = clip-says notes p n in
    let limit = limit_of notes p in
    elim (is_clip_wrapped notes p n) as (λ b. is_clip_wrapped notes p n ≡ b → IsEssenceZone notes p n (if b
    then record { body_offset = 0; origin = n.offset + 16 + n.width; limit = Some (end_of n); is_sure = true }
    else record {
      body_offset = p.pack.numbers.body_offset;
      origin = n.offset;
      limit = limit;
      is_sure = is_sure notes p limit;
    })) [
      | true ↦ λ e.
          let c = clip.0 e in
          record {
            clip = λ c. refl;
            body_offset = sym c.begins;
            origin = λ no. absurd (no c);
            limit = λ no. absurd (no c);
            sure = λ no. absurd (no c);
          }
      | false ↦ λ e.
          record {
            clip = λ c. let t = clip.1 c in absurd (cc (t, e));
            body_offset = refl;
            origin = λ no. refl;
            limit = λ no. limit-says notes p;
            sure = λ no. sure-says notes p limit;
          }
    ] refl

-- ---- it lies at one place

one-rip : (notes : List NoteParts) (x y : ℕ) → IsRipPlace notes x → IsRipPlace notes y → x ≡ y
one-rip notes x y a b =
    let e : One a.rip ≡ One b.rip = sym a.only ∙ b.only in
    let same : a.rip ≡ b.rip = cc (e) in sym a.offset ∙ ap (λ (r : RipAtParts). r.offset) same ∙ b.offset

one-limit : (notes : List NoteParts) (p : PartitionParts) (y z : Option ℕ) → IsLimit notes p y → IsLimit notes p z
    → y ≡ z
one-limit notes p None None a b = refl
one-limit notes p None (Some z) a (inl b) = let l = a.0 z b.0 in let m = b.1 in absurd (omega (arith, l, m))
one-limit notes p None (Some z) a (inr b) = absurd (a.1 z b.1)
one-limit notes p (Some y) None (inl a) b = let l = b.0 y a.0 in let m = a.1 in absurd (omega (arith, l, m))
one-limit notes p (Some y) None (inr a) b = absurd (b.1 y a.1)
one-limit notes p (Some y) (Some z) (inl a) (inl b) =
    let l = a.2 z b.0 b.1 in
    let m = b.2 y a.0 a.1 in
    let e : y ≡ z = omega (arith, l, m) in ap (λ (n : ℕ). Some n) e
one-limit notes p (Some y) (Some z) (inl a) (inr b) =
    let l = b.0 y a.0 in let m = a.1 in absurd (omega (arith, l, m))
one-limit notes p (Some y) (Some z) (inr a) (inl b) =
    let l = a.0 z b.0 in let m = b.1 in absurd (omega (arith, l, m))
one-limit notes p (Some y) (Some z) (inr a) (inr b) = ap (λ (n : ℕ). Some n) (one-rip notes y z a.1 b.1)

same_test : (P : Type 0) (a b : Bool) → (IsTrue a ↔ P) → (IsTrue b ↔ P) → a ≡ b
same_test P true true s t = refl
same_test P true false s t = let e = t.1 (s.0 refl) in absurd (cc (e))
same_test P false true s t = let e = s.1 (t.0 refl) in absurd (cc (e))
same_test P false false s t = refl

pub one-zone : (notes : List NoteParts) (p : PartitionParts) (n : NoteParts) (y z : EssenceZone)
    → IsEssenceZone notes p n y → IsEssenceZone notes p n z → y ≡ z
one-zone notes p n y z a b =
    let clip = clip-says notes p n in
    elim (is_clip_wrapped notes p n) as (λ t. is_clip_wrapped notes p n ≡ t → y ≡ z) [
      | true ↦ λ e. a.clip (clip.0 e) ∙ sym (b.clip (clip.0 e))
      | false ↦ λ e.
          let no : ¬ IsClipWrapped notes p n = λ c. let t = clip.1 c in cc (t, e) in
          let body = a.body_offset ∙ sym b.body_offset in
          let origin = a.origin no ∙ sym (b.origin no) in
          let limit = one-limit notes p y.limit z.limit (a.limit no) (b.limit no) in
          let sure = same_test (IsSure notes p z.limit) y.is_sure z.is_sure
          (subst (λ (l : Option ℕ). IsTrue y.is_sure ↔ IsSure notes p l) limit (a.sure no)) (b.sure no) in
          λ i. record { body_offset = body i; origin = origin i; limit = limit i; is_sure = sure i }
    ] refl
