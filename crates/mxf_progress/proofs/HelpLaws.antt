-- What is restored first of a section, by tests and by relations.
use Rattle.mxf_views.proofs.Common.{◌≡◌, ◌↔◌, ◌∙◌, ◌<◌, ◌≤◌, ℕ, Bool, true, false, IsTrue, List, []}
use Rattle.mxf_views.proofs.Common.{Option, None, Some, if◌then◌else◌, refl, sym, ap, subst, inl, inr, arith}
use Rattle.mxf_views.proofs.Common.{option_to_list, same_Some, NoteParts, In, IsContent, PartitionParts, partitions_of}
use Rattle.mxf_views.proofs.PartitionLaws.{one_there, partitions_rise}
use Rattle.mxf_places.specs.AtHand.{AreAtHand, AtHandParts}
use Rattle.mxf_places.specs.Claims.{claim_at, place_claim, stretch_claim, zone_of}
use Rattle.mxf_places.specs.FirstClaims.{IsFirstClaim, IsSourceUpTo, SpeaksOf, reason_rank}
use Rattle.mxf_places.specs.Heads.{start_of}
use Rattle.mxf_places.specs.Named.{IsClaim, IsClaimFor, NamesFooter}
use Rattle.mxf_places.specs.declared.claim.Claim.{Claim}
use Rattle.mxf_places.specs.declared.reason.Reason.{Reason}
use Rattle.mxf_places.specs.declared.reason.Reason.TheVariants as reasons
use Rattle.mxf_places.specs.declared.stretch.Stretch.{Stretch}
use Rattle.mxf_places.specs.declared.stretch.Zone.TheVariants as zones
use Rattle.mxf_places.proofs.FirstLaws.{first_says, none_speaks}
use Rattle.mxf_places.proofs.ZoneLaws.{zone_says}
use Rattle.mxf_restore.specs.Fronts.{IsFront, front_of}
use Rattle.mxf_restore.specs.Orders.{IsOrder}
use Rattle.mxf_restore.specs.Plan.{orders_of}
use Rattle.mxf_restore.specs.declared.section.Section.{Section}
use Rattle.mxf_restore.specs.declared.plan.Order.{Order}
use Rattle.mxf_restore.proofs.FrontLaws.{front_law}
use Rattle.mxf_restore.proofs.PartLaws.{orders_say}
use Rattle.mxf_restore.proofs.StartLaws.{one_start_of, start_is}
use Rattle.mxf_partial.specs.Helping.{helping_by, helping_for, helping_of}
use Rattle.mxf_progress.specs.RestoredFirst.{Helps, HelpsAt, IsElsewhere, IsFooterPlace, LiesFirstInMetadata}
use Rattle.mxf_progress.specs.RestoredFirst.{LiesInMetadata, LiesInSegments}
use Rattle.mxf_progress.specs.RestoredFirst.HelpsAt.{Footer, Header, Index, Metadata, OpenMetadata}

-- ---- what packs say of an offset

module _ (notes : List NoteParts) (x : ℕ) where
  abbrev SomeSpeaks : Reason → Type 0
  SomeSpeaks r = (c : Claim) × (c.reason ≡ r) × IsClaim notes c × SpeaksOf c x

  header_speaks : x ≡ 0 → SomeSpeaks reasons.Header
  header_speaks z = (place_claim reasons.Header None 0, refl, refl, (omega arith, omega (arith, z)))

  footer_speaks : IsFooterPlace notes x → SomeSpeaks reasons.Footer
  footer_speaks k = (
    place_claim reasons.Footer (Some k.0.offset) x,
    refl,
    (k.0, k.1, (x, k.2, refl)),
    (omega arith, omega arith),
  )

  metadata_speak : (p : PartitionParts) (s : Stretch) → LiesInMetadata notes x p s → SomeSpeaks reasons.Metadata
  metadata_speak p s l = (
    stretch_claim reasons.Metadata p s,
    refl,
    (p, l.held, (s, l.metadata, refl)),
    (l.from, l.before),
  )

  segments_speak : (p : PartitionParts) (s : Stretch) → LiesInSegments notes x p s → SomeSpeaks reasons.Index
  segments_speak p s l = (
    stretch_claim reasons.Index p s,
    refl,
    (p, l.held, (s, l.segments, refl)),
    (l.from, l.before),
  )

module _ (notes : List NoteParts) (content : IsContent notes) (x : ℕ) (c : Claim) (f : IsFirstClaim notes x c) where
  -- Its reason goes up to that of any claim that speaks of the offset.
  up : (r : Reason) → SomeSpeaks notes x r → reason_rank c.reason ≤ reason_rank r
  up r k =
      let same = ap reason_rank k.1 in
      elim (f.first k.0 k.2 k.3) [
        | inl l ↦ omega (arith, l, same)
        | inr m ↦ (let e = ap reason_rank m.0 in omega (arith, e, same))
      ]

  above : (r : Reason) → c.reason ≡ r → (s : Reason) → reason_rank s < reason_rank r → ¬ SomeSpeaks notes x s
  above r e s l k = let u = up s k in let same = ap reason_rank e in omega (arith, u, same, l)

  claimed : (r : Reason) → c.reason ≡ r → IsClaimFor r notes c
  claimed r e = subst (λ r. IsClaimFor r notes c) e f.claim

  begins : c.reason ≡ reasons.Header → x ≡ 0
  begins e =
      let is = claimed reasons.Header e in
      let s = subst (λ d. SpeaksOf d x) is f.speaks in let low = s.1 in omega (arith, low)

  footer : c.reason ≡ reasons.Footer → IsFooterPlace notes x
  footer e =
      let is = claimed reasons.Footer e in
      let s = subst (λ d. SpeaksOf d x) is.2.2 f.speaks in
      let low = s.0 in
      let high = s.1 in
      let same : is.2.0 ≡ x = omega (arith, low, high) in
      (is.0, is.1, subst (NamesFooter is.0) same is.2.1)

  elsewhere : (r : Reason) → c.reason ≡ r → 1 < reason_rank r → IsElsewhere notes x
  elsewhere r e l = record {
    within = λ z. above r e reasons.Header (omega (arith, l)) (header_speaks notes x z);
    unnamed = λ k. above r e reasons.Footer l (footer_speaks notes x k);
  }

  metadata : c.reason ≡ reasons.Metadata
      → (s : Stretch) × LiesFirstInMetadata notes x s × (c.is_open ≡ s.is_open)
  unfolding metadata_speak
  metadata e =
      let is = claimed reasons.Metadata e in
      let speaks = subst (λ d. SpeaksOf d x) is.2.2 f.speaks in (
        is.2.0,
        record {
          partition = is.0;
          lies = record { held = is.1; metadata = is.2.1; from = speaks.0; before = speaks.1 };
          first = λ q t l.
              let k = metadata_speak notes x q t l in
              elim (f.first k.0 k.2 k.3) [
                | inl less ↦ absurd (
                    let same = ap reason_rank e in
                    let other = ap reason_rank k.1 in omega (arith, less, same, other))
                | inr m ↦ subst (λ o. IsSourceUpTo o (Some q.offset))
                    (ap (λ (d : Claim). d.source) is.2.2) m.1
              ];
        },
        ap (λ (d : Claim). d.is_open) is.2.2,
      )

  -- Of two stretches in which the offset lies first there is one.
  one_stretch : (s t : Stretch) → LiesFirstInMetadata notes x s → LiesFirstInMetadata notes x t → s ≡ t
  one_stretch s t a b =
      let p = a.partition in
      let q = b.partition in
      let low = a.first q t b.lies in
      let high = b.first p s a.lies in
      let at : p.offset ≡ q.offset = omega (arith, low, high) in
      let same = one_there (partitions_of notes) p q (partitions_rise notes content) a.lies.held b.lies.held at in
      same_Some _ _ (sym ((zone_says notes content p zones.Metadata s).1 a.lies.metadata)
      ∙ ap (zone_of zones.Metadata notes) same ∙ (zone_says notes content q zones.Metadata t).1 b.lies.metadata)

  segments : c.reason ≡ reasons.Index → (p : PartitionParts) × (s : Stretch) × LiesInSegments notes x p s
  segments e =
      let is = claimed reasons.Index e in
      let speaks = subst (λ d. SpeaksOf d x) is.2.2 f.speaks in
      (is.0, is.2.0, record { held = is.1; segments = is.2.1; from = speaks.0; before = speaks.1 })

-- ---- what is restored first

undescribed : ¬ IsTrue false
undescribed t = absurd cc

module _ (described : Bool) (at : AtHandParts) (notes : List NoteParts) (content : IsContent notes)
    (hand : AreAtHand at) (p : Section) (o : Order) where
  whole : In o (orders_of at notes p) ↔ IsOrder at notes p o
  whole = orders_say at notes content hand.given hand.hand p o

  front : In o (option_to_list (front_of at notes p)) ↔ IsFront at notes p o
  front =
      let law = front_law at notes p o content hand.given hand.hand in (
        λ k. elim (front_of at notes p) as (λ d. front_of at notes p ≡ d → In o (option_to_list d)
            → IsFront at notes p o) [
              | None ↦ λ e h. absurd h
              | Some d ↦ λ e h. elim h [
                | inl same ↦ law.0 (e ∙ ap (λ (d : Order). Some d) (sym same))
                | inr none ↦ absurd none
              ]
            ] refl k,
        λ is. subst (λ d. In o (option_to_list d)) (sym (law.1 is)) (inl refl),
      )

  abbrev Says : ℕ → List Order → Type 0
  Says x orders = In o orders ↔ HelpsAt (IsTrue described) at notes p x o

  module _ (x : ℕ) (c : Claim) (f : IsFirstClaim notes x c) where
    of_header : c.reason ≡ reasons.Header → Says x (option_to_list (front_of at notes p))
    of_header e =
        let z = begins notes content x c f e in (
          λ k. Header z (front.0 k),
          λ h. elim h [
            | Header y is ↦ front.1 is
            | Footer k is ↦ absurd (let below = k.2.1 in omega (arith, below, z))
            | Metadata m d s l t is ↦ absurd (m.within z)
            | OpenMetadata m d s l t is ↦ absurd (m.within z)
            | Index m n q s l is ↦ absurd (m.within z)
          ],
        )

    of_footer : c.reason ≡ reasons.Footer → Says x (orders_of at notes p)
    of_footer e =
        let k = footer notes content x c f e in (
          λ h. Footer k (whole.0 h),
          λ h. elim h [
            | Header y is ↦ absurd (let below = k.2.1 in omega (arith, below, y))
            | Footer l is ↦ whole.1 is
            | Metadata m d s l t is ↦ absurd (m.unnamed k)
            | OpenMetadata m d s l t is ↦ absurd (m.unnamed k)
            | Index m n q s l is ↦ absurd (m.unnamed k)
          ],
        )

    of_metadata : c.reason ≡ reasons.Metadata → Says x (if described then []
        else (if c.is_open then option_to_list (front_of at notes p) else orders_of at notes p))
    of_metadata e =
        let m = metadata notes content x c f e in
        let past = elsewhere notes content x c f reasons.Metadata e (omega arith) in
        elim described as (λ d. described ≡ d → In o (if d then []
        else (if c.is_open then option_to_list (front_of at notes p) else orders_of at notes p))
        ↔ HelpsAt (IsTrue d) at notes p x o) [
          | true ↦ λ t. (
            λ h. absurd h,
            λ h. elim h [
              | Header z is ↦ absurd (past.within z)
              | Footer k is ↦ absurd (past.unnamed k)
              | Metadata n d s l u is ↦ absurd (d refl)
              | OpenMetadata n d s l u is ↦ absurd (d refl)
              | Index n none q s l is ↦ absurd (none m.1.partition m.0 m.1.lies)
            ],
          )
          | false ↦ λ t. elim c.is_open as (λ b. c.is_open ≡ b
              → In o (if b then option_to_list (front_of at notes p) else orders_of at notes p)
              ↔ HelpsAt (IsTrue false) at notes p x o) [
                | true ↦ λ opened. (
                  λ h. OpenMetadata past undescribed m.0 m.1 (sym m.2 ∙ opened) (front.0 h),
                  λ h. elim h [
                    | Header z is ↦ absurd (past.within z)
                    | Footer k is ↦ absurd (past.unnamed k)
                    | Metadata n d s l u is ↦ absurd (
                        let same = ap (λ (s : Stretch). s.is_open) (one_stretch notes content x c f m.0 s m.1 l) in
                        let closed = sym opened ∙ m.2 ∙ same ∙ u in cc (closed))
                    | OpenMetadata n d s l u is ↦ front.1 is
                    | Index n none q s l is ↦ absurd (none m.1.partition m.0 m.1.lies)
                  ],
                )
                | false ↦ λ closed. (
                  λ h. Metadata past undescribed m.0 m.1 (sym m.2 ∙ closed) (whole.0 h),
                  λ h. elim h [
                    | Header z is ↦ absurd (past.within z)
                    | Footer k is ↦ absurd (past.unnamed k)
                    | Metadata n d s l u is ↦ whole.1 is
                    | OpenMetadata n d s l u is ↦ absurd (
                        let same = ap (λ (s : Stretch). s.is_open) (one_stretch notes content x c f m.0 s m.1 l) in
                        let opened = sym closed ∙ m.2 ∙ same ∙ u in cc (opened))
                    | Index n none q s l is ↦ absurd (none m.1.partition m.0 m.1.lies)
                  ],
                )
              ] refl
        ] refl

    of_segments : c.reason ≡ reasons.Index → Says x (orders_of at notes p)
    of_segments e =
        let past = elsewhere notes content x c f reasons.Index e (omega arith) in
        let none = λ (q : PartitionParts) (s : Stretch) (l : LiesInMetadata notes x q s).
        above notes content x c f reasons.Index e reasons.Metadata (omega arith) (metadata_speak notes x q s l) in
        let there = segments notes content x c f e in (
          λ h. Index past none there.0 there.1 there.2 (whole.0 h),
          λ h. elim h [
            | Header z is ↦ absurd (past.within z)
            | Footer k is ↦ absurd (past.unnamed k)
            | Metadata n d s l u is ↦ absurd (none l.partition s l.lies)
            | OpenMetadata n d s l u is ↦ absurd (none l.partition s l.lies)
            | Index n m q s l is ↦ whole.1 is
          ],
        )

    -- Where what is claimed first ranks behind all of these, nothing is restored first.
    of_none : (r : Reason) → c.reason ≡ r → 3 < reason_rank r → Says x []
    of_none r e l =
        let past = elsewhere notes content x c f r e (omega (arith, l)) in (
          λ h. absurd h,
          λ h. elim h [
            | Header z is ↦ absurd (past.within z)
            | Footer k is ↦ absurd (past.unnamed k)
            | Metadata n d s m u is ↦ absurd (above notes content x c f r e reasons.Metadata (omega (arith, l))
                (metadata_speak notes x m.partition s m.lies))
            | OpenMetadata n d s m u is ↦ absurd (above notes content x c f r e reasons.Metadata (omega (arith, l))
                (metadata_speak notes x m.partition s m.lies))
            | Index n m q s k is ↦ absurd (above notes content x c f r e reasons.Index l
                (segments_speak notes x q s k))
          ],
        )

    by_reason : (r : Reason) → c.reason ≡ r → Says x (helping_for described at notes p c r)
    by_reason reasons.Header e = of_header e
    by_reason reasons.Footer e = of_footer e
    by_reason reasons.Metadata e = of_metadata e
    by_reason reasons.Index e = of_segments e
    by_reason reasons.Entry e = of_none reasons.Entry e (omega arith)
    by_reason reasons.Previous e = of_none reasons.Previous e (omega arith)
    by_reason reasons.Gap e = of_none reasons.Gap e (omega arith)
    by_reason reasons.Front e = of_none reasons.Front e (omega arith)
    by_reason reasons.Unit e = of_none reasons.Unit e (omega arith)

  unclaimed : (x : ℕ) → claim_at notes x ≡ None → Says x []
  unclaimed x e =
      let silent = λ (r : Reason) (k : SomeSpeaks notes x r). (none_speaks notes x content).0 e k.0 k.2 k.3 in (
        λ h. absurd h,
        λ h. elim h [
          | Header z is ↦ absurd (silent reasons.Header (header_speaks notes x z))
          | Footer k is ↦ absurd (silent reasons.Footer (footer_speaks notes x k))
          | Metadata n d s l u is ↦ absurd (silent reasons.Metadata (metadata_speak notes x l.partition s l.lies))
          | OpenMetadata n d s l u is ↦ absurd (silent reasons.Metadata (metadata_speak notes x l.partition s l.lies))
          | Index n m q s l is ↦ absurd (silent reasons.Index (segments_speak notes x q s l))
        ],
      )

  by_claim : (x : ℕ) (claim : Option Claim) → claim_at notes x ≡ claim → Says x (helping_by described at notes p claim)
  by_claim x None e = unclaimed x e
  by_claim x (Some c) e = by_reason x c ((first_says notes x c content).0 e) c.reason refl

  pub helping_says : In o (helping_of described at notes p) ↔ Helps (IsTrue described) at notes p o
  helping_says =
      let x = start_of notes p.first in
      let says = by_claim x (claim_at notes x) refl in
      let start = start_is notes content p.first in (
        λ k. record { start = x; is_start = start; helps = says.0 k },
        λ h. says.1 (subst (λ y. HelpsAt (IsTrue described) at notes p y o)
            (one_start_of notes p.first h.start x h.is_start start) h.helps),
      )
