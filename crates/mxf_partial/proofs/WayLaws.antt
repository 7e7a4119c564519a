-- The ways from partitions of streams, by where these begin.
use Rattle.mxf_views.proofs.Common.{◌≡◌, ◌↔◌, ◌⊎◌, ◌∙◌, ◌+◌, ◌<◌, ◌≤◌, ◌==◌, ℕ, true, false, List, ◌∷◌, Option, None}
use Rattle.mxf_views.proofs.Common.{Some, ap, arith, drop, find, get_or, if◌then◌else◌, inl, inr, is_some, length}
use Rattle.mxf_views.proofs.Common.{nat_lt, refl, suc, subst, sym, ltb-false, same_Some, IsNote, greatest_end}
use Rattle.mxf_views.proofs.Common.{IsCatalogue, undisputed_notes, In-undisputed_notes, NoteParts, In, IsRising, all-In}
use Rattle.mxf_views.proofs.Common.{find-only, found-In, lt_from_less, IsContent, place_cmp, drop_all, drop-cons}
use Rattle.mxf_views.proofs.Common.{PartitionParts, in_numbers, partitions_of}
use Rattle.mxf_views.specs.declared.index.place.StreamPlace.{StreamPlace}
use Rattle.std.proofs.Common.{nat_cmp}
use Rattle.std.proofs.lemmas.Bool.{eq-eqb, eqb-true, lt-ltb, ltb-true}
use Rattle.std.specs.Option.{option_and_then, option_map}
use Rattle.mxf_places.specs.Claims.{over_fills, index_of, metadata_of}
use Rattle.mxf_views.proofs.PartitionLaws.{one_there, partitions_rise}
use Rattle.mxf_units.specs.declared.essence_zone.EssenceZone.{EssenceZone}
use Rattle.mxf_restore.specs.declared.named.NamedPlace.{NamedPlace}
use Rattle.mxf_units.specs.EssenceZones.{parts_of}
use Rattle.mxf_units.specs.declared.essence_zone.part.StreamPart.{StreamPart}
use Rattle.mxf_partial.specs.InStreams.{HasNoneFrom, IsFirstFrom, IsInOrder}
use Rattle.mxf_partial.specs.Streams.{HasNoPartBehind, IsPart, IsPartBehind}
use Rattle.mxf_partial.specs.Ways.{HasPlace, HasWay, LeadsTo, way_from, way_of}
use Rattle.mxf_partial.proofs.InStreamLaws.{in_order_from, then_less}
use Rattle.mxf_places.proofs.StretchLaws.{over_none}

abbrev of : StreamPlace → ℕ
of p = p.body_sid

abbrev at : StreamPlace → ℕ
at p = p.offset

abbrev tie : StreamPlace → ℕ
tie p = 0

module _ (notes : List NoteParts) (places : List StreamPlace) (part : StreamPart) (from : ℕ)
    (is_from : from ≡ part.body_offset) where
  -- No place lies at or above where the part begins.
  pub no_place : HasNoneFrom of at tie places part.body_sid from → ¬ HasPlace notes places part
  no_place none h =
      let l = none h.0 h.1 (sym h.2.body) in
      let begins = h.2.begins in omega (arith, l, begins, is_from)

  -- One does, and no part begins behind.
  pub last_place : (p : StreamPlace) → IsFirstFrom of at tie places part.body_sid from p
      → HasNoPartBehind notes part.body_sid part.body_offset → HasPlace notes places part
  last_place p is none =
      let above = is.above in (
        p,
        is.among,
        record {
          body = sym is.same;
          begins = omega (arith, above, is_from);
          last = λ q k l. none q (subst (λ b. IsPart notes b q) is.same k);
        },
      )

  -- One does, and the first part behind begins there.
  pub by_next : (p : StreamPlace) (next : ℕ) → IsFirstFrom of at tie places part.body_sid from p
      → ((q : StreamPart) × IsPartBehind notes part.body_sid part.body_offset q × (q.body_offset ≡ next))
      → (nat_lt p.offset next ≡ true) ↔ HasPlace notes places part
  by_next p next is (q, behind, e) = (
    λ t.
        let less = ltb-true p.offset next t in
        let above = is.above in (
          p,
          is.among,
          record {
            body = sym is.same;
            begins = omega (arith, above, is_from);
            last = λ r k l. by_order r (subst (λ b. IsPart notes b r) is.same k) l less;
          },
        ),
    λ h.
        let above = h.2.begins in
        let far = behind.behind in
        let here : p.offset ≤ h.0.offset = elim (is.first h.0 h.1 (sym h.2.body) (omega (arith, above, is_from))) [
          | inl l ↦ omega (arith, l)
          | inr s ↦ let same = s.0 in omega (arith, same)
        ] in
        lt-ltb p.offset next (before_next h here far),
  )
    where
      by_order : (r : StreamPart) → IsPart notes part.body_sid r → r.body_offset ≤ p.offset → p.offset < next
          → r.body_offset ≤ part.body_offset
      by_order r k l less =
          elim (nat_lt part.body_offset r.body_offset) as (λ b. nat_lt part.body_offset r.body_offset ≡ b
          → r.body_offset ≤ part.body_offset) [
            | true ↦ λ t.
                let up = ltb-true part.body_offset r.body_offset t in
                elim (behind.first r k up) [
                  | inl m ↦ omega (arith, m, l, less, e)
                  | inr s ↦ let same = s.0 in omega (arith, same, l, less, e)
                ]
            | false ↦ λ t. ltb-false part.body_offset r.body_offset t
          ] refl

      before_next : (h : HasPlace notes places part) → p.offset ≤ h.0.offset → part.body_offset < q.body_offset
          → p.offset < next
      before_next h here far =
          elim (nat_lt p.offset next) as (λ b. nat_lt p.offset next ≡ b → p.offset < next) [
            | true ↦ λ t. ltb-true p.offset next t
            | false ↦ λ t.
                let over = ltb-false p.offset next t in
                let last = h.2.last q (subst (λ b. IsPart notes b q) h.2.body behind.part)
                (omega (arith, over, here, e)) in
                omega (arith, last, far)
          ] refl

-- ---- the way from the partition of a part

in_numbers_alike : (notes : List NoteParts) (p : PartitionParts) → way_of notes (in_numbers p) ≡ way_of notes p
unfolding way_of metadata_of index_of
in_numbers_alike notes p = refl

way_says : (notes : List NoteParts) (part : StreamPart) (n : NamedPlace) → way_from notes part ≡ Some n
    → (p : PartitionParts) × In p (partitions_of notes) × (p.offset ≡ part.partition) × (way_of notes p ≡ Some n.place)
    × (part.zone ≡ None) × (n.source ≡ Some part.partition)
way_says notes part n e = by_zone part.zone refl e
  where
    by_place : (p : PartitionParts) → find (λ q. q.offset == part.partition) (partitions_of notes) ≡ Some p
        → part.zone ≡ None → (o : Option ℕ) → way_of notes (in_numbers p) ≡ o
        → option_map (λ x. record { place = x; source = Some part.partition }) o ≡ Some n
        → (p : PartitionParts) × In p (partitions_of notes) × (p.offset ≡ part.partition)
        × (way_of notes p ≡ Some n.place) × (part.zone ≡ None) × (n.source ≡ Some part.partition)
    by_place p is none None w f = absurd cc
    by_place p is none (Some x) w f =
        let found = found-In (λ (q : PartitionParts). q.offset == part.partition) (partitions_of notes) p is in
        let same = same_Some _ n f in (
          p,
          found.0,
          eqb-true p.offset part.partition (let t : (p.offset == part.partition) ≡ true = grind (arith, found.1) in t),
          sym (in_numbers_alike notes p) ∙ w ∙ ap (λ (m : NamedPlace). Some m.place) same,
          none,
          sym (ap (λ (m : NamedPlace). m.source) same),
        )

    by_partition : (o : Option PartitionParts) → find (λ q. q.offset == part.partition) (partitions_of notes) ≡ o
        → part.zone ≡ None → option_map (λ x. record { place = x; source = Some part.partition })
        (option_and_then (way_of notes) (option_map in_numbers o)) ≡ Some n
        → (p : PartitionParts) × In p (partitions_of notes) × (p.offset ≡ part.partition)
        × (way_of notes p ≡ Some n.place) × (part.zone ≡ None) × (n.source ≡ Some part.partition)
    by_partition None is none f = absurd cc
    by_partition (Some p) is none f = by_place p is none (way_of notes (in_numbers p)) refl f

    by_zone : (z : Option EssenceZone) → part.zone ≡ z
        → (if is_some z then None else option_map (λ x. record { place = x; source = Some part.partition })
        (option_and_then (way_of notes) (option_map in_numbers (find (λ q. q.offset == part.partition)
        (partitions_of notes))))) ≡ Some n
        → (p : PartitionParts) × In p (partitions_of notes) × (p.offset ≡ part.partition)
        × (way_of notes p ≡ Some n.place) × (part.zone ≡ None) × (n.source ≡ Some part.partition)
    by_zone None none f = by_partition (find (λ q. q.offset == part.partition) (partitions_of notes)) refl none f
    by_zone (Some z) some f = absurd cc

says_way : (notes : List NoteParts) (part : StreamPart) (p : PartitionParts) (n : NamedPlace) → IsContent notes
    → In p (partitions_of notes) → p.offset ≡ part.partition → way_of notes p ≡ Some n.place → part.zone ≡ None
    → n.source ≡ Some part.partition → way_from notes part ≡ Some n
says_way notes part p n content i at w none source =
    grind (arith, find-only, eq-eqb, one_there, partitions_rise, eqb-true, is_some, find, in_numbers_alike)

pub ways_are : (notes : List NoteParts) (places others : List StreamPlace) (n : NamedPlace) → IsContent notes
    → ((p : StreamPlace) → In p others ↔ In p places) → HasWay notes notes others (parts_of notes) n
    ↔ ((p : StreamPlace) × (part : StreamPart) × In p places × LeadsTo notes p.body_sid p.offset part n.place
    × (n.source ≡ Some part.partition))
ways_are notes places others n content same = grind (arith, way_says, says_way)

-- ---- one part after another

-- One part more.
pub one_part_more : (notes held : List NoteParts) (places : List StreamPlace) (parts : List StreamPart) (i : ℕ)
    (d : StreamPart) (old mid new : List NamedPlace) (n : NamedPlace) → i < length parts
    → In n new ↔ (In n mid ⊎ (HasPlace notes places (get_or parts i d) × (way_from held (get_or parts i d) ≡ Some n)))
    → (In n mid ⊎ HasWay notes held places (drop i parts) n) ↔ (In n old ⊎ HasWay notes held places parts n)
    → (In n new ⊎ HasWay notes held places (drop (i + 1) parts) n) ↔ (In n old ⊎ HasWay notes held places parts n)
one_part_more notes held places parts i d old mid new n less more so =
    let next : suc i ≡ i + 1 = omega arith in
    let e = drop-cons parts i d less ∙ ap (λ k. get_or parts i d ∷ drop k parts) next in (
      λ h. so.0 (elim h [
        | inl k ↦ elim (more.0 k) [
          | inl m ↦ inl m
          | inr m ↦ inr (subst (λ l. HasWay notes held places l n) (sym e) (get_or parts i d, inl refl, m.0, m.1))
        ]
        | inr k ↦ inr (subst (λ l. HasWay notes held places l n) (sym e) (k.0, inr k.1, k.2, k.3))
      ]),
      λ h. elim (so.1 h) [
        | inl k ↦ inl (more.1 (inl k))
        | inr k ↦ first_or_later (subst (λ l. HasWay notes held places l n) e k)
      ],
    )
  where
    first_or_later : HasWay notes held places (get_or parts i d ∷ drop (i + 1) parts) n
        → In n new ⊎ HasWay notes held places (drop (i + 1) parts) n
    first_or_later k = elim k.1 [
      | inl f ↦ inl (more.1 (inr (subst (HasPlace notes places) f k.2, subst (λ p. way_from held p ≡ Some n) f k.3)))
      | inr f ↦ inr (k.0, f, k.2, k.3)
    ]

-- No part is left.
pub no_part_more : (notes held : List NoteParts) (places : List StreamPlace) (parts : List StreamPart) (i : ℕ)
    (old new : List NamedPlace) (n : NamedPlace) → length parts ≤ i
    → (In n new ⊎ HasWay notes held places (drop i parts) n) ↔ (In n old ⊎ HasWay notes held places parts n)
    → In n new ↔ (In n old ⊎ HasWay notes held places parts n)
no_part_more notes held places parts i old new n far so = grind (arith, drop_all)

-- ---- places in the order of streams

pub in_order_is : (ps : List StreamPlace) → IsRising place_cmp ps → IsInOrder of at tie ps
in_order_is ps r = grind (arith, in_order_from, then_less, nat_cmp, lt_from_less)

-- ---- fills

-- No packet begins where files end at the latest, or above.
pub far_from_fills : (notes : List NoteParts) (x : ℕ) → IsCatalogue notes → greatest_end ≤ x → x ≡ over_fills notes x
far_from_fills notes x is far = sym (over_none (undisputed_notes notes) x (λ n h e.
    let note : IsNote n = all-In IsNote notes n is.members ((In-undisputed_notes n notes).0 h).0 in
    let end : n.offset + 16 + n.width + n.length ≤ greatest_end = note.within in omega (arith, end, far, e)))
