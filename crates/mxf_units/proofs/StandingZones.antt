-- The essence zone in which an offset is to be found, by the parts in their order and by the partitions.
use Rattle.mxf_views.proofs.Common.{◌≡◌, ◌≢◌, ◌∙◌, ◌↔◌, ◌<◌, ◌≤◌, ◌==◌, ℕ, Bool, true, false, not, List, [], ◌∷◌}
use Rattle.mxf_views.proofs.Common.{Option, None, Some, Err, refl, sym, ap, subst, inl, inr, filter, map, arith}
use Rattle.mxf_views.proofs.Common.{reverse, eq-eqb, eqb-true, nat_le, is_some, if◌then◌else◌, and_from, and_parts}
use Rattle.mxf_views.proofs.Common.{cases_lt, le-leb, leb-true, nat_cmp_total, tied_itself, ok_or, option_cmp, nat_cmp}
use Rattle.mxf_views.proofs.Common.{ordering_then, Ordering, Less, Equal, Greater, NoteParts, In, In-union, union}
use Rattle.mxf_views.proofs.Common.{In-end, In-filter, In-map, all-In, all-filter, PartitionParts, partitions_of}
use mathlib.Core.List.{reverse-cons}
use Rattle.mxf_views.proofs.PartitionSearch.{one_partition}
use Rattle.mxf_units.specs.declared.essence_zone.EssenceZone.{EssenceZone}
use Rattle.mxf_units.specs.declared.essence_zone.part.StreamPart.{StreamPart}
use Rattle.mxf_units.specs.EssenceZones.{IsFalling, begins_up_to, chosen, part_cmp, part_of, parts_of, zone_at}
use Rattle.mxf_units.specs.EssenceZones.{zone_cmp, zone_of}
use Rattle.mxf_units.specs.Standings.{BeginsUpTo, IsLast, IsZone}
use Rattle.mxf_units.proofs.OrderLaws.{one_part, part_total}
use Rattle.mxf_units.proofs.PartLaws.{follows, parts-fall}
use Rattle.mxf_units.specs.declared.standing.UnitStanding.TheVariants as standings

-- ---- members

In-reverse : {K : Type 0} (x : K) (xs : List K) → In x (reverse xs) ↔ In x xs
In-reverse x [] = (λ h. h, λ h. h)
In-reverse x (y ∷ ys) =
    let ih = In-reverse x ys in
    let e = In-end x y (reverse ys) (reverse (y ∷ ys)) (reverse-cons y ys) in (
      λ h. elim (e.0 h) [ inl k ↦ inr (ih.0 k) | inr s ↦ inl s ],
      λ h. elim h [ inl s ↦ e.1 (inr s) | inr k ↦ e.1 (inl (ih.1 k)) ],
    )

pub In-parts : (notes : List NoteParts) (x : StreamPart)
    → In x (parts_of notes) ↔ ((p : PartitionParts) × In p (partitions_of notes) × (x ≡ part_of notes p))
unfolding parts_of
In-parts notes x =
    let all = map (part_of notes) (partitions_of notes) in
    let r = In-reverse x (union part_cmp [] all) in
    let u = In-union part_total one_part x [] all in
    let m = In-map (part_of notes) (partitions_of notes) x in (
      λ h. m.0 (elim (u.0 (r.0 h)) [ inl k ↦ absurd k | inr k ↦ k ]),
      λ s. r.1 (u.1 (inr (m.1 s))),
    )

-- ---- the order of parts that begin at one offset

tied : (a b : ℕ) → a ≡ b → nat_cmp a b ≡ Equal
tied a b e = subst (λ c. nat_cmp a c ≡ Equal) e (tied_itself nat_cmp_total a)

third : (a b c d : Ordering) → a ≡ Equal → b ≡ Equal → c ≡ Greater
    → ordering_then a (ordering_then b (ordering_then c d)) ≡ Less → ⊥
third a b c d e f g h =
    let t : ordering_then Equal (ordering_then Equal (ordering_then Greater d)) ≡ Less =
    subst (λ x. ordering_then x (ordering_then Equal (ordering_then Greater d)) ≡ Less) e
    (subst (λ y. ordering_then a (ordering_then y (ordering_then Greater d)) ≡ Less) f
    (subst (λ z. ordering_then a (ordering_then b (ordering_then z d)) ≡ Less) g h)) in cc (t)

some_none : (a b : Option EssenceZone) → b ≡ None → is_some a ≡ true → option_cmp zone_cmp a b ≡ Greater
some_none None b e f = absurd cc
some_none (Some x) b e f = ap (λ (o : Option EssenceZone). option_cmp zone_cmp (Some x) o) e

none_or : (o : Option EssenceZone) → (is_some o ≡ true → ⊥) → o ≡ None
none_or None f = refl
none_or (Some x) f = absurd (f refl)

-- Behind a part without a first packet come such ones alone.
none-behind : (q p : StreamPart) → part_cmp q p ≡ Less → q.body_sid ≡ p.body_sid → q.body_offset ≡ p.body_offset
    → p.zone ≡ None → q.zone ≡ None
none-behind q p l b o e = none_or q.zone (λ s.
    third (nat_cmp q.body_sid p.body_sid) (nat_cmp q.body_offset p.body_offset) (option_cmp zone_cmp q.zone p.zone)
    (nat_cmp q.partition p.partition) (tied q.body_sid p.body_sid b) (tied q.body_offset p.body_offset o)
    (some_none q.zone p.zone e s) l)

pub not_itself : (x y : StreamPart) → part_cmp y x ≡ Less → x ≡ y → ⊥
not_itself x y l e =
    let t = tied_itself part_total x in
    let u : part_cmp x x ≡ Less = subst (λ z. part_cmp z x ≡ Less) (sym e) l in cc (t, u)

-- Parts that are left out don't change the order of the others.
pub falls-filter : (f : StreamPart → Bool) (xs : List StreamPart) → IsFalling xs → IsFalling (filter f xs)
falls-filter f [] h = tt
falls-filter f (x ∷ xs) h =
    elim (f x) as (λ b. IsFalling (if b then x ∷ filter f xs else filter f xs)) [
      | true ↦ (all-filter (λ q. part_cmp q x ≡ Less) f xs h.0, falls-filter f xs h.1)
      | false ↦ falls-filter f xs h.1
    ]

-- ---- parts that begin at an offset or below it

module _ (notes : List NoteParts) (body_sid offset : ℕ) where
  abbrev left : List StreamPart
  left = filter (begins_up_to body_sid offset) (parts_of notes)

  -- The parts of such a list are those of the partitions that begin there.
  pub record AreLeft (xs : List StreamPart) : Type 0 where
    pub falls : IsFalling xs
    pub here : (p : PartitionParts) → BeginsUpTo notes body_sid offset p → In (part_of notes p) xs
    pub there : (x : StreamPart) → In x xs → (p : PartitionParts) × BeginsUpTo notes body_sid offset p
        × (x ≡ part_of notes p)

  are_left : AreLeft left
  are_left = record {
    falls = falls-filter (begins_up_to body_sid offset) (parts_of notes) (parts-fall notes);
    here = λ p b.
        (In-filter (begins_up_to body_sid offset) (parts_of notes) (part_of notes p)).1 (
          (In-parts notes (part_of notes p)).1 (p, b.partition, refl),
          and_from (p.pack.numbers.body_sid == body_sid) (nat_le p.pack.numbers.body_offset offset)
              (eq-eqb _ _ b.body) (le-leb _ _ b.begins),
        );
    there = λ x h.
        let k = (In-filter (begins_up_to body_sid offset) (parts_of notes) x).0 h in
        let s = (In-parts notes x).0 k.0 in
        let t = and_parts (x.body_sid == body_sid) (nat_le x.body_offset offset) k.1 in
        let body = ap (λ (y : StreamPart). y.body_sid) s.2 in
        let at = ap (λ (y : StreamPart). y.body_offset) s.2 in
        let low = leb-true x.body_offset offset t.1 in (
          s.0,
          record {
            partition = s.1;
            body = sym body ∙ eqb-true x.body_sid body_sid t.0;
            begins = subst (λ n. n ≤ offset) at low;
          },
          s.2,
        );
  }

  body_of : (xs : List StreamPart) → AreLeft xs → (x : StreamPart) → In x xs → x.body_sid ≡ body_sid
  body_of xs a x h =
      let s = a.there x h in ap (λ (y : StreamPart). y.body_sid) s.2 ∙ s.1.body

  -- One part is that of one partition.
  one : (p q : PartitionParts) → BeginsUpTo notes body_sid offset p → BeginsUpTo notes body_sid offset q
      → part_of notes p ≡ part_of notes q → p ≡ q
  one p q a b e = one_partition notes p q a.partition b.partition (ap (λ (y : StreamPart). y.partition) e)

  zone-is : (x : StreamPart) (p : PartitionParts) → x ≡ part_of notes p → zone_of notes p ≡ x.zone
  zone-is x p e = sym (ap (λ (y : StreamPart). y.zone) e)

  -- All later parts begin where the first does or below.
  below_head : (x : StreamPart) (xs : List StreamPart) → IsFalling (x ∷ xs)
      → ((y : StreamPart) → In y (x ∷ xs) → y.body_sid ≡ body_sid) → (y : StreamPart) → In y (x ∷ xs)
      → y.body_offset ≤ x.body_offset
  below_head x xs falls body y (inl e) =
      let s : y.body_offset ≡ x.body_offset = ap (λ (z : StreamPart). z.body_offset) e in omega (arith, s)
  below_head x xs falls body y (inr h) =
      let bx = body x (inl refl) in
      let by = body y (inr h) in
      elim (follows y x (all-In (λ q. part_cmp q x ≡ Less) xs y falls.0 h)) [
        | inl l ↦ absurd (omega (arith, l, bx, by))
        | inr s ↦ s.1
      ]

  below_first : (x : StreamPart) (xs : List StreamPart) → AreLeft (x ∷ xs) → (y : StreamPart) → In y (x ∷ xs)
      → y.body_offset ≤ x.body_offset
  below_first x xs a = below_head x xs a.falls (body_of (x ∷ xs) a)

  first_last : (x : StreamPart) (xs : List StreamPart) (a : AreLeft (x ∷ xs)) (p : PartitionParts)
      → BeginsUpTo notes body_sid offset p → p.pack.numbers.body_offset ≡ x.body_offset → IsLast notes body_sid offset p
  first_last x xs a p b e = record {
    begins = b;
    last = λ q c. let l = below_first x xs a (part_of notes q) (a.here q c) in omega (arith, l, e);
  }

  -- By the only last one.
  single : (x : StreamPart) (xs : List StreamPart) → AreLeft (x ∷ xs)
      → ((y : StreamPart) → In y xs → y.body_offset < x.body_offset)
      → IsZone notes body_sid offset (ok_or x.zone standings.Unknown)
  single x xs a low =
      let s = a.there x (inl refl) in
      let p = s.0 in
      let at : p.pack.numbers.body_offset ≡ x.body_offset = sym (ap (λ (y : StreamPart). y.body_offset) s.2) in
      let last = first_last x xs a p s.1 at in
      let only : (q : PartitionParts) → IsLast notes body_sid offset q → q ≡ p = λ q k.
      elim (a.here q k.begins) [
        | inl e ↦ one q p k.begins s.1 (e ∙ s.2)
        | inr h ↦
            let l = low (part_of notes q) h in
            let m = k.last p s.1 in absurd (omega (arith, l, m, at))
      ] in
      let zone = zone-is x p s.2 in
      elim x.zone as (λ (o : Option EssenceZone). zone_of notes p ≡ o
      → IsZone notes body_sid offset (ok_or o standings.Unknown)) [
        | None ↦ λ e. (p, last, e, only)
        | Some z ↦ λ e. (p, last, e, λ q k ne. absurd (ne (only q k)))
      ] zone

  -- By two last ones.
  double : (x y : StreamPart) (xs : List StreamPart) → AreLeft (x ∷ y ∷ xs) → x.body_offset ≡ y.body_offset
      → IsZone notes body_sid offset (if is_some y.zone then Err standings.Several else ok_or x.zone standings.Several)
  double x y xs a same =
      let s = a.there x (inl refl) in
      let t = a.there y (inr (inl refl)) in
      let at : s.0.pack.numbers.body_offset ≡ x.body_offset = sym (ap (λ (z : StreamPart). z.body_offset) s.2) in
      let at_y : t.0.pack.numbers.body_offset ≡ x.body_offset =
      sym (ap (λ (z : StreamPart). z.body_offset) t.2) ∙ sym same in
      let last = first_last x (y ∷ xs) a s.0 s.1 at in
      let last_y = first_last x (y ∷ xs) a t.0 t.1 at_y in
      let less : part_cmp y x ≡ Less = a.falls.0.0 in
      let bx = body_of (x ∷ y ∷ xs) a x (inl refl) in
      let by = body_of (x ∷ y ∷ xs) a y (inr (inl refl)) in
      let apart : s.0 ≢ t.0 = λ e. not_itself x y less (s.2 ∙ ap (part_of notes) e ∙ sym t.2) in
      let zone = zone-is x s.0 s.2 in
      let zone_y = zone-is y t.0 t.2 in
      let later : y.zone ≡ None → (q : PartitionParts) → IsLast notes body_sid offset q
      → In (part_of notes q) (y ∷ xs) → zone_of notes q ≡ None = λ none q k h.
      elim h [
        | inl e ↦ zone-is y q (sym e) ∙ none
        | inr h ↦
            let z = part_of notes q in
            let l = below_head y xs a.falls.1 (λ w i. body_of (x ∷ y ∷ xs) a w (inr i)) z (inr h) in
            let m = k.last s.0 s.1 in
            let level : z.body_offset ≡ y.body_offset = omega (arith, l, m, at, same) in
            let bz = body_of (x ∷ y ∷ xs) a z (inr (inr h)) in
            none-behind z y (all-In (λ q. part_cmp q y ≡ Less) xs z a.falls.1.0 h) (bz ∙ sym by) level none
      ] in
      elim y.zone as (λ (o : Option EssenceZone). y.zone ≡ o → IsZone notes body_sid offset
      (if is_some o then Err standings.Several else ok_or x.zone standings.Several)) [
        | Some v ↦ λ e.
            let known : is_some x.zone ≡ true =
            elim x.zone as (λ (o : Option EssenceZone). x.zone ≡ o → is_some o ≡ true) [
              | Some u ↦ λ f. refl
              | None ↦ λ f. let n = none-behind y x less (by ∙ sym bx) (sym same) f in absurd (cc (n, e))
            ] refl in (s.0, t.0, last, last_y, apart, inl (ap is_some zone ∙ known, ap is_some (zone_y ∙ e)))
        | None ↦ grind (arith, ok_or, last, zone, one, last_y, apart, zone-is)
      ] refl

  zones : (xs : List StreamPart) → AreLeft xs → IsZone notes body_sid offset (chosen xs)
  zones [] a = λ p b. a.here p b
  zones (x ∷ []) a = single x [] a (λ y h. absurd h)
  zones (x ∷ y ∷ xs) a =
      elim (x.body_offset == y.body_offset) as (λ t. (x.body_offset == y.body_offset) ≡ t → IsZone notes body_sid offset
      (if not t then ok_or x.zone standings.Unknown
      else (if is_some y.zone then Err standings.Several else ok_or x.zone standings.Several))) [
        | true ↦ λ e. double x y xs a (eqb-true _ _ e)
        | false ↦ λ e. single x (y ∷ xs) a (λ z h.
            let l = below_head y xs a.falls.1 (λ w i. body_of (x ∷ y ∷ xs) a w (inr i)) z h in
            let m = below_first x (y ∷ xs) a y (inr (inl refl)) in
            elim (cases_lt y.body_offset x.body_offset) [
              | inl n ↦ omega (arith, l, n)
              | inr n ↦
                  let same : x.body_offset ≡ y.body_offset = omega (arith, m, n) in
                  let t = eq-eqb x.body_offset y.body_offset same in absurd (cc (t, e))
            ])
      ] refl

  pub zone-says : IsZone notes body_sid offset (zone_at (parts_of notes) body_sid offset)
  zone-says = zones left are_left
