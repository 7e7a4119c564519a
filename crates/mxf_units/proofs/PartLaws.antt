-- Parts of streams from the last to the first.
use Rattle.mxf_views.proofs.Common.{◌≡◌, ◌∙◌, ◌<◌, ◌≤◌, ◌++◌, ◌==◌, ◌&&◌, ◌||◌, ◌⊎◌, ℕ, zero, suc, Bool, true, false}
use Rattle.mxf_views.proofs.Common.{not, Err, List, [], ◌∷◌, refl, sym, ap, subst, inl, inr, arith, cond, drop, filter}
use Rattle.mxf_views.proofs.Common.{get_or, is_some, length, map, nat_le, nat_lt, reverse, eq-eqb, eqb-true, ltb-true}
use Rattle.mxf_views.proofs.Common.{lt-ltb, if◌then◌else◌, and_from, and_parts, cases_lt, false_from_ne_true, le-leb}
use Rattle.mxf_views.proofs.Common.{leb-true, nat_cmp-IsAntisymmetric, AllByRecursion, AllWithin, IsPartitionedBy}
use Rattle.mxf_views.proofs.Common.{ok_or, option_cmp, nat_cmp, ordering_then, Ordering, Less, Equal, Greater, IsRising}
use Rattle.mxf_views.proofs.Common.{IsRising-union, union, all-In, all_push, filter_none, In-at, either, lt_from_less}
use Rattle.mxf_views.proofs.Common.{NoteParts, partitions_of}
use mathlib.Core.List.{reverse-cons}
use Rattle.mxf_units.specs.EssenceZones.{IsFalling, begins_up_to, by_first, by_second, chosen, part_cmp, part_of}
use Rattle.mxf_units.specs.EssenceZones.{parts_of, zone_cmp}
use Rattle.mxf_units.specs.declared.essence_zone.part.StreamPart.{StreamPart}
use Rattle.mxf_units.proofs.OrderLaws.{one_part, part_total}
use Rattle.mxf_units.specs.declared.standing.UnitStanding.TheVariants as standings

-- ---- they fall

all-reverse : (P : StreamPart → Type 0) (xs : List StreamPart) → AllByRecursion P xs → AllByRecursion P (reverse xs)
all-reverse P [] a = tt
all-reverse P (x ∷ xs) a =
    subst (AllByRecursion P) (sym (reverse-cons x xs)) (all_push P (reverse xs) x (all-reverse P xs a.1) a.0)

falls-push : (xs : List StreamPart) (x : StreamPart) → IsFalling xs → AllByRecursion (λ y. part_cmp x y ≡ Less) xs
    → IsFalling (xs ++ x ∷ [])
falls-push [] x f a = (tt, tt)
falls-push (y ∷ ys) x f a = (all_push (λ q. part_cmp q y ≡ Less) ys x f.0 a.0, falls-push ys x f.1 a.1)

falls-reverse : (xs : List StreamPart) → IsRising part_cmp xs → IsFalling (reverse xs)
falls-reverse [] r = tt
falls-reverse (x ∷ xs) r = subst IsFalling (sym (reverse-cons x xs))
    (falls-push (reverse xs) x (falls-reverse xs r.1) (all-reverse (λ y. part_cmp x y ≡ Less) xs r.0))

pub parts-fall : (notes : List NoteParts) → IsFalling (parts_of notes)
unfolding parts_of
parts-fall notes = falls-reverse (union part_cmp [] (map (part_of notes) (partitions_of notes)))
    (IsRising-union part_total one_part [] (map (part_of notes) (partitions_of notes)) tt)

-- ---- where one is found

-- The part begins behind an offset of a stream, or in a later stream.
abbrev pub is_behind : ℕ → ℕ → StreamPart → Bool
is_behind body_sid offset p = nat_lt body_sid p.body_sid || ((p.body_sid == body_sid) && nat_lt offset p.body_offset)

abbrev Behind : ℕ → ℕ → StreamPart → Type 0
Behind body_sid offset p = (body_sid < p.body_sid) ⊎ ((p.body_sid ≡ body_sid) × (offset < p.body_offset))

says-behind : (body_sid offset : ℕ) (p : StreamPart) → Behind body_sid offset p → is_behind body_sid offset p ≡ true
says-behind body_sid offset p (inl l) = either _ _ (inl (lt-ltb _ _ l))
says-behind body_sid offset p (inr s) =
    either _ _ (inr (and_from (p.body_sid == body_sid) (nat_lt offset p.body_offset) (eq-eqb _ _ s.0) (lt-ltb _ _ s.1)))

behind-says : (body_sid offset : ℕ) (p : StreamPart) → is_behind body_sid offset p ≡ true → Behind body_sid offset p
behind-says body_sid offset p e = elim (nat_lt body_sid p.body_sid) as (λ a. nat_lt body_sid p.body_sid ≡ a
    → (a || ((p.body_sid == body_sid) && nat_lt offset p.body_offset)) ≡ true → Behind body_sid offset p) [
      | true ↦ λ f g. inl (ltb-true _ _ f)
      | false ↦ λ f g.
          let s = and_parts (p.body_sid == body_sid) (nat_lt offset p.body_offset) g in
          inr (eqb-true _ _ s.0, ltb-true _ _ s.1)
    ] refl e

-- It doesn't.
abbrev UpTo : ℕ → ℕ → StreamPart → Type 0
UpTo body_sid offset p = (p.body_sid < body_sid) ⊎ ((p.body_sid ≡ body_sid) × (p.body_offset ≤ offset))

up_to-says : (body_sid offset : ℕ) (p : StreamPart) → is_behind body_sid offset p ≡ false → UpTo body_sid offset p
up_to-says body_sid offset p e =
    let no : Behind body_sid offset p → ⊥ = λ h. let t = says-behind body_sid offset p h in cc (t, e) in
    elim (cases_lt body_sid p.body_sid) [
      | inl l ↦ absurd (no (inl l))
      | inr g ↦ elim (cases_lt p.body_sid body_sid) [
        | inl l ↦ inl l
        | inr h ↦
            let same : p.body_sid ≡ body_sid = omega (arith, g, h) in
            elim (cases_lt offset p.body_offset) [ inl l ↦ absurd (no (inr (same, l))) | inr m ↦ inr (same, m) ]
      ]
    ]

three : (a b c : Ordering) → ordering_then a (ordering_then b c) ≡ Less
    → (a ≡ Less) ⊎ ((a ≡ Equal) × ((b ≡ Less) ⊎ (b ≡ Equal)))
three Less b c e = inl refl
three Equal Less c e = inr (refl, inl refl)
three Equal Equal c e = inr (refl, inr refl)
three Equal Greater c e = absurd cc
three Greater b c e = absurd cc

-- A part comes behind another.
pub follows : (q p : StreamPart) → part_cmp q p ≡ Less
    → (q.body_sid < p.body_sid) ⊎ ((q.body_sid ≡ p.body_sid) × (q.body_offset ≤ p.body_offset))
follows q p e = elim (three (nat_cmp q.body_sid p.body_sid) (nat_cmp q.body_offset p.body_offset)
    (ordering_then (option_cmp zone_cmp q.zone p.zone) (nat_cmp q.partition p.partition)) e) [
      | inl l ↦ inl (lt_from_less q.body_sid p.body_sid l)
      | inr s ↦ inr (
        nat_cmp-IsAntisymmetric q.body_sid p.body_sid s.0,
        elim s.1 [
          | inl l ↦ let m = lt_from_less q.body_offset p.body_offset l in omega (arith, m)
          | inr t ↦ let m = nat_cmp-IsAntisymmetric q.body_offset p.body_offset t in omega (arith, m)
        ],
      )
    ]

later : (body_sid offset : ℕ) (q p : StreamPart) → part_cmp q p ≡ Less → is_behind body_sid offset q ≡ true
    → is_behind body_sid offset p ≡ true
later body_sid offset q p e t =
    says-behind body_sid offset p (elim (follows q p e) [
      | inl l ↦ elim (behind-says body_sid offset q t) [
        | inl m ↦ inl (omega (arith, l, m))
        | inr s ↦ let same = s.0 in inl (omega (arith, l, same))
      ]
      | inr u ↦
          let at = u.0 in
          let l = u.1 in
          elim (behind-says body_sid offset q t) [
            | inl m ↦ inl (omega (arith, at, m))
            | inr s ↦ let same = s.0 in let m = s.1 in inr (sym at ∙ same, omega (arith, l, m))
          ]
    ])

pub parted : (body_sid offset : ℕ) (xs : List StreamPart) → IsFalling xs
    → IsPartitionedBy (is_behind body_sid offset) xs
parted body_sid offset [] r i j d l h e = absurd (omega arith)
parted body_sid offset (x ∷ xs) r zero zero d l h e = e
parted body_sid offset (x ∷ xs) r zero (suc j) d l h e = later body_sid offset (get_or xs j d) x
    (all-In (λ q. part_cmp q x ≡ Less) xs (get_or xs j d) r.0 (In-at xs j d (omega arith))) e
parted body_sid offset (x ∷ xs) r (suc i) zero d l h e = absurd (omega arith)
parted body_sid offset (x ∷ xs) r (suc i) (suc j) d l h e =
    parted body_sid offset xs r.1 i j d (omega arith) (omega arith) e

-- ---- what is found

-- The first part doesn't begin behind an offset.
abbrev HeadUpTo : ℕ → ℕ → List StreamPart → Type 0
HeadUpTo body_sid offset [] = Unit {0}
HeadUpTo body_sid offset (p ∷ parts) = UpTo body_sid offset p

not_up_to : (body_sid offset : ℕ) (p : StreamPart) → Behind body_sid offset p → begins_up_to body_sid offset p ≡ true
    → ⊥
not_up_to body_sid offset p b e =
    let s = and_parts (p.body_sid == body_sid) (nat_le p.body_offset offset) e in
    let same = eqb-true p.body_sid body_sid s.0 in
    let at = leb-true p.body_offset offset s.1 in
    elim b [ inl l ↦ omega (arith, l, same) | inr u ↦ let l = u.1 in omega (arith, l, at) ]

pub record Settled (body_sid offset : ℕ) (xs : List StreamPart) (k : ℕ) : Type 0 where
  pub left : filter (begins_up_to body_sid offset) xs ≡ filter (begins_up_to body_sid offset) (drop k xs)
  pub falls : IsFalling (drop k xs)
  pub head : HeadUpTo body_sid offset (drop k xs)

pub settled : (body_sid offset : ℕ) (xs : List StreamPart) (k : ℕ) → k ≤ length xs → IsFalling xs
    → AllWithin (λ p. is_behind body_sid offset p ≡ true) xs 0 k
    → AllWithin (λ p. is_behind body_sid offset p ≡ false) xs k (length xs) → Settled body_sid offset xs k
settled body_sid offset [] zero h f below above = record { left = refl; falls = tt; head = tt }
settled body_sid offset [] (suc k) h f below above = absurd (omega arith)
settled body_sid offset (x ∷ xs) zero h f below above = record {
  left = refl;
  falls = f;
  head = up_to-says body_sid offset x (above 0 x (omega arith) (omega arith));
}
settled body_sid offset (x ∷ xs) (suc k) h f below above =
    let far = behind-says body_sid offset x (below 0 x (omega arith) (omega arith)) in
    let ih = settled body_sid offset xs k (omega arith) f.1 (λ j d l m. below (suc j) d (omega arith) (omega arith))
    (λ j d l m. above (suc j) d (omega arith) (omega arith)) in
    record {
      left = ap (λ b. cond b (x ∷ filter (begins_up_to body_sid offset) xs) (filter (begins_up_to body_sid offset) xs))
          (false_from_ne_true (begins_up_to body_sid offset x) (not_up_to body_sid offset x far)) ∙ ih.left;
      falls = ih.falls;
      head = ih.head;
    }

-- None is in the stream, where the first is in an earlier one.
none : (body_sid offset : ℕ) (p : StreamPart) (parts : List StreamPart) → IsFalling (p ∷ parts) → p.body_sid < body_sid
    → filter (begins_up_to body_sid offset) (p ∷ parts) ≡ []
none body_sid offset p parts f l = filter_none (begins_up_to body_sid offset) (p ∷ parts) (λ q h e.
    let s = and_parts (q.body_sid == body_sid) (nat_le q.body_offset offset) e in
    let same = eqb-true q.body_sid body_sid s.0 in
    elim h [
      | inl k ↦ let t : q.body_sid ≡ p.body_sid = ap (λ (r : StreamPart). r.body_sid) k in omega (arith, same, l, t)
      | inr k ↦ elim (follows q p (all-In (λ r. part_cmp r p ≡ Less) parts q f.0 k)) [
        | inl m ↦ omega (arith, same, l, m)
        | inr u ↦ let t = u.0 in omega (arith, same, l, t)
      ]
    ])

passes : (body_sid offset : ℕ) (p : StreamPart) (parts : List StreamPart) → p.body_sid ≡ body_sid
    → p.body_offset ≤ offset
    → filter (begins_up_to body_sid offset) (p ∷ parts) ≡ p ∷ filter (begins_up_to body_sid offset) parts
passes body_sid offset p parts same l =
    ap (λ b. cond b (p ∷ filter (begins_up_to body_sid offset) parts) (filter (begins_up_to body_sid offset) parts))
    (and_from (p.body_sid == body_sid) (nat_le p.body_offset offset) (eq-eqb _ _ same) (le-leb _ _ l))

second : (body_sid offset : ℕ) (p : StreamPart) (parts : List StreamPart) → IsFalling (p ∷ parts)
    → p.body_sid ≡ body_sid → p.body_offset ≤ offset
    → by_second p parts ≡ chosen (p ∷ filter (begins_up_to body_sid offset) parts)
second body_sid offset p [] f same l = refl
second body_sid offset p (q ∷ parts) f same l =
    elim (follows q p f.0.0) [
      | inl m ↦
          let none_left = none body_sid offset q parts f.1 (omega (arith, m, same)) in
          let other : (p.body_sid == q.body_sid) ≡ false =
          false_from_ne_true (p.body_sid == q.body_sid)
          (λ e. let t = eqb-true p.body_sid q.body_sid e in omega (arith, m, t)) in
          ap (λ b. if (b && (p.body_offset == q.body_offset))
          then (if is_some q.zone then Err standings.Several else ok_or p.zone standings.Several)
          else ok_or p.zone standings.Unknown) other ∙ ap (λ parts. chosen (p ∷ parts)) (sym none_left)
      | inr u ↦
          let at = u.0 in
          let m = u.1 in
          let alike : (p.body_sid == q.body_sid) ≡ true = eq-eqb p.body_sid q.body_sid (sym at) in
          ap (λ b. if (b && (p.body_offset == q.body_offset))
          then (if is_some q.zone then Err standings.Several else ok_or p.zone standings.Several)
          else ok_or p.zone standings.Unknown) alike ∙ by_offset (p.body_offset == q.body_offset)
          ∙ ap (λ parts. chosen (p ∷ parts)) (sym (passes body_sid offset q parts (at ∙ same) (omega (arith, m, l))))
    ]
  where
    by_offset : (b : Bool)
        → (if b then (if is_some q.zone then Err standings.Several else ok_or p.zone standings.Several)
        else ok_or p.zone standings.Unknown) ≡ (if not b then ok_or p.zone standings.Unknown
        else (if is_some q.zone then Err standings.Several else ok_or p.zone standings.Several))
    by_offset true = refl
    by_offset false = refl

first : (body_sid offset : ℕ) (parts : List StreamPart) → IsFalling parts → HeadUpTo body_sid offset parts
    → by_first body_sid parts ≡ chosen (filter (begins_up_to body_sid offset) parts)
first body_sid offset [] f h = refl
first body_sid offset (p ∷ parts) f (inl l) =
    let other : (p.body_sid == body_sid) ≡ false =
    false_from_ne_true (p.body_sid == body_sid) (λ e. let t = eqb-true p.body_sid body_sid e in omega (arith, l, t)) in
    ap (λ b. if b then by_second p parts else Err standings.NoPartition) other
    ∙ ap chosen (sym (none body_sid offset p parts f l))
first body_sid offset (p ∷ parts) f (inr u) =
    ap (λ b. if b then by_second p parts else Err standings.NoPartition) (eq-eqb p.body_sid body_sid u.0)
    ∙ second body_sid offset p parts f u.0 u.1 ∙ ap chosen (sym (passes body_sid offset p parts u.0 u.1))

-- What is found behind the parts that begin behind an offset.
pub found : (body_sid offset : ℕ) (xs ys : List StreamPart) (k : ℕ) → Settled body_sid offset xs k → ys ≡ drop k xs
    → by_first body_sid ys ≡ chosen (filter (begins_up_to body_sid offset) xs)
found body_sid offset xs ys k s e =
    ap (by_first body_sid) e ∙ first body_sid offset (drop k xs) s.falls s.head ∙ ap chosen (sym s.left)
