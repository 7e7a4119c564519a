-- The front of a section, and the source with which it is restored.
use Rattle.mxf_views.proofs.Common.{◌≡◌, ◌↔◌, ◌⊎◌, ◌∙◌, ◌≤◌, ℕ, Bool, true, false, List, [], ◌∷◌, Option, None, Some}
use Rattle.mxf_views.proofs.Common.{ap, arith, filter, inl, inr, min, nat_le, refl, subst, sym, and_from}
use Rattle.mxf_views.proofs.Common.{and_parts, le-leb, leb-false, leb-true, same_Some, NoteParts, In, In-filter}
use Rattle.std.proofs.lemmas.Bool.{lt-ltb, ltb-true}
use Rattle.std.specs.Option.{option_and_then, option_map}
use Rattle.mxf_places.specs.AtHand.{AtHandParts, LiesBetween}
use Rattle.mxf_restore.specs.Fronts.{front_of}
use Rattle.mxf_places.specs.Heads.{start_of}
use Rattle.mxf_restore.specs.declared.named.NamedPlace.{NamedPlace}
use Rattle.mxf_restore.specs.declared.plan.Order.{Order}
use Rattle.mxf_restore.specs.declared.section.Section.{Section}
use Rattle.mxf_partial.specs.Fronts.{GoesFirst, IsFirstSource, IsFrontOf, earlier, first_of, first_source, front_by}
use Rattle.mxf_partial.specs.Fronts.{front_order, if_none, lies_between}
use Rattle.mxf_partial.specs.Helping.{helping_of}

-- ---- which source goes first

goes_itself : (x : Option ℕ) → GoesFirst x x
goes_itself None = tt
goes_itself (Some x) = omega arith

goes_on : (x y z : Option ℕ) → GoesFirst x y → GoesFirst y z → GoesFirst x z
goes_on None y z a b = tt
goes_on (Some x) None z a b = absurd a
goes_on (Some x) (Some y) None a b = absurd b
goes_on (Some x) (Some y) (Some z) a b = omega (arith, a, b)

goes_both : (x y : Option ℕ) → GoesFirst x y → GoesFirst y x → x ≡ y
goes_both None None a b = refl
goes_both None (Some y) a b = absurd b
goes_both (Some x) None a b = absurd a
goes_both (Some x) (Some y) a b = let same : x ≡ y = omega (arith, a, b) in ap Some same

-- What is said of the earlier of two.
record IsEarlier (first : Option (Option ℕ)) (source result : Option ℕ) : Type 0 where
  pub one : (first ≡ Some result) ⊎ (source ≡ result)
  pub before : GoesFirst result source
  pub seen : (x : Option ℕ) → first ≡ Some x → GoesFirst result x

earlier_is : (first : Option (Option ℕ)) (source : Option ℕ) → IsEarlier first source (earlier first source)
earlier_is None source = record { one = inr refl; before = goes_itself source; seen = λ x e. absurd cc }
earlier_is (Some None) source = record { one = inl refl; before = tt; seen = λ x e. tt }
earlier_is (Some (Some x)) None = record { one = inr refl; before = tt; seen = λ y e. tt }
earlier_is (Some (Some x)) (Some y) = record {
  one = elim (nat_le x y) as (λ b. nat_le x y ≡ b → (Some (Some x) ≡ Some (Some (min x y)))
      ⊎ (Some y ≡ Some (min x y))) [
        | true ↦ λ e.
            let l = leb-true x y e in
            let is : x ≡ min x y = omega (arith, l) in inl (ap (λ (k : ℕ). Some (Some k)) is)
        | false ↦ λ e.
            let l = leb-false x y e in
            let is : y ≡ min x y = omega (arith, l) in inr (ap Some is)
      ] refl;
  before = omega arith;
  seen = λ z e. subst (λ (o : Option ℕ). GoesFirst (Some (min x y)) o) (same_Some (Some x) z e)
      (let l : min x y ≤ x = omega arith in l);
}

-- The first of some, and one that was seen before.
record IsFirstOf (first : Option (Option ℕ)) (places : List NamedPlace) (result : Option ℕ) : Type 0 where
  pub one : (first ≡ Some result) ⊎ ((n : NamedPlace) × In n places × (n.source ≡ result))
  pub all : (n : NamedPlace) → In n places → GoesFirst result n.source
  pub seen : (x : Option ℕ) → first ≡ Some x → GoesFirst result x

first_is : (first : Option (Option ℕ)) (places : List NamedPlace) (result : Option ℕ)
    → first_of first places ≡ Some result → IsFirstOf first places result
first_is first [] result e = record {
  one = inl e;
  all = λ n i. absurd i;
  seen = λ x f. subst (GoesFirst result) (same_Some result x (sym e ∙ f)) (goes_itself result);
}
first_is first (n ∷ places) result e =
    let rest = first_is (Some (earlier first n.source)) places result e in
    let one = earlier_is first n.source in
    let next = rest.seen (earlier first n.source) refl in
    record {
      one = elim rest.one [
        | inl f ↦
            let is : earlier first n.source ≡ result = same_Some _ _ f in
            elim one.one [ inl g ↦ inl (g ∙ ap Some is) | inr g ↦ inr (n, inl refl, g ∙ is) ]
        | inr s ↦ inr (s.0, inr s.1, s.2)
      ];
      all = λ m i. elim i [
        | inl k ↦ subst (λ (k : NamedPlace). GoesFirst result k.source) (sym k)
            (goes_on result (earlier first n.source) n.source next one.before)
        | inr k ↦ rest.all m k
      ];
      seen = λ x f. goes_on result (earlier first n.source) x next (one.seen x f);
    }

-- There is one, where there are some.
some_first : (first : Option (Option ℕ)) (n : NamedPlace) (places : List NamedPlace) → In n places
    → (result : Option ℕ) × (first_of first places ≡ Some result)
some_first first n [] i = absurd i
some_first first n (m ∷ places) i = seen_first (earlier first m.source) places
  where
    seen_first : (x : Option ℕ) (places : List NamedPlace)
        → (result : Option ℕ) × (first_of (Some x) places ≡ Some result)
    seen_first x [] = (x, refl)
    seen_first x (m ∷ places) = seen_first (earlier (Some x) m.source) places

-- ---- the places of a section

between-says : (from : ℕ) (end : Option ℕ) (n : NamedPlace)
    → (lies_between from end n ≡ true) ↔ LiesBetween from end n.place
between-says from None n = grind (arith, leb-true, and_parts, and_from, le-leb)
between-says from (Some e) n = grind (arith, and_parts, leb-true, ltb-true, and_from, le-leb, same_Some, lt-ltb)

pub source_is : (asked : List NamedPlace) (from : ℕ) (end : Option ℕ) (source : Option ℕ)
    → (first_source asked from end ≡ Some source) ↔ IsFirstSource asked from end source
source_is asked from end source = (to, back)
  where
    there : (n : NamedPlace) → In n (filter (lies_between from end) asked) ↔ (In n asked × LiesBetween from end n.place)
    there n =
        let f = In-filter (lies_between from end) asked n in
        let b = between-says from end n in (
          λ i. let s = f.0 i in (s.0, b.0 (let t : lies_between from end n ≡ true = grind (arith, s.1) in t)),
          λ s. f.1 (s.0, let t : lies_between from end n ≡ true = b.1 s.1 in grind (arith, t)),
        )

    to : first_source asked from end ≡ Some source → IsFirstSource asked from end source
    to e =
        let is = first_is None (filter (lies_between from end) asked) source e in
        elim is.one [
          | inl none ↦ absurd cc
          | inr s ↦
              let at = (there s.0).0 s.1 in
              record {
                place = s.0;
                among = at.0;
                lies = at.1;
                is = s.2;
                first = λ n i l. is.all n ((there n).1 (i, l));
              }
        ]

    back : IsFirstSource asked from end source → first_source asked from end ≡ Some source
    back f =
        let i = (there f.place).1 (f.among, f.lies) in
        let some = some_first None f.place (filter (lies_between from end) asked) i in
        let is = first_is None (filter (lies_between from end) asked) some.0 some.1 in
        let one : some.0 ≡ source = goes_both some.0 source (subst (GoesFirst some.0) f.is (is.all f.place i))
        (elim is.one [
          | inl none ↦ absurd cc
          | inr s ↦ let at = (there s.0).0 s.1 in subst (GoesFirst source) s.2 (f.first s.0 at.0 at.1)
        ]) in
        some.1 ∙ ap Some one

-- ---- the front

pub front_is : (described : Bool) (at : AtHandParts) (notes : List NoteParts) (asked : List NamedPlace) (p : Section)
    (o : Order) → (front_order described at notes asked p ≡ Some o) ↔ IsFrontOf described at notes asked p o
front_is described at notes asked p o = (
  λ e. by_helping (helping_of described at notes p) refl e,
  λ f. ap (λ (l : List Order). if_none l (front_from (first_source asked (start_of notes p.first) p.end))) f.none_first
      ∙ ap front_from ((source_is asked (start_of notes p.first) p.end f.source).1 f.source_is)
      ∙ ap (option_map (front_by f.source)) f.front_is ∙ ap Some (sym f.is),
)
  where
    front_from : Option (Option ℕ) → Option Order
    front_from first = option_and_then (λ source. option_map (front_by source) (front_of at notes p)) first

    by_front : (source : Option ℕ) (front : Option Order) → front_of at notes p ≡ front
        → option_map (front_by source) front ≡ Some o
        → (f : Order) × (front_of at notes p ≡ Some f) × (o ≡ front_by source f)
    by_front source None is e = absurd cc
    by_front source (Some f) is e = (f, is, sym (same_Some _ _ e))

    by_source : (first : Option (Option ℕ)) → first_source asked (start_of notes p.first) p.end ≡ first
        → helping_of described at notes p ≡ [] → front_from first ≡ Some o → IsFrontOf described at notes asked p o
    by_source None is none e = absurd cc
    by_source (Some source) is none e =
        let s = by_front source (front_of at notes p) refl e in
        record {
          none_first = none;
          source = source;
          source_is = (source_is asked (start_of notes p.first) p.end source).0 is;
          front = s.0;
          front_is = s.1;
          is = s.2;
        }

    by_helping : (l : List Order) → helping_of described at notes p ≡ l
        → if_none l (front_from (first_source asked (start_of notes p.first) p.end)) ≡ Some o
        → IsFrontOf described at notes asked p o
    by_helping [] is e = by_source (first_source asked (start_of notes p.first) p.end) refl is e
    by_helping (x ∷ l) is e = absurd cc

-- Of two lists with the same members the fronts are the same.
pub by_members : (described : Bool) (at : AtHandParts) (notes : List NoteParts) (some others : List NamedPlace)
    (p : Section) (o : Order) → ((n : NamedPlace) → In n some ↔ In n others)
    → IsFrontOf described at notes some p o → IsFrontOf described at notes others p o
by_members described at notes some others p o same f = grind (arith, source_is, front_is)
