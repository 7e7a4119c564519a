-- Named places at which the partition of a stream may stand that has an offset of it.
use Rattle.mxf_views.proofs.Common.{◌≡◌, ◌∙◌, ◌<◌, ◌≤◌, ◌+◌, ◌⊎◌, ◌++◌, ◌||◌, ◌↔◌, ℕ, Bool, true, false, List, [], ◌∷◌}
use Rattle.mxf_views.proofs.Common.{Option, None, Some, refl, sym, ap, subst, inl, inr, arith, get_or, length, max}
use Rattle.mxf_views.proofs.Common.{cases_lt, get_or_from_slice_get, slice_get-get_or, slice_get_read, slice_get_within}
use Rattle.mxf_views.proofs.Common.{In, In-at, In-end, Contains-from_In, LiesIn-with_run, with_run, LiesIn, run}
use Rattle.mxf_catalogue.specs.declared.run.Run.{Run}
use Rattle.std.proofs.Common.{slice_get}
use Rattle.std.proofs.lemmas.Option.{slice_get_cases}
use Rattle.mxf_places.specs.AtHand.{LiesBetween}
use Rattle.mxf_partial.specs.InStreams.{IsInOrder}
use Rattle.mxf_partial.specs.NearTable.{HasAddedThose, IsFrom, LiesInStream, Serves, named_of, rank}
use Rattle.mxf_partial.specs.declared.place_streams.PlaceOf.{PlaceOf}
use Rattle.mxf_restore.specs.declared.named.NamedPlace.{NamedPlace}

-- ---- streams by their numbers

any_serves : (o : Option ℕ) (b : ℕ) → rank o ≡ rank None → Serves o b
any_serves None b e = tt
any_serves (Some x) b e = absurd (omega (arith, e))

own_serves : (o : Option ℕ) (b : ℕ) → rank o ≡ rank (Some b) → Serves o b
own_serves None b e = absurd (omega (arith, e))
own_serves (Some x) b e = omega (arith, e)

served_by : (o : Option ℕ) (b : ℕ) → Serves o b → (rank o ≡ rank None) ⊎ (rank o ≡ rank (Some b))
served_by None b s = inl refl
served_by (Some x) b s = inr (ap (λ n. n + 1) s)

-- ---- the greatest place of a stream up to a bound

-- The place of one of a stream below a bound, or 0.
abbrev pub IsOneBelow : List PlaceOf → Option ℕ → ℕ → ℕ → Type 0
IsOneBelow places o to x =
    (x ≡ 0) ⊎ ((p : PlaceOf) × In p places × (rank p.body_sid ≡ rank o) × (p.place ≡ x) × (x < to))

abbrev pub IsAtMost : List PlaceOf → Option ℕ → ℕ → ℕ → Type 0
IsAtMost places o to x = (p : PlaceOf) → In p places → rank p.body_sid ≡ rank o → p.place < to → p.place ≤ x

pub from_both : (places : List PlaceOf) (b low to x y from : ℕ) → to ≡ low + 1 → IsOneBelow places None to x
    → IsAtMost places None to x → IsOneBelow places (Some b) to y → IsAtMost places (Some b) to y → from ≡ max x y
    → IsFrom places b low from
from_both places b low to x y from up is_x most_x is_y most_y same =
    record {
      is = elim (cases_lt x y) [
        | inl l ↦
            let e : from ≡ y = omega (arith, l, same) in
            elim is_y [
              | inl z ↦ inl (e ∙ z)
              | inr p ↦
                  let m = p.4 in
                  inr (p.0, p.1, own_serves p.0.body_sid b p.2, p.3 ∙ sym e, omega (arith, e, m, up))
            ]
        | inr l ↦
            let e : from ≡ x = omega (arith, l, same) in
            elim is_x [
              | inl z ↦ inl (e ∙ z)
              | inr p ↦
                  let m = p.4 in
                  inr (p.0, p.1, any_serves p.0.body_sid b p.2, p.3 ∙ sym e, omega (arith, e, m, up))
            ]
      ];
      greatest = λ p h s l. elim (served_by p.body_sid b s) [
        | inl e ↦ let m = most_x p h e (omega (arith, l, up)) in omega (arith, m, same)
        | inr e ↦ let m = most_y p h e (omega (arith, l, up)) in omega (arith, m, same)
      ];
    }

-- ---- ranges of the table

-- The places with a property stand from one position up to another.
abbrev pub IsRangeOf : List PlaceOf → (PlaceOf → Type 0) → ℕ → ℕ → Type 0
IsRangeOf items Q start end = (k : ℕ) (p : PlaceOf) → slice_get items k ≡ Some p → ((start ≤ k) × (k < end)) ↔ Q p

pub at_position : (items : List PlaceOf) (p : PlaceOf) → In p items → (k : ℕ) × (slice_get items k ≡ Some p)
at_position items p h =
    let c = Contains-from_In p items h in (c.0, slice_get_read items (length items) c.0 p refl c.1 (sym c.2))

pub in_position : (items : List PlaceOf) (k : ℕ) (p : PlaceOf) → slice_get items k ≡ Some p → In p items
in_position items k p e = subst (λ (q : PlaceOf). In q items) (get_or_from_slice_get items k p p e)
    (In-at items k p (slice_get_within items k p e))

module _ (items : List PlaceOf) (Q : PlaceOf → Type 0) (start end : ℕ) (are : IsRangeOf items Q start end)
    (old : List Run) where
  pub added_none : end ≤ start → HasAddedThose items Q old old false
  added_none none = grind (arith, at_position)

  pub added_run : (new : List Run) → start < end → end ≤ length items → new ≡ with_run (run start end) old
      → HasAddedThose items Q old new true
  added_run new some within is =
      record {
        added = λ k p e.
            let r = LiesIn-with_run (run start end) old k in (
              λ h. elim (r.0 (subst (λ (l : List Run). LiesIn l k) is h)) [
                | inl w ↦ let a = w.from in let b = w.before in inr ((are k p e).0 (omega (arith, a), omega (arith, b)))
                | inr i ↦ inl i
              ],
              λ h. subst (λ (l : List Run). LiesIn l k) (sym is) (r.1 (elim h [
                | inl i ↦ inr i
                | inr q ↦
                    let l = (are k p e).1 q in
                    let a = l.0 in let b = l.1 in inl (record { from = omega (arith, a); before = omega (arith, b) })
              ])),
            );
        some = (
          λ t. elim (slice_get_cases items start).1 [
            | inl c ↦ (c.0, in_position items start c.0 c.2, (are start c.0 c.2).0 (omega arith, some))
            | inr c ↦ let l = c.0 in absurd (omega (arith, l, some, within))
          ],
          λ s. refl,
        );
      }

-- The places of a stream are those that are listed for it, and those that aren't listed.
pub added_both : (items : List PlaceOf) (b from : ℕ) (end : Option ℕ) (old mid new : List Run) (any own all : Bool)
    → HasAddedThose items (λ p. (rank p.body_sid ≡ rank None) × LiesBetween from end p.place) old mid any
    → HasAddedThose items (λ p. (rank p.body_sid ≡ rank (Some b)) × LiesBetween from end p.place) mid new own
    → all ≡ (any || own) → HasAddedThose items (LiesInStream b from end) old new all
added_both items b from end old mid new any own all first second same =
    record {
      added = λ k p e.
          let f = first.added k p e in
          let s = second.added k p e in (
            λ h. elim (s.0 h) [
              | inl i ↦ elim (f.0 i) [ inl j ↦ inl j | inr q ↦ inr (any_serves p.body_sid b q.0, q.1) ]
              | inr q ↦ inr (own_serves p.body_sid b q.0, q.1)
            ],
            λ h. elim h [
              | inl i ↦ s.1 (inl (f.1 (inl i)))
              | inr q ↦ elim (served_by p.body_sid b q.0) [
                | inl r ↦ s.1 (inl (f.1 (inr (r, q.1))))
                | inr r ↦ s.1 (inr (r, q.1))
              ]
            ],
          );
      some = (
        λ t. elim (parts (sym same ∙ t)) [
          | inl e ↦ let p = first.some.0 e in (p.0, p.1, (any_serves p.0.body_sid b p.2.0, p.2.1))
          | inr e ↦ let p = second.some.0 e in (p.0, p.1, (own_serves p.0.body_sid b p.2.0, p.2.1))
        ],
        λ p. same ∙ elim (served_by p.0.body_sid b p.2.0) [
          | inl r ↦ left (first.some.1 (p.0, p.1, (r, p.2.1)))
          | inr r ↦ right any (second.some.1 (p.0, p.1, (r, p.2.1)))
        ],
      );
    }
  where
    parts : (any || own) ≡ true → (any ≡ true) ⊎ (own ≡ true)
    parts e = elim any as (λ a. (a || own) ≡ true → (a ≡ true) ⊎ (own ≡ true)) [
      | true ↦ λ f. inl refl
      | false ↦ λ f. inr f
    ] e

    left : any ≡ true → (any || own) ≡ true
    left e = ap (λ a. a || own) e

    right : (a : Bool) → own ≡ true → (a || own) ≡ true
    right true e = refl
    right false e = e

-- ---- positions of the table that are found

-- Those at positions before one of the table.
abbrev pub IsFoundBefore : List PlaceOf → List Run → ℕ → NamedPlace → Type 0
IsFoundBefore items positions count n =
    (k : ℕ) × (p : PlaceOf) × (k < count) × (slice_get items k ≡ Some p) × LiesIn positions k × (n ≡ named_of p)

module _ (items : List PlaceOf) (positions : List Run) (count : ℕ) (p : PlaceOf) (here : slice_get items count ≡ Some p)
    (old now : List NamedPlace)
    (was : (n : NamedPlace) → In n now ↔ (In n old ⊎ IsFoundBefore items positions count n)) where
  before_more : (n : NamedPlace) → IsFoundBefore items positions (count + 1) n
      → IsFoundBefore items positions count n ⊎ (LiesIn positions count × (n ≡ named_of p))
  before_more n f = grind (arith, cases_lt, slice_get)

  more_of : (n : NamedPlace) → IsFoundBefore items positions count n → IsFoundBefore items positions (count + 1) n
  more_of n f = let l = f.2 in (f.0, f.1, omega (arith, l), f.3, f.4, f.5)

  pub found_more : (new : List NamedPlace) → LiesIn positions count → new ≡ now ++ named_of p ∷ [] → (n : NamedPlace)
      → In n new ↔ (In n old ⊎ IsFoundBefore items positions (count + 1) n)
  found_more new lies pushed n =
      let e = In-end n (named_of p) now new pushed in (
        λ h. elim (e.0 h) [
          | inl k ↦ elim ((was n).0 k) [ inl o ↦ inl o | inr f ↦ inr (more_of n f) ]
          | inr s ↦ inr (count, p, omega arith, here, lies, s)
        ],
        λ h. e.1 (elim h [
          | inl o ↦ inl ((was n).1 (inl o))
          | inr f ↦ elim (before_more n f) [ inl g ↦ inl ((was n).1 (inr g)) | inr g ↦ inr g.1 ]
        ]),
      )

  pub found_other : (LiesIn positions count → ⊥) → (n : NamedPlace)
      → In n now ↔ (In n old ⊎ IsFoundBefore items positions (count + 1) n)
  found_other not n = grind (arith, more_of, before_more)

pub found_none : (items : List PlaceOf) (positions : List Run) (old : List NamedPlace) (n : NamedPlace)
    → In n old ↔ (In n old ⊎ IsFoundBefore items positions 0 n)
found_none items positions old n = grind arith

-- All positions have been looked at.
pub found_all : (items : List PlaceOf) (positions : List Run) (count : ℕ) (old new : List NamedPlace) → length
    items ≤ count
    → ((n : NamedPlace) → In n new ↔ (In n old ⊎ IsFoundBefore items positions count n)) → (n : NamedPlace)
    → In n new ↔ (In n old ⊎ ((k : ℕ) × (p : PlaceOf) × (slice_get items k ≡ Some p) × LiesIn positions k
    × (n ≡ named_of p)))
found_all items positions count old new end was n = grind (arith, slice_get_within)

-- One more position, by what stands there.
module _ (items : List PlaceOf) (positions : List Run) (count : ℕ) (old now : List NamedPlace)
    (was : (n : NamedPlace) → In n now ↔ (In n old ⊎ IsFoundBefore items positions count n))
    (l : count < length items) where
  pub found_push : (d : PlaceOf) (new : List NamedPlace) → LiesIn positions count
      → new ≡ now ++ named_of (get_or items count d) ∷ [] → (n : NamedPlace)
      → In n new ↔ (In n old ⊎ IsFoundBefore items positions (count + 1) n)
  found_push d new lies pushed =
      found_more items positions count (get_or items count d) (slice_get-get_or items count d l) old now was new lies
      pushed

  pub found_skip : (new : List NamedPlace) → (LiesIn positions count → ⊥) → new ≡ now → (n : NamedPlace)
      → In n new ↔ (In n old ⊎ IsFoundBefore items positions (count + 1) n)
  found_skip new other same n = grind (arith, slice_get_cases, found_other)

-- What a search says of a list in order, of that list by another name.
pub moved : (P : List PlaceOf → Type 0) (xs ys : List PlaceOf) → xs ≡ ys
    → (IsInOrder (λ p. rank p.body_sid) (λ p. p.place) (λ p. 0) xs → P xs)
    → IsInOrder (λ p. rank p.body_sid) (λ p. p.place) (λ p. 0) ys → P ys
moved P xs ys e h r = subst P e (h (subst (IsInOrder (λ p. rank p.body_sid) (λ p. p.place) (λ p. 0)) (sym e) r))
