-- Holdings: what they say of sources, and where those of a note stand.
use Rattle.mxf_klv.proofs.Common.{◌≡◌, ◌≢◌, ◌↔◌, ◌⊎◌, ◌+◌, ◌-◌, ◌≤◌, ◌<◌, ◌∙◌, ◌==◌, cond, ℕ, zero, suc, Bool, true}
use Rattle.mxf_klv.proofs.Common.{false, List, [], ◌∷◌, IsTrue, refl, sym, ap, subst, inl, inr, arith, get_or, eq-eqb}
use Rattle.mxf_klv.proofs.Common.{length, nat_lt, filter, map, IsTotalOrder, IsSortedByKey, ordering_index}
use Rattle.mxf_klv.proofs.Common.{ordering_then, true≢false, nat_tests, nat_cmp_total, lt-ltb, ltb-false, ltb-true}
use Rattle.mxf_klv.proofs.Common.{tied_itself, get_or_default, length-drop, length-take, nat_cmp-IsAntisymmetric}
use Rattle.mxf_klv.proofs.Common.{NoteParts, note_cmp, note_total, note_cmp-IsAntisymmetric, In, In-union, IsRising}
use Rattle.mxf_klv.proofs.Common.{same_from_members, union}
use Rattle.std.proofs.Common.{nat_cmp, Ordering, Less, Equal}
use Rattle.std.proofs.lemmas.Cmp.{is_eq_index}
use Rattle.std.proofs.lemmas.List.{get_or-map, length-map}
use Rattle.std.proofs.lemmas.Bool.{le-ltb}
use Rattle.mxf_klv.proofs.Lists.{all-In, all_from_In, In-append, In-filter, In-map}
use Rattle.mxf_klv.proofs.Sides.{first_decides, rising_places, rising_sorted, side_by, sides_rise, sides_run}
use Rattle.mxf_catalogue.specs.ReducedLaws.{is_same-Decides, rising-filter}
use Rattle.mxf_readings.specs.HoldingOrder.{holding_total, holding_cmp-IsAntisymmetric}
use Rattle.mxf_readings.specs.Holdings.{AreHoldings, HoldingParts, holding, holding_cmp, holdings_from, is_of, is_only}
use Rattle.mxf_readings.specs.Readings.{content_of, sources_of}
use Rattle.mxf_readings.proofs.SourceLaws.{at_number, sources_rise, sources_say}

-- ---- members

same_holding : (h : HoldingParts) (first : ℕ) → h.source ≡ first → h ≡ holding first h.note
same_holding h first e = λ i. record { note = h.note; source = e i }

pub from_members : (h : HoldingParts) (first : ℕ) (contents : List (List NoteParts))
    → In h (holdings_from first contents) ↔ ((i : ℕ) × (h.source ≡ first + i) × In h.note (get_or contents i []))
from_members h first [] = (λ k. absurd k, λ s. absurd s.2)
from_members h first (c ∷ contents) =
    let ih = from_members h (first + 1) contents in
    let both = In-append h (map (holding first) c) (holdings_from (first + 1) contents) in
    let here = In-map (holding first) c h in (
      λ k. elim (both.0 k) [
        | inl m ↦
            let s = here.0 m in
            let e : h.source ≡ first = ap (λ (g : HoldingParts). g.source) s.2 in (
              zero,
              omega (arith, e),
              subst (λ (n : NoteParts). In n c) (sym (ap (λ (g : HoldingParts). g.note) s.2)) s.1,
            )
        | inr m ↦
            let s = ih.0 m in
            let e : h.source ≡ first + 1 + s.0 = s.1 in
            (suc s.0, omega (arith, e), s.2)
      ],
      λ s. both.1 (back ih.1 s.0 s.1 s.2),
    )
  where
    back : (((i : ℕ) × (h.source ≡ first + 1 + i) × In h.note (get_or contents i []))
        → In h (holdings_from (first + 1) contents)) → (i : ℕ) → h.source ≡ first + i
        → In h.note (get_or (c ∷ contents) i [])
        → In h (map (holding first) c) ⊎ In h (holdings_from (first + 1) contents)
    back others zero e k = inl ((In-map (holding first) c h).1 (h.note, k, same_holding h first (omega (arith, e))))
    back others (suc i) e k = inr (others (i, omega (arith, e), k))

-- Sorted, and each once, they say which source has which note.
pub sorted_holdings : (contents : List (List NoteParts)) (xs ys : List HoldingParts) → xs ≡ holdings_from 1 contents
    → ys ≡ union holding_cmp [] xs → IsRising holding_cmp ys → AreHoldings contents ys
sorted_holdings contents xs ys from is rising =
    record {
      rising = rising;
      members = λ h.
          let u = In-union holding_total holding_cmp-IsAntisymmetric h [] xs in
          let m = from_members h 1 contents in
          let a = at_number h.source h.note contents in (
            λ k. elim (u.0 (subst (In h) is k)) [ inl i ↦ absurd i | inr i ↦ a.0 (m.0 (subst (In h) from i)) ],
            λ k. subst (In h) (sym is) (u.1 (inr (subst (In h) (sym from) (m.1 (a.1 k))))),
          );
    }

-- ---- the holdings of a note

-- Where what elements are mapped to rises, it is less at an earlier place.
pub rising_mapped : {X K : Type 0} {R : K → K → Ordering} (o : IsTotalOrder R) (f : X → K) (xs : List X) (i j : ℕ)
    (d : X) → IsRising R (map f xs) → i < j → j < length xs → R (f (get_or xs i d)) (f (get_or xs j d)) ≡ Less
rising_mapped {R = R} o f xs i j d r l h =
    subst (λ x. R x (f (get_or xs j d)) ≡ Less) (get_or-map f xs i d (f d) (omega arith))
    (subst (λ y. R (get_or (map f xs) i (f d)) y ≡ Less) (get_or-map f xs j d (f d) h)
    (rising_places o (map f xs) i j (f d) r l (omega (arith, length-map xs f))))

pub by_note : (hs : List HoldingParts) → IsRising holding_cmp hs
    → IsSortedByKey (λ (h : HoldingParts). h.note) note_cmp hs
by_note hs r = rising_sorted holding_total note_total (λ (h : HoldingParts). h.note) hs (λ g h l e.
    first_decides (note_cmp g.note h.note) (nat_cmp g.source h.source) e l) r

-- On which side of a note that of a holding stands.
abbrev side : NoteParts → HoldingParts → ℕ
side n h = side_by note_cmp (λ (g : HoldingParts). g.note) n h

at_note : (n : NoteParts) (h : HoldingParts) → side n h ≡ 1 → is_of n h ≡ true
at_note n h e = is_eq_index (note_cmp h.note n) ∙ eq-eqb (side n h) 1 e

-- ---- whether there is one

not_one : (k : ℕ) → 2 ≤ k → (k == 1) ≡ false
not_one k l = grind (arith, nat_tests)

under : (s : ℕ) → (s ≡ 1 → ⊥) → s ≤ 1 → nat_lt s 1 ≡ true
under s f l = grind (arith, nat_tests)

over : (s : ℕ) → (s ≡ 1 → ⊥) → 1 ≤ s → nat_lt s 2 ≡ false
over s f l = grind (arith, nat_tests)

-- Two neighbours are two.
two : {K : Type 0} (p : K → Bool) (xs : List K) (k : ℕ) (d : K) → suc k < length xs → p (get_or xs k d) ≡ true
    → p (get_or xs (suc k) d) ≡ true → 2 ≤ length (filter p xs)
two p [] k d l f g = absurd (omega arith)
two p (x ∷ []) k d l f g = absurd (omega (arith, l))
two p (x ∷ y ∷ xs) zero d l f g = rw f (rw g (omega arith))
two p (x ∷ y ∷ xs) (suc k) d l f g =
    let ih = two p (y ∷ xs) k d (omega (arith, l)) f g in
    elim (p x) as (λ b. 2 ≤ length (cond b (x ∷ filter p (y ∷ xs)) (filter p (y ∷ xs)))) [
      | true ↦ omega (arith, ih)
      | false ↦ ih
    ]

-- The holding at a place is the only one of its note where neither neighbour is of it.
module _ (hs : List HoldingParts) (at : ℕ) (d : HoldingParts) (r : IsRising holding_cmp hs)
    (here : at < length hs) where
  abbrev own : NoteParts
  own = (get_or hs at d).note

  own_side : side own (get_or hs at d) ≡ 1
  own_side = ap ordering_index (tied_itself note_total own)

  own_is : is_of own (get_or hs at d) ≡ true
  own_is = at_note own (get_or hs at d) own_side

  pub not_only_ahead : 0 < at → is_of own (get_or hs (at - 1) d) ≡ true → is_only hs (get_or hs at d) ≡ false
  not_only_ahead some t =
      let next : at ≡ suc (at - 1) = omega arith in
      not_one _ (two (is_of own) hs (at - 1) d (omega arith) t
      (subst (λ k. is_of own (get_or hs k d) ≡ true) next own_is))

  pub not_only_behind : suc at < length hs → is_of own (get_or hs (suc at) d) ≡ true
      → is_only hs (get_or hs at d) ≡ false
  not_only_behind more t = not_one _ (two (is_of own) hs at d more own_is t)

  -- The side of a neighbour that isn't of it.
  other : (k : ℕ) → is_of own (get_or hs k d) ≡ false → side own (get_or hs k d) ≢ 1
  other k f e = true≢false (sym (at_note own (get_or hs k d) e) ∙ f)

  moved : (k : ℕ) (c : HoldingParts) → k < length hs → side own (get_or hs k c) ≡ side own (get_or hs k d)
  moved k c l = ap (side own) (get_or_default hs k c d l)

  pub only : (0 < at → is_of own (get_or hs (at - 1) d) ≡ false)
      → (suc at < length hs → is_of own (get_or hs (suc at) d) ≡ false) → is_only hs (get_or hs at d) ≡ true
  only ahead behind =
      let rise = sides_rise note_total (λ (h : HoldingParts). h.note) own hs (by_note hs r) in
      let run = sides_run note_cmp (λ (h : HoldingParts). h.note) own hs at (suc at) (omega arith) (λ k c l h.
      let up = rise k (at - 1) d (omega arith) (omega arith) in
      let next = rise (at - 1) at d (omega arith) here in
      let below = under (side own (get_or hs (at - 1) d)) (other (at - 1) (ahead (omega arith)))
      (omega (arith, next, own_side)) in
      lt-ltb _ _ (let b = ltb-true _ _ below in omega (arith, up, b, moved k c (omega arith))))
      (λ k c l h. le-ltb _ _ (let up = rise at k d l h in omega (arith, up, own_side, moved k c h)))
      (λ k c l h. lt-ltb _ _ (let up = rise k at d (omega arith) here in
      omega (arith, up, own_side, moved k c (omega arith)))) (λ k c l h.
      let up = rise (suc at) k d l h in
      let next = rise at (suc at) d (omega arith) (omega arith) in
      let above = over (side own (get_or hs (suc at) d)) (other (suc at) (behind (omega arith)))
      (omega (arith, next, own_side)) in
      le-ltb _ _ (let b = ltb-false _ _ above in omega (arith, up, b, moved k c h))) in
      eq-eqb _ 1 (sym (ap length run) ∙ simp (length-drop, length-take) (omega arith))

-- ---- their sources

then_less : (a b : Ordering) → a ≡ Equal → ordering_then a b ≡ Less → b ≡ Less
then_less a b e f = rw e at f

of_note : (n : NoteParts) (h : HoldingParts) → IsTrue (is_of n h) → h.note ≡ n
of_note n h t = (is_same-Decides note_total note_cmp-IsAntisymmetric h.note n).0 t

source_less : (g h : HoldingParts) → g.note ≡ h.note → holding_cmp g h ≡ Less → nat_cmp g.source h.source ≡ Less
source_less g h e l = then_less (note_cmp g.note h.note) (nat_cmp g.source h.source)
    (subst (λ (m : NoteParts). note_cmp g.note m ≡ Equal) e (tied_itself note_total g.note)) l

-- What elements are mapped to rises where it does for each two of them.
pub rises_mapped : {X Y : Type 0} (R : X → X → Ordering) (S : Y → Y → Ordering) (f : X → Y) (xs : List X)
    → IsRising R xs → ((x y : X) → In x xs → In y xs → R x y ≡ Less → S (f x) (f y) ≡ Less) → IsRising S (map f xs)
rises_mapped R S f [] r less = tt
rises_mapped R S f (x ∷ xs) r less = (
  all_from_In (λ z. S (f x) z ≡ Less) (map f xs) (λ z k.
      let (y, i, e) = (In-map f xs z).0 k in
      subst (λ w. S (f x) w ≡ Less) (sym e) (less x y (inl refl) (inr i) (all-In (λ w. R x w ≡ Less) xs y r.0 i))),
  rises_mapped R S f xs r.1 (λ y z i k. less y z (inr i) (inr k)),
)

pub run_sources : (n : NoteParts) (contents : List (List NoteParts)) (hs : List HoldingParts) → AreHoldings contents hs
    → map (λ (h : HoldingParts). h.source) (filter (is_of n) hs) ≡ sources_of n contents
run_sources n contents hs are =
    let fs = filter (is_of n) hs in
    let mapped = In-map (λ (h : HoldingParts). h.source) fs in
    let kept = In-filter (is_of n) hs in
    same_from_members nat_cmp_total nat_cmp-IsAntisymmetric (map (λ (h : HoldingParts). h.source) fs)
    (sources_of n contents)
    (rises_mapped holding_cmp nat_cmp (λ h. h.source) fs (rising-filter holding_cmp (is_of n) hs are.rising)
    (λ g h i k l. source_less g h (of_note n g ((kept g).0 i).1 ∙ sym (of_note n h ((kept h).0 k).1)) l))
    (sources_rise n contents) (λ number.
    let says = sources_say number n contents in (
      λ k.
          let s = (mapped number).0 k in
          let t = (kept s.0).0 s.1 in
          let held = (are.members s.0).0 t.0 in
          let of = of_note n s.0 t.1 in
          says.1 (subst (λ (i : ℕ). In n (content_of i contents)) (sym s.2)
          (subst (λ (m : NoteParts). In m (content_of s.0.source contents)) of held)),
      λ k.
          let h = holding number n in
          let held = (are.members h).1 (says.0 k) in
          (mapped number).1 (
            h,
            (kept h).1 (held, (is_same-Decides note_total note_cmp-IsAntisymmetric n n).1 refl),
            refl,
          ),
    ))

-- As many are of the note as sources have it.
pub run_length : (n : NoteParts) (contents : List (List NoteParts)) (hs : List HoldingParts)
    → AreHoldings contents hs → length (filter (is_of n) hs) ≡ length (sources_of n contents)
run_length n contents hs are =
    sym (length-map (filter (is_of n) hs) (λ (h : HoldingParts). h.source)) ∙ ap length (run_sources n contents hs are)
