-- Heads and where their key and length end.
use denote.Bor.{Bor}
use Rattle.mxf_views.proofs.Common.{◌≡◌, ◌∙◌, ◌≤◌, ◌<◌, ◌-◌, ◌&&◌, ◌==◌, ℕ, Bool, true, false, List, [], ◌∷◌, ap, arith}
use Rattle.mxf_views.proofs.Common.{filter, find, inl, inr, map, nat_le, nat_lt, not, refl, subst, sym, and_from}
use Rattle.mxf_views.proofs.Common.{le-leb, slice_get, option_map_or, NoteParts, IsNote, covered_end, In, In-filter}
use Rattle.mxf_views.proofs.Common.{all-In, equals_itself, length-map, IsNonDecreasingBy, IsCatalogue, IsContent-filter}
use Rattle.mxf_views.proofs.Common.{offsets_rise}
use Rattle.mxf_views.proofs.NumbersLaws.{filter_mapped}
use Rattle.std.proofs.lemmas.Bool.{lt-ltb, not-true}
use Rattle.std.proofs.Math.ListN.{get_or-map}
use Rattle.mxf_places.specs.Held.{top_of}
use Rattle.mxf_places.specs.Heads.{AreHeads, heads_to, is_head_to, needed_of, start_of}

-- The first that passes a test is the first of those that do.
first_kept : {K : Type 0} (p : K → Bool) (xs : List K) → find p xs ≡ slice_get (filter p xs) 0
first_kept p [] = refl
first_kept p (x ∷ xs) = grind (arith, first_kept p xs)

-- Those that pass both tests.
filter_twice : {K : Type 0} (p q : K → Bool) (xs : List K) → filter (λ x. p x && q x) xs ≡ filter q (filter p xs)
filter_twice p q [] = refl
filter_twice p q (x ∷ xs) = grind (arith, filter_twice p q xs)

-- What passes a test passes one that follows from it.
both : {K : Type 0} (p q : K → Bool) (xs : List K) → ((x : K) → In x xs → q x ≡ true → p x ≡ true)
    → filter q (filter p xs) ≡ filter q xs
both p q [] f = refl
both p q (x ∷ xs) f = grind (arith, both p q xs (λ y i. f y (inr i)), f x (inl refl))

-- The key and length of a head begin up to 25 bytes before they end.
near : (n : NoteParts) (end : ℕ) → IsNote n → n.whole ≡ false → covered_end n ≡ end
    → (end - 25 ≤ n.offset) × (n.offset < end)
near n end is head e = grind arith

-- The heads of a catalogue, as a table.
pub heads_are : (notes : List NoteParts) (heads : List (Bor NoteParts)) → IsCatalogue notes
    → map (λ h. h.now) heads ≡ filter (λ n. not n.whole) notes → AreHeads notes heads
heads_are notes heads is e =
    let note = λ (h : Bor NoteParts). h.now in
    let rises : IsNonDecreasingBy (λ n. n.offset) (map note heads) =
    subst (IsNonDecreasingBy (λ n. n.offset)) (sym e)
    (offsets_rise (filter (λ n. not n.whole) notes) (IsContent-filter (λ n. not n.whole) notes is.content)) in
    record {
      listed = e;
      rising = λ i j d le lt.
          let r = rises i j (note d) le (let k = length-map heads note in omega (arith, lt, k)) in
          let a = ap (λ (n : NoteParts). n.offset) (get_or-map note heads i d) in
          let b = ap (λ (n : NoteParts). n.offset) (get_or-map note heads j d) in omega (arith, r, a, b);
      members = is.members;
    }

-- The heads that end at an offset are among those that begin near it.
pub ending : (notes : List NoteParts) (heads : List (Bor NoteParts)) (end : ℕ) → AreHeads notes heads
    → filter (λ n. covered_end n == end) (map (λ h. h.now)
    (filter (λ h. nat_le (end - 25) h.now.offset && nat_lt h.now.offset end) heads)) ≡ heads_to end notes
ending notes heads end are =
    let note = λ (h : Bor NoteParts). h.now in
    let ends = λ (n : NoteParts). covered_end n == end in
    let lies = λ (n : NoteParts). nat_le (end - 25) n.offset && nat_lt n.offset end in
    let head = λ (n : NoteParts). not n.whole in
    let all : filter ends (filter lies (filter head notes)) ≡ filter ends (filter head notes) =
    both lies ends (filter head notes) (λ n i e.
    let kept = (In-filter head notes n).0 i in
    let bounds = near n end (all-In IsNote notes n are.members kept.0) (not-true n.whole kept.1)
    ((equals_itself (covered_end n) end).0 e) in
    and_from _ _ (le-leb _ _ bounds.0) (lt-ltb _ _ bounds.1))
    in
    ap (filter ends) (sym (filter_mapped lies note heads) ∙ ap (filter lies) are.listed) ∙ all
    ∙ sym (filter_twice head ends notes)

module _ (notes near : List NoteParts) (first : ℕ) where
  abbrev ends : NoteParts → Bool
  ends n = covered_end n == first

  -- Where the first of them begins, and what those there need.
  pub start_near : filter ends near ≡ heads_to first notes
      → option_map_or (λ n. n.offset) (find ends near) first ≡ start_of notes first
  start_near e = ap (λ o. option_map_or (λ (n : NoteParts). n.offset) o first)
      (first_kept ends near ∙ ap (λ (l : List NoteParts). slice_get l 0) e ∙ sym (first_kept (is_head_to first) notes))

  pub needed_near : (start : ℕ) → filter ends near ≡ heads_to first notes
      → top_of (filter (λ n. (covered_end n == first) && (n.offset == start)) near) ≡ needed_of notes start first
  needed_near start e =
      let at = λ (n : NoteParts). n.offset == start in
      ap top_of (filter_twice ends at near ∙ ap (filter at) e ∙ sym (filter_twice (is_head_to first) at notes))
