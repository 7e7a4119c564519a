-- The sources of a note.
use Rattle.mxf_klv.proofs.Common.{◌≡◌, ◌↔◌, ◌==◌, ◌+◌, ◌<◌, ◌∙◌, ℕ, zero, suc, true, false, cond, List, [], ◌∷◌, IsTrue}
use Rattle.mxf_klv.proofs.Common.{refl, sym, subst, inl, inr, arith, get_or, length, eqb-true, eq-eqb, and_from}
use Rattle.mxf_klv.proofs.Common.{and_parts, NoteParts, note_total, note_cmp-IsAntisymmetric, In, IsRising}
use Rattle.std.proofs.Common.{nat_cmp, Less}
use Rattle.mxf_klv.proofs.Lists.{all_from_In, list_any-In}
use Rattle.mxf_klv.proofs.Tests.{less_from_lt, lt_from_less}
use Rattle.mxf_catalogue.specs.Disputes.{is_disputed, is_same_note}
use Rattle.mxf_catalogue.specs.ReducedLaws.{is_same-Decides}
use Rattle.mxf_catalogue.proofs.DisputeLaws.{is_disputed-IsDisputed}
use Rattle.mxf_readings.specs.Readings.{IsAlone, IsDisputedThere, all_notes, content_of, is_alone, is_disputed_there}
use Rattle.mxf_readings.specs.Readings.{is_held, sources_from, sources_of}

pub held_says : (n : NoteParts) (notes : List NoteParts) → IsTrue (is_held n notes) ↔ In n notes
held_says n notes =
    let any = list_any-In (is_same_note n) notes in
    let same = λ (m : NoteParts). is_same-Decides note_total note_cmp-IsAntisymmetric n m in (
      λ h. let s = any.0 h in subst (λ m. In m notes) (sym ((same s.0).0 s.2)) s.1,
      λ h. any.1 (n, h, (same n).1 refl),
    )

-- The sources that have a note, among those that are numbered from a first on.
pub from_says : (number first : ℕ) (n : NoteParts) (contents : List (List NoteParts))
    → In number (sources_from first n contents) ↔ ((i : ℕ) × (number ≡ first + i) × In n (get_or contents i []))
from_says number first n [] = (λ h. absurd h, λ s. absurd s.2)
from_says number first n (c ∷ contents) =
    let ih = from_says number (first + 1) n contents in
    let held = held_says n c in
    let later : In number (sources_from (first + 1) n contents)
    → (i : ℕ) × (number ≡ first + i) × In n (get_or (c ∷ contents) i []) = λ h.
    let s = ih.0 h in
    let e : number ≡ first + 1 + s.0 = s.1 in
    (suc s.0, omega (arith, e), s.2) in
    elim (is_held n c) as (λ b. is_held n c ≡ b
    → In number (cond b (first ∷ sources_from (first + 1) n contents) (sources_from (first + 1) n contents))
    ↔ ((i : ℕ) × (number ≡ first + i) × In n (get_or (c ∷ contents) i []))) [
      | true ↦ λ t. (
        λ h. elim h [ inl e ↦ (zero, omega (arith, e), held.0 t) | inr k ↦ later k ],
        λ s. there ih.1 s.0 s.1 s.2,
      )
      | false ↦ λ t. (later, λ s. not_first ih.1 t s.0 s.1 s.2)
    ] refl
  where
    there : (((i : ℕ) × (number ≡ first + 1 + i) × In n (get_or contents i []))
        → In number (sources_from (first + 1) n contents)) → (i : ℕ) → number ≡ first + i
        → In n (get_or (c ∷ contents) i []) → In number (first ∷ sources_from (first + 1) n contents)
    there back zero e h = inl (omega (arith, e))
    there back (suc i) e h = inr (back (i, omega (arith, e), h))

    not_first : (((i : ℕ) × (number ≡ first + 1 + i) × In n (get_or contents i []))
        → In number (sources_from (first + 1) n contents)) → is_held n c ≡ false → (i : ℕ) → number ≡ first + i
        → In n (get_or (c ∷ contents) i []) → In number (sources_from (first + 1) n contents)
    not_first back t zero e h = absurd (let u = (held_says n c).1 h in cc (t, u))
    not_first back t (suc i) e h = back (i, omega (arith, e), h)

-- What a place says is what the number of its source does.
pub at_number : (number : ℕ) (n : NoteParts) (contents : List (List NoteParts))
    → ((i : ℕ) × (number ≡ 1 + i) × In n (get_or contents i [])) ↔ In n (content_of number contents)
at_number zero n contents = (λ s. let e : 0 ≡ 1 + s.0 = s.1 in absurd (omega (arith, e)), λ h. absurd h)
at_number (suc k) n contents = (
  λ s. let e : suc k ≡ 1 + s.0 = s.1 in
      let f : s.0 ≡ k = omega (arith, e) in subst (λ (i : ℕ). In n (get_or contents i [])) f s.2,
  λ h. (k, omega arith, h),
)

pub sources_say : (number : ℕ) (n : NoteParts) (contents : List (List NoteParts))
    → In number (sources_of n contents) ↔ In n (content_of number contents)
sources_say number n contents =
    let a = from_says number 1 n contents in
    let b = at_number number n contents in (λ h. b.0 (a.0 h), λ h. a.1 (b.1 h))

from_rise : (first : ℕ) (n : NoteParts) (contents : List (List NoteParts))
    → IsRising nat_cmp (sources_from first n contents)
from_rise first n [] = tt
from_rise first n (c ∷ contents) =
    let ih = from_rise (first + 1) n contents in
    elim (is_held n c) as (λ b. IsRising nat_cmp
    (cond b (first ∷ sources_from (first + 1) n contents) (sources_from (first + 1) n contents))) [
      | true ↦ (
        all_from_In (λ (m : ℕ). nat_cmp first m ≡ Less) (sources_from (first + 1) n contents) (λ m h.
            let s = (from_says m (first + 1) n contents).0 h in
            let e : m ≡ first + 1 + s.0 = s.1 in
            less_from_lt first m (omega (arith, e))),
        ih,
      )
      | false ↦ ih
    ]

pub sources_rise : (n : NoteParts) (contents : List (List NoteParts)) → IsRising nat_cmp (sources_of n contents)
sources_rise n contents = from_rise 1 n contents

-- One of a list of one is that one, and a list of which all are one, and that rises, has no other.
only : (xs : List ℕ) (x y : ℕ) → length xs ≡ 1 → In x xs → In y xs → y ≡ x
only [] x y l h k = absurd h
only (z ∷ []) x y l (inl e) (inl f) = f ∙ sym e
only (z ∷ []) x y l (inl e) (inr k) = absurd k
only (z ∷ []) x y l (inr h) k = absurd h
only (z ∷ w ∷ xs) x y l h k = absurd (omega (arith, l))

one : (xs : List ℕ) (x : ℕ) → IsRising nat_cmp xs → In x xs → ((y : ℕ) → In y xs → y ≡ x) → length xs ≡ 1
one [] x r h f = absurd h
one (z ∷ []) x r h f = omega arith
one (z ∷ w ∷ xs) x r h f =
    let e : w ≡ z = f w (inr (inl refl)) ∙ sym (f z (inl refl)) in
    let l : z < w = lt_from_less z w r.0.0 in
    absurd (omega (arith, e, l))

pub alone_says : (number : ℕ) (n : NoteParts) (contents : List (List NoteParts)) → In n (content_of number contents)
    → IsTrue (is_alone contents n) ↔ IsAlone number contents n
alone_says number n contents h =
    let count = length (sources_of n contents) in
    let all = held_says n (all_notes contents) in
    let says = λ (m : ℕ). sources_say m n contents in
    let here = (says number).1 h in (
      λ t.
          let p = and_parts (is_held n (all_notes contents)) (count == 1) t in record {
            held = h;
            joined = all.0 p.0;
            alone = λ other k. only (sources_of n contents) number other (eqb-true count 1 p.1) here ((says other).1 k);
          },
      λ a. and_from (is_held n (all_notes contents)) (count == 1) (all.1 a.joined)
          (eq-eqb count 1 (one (sources_of n contents) number (sources_rise n contents) here
          (λ y k. a.alone y ((says y).0 k)))),
    )

pub disputed_says : (n : NoteParts) (contents : List (List NoteParts))
    → IsTrue (is_disputed_there contents n) ↔ IsDisputedThere contents n
disputed_says n contents =
    let all = all_notes contents in
    let held = held_says n all in
    let disputed = is_disputed-IsDisputed n all in (
      λ t.
          let p = and_parts (is_held n all) (is_disputed n all) t in
          record { joined = held.0 p.0; disputed = disputed.0 p.1 },
      λ d. and_from (is_held n all) (is_disputed n all) (held.1 d.joined) (disputed.1 d.disputed),
    )
