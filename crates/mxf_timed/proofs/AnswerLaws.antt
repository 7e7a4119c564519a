-- Answers, of ranges that are some of others, and of two kinds of ranges together.
use Rattle.std.proofs.Common.{◌≡◌, ◌∙◌, ◌⊎◌, ◌&&◌, ◌==◌, ℕ, true, false, refl, sym, inl, inr}
use Rattle.std.specs.Prelude.{if◌then◌else◌}
use Rattle.std.proofs.lemmas.Bool.{and_from, and_parts, both_ways, eq-eqb, eqb-true}
use Rattle.mxf_timed.specs.declared.positions.ShownAt.{ShownAt}
use Rattle.mxf_timed.specs.declared.positions.ShownAt.TheVariants.{Nowhere, At, Several}
use Rattle.mxf_timed.specs.Gone.{is_several, joined}
use Rattle.mxf_timed.specs.Positions.{AreTwo, IsAnswer}

-- Two ranges are two of more ranges.
pub two_more : (P Q : ℕ → ℕ → Type 0) → ((f l : ℕ) → P f l → Q f l) → AreTwo P → AreTwo Q
two_more P Q to h = record {
  first = h.first;
  last = h.last;
  one = to h.first h.last h.one;
  other_first = h.other_first;
  other_last = h.other_last;
  other = to h.other_first h.other_last h.other;
  differ = h.differ;
}

pub several_more : (P Q : ℕ → ℕ → Type 0) (a : ShownAt) → is_several a ≡ true → ((f l : ℕ) → P f l → Q f l)
    → IsAnswer P a → IsAnswer Q a
several_more P Q Nowhere s to h = absurd (cc s)
several_more P Q (At first last) s to h = absurd (cc s)
several_more P Q Several s to h = two_more P Q to h

-- Of the same ranges there is the same answer.
pub same_answer : (P Q : ℕ → ℕ → Type 0) (a : ShownAt) → ((f l : ℕ) → P f l → Q f l)
    → ((f l : ℕ) → Q f l → P f l) → IsAnswer P a → IsAnswer Q a
same_answer P Q Nowhere to from h = λ f l q. h f l (from f l q)
same_answer P Q (At first last) to from h = (to first last h.0, λ f l q. h.1 f l (from f l q))
same_answer P Q Several to from h = two_more P Q to h

abbrev Either : (ℕ → ℕ → Type 0) → (ℕ → ℕ → Type 0) → ℕ → ℕ → Type 0
Either P Q f l = P f l ⊎ Q f l

two_ranges : (P Q : ℕ → ℕ → Type 0) (f l g m : ℕ) → IsAnswer P (At f l) → IsAnswer Q (At g m)
    → IsAnswer (Either P Q) (if (f == g) && (l == m) then At f l else Several)
two_ranges P Q f l g m h k = elim ((f == g) && (l == m)) as (λ b. ((f == g) && (l == m)) ≡ b
    → IsAnswer (Either P Q) (if b then At f l else Several)) [
      | true ↦ λ e.
          let p = and_parts (f == g) (l == m) e in
          let a = eqb-true f g p.0 in
          let b = eqb-true l m p.1 in (
            inl h.0,
            λ x y s. elim s [
              | inl one ↦ h.1 x y one
              | inr other ↦ let o = k.1 x y other in (o.0 ∙ sym a, o.1 ∙ sym b)
            ],
          )
      | false ↦ λ e. record {
        first = f;
        last = l;
        one = inl h.0;
        other_first = g;
        other_last = m;
        other = inr k.0;
        differ = λ d. both_ways ((f == g) && (l == m)) e (and_from (f == g) (l == m) (eq-eqb f g d.0) (eq-eqb l m d.1));
      }
    ] refl

-- Two answers together.
pub joined_answer : (P Q : ℕ → ℕ → Type 0) (a b : ShownAt) → IsAnswer P a → IsAnswer Q b
    → IsAnswer (λ f l. P f l ⊎ Q f l) (joined a b)
joined_answer P Q Nowhere b h k =
    same_answer Q (Either P Q) b (λ f l q. inr q)
    (λ f l s. elim s [ inl p ↦ absurd (h f l p) | inr q ↦ q ]) k
joined_answer P Q (At f l) Nowhere h k =
    same_answer P (Either P Q) (At f l) (λ f l p. inl p)
    (λ x y s. elim s [ inl p ↦ p | inr q ↦ absurd (k x y q) ]) h
joined_answer P Q (At f l) (At g m) h k = two_ranges P Q f l g m h k
joined_answer P Q (At f l) Several h k = two_more Q (Either P Q) (λ f l q. inr q) k
joined_answer P Q Several b h k = two_more P (Either P Q) (λ f l p. inl p) h

-- Of the same ranges there is one answer.
pub one_answer : (P : ℕ → ℕ → Type 0) (a b : ShownAt) → IsAnswer P a → IsAnswer P b → a ≡ b
one_answer P Nowhere Nowhere h k = refl
one_answer P Nowhere (At g m) h k = absurd (h g m k.0)
one_answer P Nowhere Several h k = absurd (h k.first k.last k.one)
one_answer P (At f l) Nowhere h k = absurd (k f l h.0)
one_answer P (At f l) (At g m) h k = let e = k.1 f l h.0 in λ i. At (e.0 i) (e.1 i)
one_answer P (At f l) Several h k =
    let a = h.1 k.first k.last k.one in
    let b = h.1 k.other_first k.other_last k.other in
    absurd (k.differ (a.0 ∙ sym b.0, a.1 ∙ sym b.1))
one_answer P Several Nowhere h k = absurd (k h.first h.last h.one)
one_answer P Several (At g m) h k =
    let a = k.1 h.first h.last h.one in
    let b = k.1 h.other_first h.other_last h.other in
    absurd (h.differ (a.0 ∙ sym b.0, a.1 ∙ sym b.1))
one_answer P Several Several h k = refl
