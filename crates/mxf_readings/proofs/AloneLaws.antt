-- How often a source is the only one of a note of all.
use Rattle.mxf_klv.proofs.Common.{◌≡◌, ◌==◌, ◌&&◌, ◌∙◌, ℕ, Bool, true, false, List, [], ◌∷◌, cond, count_by, filter}
use Rattle.mxf_klv.proofs.Common.{length, map, IsTrue, refl, sym, ap, subst, arith, eqb-true, eq-eqb, AllByRecursion}
use Rattle.mxf_klv.proofs.Common.{ordering_then, nat_cmp_total, tied_itself, sum_by-IsPermutation, NoteParts, note_cmp}
use Rattle.mxf_klv.proofs.Common.{note_total, note_cmp-IsAntisymmetric, In, same_from_members}
use Rattle.std.proofs.Common.{nat_cmp, Ordering, Less, Equal, Greater}
use Rattle.mxf_klv.proofs.Counts.{count-alike, count_by-cons, count_mapped, tally}
use Rattle.mxf_klv.proofs.Lists.{all_from_In, In-filter, In-map}
use Rattle.mxf_catalogue.specs.Content.{IsContent}
use Rattle.mxf_catalogue.specs.ReducedLaws.{rising-filter}
use Rattle.mxf_readings.specs.Holdings.{AreAlone, AreHoldings, HoldingParts, holding, holding_cmp, is_only}
use Rattle.mxf_readings.specs.Holdings.{sources_alone}
use Rattle.mxf_readings.specs.Readings.{all_notes, content_of, is_alone, is_held, sources_of}
use Rattle.mxf_readings.proofs.AllNotesLaws.{whole_joined}
use Rattle.mxf_readings.proofs.HoldingLaws.{rises_mapped, run_length}

-- ---- counts

count-filter : {K : Type 0} (p q : K → Bool) (xs : List K) → count_by p (filter q xs) ≡ count_by (λ x. q x && p x) xs
count-filter p q [] = refl
count-filter p q (x ∷ xs) =
    let ih = count-filter p q xs in
    let r = count_by-cons (λ y. q y && p y) x xs in
    elim (q x) as (λ b. q x ≡ b → count_by p (cond b (x ∷ filter q xs) (filter q xs))
    ≡ count_by (λ y. q y && p y) (x ∷ xs)) [
      | true ↦ λ e.
          let c = count_by-cons p x (filter q xs) in
          let z : tally (q x && p x) ≡ tally (p x) = ap (λ b. tally (b && p x)) e in
          omega (arith, c, r, z, ih)
      | false ↦ λ e. let z : tally (q x && p x) ≡ 0 = ap (λ b. tally (b && p x)) e in omega (arith, r, z, ih)
    ] refl

-- ---- the notes of a source

first_less : (a b : Ordering) → b ≡ Equal → ordering_then a b ≡ Less → a ≡ Less
first_less Less b e f = refl
first_less Equal b e f = absurd cc
first_less Greater b e f = absurd cc

note_less : (g h : HoldingParts) → g.source ≡ h.source → holding_cmp g h ≡ Less → note_cmp g.note h.note ≡ Less
note_less g h e l = first_less (note_cmp g.note h.note) (nat_cmp g.source h.source)
    (subst (λ (k : ℕ). nat_cmp g.source k ≡ Equal) e (tied_itself nat_cmp_total g.source)) l

-- The holdings of a source are of its notes.
of_source : (number : ℕ) (contents : List (List NoteParts)) (hs : List HoldingParts) → AreHoldings contents hs
    → IsContent (content_of number contents)
    → map (λ (h : HoldingParts). h.note) (filter (λ h. h.source == number) hs) ≡ content_of number contents
of_source number contents hs are rise =
    let fs = filter (λ (h : HoldingParts). h.source == number) hs in
    let kept = In-filter (λ (h : HoldingParts). h.source == number) hs in
    same_from_members note_total note_cmp-IsAntisymmetric (map (λ (h : HoldingParts). h.note) fs)
    (content_of number contents) (rises_mapped holding_cmp note_cmp (λ h. h.note) fs
    (rising-filter holding_cmp (λ h. h.source == number) hs are.rising)
    (λ g h i k l. note_less g h (eqb-true _ _ ((kept g).0 i).1 ∙ sym (eqb-true _ _ ((kept h).0 k).1)) l))
    rise (λ n.
    let mapped = In-map (λ (h : HoldingParts). h.note) fs n in (
      λ k.
          let s = mapped.0 k in
          let t = (kept s.0).0 s.1 in
          let held = (are.members s.0).0 t.0 in
          subst (λ (m : NoteParts). In m (content_of number contents)) (sym s.2)
          (subst (λ (i : ℕ). In s.0.note (content_of i contents)) (eqb-true s.0.source number t.1) held),
      λ k.
          let h = holding number n in
          mapped.1 (h, (kept h).1 ((are.members h).1 k, eq-eqb number number refl), refl),
    ))

-- ---- the only holding of a note of all

and-turned : (a b : Bool) → (a && b) ≡ (b && a)
and-turned a b = grind arith

alone-test : (contents : List (List NoteParts)) (hs : List HoldingParts) (all : List NoteParts)
    → AreHoldings contents hs → all ≡ all_notes contents → (h : HoldingParts)
    → (is_only hs h && is_held h.note all) ≡ is_alone contents h.note
alone-test contents hs all are is h = ap (λ k. (k == 1) && is_held h.note all) (run_length h.note contents hs are)
    ∙ ap (λ l. (length (sources_of h.note contents) == 1) && is_held h.note l) is
    ∙ and-turned (length (sources_of h.note contents) == 1) (is_held h.note (all_notes contents))

-- A source is counted for each note that it alone has.
pub alone-count : (number : ℕ) (contents : List (List NoteParts)) (hs : List HoldingParts) (all : List NoteParts)
    (sources : List ℕ) → AreHoldings contents hs → all ≡ all_notes contents → IsContent (content_of number contents)
    → AreAlone all hs sources
    → count_by (λ k. k == number) sources ≡ count_by (is_alone contents) (content_of number contents)
alone-count number contents hs all sources are is rise a =
    let t : HoldingParts → Bool = λ h. is_only hs h && is_held h.note all in
    let s : HoldingParts → Bool = λ h. h.source == number in
    sum_by-IsPermutation (λ k. cond (k == number) 1 0) (sources_alone all hs) sources a.members
    ∙ count_mapped (λ k. k == number) (λ (h : HoldingParts). h.source) (filter t hs) ∙ count-filter s t hs
    ∙ count-alike (λ h. t h && s h) (λ h. s h && is_alone contents h.note) hs (λ h.
    and-turned (t h) (s h) ∙ ap (λ b. s h && b) (alone-test contents hs all are is h))
    ∙ sym (count-filter (λ h. is_alone contents h.note) s hs)
    ∙ sym (count_mapped (is_alone contents) (λ (h : HoldingParts). h.note) (filter s hs))
    ∙ ap (count_by (is_alone contents)) (of_source number contents hs are rise)

-- The note of a whole packet that some source has is one of all.
pub whole_held : (contents : List (List NoteParts)) (hs : List HoldingParts) (all : List NoteParts)
    → AreHoldings contents hs → all ≡ all_notes contents → AllByRecursion (λ h. IsTrue h.note.whole → In h.note all) hs
whole_held contents hs all are is = all_from_In (λ (h : HoldingParts). IsTrue h.note.whole → In h.note all) hs (λ h k w.
    subst (In h.note) (sym is) (whole_joined h.source h.note contents w ((are.members h).0 k)))
