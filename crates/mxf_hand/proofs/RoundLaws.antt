-- Rounds, and contents to which notes are added in two steps.
use Rattle.mxf_views.proofs.Common.{◌≡◌, ◌≢◌, ◌∙◌, ◌⊎◌, ◌<◌, ℕ, zero, suc, List, [], ◌∷◌, ◌++◌, ap, arith, inl, inr}
use Rattle.mxf_views.proofs.Common.{refl, sym, NoteParts, In}
use Rattle.mxf_klv.specs.NoteOrder.{note_cmp-IsAntisymmetric, note_total}
use Rattle.mxf_catalogue.specs.ReducedLaws.{same_or_not}
use Rattle.mxf_views.proofs.Common.{AreReduced, IsContent, has_note, reduced_union, AreReduced-reduced_union}
use Rattle.mxf_views.proofs.Common.{IsContent-reduced_union, has-reduced_union, one_reduced, reduced_with-present}
use Rattle.mxf_hand.specs.Hand.{HandBytes}
use Rattle.mxf_restore.specs.Sections.{sections_of}
use Rattle.mxf_read.proofs.Taking.{union_append}
use Rattle.mxf_hand.specs.Rounds.{heads_taken, made_in, packets_in, put_together, round, rounds}

-- What a catalogue of some notes has, added to a content, adds these notes.
pub added_at_once : (a b : List NoteParts) → IsContent a → AreReduced a
    → reduced_union a (reduced_union [] b) ≡ reduced_union a b
added_at_once a b r p = one_reduced (reduced_union a (reduced_union [] b)) (reduced_union a b)
    (IsContent-reduced_union a (reduced_union [] b) r) (IsContent-reduced_union a b r)
    (AreReduced-reduced_union a (reduced_union [] b) p) (AreReduced-reduced_union a b p) (λ n.
    let both = has-reduced_union n a (reduced_union [] b) in
    let one = has-reduced_union n [] b in
    let plain = has-reduced_union n a b in (
      λ h. plain.1 (elim (both.0 h) [
        | inl k ↦ inl k
        | inr k ↦ elim (one.0 k) [ inl none ↦ elim none [ inl i ↦ absurd i | inr s ↦ absurd s.1 ] | inr m ↦ inr m ]
      ]),
      λ h. both.1 (elim (plain.0 h) [ inl k ↦ inl k | inr k ↦ inr (one.1 (inr k)) ]),
    ))

-- Notes that a content has add nothing.
pub nothing_new : (a b : List NoteParts) → IsContent a → AreReduced a → ((n : NoteParts) → In n b → has_note a n)
    → reduced_union a b ≡ a
nothing_new a [] r p all = refl
nothing_new a (n ∷ b) r p all =
    ap (λ (c : List NoteParts). reduced_union c b) (reduced_with-present n a r p (all n (inl refl)))
    ∙ nothing_new a b r p (λ m i. all m (inr i))

-- A round more.
pub round_more : (h : HandBytes) (notes : List NoteParts) (count left : ℕ) → count ≡ suc left
    → rounds count h notes ≡ rounds left h (round h notes)
unfolding rounds
round_more h notes count left e = ap (λ (k : ℕ). rounds k h notes) e

-- No round.
pub no_round : (h : HandBytes) (notes : List NoteParts) (count : ℕ) → count ≡ 0 → rounds count h notes ≡ notes
unfolding rounds
no_round h notes count e = ap (λ (k : ℕ). rounds k h notes) e

-- Behind a round that changes nothing none does.
pub rounds_end : (h : HandBytes) (notes : List NoteParts) (count : ℕ) → round h notes ≡ notes
    → rounds count h notes ≡ notes
unfolding rounds
rounds_end h notes zero e = refl
rounds_end h notes (suc count) e = ap (rounds count h) e ∙ rounds_end h notes count e

-- Two contents are one, or they aren't.
same_content : (a b : List NoteParts) → (a ≡ b) ⊎ (a ≢ b)
same_content [] [] = inl refl
same_content [] (n ∷ b) = inr (λ e. absurd cc)
same_content (m ∷ a) [] = inr (λ e. absurd cc)
same_content (m ∷ a) (n ∷ b) =
    elim (same_or_not note_total note_cmp-IsAntisymmetric m n) [
      | inl same ↦ elim (same_content a b) [
        | inl rest ↦ inl (λ i. same i ∷ rest i)
        | inr differs ↦ inr (λ e. differs (cc (e)))
      ]
      | inr differs ↦ inr (λ e. differs (cc (e)))
    ]

-- After so many rounds one more changes nothing, or each of them changed something.
closes : (count : ℕ) (h : HandBytes) (notes : List NoteParts)
    → (round h (rounds count h notes) ≡ rounds count h notes)
    ⊎ ((k : ℕ) → k < count → rounds (suc k) h notes ≢ rounds k h notes)
unfolding rounds
closes zero h notes = inr (λ k below. absurd (omega (arith, below)))
closes (suc count) h notes =
    elim (same_content (round h notes) notes) [
      | inl same ↦ (
          let end : rounds count h (round h notes) ≡ notes = rounds_end h notes (suc count) same in
          inl (ap (round h) end ∙ same ∙ sym end))
      | inr first ↦ elim (closes count h (round h notes)) [
        | inl end ↦ inl end
        | inr others ↦ inr (each first others)
      ]
    ]
  where
    each : round h notes ≢ notes
        → ((k : ℕ) → k < count → rounds (suc k) h (round h notes) ≢ rounds k h (round h notes))
        → (k : ℕ) → k < suc count → rounds (suc k) h notes ≢ rounds k h notes
    each first others zero below = first
    each first others (suc k) below = others k (omega (arith, below))

pub rounds_close : (h : HandBytes) (notes : List NoteParts)
    → (round h (put_together h notes) ≡ put_together h notes)
    ⊎ ((k : ℕ) → k < 64 → rounds (suc k) h notes ≢ rounds k h notes)
unfolding put_together
rounds_close h notes = closes 64 h notes

-- What is put together is what 64 rounds leave.
pub all_rounds : (h : HandBytes) (notes : List NoteParts) → put_together h notes ≡ rounds 64 h notes
unfolding put_together
all_rounds h notes = refl

-- A round in the two steps of the code: the packets that were read, and then those that were made and the heads.
pub round_is : (h : HandBytes) (old mid new packets made : List NoteParts)
    → packets ≡ reduced_union [] (packets_in h old (sections_of old))
    → made ≡ reduced_union [] (made_in h old (sections_of old) ++ heads_taken h old (sections_of old))
    → mid ≡ reduced_union old packets → new ≡ reduced_union mid made → IsContent old → AreReduced old
    → new ≡ round h old
unfolding round
round_is h old mid new packets made ep em first second r p =
    let read = packets_in h old (sections_of old) in
    let rest = made_in h old (sections_of old) ++ heads_taken h old (sections_of old) in
    let one : mid ≡ reduced_union old read =
    first ∙ ap (reduced_union old) ep ∙ added_at_once old read r p in
    second ∙ ap (λ (l : List NoteParts). reduced_union l made) one ∙ ap (reduced_union (reduced_union old read)) em
    ∙ added_at_once (reduced_union old read) rest (IsContent-reduced_union old read r)
    (AreReduced-reduced_union old read p) ∙ sym (union_append old read rest)
