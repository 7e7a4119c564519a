-- The notes of a reference that are compared with bytes.
use Rattle.mxf_views.proofs.Common.{◌≡◌, ◌≢◌, ◌↔◌, ◌+◌, ◌<◌, ◌≤◌, ℕ, get_or, ◌&&◌, not, zero, suc, Bool, true, false}
use Rattle.mxf_views.proofs.Common.{IsTrue, List, [], ◌∷◌, cond, length, map, refl, sym, ap, subst, arith, inl}
use Rattle.mxf_views.proofs.Common.{inr, and_from, and_parts, cases_lt, false≢true, tied_itself, AllByRecursion}
use Rattle.mxf_views.proofs.Common.{AllWithin, IsNonDecreasingBy, NoteParts, IsNote, covered_end, end_of, keeps_value}
use Rattle.mxf_views.proofs.Common.{note_cmp, note_total, In, IsRising, all-In, all_from_In, In-at, In-filter, In-map}
use Rattle.mxf_views.proofs.Common.{same_bool, IsDisputed, SharesByte, is_disputed, rising-filter}
use Rattle.mxf_views.proofs.Common.{is_disputed-IsDisputed, offset_le}
use Rattle.std.proofs.Common.{Less}
use denote.Bor.{Bor}
use Rattle.mxf_readings.specs.Readings.{is_held}
use Rattle.mxf_verify.specs.References.{AreCandidates, is_crowded}
use Rattle.mxf_verify.specs.Candidates.{offset_of}
use Rattle.mxf_verify.specs.SourceReads.{AreApart}
use Rattle.mxf_verify.specs.Verifying.{is_digested}
use Rattle.mxf_verify.specs.Compared.{fresh}
use Rattle.mxf_verify.specs.declared.candidate.Candidate.{Candidate}
use Rattle.mxf_readings.proofs.HoldingLaws.{rising_mapped}
use Rattle.mxf_readings.proofs.SourceLaws.{held_says}

-- a note with a digest is crowded where it is one of the disputed notes
pub crowded_disputed : (n : NoteParts) (notes : List NoteParts) (b : Bool) → is_digested n ≡ true
    → (IsTrue b ↔ (In n notes × IsDisputed n notes)) → b ≡ is_crowded notes n
unfolding is_crowded
crowded_disputed n notes b digested says =
    grind (arith, held_says, is_disputed-IsDisputed, same_bool, and_from, and_parts)

-- and no other is
pub crowded_digested : (n : NoteParts) (notes : List NoteParts) → is_digested n ≡ false → false ≡ is_crowded notes n
unfolding is_crowded
crowded_digested n notes e = ap (λ d. d && (is_held n notes && is_disputed n notes)) (sym e)

-- one that isn't crowded, and knows a digest, isn't disputed
pub crowded_not : (n : NoteParts) (notes : List NoteParts) → IsTrue (is_digested n) → In n notes
    → IsTrue (not (is_crowded notes n)) → ¬ IsDisputed n notes
unfolding is_crowded
crowded_not n notes digested held free d = grind (arith, held_says, is_disputed-IsDisputed, and_from, false≢true)

-- it was read whole
whole_end : (n : NoteParts) → IsTrue (is_digested n) → covered_end n ≡ end_of n
unfolding is_digested
whole_end n q =
    let whole = (and_parts n.whole (not (keeps_value n)) q).0 in
    ap (λ b. cond b (end_of n) (n.offset + 16 + n.width)) whole

-- fresh candidates have the notes that they are made of, and say nothing yet
pub fresh_notes : (rs : List (Bor NoteParts))
    → map (λ (c : Candidate). c.note.now) (map fresh rs) ≡ map (λ (r : Bor NoteParts). r.now) rs
fresh_notes [] = refl
fresh_notes (r ∷ rs) = ap (λ l. r.now ∷ l) (fresh_notes rs)

pub fresh_same : (rs : List (Bor NoteParts))
    → AllWithin (λ c. c.is_same ≡ true) (map fresh rs) 0 (length (map fresh rs))
fresh_same [] k d l h = absurd (omega arith)
fresh_same (r ∷ rs) zero d l h = refl
fresh_same (r ∷ rs) (suc k) d l h = fresh_same rs k d (omega arith) (omega arith)

-- what is so of each note of candidates is so of each candidate
candidates_within : (P : NoteParts → Type 0) (cs : List Candidate)
    → AllByRecursion P (map (λ (c : Candidate). c.note.now) cs) → AllWithin (λ c. P c.note.now) cs 0 (length cs)
candidates_within P [] a k d l h = absurd (omega arith)
candidates_within P (c ∷ cs) a zero d l h = a.0
candidates_within P (c ∷ cs) a (suc k) d l h = candidates_within P cs a.1 k d (omega arith) (omega arith)

pub candidates_rise : (cs : List Candidate) → IsRising note_cmp (map (λ (c : Candidate). c.note.now) cs)
    → IsNonDecreasingBy offset_of cs
candidates_rise cs r i j d l h = elim (cases_lt i j) [
  | inl less ↦ offset_le (get_or cs i d).note.now (get_or cs j d).note.now
      (rising_mapped note_total (λ (c : Candidate). c.note.now) cs i j d r less h)
  | inr last ↦ (
      let same : i ≡ j = omega (arith, last, l) in
      subst (λ k. offset_of (get_or cs i d) ≤ offset_of (get_or cs k d)) same (omega arith))
]

not_below_itself : (n : NoteParts) → ¬ (note_cmp n n ≡ Less)
not_below_itself n l = let t = tied_itself note_total n in cc (l, t)

-- two notes that share no byte lie behind each other
apart_from : (n m : NoteParts) → n.offset ≤ m.offset → ¬ SharesByte m n → end_of n ≤ m.offset
apart_from n m h none = grind (arith, cases_lt)

module _ (reference : List NoteParts) (cs : List Candidate) (are : AreCandidates reference cs) where
  pub their_notes : IsRising note_cmp (map (λ (c : Candidate). c.note.now) cs)
  their_notes = subst (IsRising note_cmp) (sym are.free)
      (rising-filter note_cmp (λ n. not (is_crowded reference n)) reference are.catalogue.content)

  pub reference_rises : IsNonDecreasingBy offset_of cs
  reference_rises = candidates_rise cs their_notes

  pub is_one : (n : NoteParts) → In n (map (λ (c : Candidate). c.note.now) cs)
      → In n reference × IsTrue (not (is_crowded reference n))
  is_one n h = (In-filter (λ m. not (is_crowded reference m)) reference n).0 (subst (In n) are.free h)

  pub reference_notes : AllWithin (λ c. IsNote c.note.now) cs 0 (length cs)
  reference_notes = candidates_within IsNote cs (all_from_In IsNote (map (λ (c : Candidate). c.note.now) cs)
      (λ n h. all-In IsNote reference n are.catalogue.members (is_one n h).0))

  at_place : (i : ℕ) (d : Candidate) → i < length cs
      → In (get_or cs i d).note.now reference × IsTrue (not (is_crowded reference (get_or cs i d).note.now))
  at_place i d h = is_one (get_or cs i d).note.now
      ((In-map (λ (c : Candidate). c.note.now) cs (get_or cs i d).note.now).1 (get_or cs i d, In-at cs i d h, refl))

  pub reference_apart : AreApart cs
  reference_apart i j d l h q =
      let n = (get_or cs i d).note.now in
      let m = (get_or cs j d).note.now in
      let less = rising_mapped note_total (λ (c : Candidate). c.note.now) cs i j d their_notes l h in
      let (held, free) = at_place i d (omega arith) in
      let (beside, _) = at_place j d h in
      let others : m ≢ n = λ e. not_below_itself n (subst (λ x. note_cmp n x ≡ Less) e less) in
      let none : ¬ SharesByte m n = λ s. crowded_not n reference q held free (m, beside, others, s) in
      let ends = apart_from n m (offset_le n m less) none in
      omega (arith, ends, whole_end n q)
