-- How many notes of a content hold a byte of a note, by where notes begin and end.
use Rattle.mxf_views.proofs.Common.{AllByRecursion, AllWithin, IsNonDecreasing, sym, ◌∙◌, ap, subst, inl, inr, arith}
use Rattle.mxf_views.proofs.Common.{get_or, and_from, and_parts, le-ltb, le-leb, lt-leb, false_from_ne_true, nat_tests}
use Rattle.mxf_views.proofs.Common.{tied_itself, sum_by-IsPermutation, Less, get_or-map, length-map, NoteParts}
use Rattle.mxf_views.proofs.Common.{head_parts, IsNote, covered_end, head_note, note_cmp, note_total, In, IsContent}
use Rattle.mxf_views.proofs.Common.{has_note, is_same_note, tally, count_by-cons, count-none, same_note-Decides, all-In}
use Rattle.mxf_views.proofs.Common.{not_true, not-true-false, same_bool, own_head, offsets_rise}
use Rattle.std.specs.Prelude.{◌≡◌, ◌≢◌, ◌↔◌, ◌+◌, ◌-◌, ◌<◌, ◌≤◌, ℕ, Bool, true, false, not, ◌&&◌, nat_lt, nat_le, List}
use Rattle.std.specs.Prelude.{[], ◌∷◌, length, map, cond, count_by, IsTrue, refl}
use Rattle.std.proofs.lemmas.Bool.{ltb-true, lt-ltb}
use mir.Val.{bool_byte}
use Rattle.mxf_klv.proofs.Counts.{count-alike, count-both, count-front, count-some, count_mapped, some-count}
use Rattle.mxf_verify.specs.Comparing.{Contradicts, SharesHeldByte, is_held_byte_shared}
use Rattle.mxf_verify.specs.Opposing.{AreBounds, IsOpposed}
use Rattle.mxf_verify.proofs.ComparingLaws.{holds_first, share-by_test}

-- ---- notes

touching-tally : (a b c d : ℕ) → a < b → c < d
    → tally (nat_lt a d && nat_lt c b) + tally (nat_le b c) ≡ tally (nat_lt a d)
touching-tally a b c d first second = grind (arith, nat_tests)

-- a note begins below the end of another and ends above its start, or ends at or below that
touching-one : (m n : NoteParts) → tally (is_held_byte_shared m n) + tally (nat_le (covered_end m) n.offset)
    ≡ tally (nat_lt m.offset (covered_end n))
touching-one m n = touching-tally m.offset (covered_end m) n.offset (covered_end n) (holds_first m) (holds_first n)

-- those that hold a byte of it are those that begin below its end, but for those that end at or below its start
pub touching-count : (n : NoteParts) (notes : List NoteParts)
    → count_by (λ m. is_held_byte_shared m n) notes + count_by (λ m. nat_le (covered_end m) n.offset) notes
    ≡ count_by (λ m. nat_lt m.offset (covered_end n)) notes
touching-count n [] = refl
touching-count n (m ∷ ms) =
    let a = count_by-cons (λ m. is_held_byte_shared m n) m ms in
    let b = count_by-cons (λ m. nat_le (covered_end m) n.offset) m ms in
    let c = count_by-cons (λ m. nat_lt m.offset (covered_end n)) m ms in
    let one = touching-one m n in
    let ih = touching-count n ms in
    omega (arith, a, b, c, one, ih)

-- a note stands in a content once
not_behind : (n : NoteParts) (notes : List NoteParts) → AllByRecursion (λ m. note_cmp n m ≡ Less) notes → In n notes → ⊥
not_behind n notes a h = grind (arith, all-In, note_cmp, tied_itself, note_total)

once-count : (n : NoteParts) (notes : List NoteParts) → IsContent notes → In n notes
    → count_by (λ m. is_same_note m n) notes ≡ 1
once-count n [] r h = absurd h
once-count n (m ∷ ms) r (inl e) =
    let c = count_by-cons (λ m. is_same_note m n) m ms in
    let here : tally (is_same_note m n) ≡ 1 = ap tally ((same_note-Decides m n).1 (sym e)) in
    let none = count-none (λ m. is_same_note m n) ms (λ x i t.
    not_behind m ms r.0 (subst (λ y. In y ms) ((same_note-Decides x n).0 t ∙ e) i)) in
    omega (arith, c, here, none)
once-count n (m ∷ ms) r (inr k) =
    let c = count_by-cons (λ m. is_same_note m n) m ms in
    let here : tally (is_same_note m n) ≡ 0 = ap tally (false_from_ne_true (is_same_note m n) (λ t.
    not_behind m ms r.0 (subst (λ y. In y ms) (sym ((same_note-Decides m n).0 t)) k))) in
    let ih = once-count n ms r.1 k in
    omega (arith, c, here, ih)

pub held-count : (b : Bool) (n : NoteParts) (notes : List NoteParts) → IsContent notes → IsTrue b ↔ In n notes
    → count_by (λ m. is_same_note m n) notes ≡ tally b
held-count true n notes r d = once-count n notes r (d.0 refl)
held-count false n notes r d = count-none (λ m. is_same_note m n) notes (λ m i t.
    let e = d.1 (subst (λ y. In y notes) ((same_note-Decides m n).0 t) i) in cc (e))

-- ---- what a content opposes

-- a note of a content that hasn't another contradicts it where both hold a byte, unless it is its head
contradicts-other : (m n : NoteParts) (notes : List NoteParts) → (has_note notes n → ⊥) → In m notes
    → SharesHeldByte m n → m ≢ head_note n → Contradicts m n
contradicts-other m n notes lacked i s ne = grind arith

-- what contradicts a note isn't its head
other-contradicts : (m n : NoteParts) → IsNote n → Contradicts m n → m ≢ head_note n
other-contradicts m n is c e = grind (arith, own_head)

-- the head of a note holds a byte of it
head-touches : (n : NoteParts) → IsTrue (is_held_byte_shared (head_note n) n)
head-touches n = grind (arith, share-by_test, holds_first)

-- those that hold a byte of it are its head, where that is there, and others
others-count : (n : NoteParts) (notes : List NoteParts) → count_by (λ m. is_held_byte_shared m n) notes
    ≡ count_by (λ m. is_same_note m (head_note n)) notes
    + count_by (λ m. is_held_byte_shared m n && not (is_same_note m (head_note n))) notes
others-count n notes =
    let both = count-both (λ m. is_held_byte_shared m n) (λ m. is_same_note m (head_note n)) notes in
    let alike = count-alike (λ m. is_held_byte_shared m n && is_same_note m (head_note n))
    (λ m. is_same_note m (head_note n)) notes (λ m.
    same_bool (is_held_byte_shared m n && is_same_note m (head_note n)) (is_same_note m (head_note n))
    (λ h. (and_parts (is_held_byte_shared m n) (is_same_note m (head_note n)) h).1)
    (λ h. and_from (is_held_byte_shared m n) (is_same_note m (head_note n))
    (subst (λ x. IsTrue (is_held_byte_shared x n)) (sym ((same_note-Decides m (head_note n)).0 h))
    (head-touches n)) h)) in
    omega (arith, both, alike)

pub opposed-by_counts : (n : NoteParts) (notes : List NoteParts) (begun ended heads : ℕ) → IsNote n
    → (has_note notes n → ⊥) → begun ≡ count_by (λ m. nat_lt m.offset (covered_end n)) notes
    → ended ≡ count_by (λ m. nat_le (covered_end m) n.offset) notes
    → heads ≡ count_by (λ m. is_same_note m (head_note n)) notes
    → IsTrue (nat_lt heads (begun - ended)) ↔ IsOpposed n notes
opposed-by_counts n notes begun ended heads is lacked b e h =
    let touching = touching-count n notes in
    let others = others-count n notes in
    let p = λ (m : NoteParts). is_held_byte_shared m n && not (is_same_note m (head_note n)) in (
      λ t.
          let less : heads < begun - ended = ltb-true heads (begun - ended) t in
          let s = count-some p notes (omega (arith, touching, others, b, e, h, less)) in
          let q = and_parts (is_held_byte_shared s.0 n) (not (is_same_note s.0 (head_note n))) s.2 in
          record {
            lacked = lacked;
            contradicted = (
              s.0,
              s.1,
              contradicts-other s.0 n notes lacked s.1 ((share-by_test s.0 n).0 q.0) (λ same.
                  not-true-false (is_same_note s.0 (head_note n)) q.1 ((same_note-Decides s.0 (head_note n)).1 same)),
            );
          },
      λ o.
          let m = o.contradicted.0 in
          let c = o.contradicted.2 in
          let ne = other-contradicts m n is c in
          let passes : p m ≡ true = and_from (is_held_byte_shared m n) (not (is_same_note m (head_note n)))
          ((share-by_test m n).1 c.share) (not_true (is_same_note m (head_note n)) (λ t.
          ne ((same_note-Decides m (head_note n)).0 t))) in
          let some = some-count p notes m o.contradicted.1 passes in
          lt-ltb heads (begun - ended) (omega (arith, touching, others, b, e, h, some)),
    )

-- ---- where notes begin and end, as lists

-- the offsets of a content's notes never fall
pub starts-rise : (notes : List NoteParts) (starts ends : List ℕ) → AreBounds notes starts ends → IsNonDecreasing starts
starts-rise notes starts ends a i j d l h =
    let some : NoteParts = head_parts 0 [] 0 0 in
    let same : length starts ≡ length notes = ap length a.starts_are ∙ length-map notes (λ n. n.offset) in
    let left : get_or starts i d ≡ (get_or notes i some).offset =
    ap (λ xs. get_or xs i d) a.starts_are ∙ get_or-map (λ n. n.offset) notes i some d (omega arith) in
    let right : get_or starts j d ≡ (get_or notes j some).offset =
    ap (λ xs. get_or xs j d) a.starts_are ∙ get_or-map (λ n. n.offset) notes j some d (omega arith) in
    let rise = offsets_rise notes a.catalogue.content i j some l (omega arith) in
    omega (arith, left, right, rise)

-- so many begin below a bound
pub begun-count : (notes : List NoteParts) (starts ends lent : List ℕ) (bound begun : ℕ) → AreBounds notes starts ends
    → lent ≡ starts → begun ≤ length lent → AllWithin (λ x. x < bound) lent 0 begun
    → AllWithin (λ x. bound ≤ x) lent begun (length lent) → begun ≡ count_by (λ m. nat_lt m.offset bound) notes
begun-count notes starts ends lent bound begun a e l f g =
    sym (count-front (λ x. nat_lt x bound) lent begun l (λ k d m n. lt-ltb _ bound (f k d m n)) (λ k d m n.
    le-ltb _ bound (g k d m n))) ∙ ap (count_by (λ x. nat_lt x bound)) (e ∙ a.starts_are)
    ∙ count_mapped (λ x. nat_lt x bound) (λ n. n.offset) notes

-- so many end at or below a bound
pub ended-count : (notes : List NoteParts) (starts ends lent : List ℕ) (bound ended : ℕ) → AreBounds notes starts ends
    → lent ≡ ends → ended ≤ length lent → AllWithin (λ x. x ≤ bound) lent 0 ended
    → AllWithin (λ x. bound < x) lent ended (length lent) → ended ≡ count_by (λ m. nat_le (covered_end m) bound) notes
ended-count notes starts ends lent bound ended a e l f g =
    sym (count-front (λ x. nat_le x bound) lent ended l (λ k d m n. le-leb _ bound (f k d m n)) (λ k d m n.
    lt-leb _ bound (g k d m n))) ∙ ap (count_by (λ x. nat_le x bound)) e
    ∙ sum_by-IsPermutation (λ x. cond (nat_le x bound) 1 0) (map covered_end notes) ends a.ends_are
    ∙ count_mapped (λ x. nat_le x bound) covered_end notes

byte-tally : (b : Bool) → bool_byte b ≡ tally b
byte-tally true = refl
byte-tally false = refl

-- a note is counted once where it is held
pub held-byte : (b : Bool) (m n : NoteParts) (notes : List NoteParts) → IsContent notes → m ≡ n → IsTrue b ↔ In m notes
    → bool_byte b ≡ count_by (λ x. is_same_note x n) notes
held-byte b m n notes r e d = byte-tally b ∙ sym (held-count b n notes r (subst (λ x. IsTrue b ↔ In x notes) e d))

-- no more end than begin
pub ended-begun : (n : NoteParts) (notes : List NoteParts) (begun ended : ℕ)
    → begun ≡ count_by (λ m. nat_lt m.offset (covered_end n)) notes
    → ended ≡ count_by (λ m. nat_le (covered_end m) n.offset) notes → ended ≤ begun
ended-begun n notes begun ended b e = let touching = touching-count n notes in omega (arith, touching, b, e)
