-- Which notes of a reference the notes of a saved catalogue contradict, by counts.
use Rattle.mxf_views.proofs.Common.{◌≡◌, ◌≢◌, ◌↔◌, ◌⊎◌, ◌+◌, ◌-◌, ◌<◌, ◌≤◌, ◌&&◌, not, ℕ, Bool, true, false, IsTrue}
use Rattle.mxf_views.proofs.Common.{List, [], ◌∷◌, count_by, filter, get_or, length, nat_le, nat_lt, refl, sym, ap, ◌∙◌}
use Rattle.mxf_views.proofs.Common.{subst, arith, inl, inr, is_eq, is_le, is_lt, AllWithin, list_any, IsPartitionedBy}
use Rattle.mxf_views.proofs.Common.{and_from, and_parts, NoteParts, IsNote, covered_end, head_note, note_cmp}
use Rattle.mxf_views.proofs.Common.{note_total, note_cmp-IsAntisymmetric, In, tally, count_by-cons, same_note-Decides}
use Rattle.mxf_views.proofs.Common.{all-In, all-filter, In-filter, list_any-In, not_true, not-true-false, same_bool}
use Rattle.mxf_views.proofs.Common.{IsCatalogue, IsContent, has_note, is_same_note, rising-filter, own_head}
use denote.Bor.{Bor}
use Rattle.std.proofs.Common.{Ordering, Less, Equal, Greater}
use Rattle.std.proofs.lemmas.Bool.{ltb-true, lt-ltb}
use Rattle.mxf_klv.specs.Rising.{less_back}
use Rattle.mxf_klv.proofs.HeadOrder.{head_note-below, head_note-between}
use Rattle.mxf_klv.proofs.Tests.{by_places, less_from_test}
use Rattle.mxf_verify.specs.Comparing.{Contradicts, is_held_byte_shared}
use Rattle.mxf_verify.specs.Opposing.{is_had}
use Rattle.mxf_verify.specs.Others.{is_headed, is_touched, others_of}
use Rattle.mxf_readings.specs.Readings.{is_held}
use Rattle.mxf_verify.specs.Telling.{AreThose, TellsOf, notes_at}
use Rattle.mxf_verify.specs.Verifying.{DiffersIn, IsSameIn, Saved, TouchesIn}
use Rattle.mxf_verify.specs.declared.told.Told.{Told}
use Rattle.mxf_verify.proofs.ComparingLaws.{holds_first, share-by_test}
use Rattle.mxf_readings.proofs.HoldingLaws.{rising_mapped}
use Rattle.mxf_verify.proofs.OpposingLaws.{had-by_test}
use Rattle.mxf_readings.proofs.SourceLaws.{held_says}
use Rattle.mxf_verify.proofs.TouchCounts.{touching-count}
use Rattle.mxf_klv.proofs.Counts.{count-alike, count-both, count-front, count-some, count_mapped, some-count}

-- ---- heads in the order of notes

-- the head of a note is that of a later one, or stands below it
heads_rise : (a b : NoteParts) → note_cmp a b ≡ Less
    → (head_note a ≡ head_note b) ⊎ (note_cmp (head_note a) (head_note b) ≡ Less)
heads_rise a b l = elim (note_cmp (head_note a) (head_note b)) as (λ o. note_cmp (head_note a) (head_note b) ≡ o
    → (head_note a ≡ head_note b) ⊎ (note_cmp (head_note a) (head_note b) ≡ Less)) [
      | Less ↦ λ e. inr e
      | Equal ↦ λ e. inl (note_cmp-IsAntisymmetric (head_note a) (head_note b) e)
      | Greater ↦ λ e.
          let back : note_cmp (head_note b) (head_note a) ≡ Less = less_back note_total (head_note a) (head_note b) e in
          let below : note_cmp (head_note b) a ≡ Less = elim (head_note-below a) [
            | inl q ↦ subst (λ m. note_cmp (head_note b) m ≡ Less) q back
            | inr q ↦ note_total.trans (head_note b) (head_note a) a back q
          ] in
          inl (head_note-between (head_note b) a b below l refl)
    ] refl

lt_before : (x y n : NoteParts) → note_cmp x y ≡ Less → is_lt (note_cmp y n) ≡ true → is_lt (note_cmp x n) ≡ true
lt_before x y n l t = ap is_lt (note_total.trans x y n l (less_from_test (note_cmp y n) t))

le_before : (x y n : NoteParts) → note_cmp x y ≡ Less → is_le (note_cmp y n) ≡ true → is_le (note_cmp x n) ≡ true
le_before x y n l t =
    elim (note_cmp y n) as (λ o. note_cmp y n ≡ o → is_le o ≡ true → is_le (note_cmp x n) ≡ true) [
      | Less ↦ λ e u. ap is_le (note_total.trans x y n l e)
      | Equal ↦ λ e u. ap is_le (subst (λ m. note_cmp x m ≡ Less) (note_cmp-IsAntisymmetric y n e) l)
      | Greater ↦ λ e u. absurd cc
    ] refl t

-- a test that passes below what passes it parts notes by their heads
parted_heads : (p : NoteParts → Bool) (rs : List (Bor NoteParts)) → IsContent (notes_at rs)
    → ((x y : NoteParts) → note_cmp x y ≡ Less → p y ≡ true → p x ≡ true)
    → IsPartitionedBy (λ (r : Bor NoteParts). p (head_note r.now)) rs
parted_heads p rs r before i j d l h t = by_places (λ i j. j < length rs → p (head_note (get_or rs j d).now) ≡ true
    → p (head_note (get_or rs i d).now) ≡ true)
    i j l (λ k m u. u) (λ less m u.
    elim (heads_rise (get_or rs i d).now (get_or rs j d).now
    (rising_mapped note_total (λ (x : Bor NoteParts). x.now) rs i j d r less m)) [
      | inl e ↦ ap p e ∙ u
      | inr e ↦ before (head_note (get_or rs i d).now) (head_note (get_or rs j d).now) e u
    ]) h t

pub parted_below : (n : NoteParts) (rs : List (Bor NoteParts)) → IsContent (notes_at rs)
    → IsPartitionedBy (λ (r : Bor NoteParts). is_lt (note_cmp (head_note r.now) n)) rs
parted_below n rs r = parted_heads (λ m. is_lt (note_cmp m n)) rs r (λ x y. lt_before x y n)

pub parted_up_to : (n : NoteParts) (rs : List (Bor NoteParts)) → IsContent (notes_at rs)
    → IsPartitionedBy (λ (r : Bor NoteParts). is_le (note_cmp (head_note r.now) n)) rs
parted_up_to n rs r = parted_heads (λ m. is_le (note_cmp m n)) rs r (λ x y. le_before x y n)

-- where exactly the first so many pass, so many of the notes are counted
pub parted-count : (p : NoteParts → Bool) (rs : List (Bor NoteParts)) (i : ℕ) → i ≤ length rs
    → AllWithin (λ (r : Bor NoteParts). p r.now ≡ true) rs 0 i
    → AllWithin (λ (r : Bor NoteParts). p r.now ≡ false) rs i (length rs) → i ≡ count_by p (notes_at rs)
parted-count p rs i l f g =
    sym (count_mapped p (λ (r : Bor NoteParts). r.now) rs ∙ count-front (λ (r : Bor NoteParts). p r.now) rs i l f g)

-- ---- counts

tally_le : (o : Ordering) → tally (is_le o) ≡ tally (is_lt o) + tally (is_eq o)
tally_le Less = refl
tally_le Equal = refl
tally_le Greater = refl

-- those whose head is a note or stands below it are those whose head stands below it, and its packets
pub packets-count : (n : NoteParts) (notes : List NoteParts) → count_by (λ m. is_le (note_cmp (head_note m) n)) notes
    ≡ count_by (λ m. is_lt (note_cmp (head_note m) n)) notes + count_by (λ m. is_same_note (head_note m) n) notes
packets-count n [] = refl
packets-count n (m ∷ ms) =
    let a = count_by-cons (λ m. is_le (note_cmp (head_note m) n)) m ms in
    let b = count_by-cons (λ m. is_lt (note_cmp (head_note m) n)) m ms in
    let c = count_by-cons (λ m. is_same_note (head_note m) n) m ms in
    let one : tally (is_le (note_cmp (head_note m) n))
    ≡ tally (is_lt (note_cmp (head_note m) n)) + tally (is_same_note (head_note m) n) =
    tally_le (note_cmp (head_note m) n) in
    let ih = packets-count n ms in
    omega (arith, a, b, c, one, ih)

-- a note shares a byte with its head
own-touches : (m n : NoteParts) → head_note m ≡ n → IsTrue (is_held_byte_shared m n)
own-touches m n e = grind (arith, share-by_test, holds_first)

-- those that hold a byte of it are its packets and others
touchers-count : (n : NoteParts) (notes : List NoteParts) → count_by (λ m. is_held_byte_shared m n) notes
    ≡ count_by (λ m. is_same_note (head_note m) n) notes
    + count_by (λ m. is_held_byte_shared m n && not (is_same_note (head_note m) n)) notes
touchers-count n notes =
    let both = count-both (λ m. is_held_byte_shared m n) (λ m. is_same_note (head_note m) n) notes in
    let alike = count-alike (λ m. is_held_byte_shared m n && is_same_note (head_note m) n)
    (λ m. is_same_note (head_note m) n) notes (λ m.
    same_bool (is_held_byte_shared m n && is_same_note (head_note m) n) (is_same_note (head_note m) n)
    (λ h. (and_parts (is_held_byte_shared m n) (is_same_note (head_note m) n) h).1)
    (λ h. and_from (is_held_byte_shared m n) (is_same_note (head_note m) n)
    (own-touches m n ((same_note-Decides (head_note m) n).0 h)) h)) in
    omega (arith, both, alike)

-- one of them is another where more of them begin below its end, and don't end at or below its start, than are its
-- packets
pub touched-by_counts : (n : NoteParts) (notes : List NoteParts) (begun ended packets : ℕ)
    → begun ≡ count_by (λ m. nat_lt m.offset (covered_end n)) notes
    → ended ≡ count_by (λ m. nat_le (covered_end m) n.offset) notes
    → packets ≡ count_by (λ m. is_same_note (head_note m) n) notes → nat_lt packets (begun - ended) ≡ is_touched n notes
unfolding is_touched
touched-by_counts n notes begun ended packets b e h =
    let touching = touching-count n notes in
    let others = touchers-count n notes in
    let p = λ (m : NoteParts). is_held_byte_shared m n && not (is_same_note (head_note m) n) in
    let any = list_any-In p notes in
    same_bool (nat_lt packets (begun - ended)) (list_any p notes) (λ t.
    let less : packets < begun - ended = ltb-true packets (begun - ended) t in
    any.1 (count-some p notes (omega (arith, touching, others, b, e, h, less)))) (λ t.
    let s = any.0 t in
    let some = some-count p notes s.0 s.1 s.2 in
    lt-ltb packets (begun - ended) (omega (arith, touching, others, b, e, h, some)))

-- ---- what a saved catalogue says

-- those that the reference hasn't are a content
pub others_are : (saved reference : List NoteParts) → IsCatalogue saved → IsCatalogue (others_of saved reference)
unfolding others_of
others_are saved reference is = grind (arith, rising-filter, all-filter)

other_says : (saved reference : List NoteParts) (m : NoteParts)
    → In m (others_of saved reference) ↔ (In m saved × ¬ has_note reference m)
unfolding others_of
other_says saved reference m =
    let kept = In-filter (λ m. not (is_had m reference)) saved m in
    let had = had-by_test m reference in (
      λ h. let s = kept.0 h in (s.0, λ k. not-true-false (is_had m reference) s.1 (had.1 k)),
      λ s. kept.1 (s.0, not_true (is_had m reference) (λ t. s.1 (had.0 t))),
    )

-- another note contradicts one of the reference where both hold a byte, and it isn't its packet
touched_differs : (reference saved : List NoteParts) (n : NoteParts) → IsCatalogue saved → In n reference
    → IsTrue (is_touched n (others_of saved reference)) ↔ DiffersIn reference n (Saved saved)
unfolding is_touched
touched_differs reference saved n is held =
    let p = λ (m : NoteParts). is_held_byte_shared m n && not (is_same_note (head_note m) n) in
    let any = list_any-In p (others_of saved reference) in (
      λ t.
          let s = any.0 t in
          let m = s.0 in
          let o = (other_says saved reference m).0 s.1 in
          let q = and_parts (is_held_byte_shared m n) (not (is_same_note (head_note m) n)) s.2 in (
            m,
            o.0,
            o.1,
            record {
              differ = λ e. o.1 (inl (subst (λ x. In x reference) (sym e) held));
              share = (share-by_test m n).0 q.0;
              no_head = λ k. o.1 (inr (n, held, k.1));
              no_packet = λ k. not-true-false (is_same_note (head_note m) n) q.1
                  ((same_note-Decides (head_note m) n).1 k.1);
            },
          ),
      λ d.
          let m = d.0 in
          let c : Contradicts m n = d.3 in
          let other : head_note m ≢ n = λ e. elim m.whole as (λ b. m.whole ≡ b → ⊥) [
            | true ↦ λ w. c.no_packet (w, e)
            | false ↦ λ w. c.differ (sym (own_head m (all-In IsNote saved m is.members d.1) w) ∙ e)
          ] refl in
          any.1 (
            m,
            (other_says saved reference m).1 (d.1, d.2),
            and_from (is_held_byte_shared m n) (not (is_same_note (head_note m) n)) ((share-by_test m n).1 c.share)
                (not_true (is_same_note (head_note m) n) (λ t. other ((same_note-Decides (head_note m) n).0 t))),
          ),
    )

-- those of the reference that pass a test are those of which that holds which it tells
pub those_passing : (reference : List NoteParts) (P : NoteParts → Type 0) (p : NoteParts → Bool) → IsContent reference
    → ((n : NoteParts) → In n reference → IsTrue (p n) ↔ P n) → AreThose reference P (filter p reference)
those_passing reference P p r says = grind (arith, rising-filter, In-filter)

pub tells_saved : (reference saved : List NoteParts) (told : Told) → IsContent reference → IsCatalogue saved
    → notes_at told.same.items ≡ filter (λ n. is_had n saved) reference
    → notes_at told.differing.items ≡ filter (λ n. is_touched n (others_of saved reference)) reference
    → TellsOf reference (Saved saved) told
tells_saved reference saved told r is same differing = record {
  same = subst (AreThose reference (λ n. IsSameIn reference n (Saved saved))) (sym same)
      (those_passing reference (λ n. IsSameIn reference n (Saved saved)) (λ n. is_had n saved) r
      (λ n h. had-by_test n saved));
  differing = subst (AreThose reference (λ n. DiffersIn reference n (Saved saved))) (sym differing)
      (those_passing reference (λ n. DiffersIn reference n (Saved saved))
      (λ n. is_touched n (others_of saved reference)) r (λ n h. touched_differs reference saved n is h));
}

pub headed_says : (n : NoteParts) (notes : List NoteParts) → IsTrue (is_headed n notes) ↔ TouchesIn n (Saved notes)
unfolding is_headed
headed_says n notes = grind (arith, held_says, and_parts, and_from)

-- the same of what is answered
pub headed_whole : (n : NoteParts) (notes : List NoteParts) (b : Bool) → n.whole ≡ true → IsTrue b
    ↔ In (head_note n) notes → b ≡ is_headed n notes
unfolding is_headed
headed_whole n notes b whole d = grind (arith, held_says, same_bool)

pub headed_head : (n : NoteParts) (notes : List NoteParts) → n.whole ≡ false → false ≡ is_headed n notes
unfolding is_headed
headed_head n notes head = ap (λ w. w && is_held (head_note n) notes) (sym head)

pub tells_headed : (reference saved headed : List NoteParts) → IsContent reference
    → headed ≡ filter (λ n. is_headed n saved) reference → AreThose reference (λ n. TouchesIn n (Saved saved)) headed
tells_headed reference saved headed r e = subst (AreThose reference (λ n. TouchesIn n (Saved saved))) (sym e)
    (those_passing reference (λ n. TouchesIn n (Saved saved)) (λ n. is_headed n saved) r (λ n h. headed_says n saved))
