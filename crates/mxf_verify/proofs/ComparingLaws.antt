-- The tests of two notes say what the relations say.
use Rattle.mxf_views.proofs.Common.{arith, and_from, and_parts, NoteParts, covered_end, head_note, is_same_note}
use Rattle.mxf_views.proofs.Common.{same_note-Decides, not_true, not-true-false}
use Rattle.std.specs.Prelude.{◌↔◌, ◌+◌, ◌<◌, ◌≤◌, not, ◌&&◌, nat_lt, max, IsTrue}
use Rattle.std.proofs.lemmas.Bool.{ltb-true, lt-ltb}
use Rattle.mxf_verify.specs.Comparing.{Contradicts, IsHeadOf, SharesHeldByte, contradicts, is_head_of}
use Rattle.mxf_verify.specs.Comparing.{is_held_byte_shared}

-- each note holds its first byte
pub holds_first : (n : NoteParts) → n.offset < covered_end n
holds_first n = grind arith

pub share-by_test : (m n : NoteParts) → IsTrue (is_held_byte_shared m n) ↔ SharesHeldByte m n
share-by_test m n =
    let own : m.offset < covered_end m = holds_first m in
    let other : n.offset < covered_end n = holds_first n in (
      λ h.
          let p = and_parts (nat_lt m.offset (covered_end n)) (nat_lt n.offset (covered_end m)) h in
          let a : m.offset < covered_end n = ltb-true _ _ p.0 in
          let b : n.offset < covered_end m = ltb-true _ _ p.1 in (
            max m.offset n.offset,
            record { from = omega arith; before = omega arith },
            record { from = omega arith; before = omega arith },
          ),
      λ s.
          let i : s.0 + 1 ≤ covered_end m = s.1.before in let j : m.offset ≤ s.0 = s.1.from in
          let k : s.0 + 1 ≤ covered_end n = s.2.before in let l : n.offset ≤ s.0 = s.2.from in
          and_from _ _ (lt-ltb m.offset (covered_end n) (omega arith)) (lt-ltb n.offset (covered_end m) (omega arith)),
    )

pub head-by_test : (m n : NoteParts) → IsTrue (is_head_of m n) ↔ IsHeadOf m n
head-by_test m n = (
  λ h.
      let p = and_parts n.whole (is_same_note (head_note n) m) h in
      (p.0, (same_note-Decides (head_note n) m).0 p.1),
  λ s. and_from n.whole (is_same_note (head_note n) m) s.0 ((same_note-Decides (head_note n) m).1 s.1),
)

pub contradicts-by_test : (m n : NoteParts) → IsTrue (contradicts m n) ↔ Contradicts m n
contradicts-by_test m n =
    let one = same_note-Decides m n in
    let share = share-by_test m n in
    let head = head-by_test m n in
    let packet = head-by_test n m in
    let differ = not (is_same_note m n) in (
      λ h.
          let p = and_parts (differ && is_held_byte_shared m n && not (is_head_of m n)) (not (is_head_of n m)) h in
          let q = and_parts (differ && is_held_byte_shared m n) (not (is_head_of m n)) p.0 in
          let r = and_parts differ (is_held_byte_shared m n) q.0 in
          record {
            differ = λ e. not-true-false (is_same_note m n) r.0 (one.1 e);
            share = share.0 r.1;
            no_head = λ s. not-true-false (is_head_of m n) q.1 (head.1 s);
            no_packet = λ s. not-true-false (is_head_of n m) p.1 (packet.1 s);
          },
      λ c. and_from _ _ (and_from _ _
          (and_from _ _ (not_true (is_same_note m n) (λ t. c.differ (one.0 t))) (share.1 c.share))
          (not_true (is_head_of m n) (λ t. c.no_head (head.0 t))))
          (not_true (is_head_of n m) (λ t. c.no_packet (packet.0 t))),
    )
