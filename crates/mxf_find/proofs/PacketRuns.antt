-- Packets in their order: which notes they are, and where those of one kind stand.
use Rattle.mxf_klv.proofs.Common.{◌≡◌, ◌≤◌, ◌∙◌, ℕ, true, false, List, [], sym, subst, inl, inr, arith, length, min}
use Rattle.mxf_klv.proofs.Common.{nat_lt, drop, filter, take, AllWithin, IsPartitionedBy, slice_cmp, bool_cmp, nat_cmp}
use Rattle.mxf_klv.proofs.Common.{ordering_then, NoteParts, note_cmp, note_total, In, In-union, IsRising, union}
use Rattle.std.proofs.Common.{Ordering, Less, Equal, Greater}
use Rattle.mxf_klv.proofs.Lists.{filter_alike}
use Rattle.mxf_catalogue.specs.Disputes.{is_same_note}
use Rattle.mxf_klv.proofs.Sides.{first_decides, rising_sorted, side_by, sides_parted, sides_run}
use Rattle.std.proofs.lemmas.Cmp.{eq_by_cmp_equiv}
use Rattle.mxf_find.specs.PacketOrder.{packet_total, packet_cmp-IsAntisymmetric}
use Rattle.mxf_find.specs.Packets.{AreByPacket, front_of, packet_cmp, packet_of}

-- Sorted, they are the notes in the order of packets.
pub sorted_packets : (notes xs ys : List NoteParts) → xs ≡ notes → ys ≡ union packet_cmp [] xs → IsRising packet_cmp ys
    → AreByPacket notes ys
sorted_packets notes xs ys from is rising = record {
  rising = rising;
  members = λ n.
      let u = In-union packet_total packet_cmp-IsAntisymmetric n [] xs in (
        λ k. elim (u.0 (subst (In n) is k)) [ inl i ↦ absurd i | inr i ↦ subst (In n) from i ],
        λ k. subst (In n) (sym is) (u.1 (inr (subst (In n) (sym from) k))),
      );
}

-- What notes say of their packets, or of key and length alone, doesn't fall where the packets rise.
pub record IsCoarse (key : NoteParts → NoteParts) : Type 0 where
  pub coarse : (x y : NoteParts) → packet_cmp x y ≡ Less → note_cmp (key x) (key y) ≡ Greater → ⊥

front_decides : (a b c d : Ordering) → ordering_then a (ordering_then b (ordering_then c Equal)) ≡ Greater
    → ordering_then a (ordering_then b (ordering_then c d)) ≡ Greater
front_decides a b c d e = grind arith

pub coarse_packets : IsCoarse packet_of
coarse_packets = record { coarse = λ x y l g. first_decides (note_cmp (packet_of x) (packet_of y)) _ g l }

pub coarse_fronts : IsCoarse front_of
coarse_fronts = record {
  coarse = λ x y l g. first_decides (note_cmp (packet_of x) (packet_of y)) _ (more_decides x y g) l;
}
  where
    more_decides : (x y : NoteParts) → note_cmp (front_of x) (front_of y) ≡ Greater
        → note_cmp (packet_of x) (packet_of y) ≡ Greater
    more_decides x y g =
        front_decides (slice_cmp nat_cmp x.key y.key) (nat_cmp x.width y.width) (nat_cmp x.length y.length)
        (ordering_then (bool_cmp x.whole y.whole) (slice_cmp nat_cmp x.held y.held)) g

module _ (key : NoteParts → NoteParts) (k : IsCoarse key) (n : NoteParts) (xs : List NoteParts)
    (rising : IsRising packet_cmp xs) where
  pub parted : (bound : ℕ) → IsPartitionedBy (λ x. nat_lt (side_by note_cmp key (key n) x) bound) xs
  parted = sides_parted note_total key (key n) xs (rising_sorted packet_total note_total key xs k.coarse rising)

-- Those that are the same as the note stand between two places.
pub run : (key : NoteParts → NoteParts) (n : NoteParts) (xs : List NoteParts) (a b : ℕ) → b ≤ length xs
    → AllWithin (λ x. nat_lt (side_by note_cmp key (key n) x) 1 ≡ true) xs 0 a
    → AllWithin (λ x. nat_lt (side_by note_cmp key (key n) x) 1 ≡ false) xs a (length xs)
    → AllWithin (λ x. nat_lt (side_by note_cmp key (key n) x) 2 ≡ true) xs 0 b
    → AllWithin (λ x. nat_lt (side_by note_cmp key (key n) x) 2 ≡ false) xs b (length xs)
    → drop (min a b) (take b xs) ≡ filter (λ x. is_same_note (key n) (key x)) xs
run key n xs a b within below from up_to above = sides_run note_cmp key (key n) xs a b within below from up_to above
    ∙ filter_alike (λ x. is_same_note (key x) (key n)) (λ x. is_same_note (key n) (key x)) xs
    (λ x i. (eq_by_cmp_equiv note_total).symm (key x) (key n))
