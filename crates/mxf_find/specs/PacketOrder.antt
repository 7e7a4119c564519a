-- The order of packets is a total order, and notes that compare alike in it are one (this project's profile).
use Rattle.std.specs.Prelude.{◌≡◌}
use Rattle.std.specs.Ordering.{eq_by_cmp}
use Rattle.std.specs.Cmp.{IsTotalOrder, IsEquivalence}
use Rattle.std.specs.FinSet.{IsAntisymmetric, nat_cmp-IsAntisymmetric}
use Rattle.std.proofs.lemmas.Cmp.{on_total, then_total, nat_cmp_total, eq_by_cmp_equiv}
use Rattle.mxf_klv.specs.Parts.{NoteParts}
use Rattle.mxf_klv.specs.NoteOrder.{note_total, note_cmp-IsAntisymmetric, ties}
use Rattle.mxf_find.specs.Packets.{packet_cmp, packet_of}

pub packet_total : IsTotalOrder packet_cmp
packet_total = then_total (on_total packet_of note_total) (on_total (λ n. n.offset) nat_cmp_total)

pub packet_equiv : IsEquivalence (eq_by_cmp packet_cmp)
packet_equiv = eq_by_cmp_equiv packet_total

pub same_parts : (a b : NoteParts) → packet_of a ≡ packet_of b → a.offset ≡ b.offset → a ≡ b
same_parts a b e f i = record {
  offset = f i;
  key = (e i).key;
  width = (e i).width;
  length = (e i).length;
  whole = (e i).whole;
  held = (e i).held;
}

-- Notes that compare alike are one.
pub packet_cmp-IsAntisymmetric : IsAntisymmetric packet_cmp
packet_cmp-IsAntisymmetric a b e =
    let p = ties _ _ e in same_parts a b (note_cmp-IsAntisymmetric _ _ p.0) (nat_cmp-IsAntisymmetric _ _ p.1)
