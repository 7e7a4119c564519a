-- The order of holdings is a total order, and holdings that compare alike are one (this project's profile).
use Rattle.std.specs.Prelude.{◌≡◌}
use Rattle.std.specs.Ordering.{eq_by_cmp}
use Rattle.std.specs.Cmp.{IsTotalOrder, IsEquivalence}
use Rattle.std.specs.FinSet.{IsAntisymmetric, nat_cmp-IsAntisymmetric}
use Rattle.std.proofs.lemmas.Cmp.{on_total, then_total, nat_cmp_total, eq_by_cmp_equiv}
use Rattle.mxf_klv.specs.NoteOrder.{note_total, note_cmp-IsAntisymmetric, ties}
use Rattle.mxf_readings.specs.Holdings.{HoldingParts, holding_cmp}

pub holding_total : IsTotalOrder holding_cmp
holding_total = then_total (on_total (λ h. h.note) note_total) (on_total (λ h. h.source) nat_cmp_total)

pub holding_equiv : IsEquivalence (eq_by_cmp holding_cmp)
holding_equiv = eq_by_cmp_equiv holding_total

same_parts : (a b : HoldingParts) → a.note ≡ b.note → a.source ≡ b.source → a ≡ b
same_parts a b e f i = record { note = e i; source = f i }

-- Holdings that compare alike are one.
pub holding_cmp-IsAntisymmetric : IsAntisymmetric holding_cmp
holding_cmp-IsAntisymmetric a b e =
    let p = ties _ _ e in same_parts a b (note_cmp-IsAntisymmetric _ _ p.0) (nat_cmp-IsAntisymmetric _ _ p.1)
