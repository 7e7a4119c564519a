-- The order of a ranking is a total order, and what compares alike in it is one (this project's profile).
use Rattle.std.specs.Prelude.{◌≡◌}
use Rattle.std.specs.Ordering.{eq_by_cmp}
use Rattle.std.specs.Cmp.{IsTotalOrder, IsEquivalence, int_cmp_total}
use Rattle.std.specs.FinSet.{IsAntisymmetric, nat_cmp-IsAntisymmetric}
use Rattle.std.specs.FinMap.{int_cmp-IsAntisymmetric}
use Rattle.std.proofs.Common.{sym}
use Rattle.std.proofs.lemmas.Cmp.{back_total, on_total, then_total, nat_cmp_total, eq_by_cmp_equiv}
use Rattle.mxf_find.specs.Rankings.{rank_cmp}
use Rattle.mxf_find.specs.declared.ranking.Ranked.{Ranked}
use Rattle.mxf_klv.specs.NoteOrder.{ties}

pub rank_total : IsTotalOrder rank_cmp
rank_total =
    then_total (on_total (λ r. r.found.agree) (back_total nat_cmp_total))
    (then_total (on_total (λ r. r.recording) nat_cmp_total)
    (then_total (on_total (λ r. r.found.heads) nat_cmp_total) (on_total (λ r. r.found.offset) int_cmp_total)))

pub rank_equiv : IsEquivalence (eq_by_cmp rank_cmp)
rank_equiv = eq_by_cmp_equiv rank_total

same_parts : (a b : Ranked) → a.found.agree ≡ b.found.agree → a.recording ≡ b.recording
    → a.found.heads ≡ b.found.heads → a.found.offset ≡ b.found.offset → a ≡ b
same_parts a b e f g h i = record {
  recording = f i;
  found = record { offset = h i; agree = e i; heads = g i };
}

-- What compares alike is one.
pub rank_cmp-IsAntisymmetric : IsAntisymmetric rank_cmp
rank_cmp-IsAntisymmetric a b e =
    let p = ties _ _ e in let q = ties _ _ p.1 in let r = ties _ _ q.1 in
    same_parts a b (sym (nat_cmp-IsAntisymmetric _ _ p.0)) (nat_cmp-IsAntisymmetric _ _ q.0)
    (nat_cmp-IsAntisymmetric _ _ r.0) (int_cmp-IsAntisymmetric _ _ r.1)
