-- The order of notes is a total order, and notes that compare alike are one (this project's profile).
use Rattle.std.specs.Prelude.{◌≡◌, true, false}
use Rattle.std.specs.Ordering.{bool_cmp, eq_by_cmp, ordering_then}
use Rattle.std.specs.Cmp.{IsTotalOrder, IsEquivalence, bool_cmp_total}
use Rattle.std.specs.Cmp.Lexicographic.{nat_list_cmp_total}
use Rattle.std.specs.FinSet.{IsAntisymmetric, nat_cmp-IsAntisymmetric, slice_cmp-IsAntisymmetric}
use Rattle.std.specs.declared.cmp.Ordering.{Ordering}
use Rattle.std.specs.declared.cmp.Ordering.TheVariants.{Less, Equal, Greater}
use Rattle.std.proofs.Common.{refl}
use Rattle.std.proofs.lemmas.Cmp.{on_total, then_total, nat_cmp_total, eq_by_cmp_equiv}
use Rattle.mxf_klv.specs.Parts.{NoteParts}
use Rattle.mxf_klv.specs.Note.{note_cmp}

pub note_total : IsTotalOrder note_cmp
note_total =
    then_total (on_total (λ n. n.offset) nat_cmp_total)
    (then_total (on_total (λ n. n.key) nat_list_cmp_total)
    (then_total (on_total (λ n. n.width) nat_cmp_total)
    (then_total (on_total (λ n. n.length) nat_cmp_total)
    (then_total (on_total (λ n. n.whole) bool_cmp_total)
    (on_total (λ n. n.held) nat_list_cmp_total)))))

pub note_equiv : IsEquivalence (eq_by_cmp note_cmp)
note_equiv = eq_by_cmp_equiv note_total

pub ties : (a b : Ordering) → ordering_then a b ≡ Equal → (a ≡ Equal) × (b ≡ Equal)
ties Less b e = cc
ties Equal b e = (refl, e)
ties Greater b e = cc

pub same_parts : (a b : NoteParts) → a.offset ≡ b.offset → a.key ≡ b.key → a.width ≡ b.width → a.length ≡ b.length
    → a.whole ≡ b.whole → a.held ≡ b.held → a ≡ b
same_parts a b e f g h j k i = record
    { offset = e i; key = f i; width = g i; length = h i; whole = j i; held = k i }

bool_cmp-IsAntisymmetric : IsAntisymmetric bool_cmp
bool_cmp-IsAntisymmetric true true e = refl
bool_cmp-IsAntisymmetric true false e = cc
bool_cmp-IsAntisymmetric false true e = cc
bool_cmp-IsAntisymmetric false false e = refl

-- Notes that compare alike are one.
pub note_cmp-IsAntisymmetric : IsAntisymmetric note_cmp
note_cmp-IsAntisymmetric a b e =
    let p = ties _ _ e in let q = ties _ _ p.1 in let r = ties _ _ q.1 in let s = ties _ _ r.1 in
    let t = ties _ _ s.1 in
    let bytes = slice_cmp-IsAntisymmetric nat_cmp-IsAntisymmetric in
    same_parts a b (nat_cmp-IsAntisymmetric _ _ p.0) (bytes _ _ q.0) (nat_cmp-IsAntisymmetric _ _ r.0)
    (nat_cmp-IsAntisymmetric _ _ s.0) (bool_cmp-IsAntisymmetric _ _ t.0) (bytes _ _ t.1)
