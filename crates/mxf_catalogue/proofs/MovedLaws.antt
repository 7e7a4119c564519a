-- The notes that a new note moves.
use Rattle.mxf_klv.proofs.Common.{AllByRecursion, nat_cmp, Less, arith, NoteParts, end_of, In, IsRising}
use Rattle.std.specs.Prelude.{◌≡◌, ◌↔◌, ◌<◌, ℕ, List, [], ◌∷◌, map}
use Rattle.mxf_catalogue.specs.Content.{IsContent, reduced_with}
use Rattle.mxf_catalogue.specs.Disputes.{AreApart, IsClear, IsDisputed, clear_notes, is_disputed}
use Rattle.mxf_catalogue.specs.NoteLists.{moved_by, moved_notes}
use Rattle.mxf_catalogue.proofs.DisputeLaws.{In-clear_notes, is_disputed-IsDisputed}
use Rattle.mxf_catalogue.proofs.SpanLaws.{AreApart-clear_notes, AreApart-filter}
use Rattle.mxf_klv.proofs.Lists.{In-filter}
use Rattle.mxf_klv.proofs.Tests.{less_from_lt}

pub In-moved_notes : (m n : NoteParts) (notes : List NoteParts)
    → In m (moved_notes n notes) ↔ (IsClear m notes × IsDisputed m (reduced_with n notes))
unfolding moved_notes
In-moved_notes m n notes =
    let f = In-filter (λ m. is_disputed m (reduced_with n notes)) (clear_notes notes) m in
    let c = In-clear_notes m notes in
    let d = is_disputed-IsDisputed m (reduced_with n notes) in
    (λ h. (c.0 (f.0 h).0, d.0 (f.0 h).1), λ h. f.1 (c.1 h.0, d.1 h.1))

-- notes apart begin at or above the first end
above : (low : ℕ) (notes : List NoteParts) (at : ℕ) → at < low → AreApart low notes
    → AllByRecursion (λ o. nat_cmp at o ≡ Less) (map (λ (n : NoteParts). n.offset) notes)
above low [] at l a = tt
above low (n ∷ notes) at l a = grind (arith, less_from_lt, above (end_of n) notes at (omega arith) a.1)

pub rising_apart : (low : ℕ) (notes : List NoteParts) → AreApart low notes
    → IsRising nat_cmp (map (λ (n : NoteParts). n.offset) notes)
rising_apart low [] a = tt
rising_apart low (n ∷ notes) a = (above (end_of n) notes n.offset (omega arith) a.1, rising_apart (end_of n) notes a.1)

pub rising-moved_by : (n : NoteParts) (notes : List NoteParts) → IsContent notes → IsRising nat_cmp (moved_by n notes)
unfolding moved_notes
rising-moved_by n notes r = rising_apart 0 (moved_notes n notes)
    (AreApart-filter (λ m. is_disputed m (reduced_with n notes)) 0 (clear_notes notes) (AreApart-clear_notes notes r))
