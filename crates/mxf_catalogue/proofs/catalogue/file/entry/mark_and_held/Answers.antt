use Rattle.mxf_klv.proofs.Common.{◌≡◌, [], ◌∷◌, List, ℕ, arith, false, length, refl, NoteParts, IsNote}
use Rattle.mxf_catalogue.proofs.catalogue.file.entry.mark_and_held.Goals as goal

no_bytes : (xs : List ℕ) → length xs ≡ 0 → [] ≡ xs
no_bytes [] e = refl
no_bytes (x ∷ xs) e = absurd (omega arith)

-- a head holds nothing
head_holds : (n : NoteParts) → IsNote n → n.whole ≡ false → [] ≡ n.held
head_holds n is w = grind (arith, no_bytes)

pub returns-in-Head-clause-held : goal.returns-in-Head-clause-held
returns-in-Head-clause-held c = head_holds c.args.note.now c.offset-offset.ensures.note c.in-Head.ensures.0
