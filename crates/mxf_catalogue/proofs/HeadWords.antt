-- Which heads are replaced, in the words of their fields.
use Rattle.mxf_klv.proofs.Common.{◌≡◌, ◌↔◌, ℕ, false, List, [], ◌∷◌, length, refl, arith, AllByRecursion, NoteParts}
use Rattle.mxf_klv.proofs.Common.{IsNote, head_note, In}
use Rattle.mxf_catalogue.specs.Content.{IsOfPacket, IsReplaced}
use Rattle.mxf_klv.proofs.Lists.{all-In}

no_bytes : (xs : List ℕ) → length xs ≡ 0 → [] ≡ xs
no_bytes [] e = refl
no_bytes (x ∷ xs) e = absurd (omega arith)

-- a note that isn't of a whole packet is its own head
pub own_head : (n : NoteParts) → IsNote n → n.whole ≡ false → head_note n ≡ n
own_head n is w = grind (arith, no_bytes)

same_heads : (m n : NoteParts) → IsOfPacket m n → head_note m ≡ head_note n
same_heads m n s = cc

-- a note is replaced where it is a head, and a note of a whole packet with its four fields is there
pub replaced_words : (n : NoteParts) (notes : List NoteParts) → IsNote n → AllByRecursion IsNote notes
    → IsReplaced n notes ↔ ((n.whole ≡ false) × ((m : NoteParts) × In m notes × IsOfPacket m n))
replaced_words n notes is all = grind (arith, all-In, own_head, same_heads)
