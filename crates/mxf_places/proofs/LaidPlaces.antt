-- Which offsets the packets of a file hold.
use Rattle.mxf_views.proofs.Common.{◌≤◌, ◌<◌, ◌+◌, ℕ, List, [], ◌∷◌, arith, inl, inr, refl, cases_lt}
use Rattle.mxf_views.proofs.Common.{NoteParts, PacketParts, end_of, note_of, size_of, end_after, notes_from, In, end_up}
use Rattle.mxf_places.specs.Held.{IsHeld}

-- Each packet ends at or below the end of all.
pub ends_below : (o : ℕ) (l : List PacketParts) (m : NoteParts) → In m (notes_from o l) → end_of m ≤ end_after o l
ends_below o [] m i = absurd i
ends_below o (p ∷ l) m (inl e) = grind (arith, end_of, note_of, end_up, size_of)
ends_below o (p ∷ l) m (inr i) = ends_below (o + size_of p) l m i

-- All bytes of the packets are held.
pub held_all : (o : ℕ) (l : List PacketParts) (x : ℕ) → o ≤ x → x < end_after o l → IsHeld (notes_from o l) x
held_all o [] x low high = absurd (omega (arith, low, high))
held_all o (p ∷ l) x low high =
    elim (cases_lt x (o + size_of p)) [
      | inl less ↦ (note_of o p, inl refl, record { from = low; before = omega (arith, less) })
      | inr more ↦ let h = held_all (o + size_of p) l x more high in (h.0, inr h.1, h.2)
    ]
