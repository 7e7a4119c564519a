-- Where maximal runs and what notes cover begin and end.
use Rattle.mxf_klv.proofs.Common.{List, [], ap, arith, inl, inr, length, refl, subst, sym, ℕ, ◌+◌, ◌<◌, ◌∙◌, ◌∷◌, ◌≡◌}
use Rattle.mxf_klv.proofs.Common.{◌≤◌, ◌⊎◌, end_of, NoteParts, In}
use Rattle.mxf_catalogue.specs.Runs.{AreMaximal, LiesIn}
use Rattle.mxf_catalogue.specs.declared.run.Run.{Run}
use Rattle.mxf_klv.specs.Note.{covered_end}

-- a note covers its first byte, and nothing above its end
pub covers_first : (n : NoteParts) → n.offset + 1 ≤ covered_end n
covers_first n = grind arith

pub covers_below_end : (n : NoteParts) → covered_end n ≤ end_of n
covers_below_end n = grind arith

-- maximal runs have a byte each
pub has_byte : (low : ℕ) (runs : List Run) (r : Run) → AreMaximal low runs → In r runs → r.start < r.end
has_byte low [] r m h = absurd h
has_byte low (s ∷ runs) r m (inl e) = grind arith
has_byte low (s ∷ runs) r m (inr h) = has_byte (s.end + 1) runs r m.2 h

-- maximal runs from an offset on are no more than the offsets up to where they end
pub length_maximal : (low high : ℕ) (runs : List Run) → AreMaximal low runs → ((r : Run) → In r runs → r.end ≤ high)
    → (length runs ≡ 0) ⊎ (low + length runs ≤ high)
length_maximal low high [] m ends = inl refl
length_maximal low high (r ∷ runs) m ends =
    let a : low ≤ r.start = m.0 in
    let b : r.start < r.end = m.1 in
    let c : r.end ≤ high = ends r (inl refl) in
    elim (length_maximal (r.end + 1) high runs m.2 (λ s h. ends s (inr h))) [
      | inl none ↦ inr (omega (arith, none))
      | inr some ↦ inr (omega (arith, some))
    ]

pub starts_above : (low : ℕ) (runs : List Run) (r : Run) → AreMaximal low runs → In r runs → low ≤ r.start
starts_above low [] r m h = absurd h
starts_above low (s ∷ runs) r m (inl e) = let l : low ≤ s.start = m.0 in subst (λ (x : Run). low ≤ x.start) (sym e) l
starts_above low (s ∷ runs) r m (inr h) = omega (arith, starts_above (s.end + 1) runs r m.2 h)

-- What lies in the runs lies at or above the start of the first.
pub all_above : (end : ℕ) (runs rest : List Run) (first : Run) → AreMaximal 0 runs → runs ≡ first ∷ rest
    → end ≤ first.start → (offset : ℕ) → LiesIn runs offset → end ≤ offset
all_above end runs rest first m e l offset h = grind (arith, starts_above)

pub none_above : (end : ℕ) (runs : List Run) → runs ≡ [] → (offset : ℕ) → LiesIn runs offset → end ≤ offset
none_above end runs e offset h = absurd (subst (In h.0) e h.1)

-- an offset lies between two of them
pub between : (low : ℕ) (runs : List Run) (r s : Run) → AreMaximal low runs → In r runs → In s runs
    → (r.start ≡ s.start) ⊎ ((r.end < s.start) ⊎ (s.end < r.start))
between low [] r s m h k = absurd h
between low (x ∷ runs) r s m (inl e) (inl f) = inl (ap (λ (y : Run). y.start) e ∙ sym (ap (λ (y : Run). y.start) f))
between low (x ∷ runs) r s m (inl e) (inr k) = grind (arith, starts_above (x.end + 1) runs s m.2 k)
between low (x ∷ runs) r s m (inr h) (inl f) = grind (arith, starts_above (x.end + 1) runs r m.2 h)
between low (x ∷ runs) r s m (inr h) (inr k) = between (x.end + 1) runs r s m.2 h k
