-- Gaps: the maximal ranges of bytes below the greatest end that no note covers, disputed ones counted as notes. A head
-- covers its key and its length, and its end is that which it claims.
use Rattle.std.specs.Prelude.{ℕ, ◌<◌, max, cond, nat_lt, List, [], ◌∷◌, ◌↔◌}
use Rattle.mxf_klv.specs.Parts.{NoteParts}
use Rattle.mxf_klv.specs.Note.{IsCovered, covered_end, end_of}
use Rattle.mxf_klv.specs.Rising.{In}
use Rattle.mxf_catalogue.specs.declared.run.Run.{Run}
use Rattle.mxf_catalogue.specs.Runs.{AreMaximal, LiesIn, run}

-- The gaps of notes in their order, above the bytes that are looked at already, up to the greatest end so far.
abbrev pub gaps_from : ℕ → ℕ → List NoteParts → List Run
gaps_from reached top [] = cond (nat_lt reached top) (run reached top ∷ []) []
gaps_from reached top (n ∷ notes) =
    let rest = gaps_from (max reached (covered_end n)) (max top (end_of n)) notes in
    cond (nat_lt reached n.offset) (run reached n.offset ∷ rest) rest

abbrev pub gaps_of : List NoteParts → List Run
gaps_of notes = gaps_from 0 0 notes

-- The offset lies below the end of some note, and none covers it.
pub record IsGap (notes : List NoteParts) (offset : ℕ) : Type 0 where
  pub below : (n : NoteParts) × In n notes × (offset < end_of n)
  pub in_none : (n : NoteParts) → In n notes → IsCovered n offset → ⊥

-- The maximal ranges of gaps.
pub record AreGaps (notes : List NoteParts) (runs : List Run) : Type 0 where
  pub maximal : AreMaximal 0 runs
  pub offsets : (offset : ℕ) → LiesIn runs offset ↔ IsGap notes offset
