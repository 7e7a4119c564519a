-- The starts so far, with those of the notes that are to come.
use Rattle.mxf_views.proofs.Common.{◌↔◌, ◌⊎◌, ℕ, LiesIn}
use Rattle.mxf_hand.specs.Finding.{IsStart}
use Rattle.mxf_hand.proofs.found.add_starts.Given as goal

abbrev pub invariant-loop-note : goal.invariant-loop-note
invariant-loop-note l =
    (x : ℕ) → (LiesIn l.starts x ⊎ IsStart l.note-iterator x) ↔ (LiesIn l.initial.starts x ⊎ IsStart l.notes x)
