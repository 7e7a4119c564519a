-- The values so far stand ahead of those of the candidates from the place on.
use Rattle.std.proofs.Common.{◌≤◌, ◌++◌, ℕ, List, length, map}
use denote.Bor.{Bor}
use Rattle.mxf_verify.specs.Candidates.{notes_of}
use Rattle.mxf_verify.specs.SourceReads.{AreValuesOf, digested_from}
use Rattle.mxf_verify.proofs.reading.Reading.next_values.Given as goal

abbrev pub invariant-places : goal.invariant-places
invariant-places l = record {
  few : length l.values.items ≤ 256;
  values : (more : List (List ℕ))
      → AreValuesOf l.at l.bytes (digested_from l.place (notes_of l.self.comparison.candidates.items)) more
      → AreValuesOf l.at l.bytes (digested_from l.self.next (notes_of l.self.comparison.candidates.items))
      (map (λ (v : Bor (List ℕ)). v.now) l.values.items ++ more);
}
