-- The digests of the values so far were compared, and the others are the next.
use Rattle.std.proofs.Common.{◌≡◌, ◌+◌, ◌≤◌, ℕ, List, None, drop, map}
use denote.Bor.{Bor}
use Rattle.mxf_verify.specs.Candidates.{notes_of}
use Rattle.mxf_verify.specs.SourceReads.{AreValuesOf, Tells, digested_from}
use Rattle.mxf_verify.proofs.reading.Reading.compare_values.Given as goal

abbrev pub invariant-values : goal.invariant-values
invariant-values l = record {
  tells : Tells l._at l._bytes l.initial.self l.self;
  at : l.self.comparison.at ≡ l.initial.self.comparison.at;
  notes : notes_of l.self.comparison.candidates.items ≡ notes_of l.initial.self.comparison.candidates.items;
  counted : l.initial.self.next + l.i ≤ l.self.next;
  hasher : l.self.hasher ≡ None;
  left : AreValuesOf l._at l._bytes (digested_from l.self.next (notes_of l.self.comparison.candidates.items))
      (drop l.i (map (λ (v : Bor (List ℕ)). v.now) l.values));
}
