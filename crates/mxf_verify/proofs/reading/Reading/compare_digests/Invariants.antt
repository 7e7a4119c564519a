-- The digests of the notes before the next one were compared.
use Rattle.std.proofs.Common.{◌≡◌, ◌-◌, length}
use Rattle.mxf_verify.specs.SourceReads.{Tells}
use Rattle.mxf_verify.proofs.reading.Reading.compare_digests.Given as goal

abbrev pub invariant-candidates : goal.invariant-candidates
invariant-candidates l = record {
  tells : Tells l.at l.bytes l.initial.self l.self;
  at : l.self.comparison.at ≡ l.initial.self.comparison.at;
}

abbrev pub decreases-candidates : goal.decreases-candidates
decreases-candidates l = length l.self.comparison.candidates.items - l.self.next
