use Rattle.mxf_views.proofs.Common.{◌+◌, sym, subst, ◌∙◌, length, arith}
use Rattle.mxf_verify.specs.Candidates.{AreSettled, notes_of, offset_of}
use Rattle.mxf_verify.proofs.CandidateLaws.{notes_compared, rises_compared, settled_compared}
use Rattle.mxf_verify.proofs.comparison.Comparison.take.Goals as goal

pub settled_by-self-requires : goal.settled_by-self-requires
settled_by-self-requires c =
    let s = c.args.self.now in
    let bytes = c.args.bytes.now in
    subst (AreSettled s.settled (s.at + length bytes)) (sym (c.deref.ensures.value ∙ c.compare.ensures))
    (settled_compared s.settled s.at (s.at + length bytes) bytes s.candidates.items s.passed (omega arith))

pub invariant_of-self : goal.invariant_of-self
invariant_of-self c = grind (arith, offset_of, rises_compared, length)

pub returns-clause-notes : goal.returns-clause-notes
returns-clause-notes c = grind (arith, notes_of, notes_compared)
