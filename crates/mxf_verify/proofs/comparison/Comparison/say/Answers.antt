use Rattle.std.proofs.Common.{◌≡◌, ◌<◌, sym, subst, ap, ◌∙◌, get_or, length, set, arith}
use Rattle.std.specs.List.Sorted.{IsNonDecreasingBy}
use Rattle.mxf_verify.specs.Candidates.{AreSettled, also, notes_of, offset_of}
use Rattle.mxf_verify.specs.declared.candidate.Candidate.{Candidate}
use Rattle.mxf_verify.proofs.CandidateLaws.{notes_said, rises_said, settled_said}
use Rattle.mxf_verify.proofs.comparison.Comparison.say.Goals as goal

pub invariant_of-self : goal.invariant_of-self
invariant_of-self c =
    let s = c.args.self.now in
    let cs = s.candidates.items in
    let i = c.args.place in
    let d = c.index.result.now in
    let within : i < length cs = omega (arith, s.candidates.ok.0) in
    let made : c.also-candidate.result ≡ also c.args.is_same (get_or cs i d) =
    c.also-candidate.ensures ∙ ap (also c.args.is_same) c.index.ensures in
    let put : set cs i (also c.args.is_same (get_or cs i d)) ≡ set cs i c.also-candidate.result =
    ap (λ (x : Candidate). set cs i x) (sym made) in record {
      rising = subst (IsNonDecreasingBy offset_of) put (rises_said cs i c.args.is_same d within s.rising);
      passed = subst (AreSettled s.settled s.at) put
          (settled_said s.settled s.at cs i c.args.is_same d within s.passed);
      within = s.within;
    }

pub returns-clause-notes : goal.returns-clause-notes
returns-clause-notes c = grind (arith, also, get_or, notes_of, set, notes_said)
