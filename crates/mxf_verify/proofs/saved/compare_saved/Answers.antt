use Rattle.mxf_verify.proofs.OtherLaws.{tells_headed}
use Rattle.mxf_verify.proofs.saved.compare_saved.Goals as goal

pub returns : goal.returns
returns c = record {
  told_is = c.in_ok-told.ensures;
  headed = tells_headed c.args.reference.now c.args.saved.now _ c.laws.ensures.catalogue.content c.in_ok-headed.ensures;
  beside = λ at.
      let saved = c.spans.ensures.spans at in
      let held = c.spans-2.ensures.spans at in
      let rest = c.in_ok-beside.ensures at in (
        λ h. let s = rest.0 h in (saved.0 s.0, λ k. s.1 (held.1 k)),
        λ s. rest.1 (saved.1 s.0, λ k. s.1 (held.0 k)),
      );
}
