use Rattle.mxf_klv.proofs.Common.{sym, ltb-true, ltb-false}
use Rattle.mxf_catalogue.proofs.Heads.{tells_at, none_tells}
use Rattle.mxf_catalogue.proofs.catalogue.placing.tell.Goals as goal

pub returns-in-Some : goal.returns-in-Some
returns-in-Some c =
    let t = tells_at c.args.notes.now c.in-Err.at c.args.note.now c.in-Some.next.now c.requires c.in-Err.ensures.absent
    (ltb-true _ _ (sym c.in-Some.ensures.lookup.0)) c.in-Some.ensures.lookup.1 in
    (λ h. t.0 (c.tells.ensures.0 h), λ h. c.tells.ensures.1 (t.1 h))

pub returns-in-None : goal.returns-in-None
returns-in-None c = (
  λ h. absurd cc,
  λ h. absurd (none_tells c.args.notes.now c.in-Err.at c.args.note.now c.requires c.in-Err.ensures.absent
      (ltb-false _ _ (sym c.in-None.ensures.lookup.0)) h),
)
