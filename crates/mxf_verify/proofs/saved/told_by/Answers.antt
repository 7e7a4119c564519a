use Rattle.std.proofs.Common.{◌∙◌, ap, filter}
use Rattle.mxf_verify.specs.Others.{is_touched}
use Rattle.mxf_verify.proofs.OtherLaws.{tells_saved}
use Rattle.mxf_verify.proofs.saved.told_by.Goals as goal

pub returns : goal.returns
returns c = tells_saved c.args.reference.now c.args.saved.now
    (record { same = c.in_ok-same.same; differing = c.in_ok-differing.differing })
    c.laws.ensures.catalogue.content c.laws-2.ensures.catalogue c.in_ok-same.ensures
    (c.in_ok-differing.ensures ∙ ap (λ l. filter (λ n. is_touched n l) c.args.reference.now) c.in_ok-others.ensures)
