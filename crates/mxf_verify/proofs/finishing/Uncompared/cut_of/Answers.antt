use Rattle.mxf_views.proofs.Common.{rules, YieldsList-from_map_by, YieldsList-at, YieldsList-from_filter}
use Rattle.mxf_views.proofs.Common.{YieldsList-from_first, map_from_collect}
use Rattle.std.proofs.lemmas.Result.{IfOk-at_ok}
use Rattle.mxf_verify.specs.declared.verification.CutNote.{CutNote}
use Rattle.mxf_verify.proofs.FinishingLaws.{is_left_out, left_out_by, those_left_out}
use Rattle.mxf_verify.proofs.finishing.Uncompared.cut_of.Goals as goal

pub returns : goal.returns
returns c =
    let u = c.args.self.now in
    let h = map_from_collect _ c.collect.ensures.ran (YieldsList-from_map_by _ (λ (c : CutNote). c.note.now) (λ n. n)
    (YieldsList-at c.map.ensures.source (YieldsList-from_filter _ (is_left_out u)
    (YieldsList-from_first (λ x. x.now) (λ s. s) c.args.catalogue.now cc)
    c.filter-left_out.ensures.closure (λ x r q k. (search rules, left_out_by r u x.now (search rules)))))
    c.map.ensures.closure (λ x r q k. search rules)) in
    those_left_out c.args.catalogue.now u _ c.notes.ensures.catalogue.content (IfOk-at_ok _ c.in_ok-collect.was h)
