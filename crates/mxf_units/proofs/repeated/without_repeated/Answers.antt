use Rattle.mxf_views.proofs.Common.{IfOk-weaker}
use Rattle.mxf_units.proofs.RepeatedLaws.{ordered_before}
use Rattle.mxf_units.proofs.repeated.without_repeated.Goals as goal

pub returns : goal.returns
returns c = IfOk-weaker c.each_once.result _ _
    (λ v say. ordered_before c.args.segments.items c.sort_unstable_by_key.new.self.items v.items
    c.sort_unstable_by_key.ensures.permutation say) c.each_once.ensures
