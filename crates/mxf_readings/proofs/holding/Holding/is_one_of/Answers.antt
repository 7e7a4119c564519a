use Rattle.mxf_klv.proofs.Common.{◌∙◌, IsTrue, ap, not, subst, sym, not-false}
use Rattle.mxf_readings.specs.Holdings.{HoldingParts}
use Rattle.mxf_readings.proofs.SourceLaws.{held_says}
use Rattle.mxf_readings.proofs.holding.Holding.is_one_of.Goals as goal

pub returns-then-not-is_head : goal.returns-then-not-is_head
returns-then-not-is_head c =
    let whole = not-false _ (sym c.is_head.ensures ∙ c.if-not-is_head.true) in
    ap not c.if-not-is_head.true ∙ sym ((held_says c.args.self.now.note c.args.all.now).1
    (c.requires (subst (λ (h : HoldingParts). IsTrue h.note.whole) c.self.view_is whole)))
