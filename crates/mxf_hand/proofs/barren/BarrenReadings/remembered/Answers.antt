use Rattle.mxf_views.proofs.Common.{List, [], Option, IfSome, subst, sym, NoteParts}
use Rattle.mxf_hand.specs.Noting.{IsReading}
use Rattle.mxf_hand.specs.Hand.{read_bytes}
use Rattle.mxf_hand.proofs.BarrenLaws.{found_barren}
use Rattle.mxf_hand.proofs.barren.BarrenReadings.remembered.Goals as goal

pub returns : goal.returns
returns c = λ h b.
    let from = c.args.from in
    let end = c.args.end in
    let bytes = read_bytes h end from in
    let found : IsReading h.scan from bytes [] c.in-Some.head.now =
    subst (λ (o : Option (Option NoteParts)). IfSome o (IsReading h.scan from bytes [])) (sym c.in-Some.ensures.value)
    (found_barren h c.args.self.now.before.entries from end b.before) in
    subst (λ (notes : List NoteParts). IsReading h.scan from bytes notes c.in_ok-head.head) (sym c.new-notes.ensures)
    (subst (IsReading h.scan from bytes []) (sym c.in_ok-head.ensures) found)
