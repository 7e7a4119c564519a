use Rattle.mxf_views.proofs.Common.{List, arith, subst, ◌∙◌, ◌≤◌, NoteParts, greatest_end, IsCatalogue}
use Rattle.mxf_units.proofs.PacketLaws.{far_packet}
use Rattle.mxf_units.proofs.first_packet.first_packet.Goals as goal

pub returns-then-behind-from : goal.returns-then-behind-from
returns-then-behind-from c =
    let far : greatest_end ≤ c.in_ok-behind.behind = omega (arith, c.if-behind-from.true, c.from.ensures) in
    far_packet c.args.holdings.now c.args.partition.now c.in_ok-behind.behind
    (subst (λ (notes : List NoteParts). IsCatalogue notes) (c.catalogue.ensures ∙ c.views.ensures)
    c.laws.ensures.catalogue) far c.in_ok-behind.ensures
