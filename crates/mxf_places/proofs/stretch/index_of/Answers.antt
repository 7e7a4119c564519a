use Rattle.mxf_views.proofs.Common.{List, ap, subst, sym, ◌∙◌, ◌<◌, ◌≡◌, arith, NoteParts, IsCatalogue, PartitionParts}
use Rattle.mxf_places.proofs.StretchLaws.{far_index}
use Rattle.mxf_places.proofs.stretch.index_of.Goals as goal

pub returns-then-from : goal.returns-then-from
returns-then-from c =
    let above : c.from.result < c.in_ok-from.from = c.if-from.true in
    let bound : c.from.result ≡ 9223372036854775807 = c.from.ensures in
    let count = ap (λ (p : PartitionParts). p.pack.numbers.index_byte_count) c.partition.view_is in
    sym (far_index c.args.holdings.now c.args.partition.now c.in_ok-from.from
    (subst (λ (notes : List NoteParts). IsCatalogue notes) (c.catalogue.ensures ∙ c.views.ensures)
    c.laws.ensures.catalogue) (omega (arith, count, c.if-count-eq0.false)) (sym c.in_ok-from.ensures) (omega (
      arith,
      above,
      bound,
    )))
