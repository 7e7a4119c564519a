use Rattle.std.proofs.Common.{List, refl, subst, sym}
use Rattle.mxf_klv.specs.Parts.{NoteParts}
use Rattle.mxf_views.specs.Headline.{IsTheRun}
use Rattle.mxf_read.specs.Gathering.{HandedBy}
use Rattle.mxf_sources.proofs.sides.hold_sides.Goals as goal

pub returns-clause-earlier : goal.returns-clause-earlier
returns-clause-earlier g c = λ pieces tells.
    let handed = HandedBy g.F.Read.remaining c.args.earlier.parts.items in
    subst (λ (notes : List NoteParts). IsTheRun handed notes) (sym c.in_ok-earlier-2.ensures.views)
    (c.in_ok-earlier.ensures.run refl pieces tells)
