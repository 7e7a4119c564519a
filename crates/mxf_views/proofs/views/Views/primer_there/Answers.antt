use Rattle.mxf_views.proofs.Common.{◌≡◌, ◌∙◌, ap, arith, option_and_then, primer_at, read_as, primer_there}
use Rattle.mxf_views.proofs.views.Views.primer_there.Goals as goal

pub returns : goal.returns
returns c =
    let same : c.self.inside.catalogue ≡ c.args.self.now = grind arith in
    c.read_primer.ensures ∙ ap (option_and_then (read_as primer_at)) c.in_ok-note.ensures.first
    ∙ ap (λ notes. primer_there notes c.args.offset) same
