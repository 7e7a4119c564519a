use Rattle.mxf_findings.proofs.Common.{◌∙◌, ◌++◌, ap, map, filter, F12, finding, is_unfit_rip}
use Rattle.mxf_findings.proofs.KeptFindings.{unfit_among_rips}
use Rattle.mxf_findings.proofs.finding.collected.Collected.add_random_index.Goals as goal

pub loop-note-init : goal.loop-note-init
loop-note-init c =
    let notes = c.args.views.now in
    ap (λ ns. c.args.self.now ++ map (finding F12) (map (λ n. n.offset) ns)) (ap (filter (is_unfit_rip notes))
    (c.into_iter-note-iterator.ensures.into_iter_gives ∙ c.random_index_packs-note-items.ensures)
    ∙ unfit_among_rips notes)
