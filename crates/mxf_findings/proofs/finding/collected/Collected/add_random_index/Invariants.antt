use Rattle.mxf_findings.proofs.Common.{◌≡◌, ◌++◌, map, filter, F12, is_unfit_rip, finding, findings_for}
use Rattle.mxf_findings.proofs.finding.collected.Collected.add_random_index.Given as goal

abbrev pub invariant-loop-note : goal.invariant-loop-note
invariant-loop-note l = l.self ++
    (map (finding F12) (map (λ n. n.offset) (filter (is_unfit_rip l.views) l.note-iterator)))
    ≡ l.fn.self ++ (findings_for F12 l.views)
