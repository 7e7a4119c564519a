use Rattle.mxf_findings.proofs.Common.{◌≡◌, ◌++◌, map, F04, finding, findings_for}
use Rattle.mxf_findings.proofs.finding.collected.Collected.add_packs.Given as goal

abbrev pub invariant-loop-note : goal.invariant-loop-note
invariant-loop-note l = l.self ++ (map (finding F04) (map (λ n. n.offset) l.note-iterator))
    ≡ l.fn.self ++ (findings_for F04 l.views)
