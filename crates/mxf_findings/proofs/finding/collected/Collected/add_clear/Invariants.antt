use Rattle.mxf_findings.proofs.Common.{◌≡◌, ◌++◌, map, filter, finding}
use Rattle.mxf_findings.specs.Findings.{clear_at, is_note_cause}
use Rattle.mxf_findings.proofs.finding.collected.Collected.add_clear.Given as goal

abbrev pub invariant-loop-note : goal.invariant-loop-note
invariant-loop-note l =
    l.self ++ map (finding l.code) (map (λ n. n.offset) (filter (is_note_cause l.code) l.note-iterator))
    ≡ l.fn.self ++ map (finding l.code) (clear_at l.code l.views)
