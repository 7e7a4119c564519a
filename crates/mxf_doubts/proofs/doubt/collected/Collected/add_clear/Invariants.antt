use Rattle.std.proofs.Common.{◌≡◌, ◌++◌, map, filter}
use Rattle.mxf_doubts.specs.Codes.{doubt}
use Rattle.mxf_doubts.specs.Doubts.{clear_at, is_note_cause}
use Rattle.mxf_doubts.proofs.doubt.collected.Collected.add_clear.Given as goal

abbrev pub invariant-loop-note : goal.invariant-loop-note
invariant-loop-note l =
    l.self ++ map (doubt l.code) (map (λ n. n.offset) (filter (is_note_cause l.code l.asked) l.note-iterator))
    ≡ l.fn.self ++ map (doubt l.code) (clear_at l.code l.asked)
