-- The notes that differ, and behind them those so far.
use Rattle.std.proofs.Common.{◌≡◌, ◌++◌, map, take}
use Rattle.mxf_verify.specs.Telling.{notes_at}
use Rattle.mxf_verify.specs.Verifications.{differing_in, parts_of}
use Rattle.mxf_verify.proofs.seen.put_differing.Given as goal

abbrev pub invariant-loop-note : goal.invariant-loop-note
invariant-loop-note l = parts_of l.differing.items
    ≡ parts_of l.initial.differing.items ++ map (differing_in l.source) (notes_at (take l.note-index l.notes))
