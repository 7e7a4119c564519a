-- Those so far and those of the notes to come are all.
use Rattle.std.proofs.Common.{◌≡◌, ◌+◌, ◌<◌, ◌^◌, count_by, length}
use Rattle.mxf_find.specs.Agreeing.{agrees, agrees_as_head}
use Rattle.mxf_find.proofs.agreeing.count_agreeing.Given as goal

abbrev pub invariant-loop-note : goal.invariant-loop-note
invariant-loop-note l = (l.agree + count_by (agrees l.fragment l.recording l.at) l.note-iterator
    ≡ count_by (agrees l.fragment l.recording l.at) l.fragment.notes)
    × (l.heads + count_by (agrees_as_head l.fragment l.recording l.at) l.note-iterator
    ≡ count_by (agrees_as_head l.fragment l.recording l.at) l.fragment.notes) × (length l.fragment.notes < 2 ^ 64)
