use Rattle.mxf_views.proofs.Common.{◌≡◌, filter}
use Rattle.mxf_references.specs.References.{found_among, has_uid, found_after}
use Rattle.mxf_references.proofs.reference.find_among.Given as goal

abbrev pub invariant-loop-note : goal.invariant-loop-note
invariant-loop-note l = found_after l.found (filter (has_uid l.uid) l.note-iterator) ≡ found_among
    (filter (has_uid l.uid) l.fn.sets)
