-- What is there and what is to come are the keys of the notes.
use Rattle.std.proofs.Common.{◌≡◌, ◌++◌, map}
use Rattle.mxf_doubts.specs.Strange.{bare_key}
use Rattle.mxf_doubts.proofs.strange.gathered.Given as goal

abbrev pub invariant-loop-note : goal.invariant-loop-note
invariant-loop-note l =
    l.keys.items ++ map (λ n. bare_key n.key) l.note-iterator ≡ map (λ n. bare_key n.key) l.catalogue
