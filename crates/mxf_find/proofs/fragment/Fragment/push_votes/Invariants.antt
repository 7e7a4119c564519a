-- The votes so far and those of the notes to come are all.
use Rattle.std.proofs.Common.{◌≡◌, ◌++◌, drop, flat_map}
use Rattle.mxf_find.specs.Votes.{votes_by}
use Rattle.mxf_find.proofs.fragment.Fragment.push_votes.Given as goal

abbrev pub invariant-loop-teller : goal.invariant-loop-teller
invariant-loop-teller l = l.votes.items ++ flat_map (votes_by l.self l.recording) (drop l.teller-index l.tellers)
    ≡ l.initial.votes.items ++ flat_map (votes_by l.self l.recording) l.tellers
