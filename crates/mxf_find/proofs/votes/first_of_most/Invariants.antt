-- The best of the numbers so far, and how often it stands among all.
use Rattle.mxf_find.proofs.CountLaws.{IsMostSoFar}
use Rattle.mxf_find.proofs.votes.first_of_most.Given as goal

abbrev pub invariant-loop-vote : goal.invariant-loop-vote
invariant-loop-vote l = IsMostSoFar l.votes l.vote-index l.most l.count
