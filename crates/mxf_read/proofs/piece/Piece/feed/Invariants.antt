-- What is gone from `rest` was fed.
use Rattle.std.proofs.Common.{◌≡◌, List, ℕ, ◌++◌, length}
use Rattle.mxf_read.specs.Feeding.{Feeds}
use Rattle.mxf_read.proofs.piece.Piece.feed.Given as goal

abbrev pub invariant-bytes : goal.invariant-bytes
invariant-bytes l = (done : List ℕ) × (l.initial.rest ≡ done ++ l.rest) × Feeds l.initial.self l.self done

abbrev pub decreases-bytes : goal.decreases-bytes
decreases-bytes l = length l.rest
