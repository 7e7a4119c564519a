-- What the heads so far need, or those that are to come.
use Rattle.mxf_views.proofs.Common.{◌≡◌, ◌&&◌, ◌==◌, drop, filter, map, max, covered_end}
use Rattle.mxf_places.specs.Held.{top_of}
use Rattle.mxf_places.proofs.heads.needed_among.Given as goal

abbrev pub invariant-loop-head : goal.invariant-loop-head
invariant-loop-head l = max l.needed (top_of (filter (λ n. (covered_end n == l.first) && (n.offset == l.start))
    (map (λ r. r.now) (drop l.head-index l.heads))))
    ≡ top_of (filter (λ n. (covered_end n == l.first) && (n.offset == l.start)) (map (λ r. r.now) l.heads))
