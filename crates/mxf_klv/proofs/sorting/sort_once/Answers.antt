use Rattle.mxf_klv.proofs.Common.{[], subst, DiffersFromLast, IsFiltered}
use Rattle.mxf_klv.proofs.SortedUnions.{in_order, in_order-rises}
use Rattle.mxf_klv.proofs.sorting.sort_once.Goals as goal

pub returns : goal.returns
returns g c =
    let laws = g.met.T.Ord in
    let sorted = c.sort_unstable.new.self.items in
    let once = c.dedup.new.self.items in
    let dropped = subst (λ E. IsFiltered (DiffersFromLast E) [] sorted once) (λ i x y. laws.matches_eq x y i)
    c.dedup.ensures.filtered in
    record {
      members = in_order g.T.Ord.cmp laws.total c.requires _ sorted once c.sort_unstable.ensures.permutation
          c.sort_unstable.ensures.sorted dropped;
      rising = in_order-rises g.T.Ord.cmp laws.total c.requires _ sorted once c.sort_unstable.ensures.permutation
          c.sort_unstable.ensures.sorted dropped;
    }
