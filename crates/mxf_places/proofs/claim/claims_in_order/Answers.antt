use Rattle.mxf_places.proofs.FirstLaws.{claims_in_order, first_says, names_say, none_speaks, ranked_before}
use Rattle.mxf_places.proofs.claim.claims_in_order.Goals as goal

pub returns : goal.returns
returns c = record {
  rising = claims_in_order;
  first = first_says;
  none = none_speaks;
  gap = ranked_before;
  names = names_say;
}
