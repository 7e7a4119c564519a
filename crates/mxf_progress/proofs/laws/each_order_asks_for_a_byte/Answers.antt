use Rattle.mxf_progress.proofs.OrderLaws.{asks_for_one, ungiven_there, was_handed_in}
use Rattle.mxf_progress.proofs.laws.each_order_asks_for_a_byte.Goals as goal

pub returns : goal.returns
returns c = record {
  new = λ at notes o content hand k. asks_for_one at notes content hand o k;
  ungiven = λ at notes o end content hand k. ungiven_there at notes content hand o k end;
  again = λ at notes o content hand k. was_handed_in at notes content hand o k;
}
