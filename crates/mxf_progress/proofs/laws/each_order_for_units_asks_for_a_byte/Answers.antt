use Rattle.mxf_progress.proofs.UnitOrders.{metadata_handed_in, metadata_ungiven, unit_handed_in, unit_ungiven}
use Rattle.mxf_progress.proofs.laws.each_order_for_units_asks_for_a_byte.Goals as goal

pub returns : goal.returns
returns c = record {
  ungiven = unit_ungiven;
  again = unit_handed_in;
  metadata_ungiven = metadata_ungiven;
  metadata_again = metadata_handed_in;
}
