use Rattle.mxf_restore.proofs.PlanMembers.{order_members, orders_rise}
use Rattle.mxf_restore.proofs.PartLaws.{orders_say, plan_orders_say}
use Rattle.mxf_restore.proofs.plan.orders_by_definition.Goals as goal

pub returns : goal.returns
returns c = record {
  members = order_members;
  sections = λ at notes p o content given hand. orders_say at notes content given hand p o;
  orders = λ at notes o content given hand. plan_orders_say at notes content given hand o;
  rising = orders_rise;
}
