use Rattle.dv_value.proofs.Orders.{total, sorts}
use Rattle.dv_value.proofs.order.the_order_of_values_is_total.Goals as goal

pub returns-clause-total : goal.returns-clause-total
returns-clause-total c = total

pub returns-clause-sorts : goal.returns-clause-sorts
returns-clause-sorts c = sorts
