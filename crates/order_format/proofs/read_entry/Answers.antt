-- `order_format::read_entry` meets its contract.
use Rattle.order_format.specs.Orders.{entry_at}
use Rattle.order_format.proofs.read_entry.Goals as goal

pub returns : goal.returns
unfolding entry_at
returns c = cc
