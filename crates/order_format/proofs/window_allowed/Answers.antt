-- `order_format::window_allowed` meets its contract.
use Rattle.order_format.specs.Windows.{length_allowed, window_allowed}
use Rattle.order_format.proofs.window_allowed.Goals as goal

pub returns : goal.returns
unfolding window_allowed length_allowed
returns c = rw c.ends_in_memory.ensures
