-- `order_format::length_allowed` meets its contract.
use mathlib.Core.Path.{refl}
use Rattle.order_format.specs.Windows.{length_allowed}
use Rattle.order_format.proofs.length_allowed.Goals as goal

pub returns : goal.returns
unfolding length_allowed
returns c = refl
