-- `order_format::Order::external` meets its contract.
use mathlib.Core.Path.{ap, ◌∙◌}
use native.Mathlib.Omega.{arith}
use Rattle.order_format.specs.Orders.{entry_at}
use Rattle.order_format.proofs.Laws.Sizes.{entry_inside}
use Rattle.order_format.proofs.Laws.Read.{order_sound, start_is}
use Rattle.order_format.proofs.Order.external.Goals as goal

pub externals_start-start-requires : goal.externals_start-start-requires
externals_start-start-requires c = (order_sound c.args.self.now).few

pub read_entry-requires : goal.read_entry-requires
read_entry-requires c =
    let o = c.args.self.now in
    omega (arith, (order_sound o).whole, entry_inside o.class c.args.i o.counts.externals c.requires)

pub returns : goal.returns
returns c =
    let o = c.args.self.now in
    c.read_entry.ensures ∙ ap (λ at. entry_at o.class o.bytes.now at c.args.i) (c.externals_start-start.ensures ∙ start_is o)
