-- `order_lookup::take_external` meets its contract.
use native.Mathlib.Omega.{arith}
use Rattle.order_format.proofs.Laws.Read.{externals_are, externals_ascend}
use Rattle.order_lookup.proofs.Laws.Values.{reached_end, reached_higher, reached_here}
use Rattle.order_lookup.proofs.take_external.Goals as goal

pub returns-then-order-from : goal.returns-then-order-from
returns-then-order-from c =
    let o = c.args.order.now in
    reached_end _ _ _ _ c.requires (omega (arith, externals_are o, c.if-order-from.true))

pub returns-then-e-k : goal.returns-then-e-k
returns-then-e-k c =
    let o = c.args.order.now in
    reached_higher _ _ _ _ c.requires (externals_ascend o) (omega (arith, externals_are o, c.if-order-from.false)) _ c.external-e.ensures c.if-e-k.true

pub returns : goal.returns
returns c =
    let o = c.args.order.now in
    reached_here _ _ _ _ c.requires (externals_ascend o) (omega (arith, externals_are o, c.if-order-from.false)) _ c.external-e.ensures c.if-e-k.false
