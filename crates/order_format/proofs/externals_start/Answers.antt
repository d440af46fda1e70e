-- `order_format::externals_start` meets its contract.
use native.Mathlib.Omega.{arith}
use Rattle.order_format.proofs.Laws.Sizes.{address_bytes_le, entries_le}
use Rattle.order_format.proofs.externals_start.Goals as goal

pub entry_place-requires : goal.entry_place-requires
entry_place-requires c =
    omega (arith, address_bytes_le c.args.class, entries_le c.args.class c.args.placements)
