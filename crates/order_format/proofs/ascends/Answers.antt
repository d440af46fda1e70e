-- `order_format::ascends` meets its contract.
use mathlib.Core.Path.{◌≡◌, sym, ap}
use Prim.Native.Nat.{◌-◌}
use native.Mathlib.Omega.{arith}
use Rattle.order_format.specs.declared.Entry.{Entry}
use Rattle.order_format.proofs.Laws.Ascending.{steps_more, ascending_is, ascending_not}
use Rattle.order_format.proofs.Laws.Sizes.{entry_inside}
use Rattle.order_format.proofs.ascends.Goals as goal

pub loop-i-init : goal.loop-i-init
loop-i-init c = λ j h. absurd (omega arith)

pub read_entry-low-requires : goal.read_entry-low-requires
read_entry-low-requires c =
    omega (arith, entry_inside c.args.class (c.loop-i.i - 1) c.args.n (omega arith))

pub read_entry-high-requires : goal.read_entry-high-requires
read_entry-high-requires c =
    omega (arith, entry_inside c.args.class c.loop-i.i c.args.n (omega arith))

pub returns-then-high-low : goal.returns-then-high-low
returns-then-high-low c =
    let low : _ ≡ _ = ap (λ (e : Entry). e.index) c.read_entry-low.ensures in
    let high : _ ≡ _ = ap (λ (e : Entry). e.index) c.read_entry-high.ensures in
    sym (ascending_not _ _ c.loop-i.i (omega arith) (omega arith) (omega arith))

pub loop-i-preserved : goal.loop-i-preserved
loop-i-preserved c =
    let low : _ ≡ _ = ap (λ (e : Entry). e.index) c.read_entry-low.ensures in
    let high : _ ≡ _ = ap (λ (e : Entry). e.index) c.read_entry-high.ensures in
    steps_more _ _ c.loop-i.invariant (omega arith) (omega arith)

pub returns : goal.returns
returns c = sym (ascending_is _ _ (λ i h. c.loop-i.invariant i (omega arith)))
