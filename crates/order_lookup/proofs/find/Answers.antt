-- `order_lookup::find` meets its contract.
use Rattle.order_lookup.proofs.Laws.Values.{value_in_between, value_in_read}
use Rattle.order_format.proofs.Laws.Ascending.{ascending_below, ascending_above}
use mathlib.Core.Path.{◌≡◌, sym, ap}
use Rattle.std.proofs.lemmas.Cmp.{ranked}
use Prim.Native.Nat.{◌<◌}
use native.Mathlib.Omega.{arith}
use Rattle.order_format.specs.declared.Entry.{Entry}
use borrow.Author.Rules.{rules}
use Rattle.order_lookup.proofs.find.Goals as goal

pub returns-in-Equal : goal.returns-in-Equal
returns-in-Equal c =
    value_in_read _ _ _ _ _ c.requires.ascends _ _ c.read_entry-e.ensures (ranked _ _ _ c.in-Equal.ensures) (omega arith)

pub loop-low-preserved-in-Less : goal.loop-low-preserved-in-Less
loop-low-preserved-in-Less c =
    let e : _ ≡ _ = ap (λ (e : Entry). e.index) c.read_entry-e.ensures in
    let below : c.read_entry-e.result.index < c.args.k = ranked _ _ _ c.in-Less.ensures in
    (search rules, search rules, ascending_below _ _ _ _ c.requires.ascends (omega arith) (omega arith), c.loop-low.invariant.3)

pub loop-low-preserved : goal.loop-low-preserved
loop-low-preserved c =
    let e : _ ≡ _ = ap (λ (e : Entry). e.index) c.read_entry-e.ensures in
    let above : c.args.k < c.read_entry-e.result.index = ranked _ _ _ c.in-Greater.ensures in
    (search rules, search rules, c.loop-low.invariant.2, ascending_above _ _ _ _ c.requires.ascends (omega arith))

pub returns : goal.returns
returns c =
    let at = c.loop-low in
    sym (value_in_between _ _ _ _ _ at.low at.invariant.2 (λ j h. at.invariant.3 j (omega arith)))
