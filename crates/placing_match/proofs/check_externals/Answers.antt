-- `placing_match::check_externals` meets its contract.
use Rattle.std.specs.Prelude.{Err}
use mathlib.Core.Path.{◌≡◌, sym, ap, ◌∙◌}
use Prim.Native.Nat.{◌^◌, ◌<◌}
use mathlib.Core.Bool.{true, not, ◌&&◌}
use native.Mathlib.Omega.{arith}
use Rattle.numbers_definitions.specs.declared.Class.{Class}
use Rattle.order_format.specs.declared.Entry.{Entry}
use Rattle.order_format.specs.Orders.{external, externals_start, external_count}
use Rattle.order_lookup.specs.Values.{is_given, external_value}
use Rattle.order_format.proofs.Laws.Read.{externals_are, externals_ascend}
use Rattle.placing_match.specs.Placements.{lowest}
use Rattle.placing_match.specs.Externals.{is_undefined, external_check}
use Rattle.placing_match.proofs.Laws.Lowest.{lowest_named, lowest_unnamed}
use Rattle.placing_match.proofs.check_externals.Goals as goal
use Rattle.placing_match.proofs.check_externals.Goals.{Start}

-- check 7, by the class that the code has
same : (c : Start) → lowest (λ x. is_given (external_value c.args.order.now.class c.args.order.now.bytes.now x) && not (is_undefined c.args.object.now x)) (2 ^ 32)
    ≡ external_check c.args.object.now c.args.order.now.bytes.now
unfolding external_check
same c = ap (λ (k : Class). lowest (λ x. is_given (external_value k c.args.order.now.bytes.now x) && not (is_undefined c.args.object.now x)) (2 ^ 32)) c.requires.1

pub returns-then-not-is_undefined : goal.returns-then-not-is_undefined
unfolding external_value
returns-then-not-is_undefined c =
    let s = c.args.object.now in
    let o = c.args.order.now in
    let index : c.external-e.result.index ≡ (external o.class o.bytes.now c.search.j).index = ap (λ (e : Entry). e.index) c.external-e.ensures in
    let small : (external o.class o.bytes.now c.search.j).index < 2 ^ 32 = omega (arith, index, c.external-e.type_inv) in
    let found : not (is_undefined s (external o.class o.bytes.now c.search.j).index) ≡ true = rw (← c.external-e.ensures, ← c.is_undefined.ensures) (ap not c.if-not-is_undefined.true) in
    ap Err index
    ∙ sym (lowest_named o.class o.bytes.now (externals_start o.class o.bytes.now) (external_count o.class o.bytes.now) (externals_ascend o) (λ k. not (is_undefined s k)) c.search.j (omega (arith, externals_are o)) small c.search.invariant found)
    ∙ same (goal.at.returns-then-not-is_undefined c).Start

pub returns : goal.returns
unfolding external_value
returns c =
    let o = c.args.order.now in
    sym (lowest_unnamed o.class o.bytes.now (externals_start o.class o.bytes.now) (external_count o.class o.bytes.now) (externals_ascend o) (λ k. not (is_undefined c.args.object.now k)) (λ k h. c.search.invariant k (omega (arith, externals_are o))))
    ∙ same (goal.at.returns c).Start
