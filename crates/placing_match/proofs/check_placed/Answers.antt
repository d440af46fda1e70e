-- `placing_match::check_placed` meets its contract.
use mathlib.Core.Path.{◌≡◌, sym, ap, ◌∙◌}
use mathlib.Core.Bool.{true, not}
use Rattle.std.specs.Prelude.{Err}
use native.Mathlib.Omega.{arith}
use Rattle.elf_read.specs.Sections.{is_allocated}
use Rattle.order_format.specs.declared.Entry.{Entry}
use Rattle.order_format.specs.Orders.{placement, placements_start, placement_count}
use Rattle.order_format.proofs.Laws.Read.{placements_are, placements_ascend}
use Rattle.order_lookup.specs.Addresses.{placed_at}
use Rattle.placing_match.proofs.Laws.Lowest.{lowest_named, lowest_unnamed}
use Rattle.placing_match.proofs.check_placed.Goals as goal

pub returns-then-not-is_allocated_section : goal.returns-then-not-is_allocated_section
unfolding placed_at
returns-then-not-is_allocated_section c =
    let s = c.args.object.now in
    let o = c.args.order.now in
    let e = c.placement-e.ensures in
    let index : c.placement-e.result.index ≡ (placement o.class o.bytes.now c.search.j).index = ap (λ (e : Entry). e.index) e in
    let found : not (is_allocated s (placement o.class o.bytes.now c.search.j).index) ≡ true = rw (← e, ← c.is_allocated_section.ensures) (ap not c.if-not-is_allocated_section.true) in
    ap Err index
    ∙ sym (lowest_named o.class o.bytes.now (placements_start o.class) (placement_count o.class o.bytes.now) (placements_ascend o) (λ k. not (is_allocated s k)) c.search.j (omega (arith, placements_are o)) (omega (arith, index, c.placement-e.type_inv)) c.search.invariant found)

pub returns : goal.returns
unfolding placed_at
returns c =
    let o = c.args.order.now in
    sym (lowest_unnamed o.class o.bytes.now (placements_start o.class) (placement_count o.class o.bytes.now) (placements_ascend o) (λ k. not (is_allocated c.args.object.now k)) (λ k h. c.search.invariant k (omega (arith, placements_are o))))
