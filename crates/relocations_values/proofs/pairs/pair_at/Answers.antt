-- `relocations_values::pairs::pair_at` meets its contract.
use mathlib.Core.Path.{sym, ◌∙◌}
use native.Mathlib.Omega.{arith}
use Rattle.relocations_values.proofs.Laws.Lookup.{past, met_from, met_all, met_twice}
use Rattle.relocations_values.proofs.pairs.pair_at.Goals as goal

pub returns-then-is_some : goal.returns-then-is_some
returns-then-is_some c =
    met_twice _ _ _ _ c.requires.1 c.args.offset _ c.first_not_below-first.ensures _ _ c.search.invariant (sym c.is_some.ensures ∙ c.if-is_some.true) (omega arith)
    (sym c.offset_at.ensures ∙ c.if-offset_at-offset.false)

pub returns-after-search : goal.returns-after-search
returns-after-search c =
    met_all _ _ _ _ c.requires.1 c.args.offset _ c.first_not_below-first.ensures _ _ c.search.invariant (λ j a b. absurd (omega (arith, c.search-test.false)))

pub returns-then-offset_at-offset : goal.returns-then-offset_at-offset
returns-then-offset_at-offset c =
    let parted = c.first_not_below-first.ensures in
    let from = met_from _ _ _ _ c.requires.1 c.args.offset _ parted _ _ c.search.invariant in
    met_all _ _ _ _ c.requires.1 c.args.offset _ parted _ _ c.search.invariant
    (past _ _ _ _ c.requires.1 c.args.offset _ parted _ from (λ e. c.if-offset_at-offset.true (c.offset_at.ensures ∙ e)))
