-- `placing_match::check_allocated` meets its contract.
use mathlib.Core.Path.{◌≡◌, sym}
use mathlib.Core.Bool.{true, not, ◌&&◌}
use native.Mathlib.Omega.{arith}
use Rattle.elf_read.specs.Headers.{section_count}
use Rattle.elf_read.specs.Sections.{is_allocated}
use Rattle.order_lookup.specs.Addresses.{placed_at}
use Rattle.order_lookup.specs.Values.{is_given}
use Rattle.placing_match.proofs.Laws.Lowest.{lowest_at, lowest_nowhere}
use Rattle.placing_match.proofs.check_allocated.Goals as goal
use borrow.Author.Rules.{rules}

pub returns-then-allocated-placed : goal.returns-then-allocated-placed
returns-then-allocated-placed c =
    let s = c.args.object.now in
    let i = c.search.i in
    let found : (is_allocated s i && not (is_given (placed_at c.args.order.now.class c.args.order.now.bytes.now i))) ≡ true = search rules in
    sym (lowest_at _ (section_count s) i (omega (arith, c.section_count-n.ensures)) c.search.invariant found)

pub returns : goal.returns
returns c = sym (lowest_nowhere _ (section_count c.args.object.now) (λ j h. c.search.invariant j (omega (arith, c.section_count-n.ensures))))
