-- `placing_symbols::symbols_of` meets its contract.
use mathlib.Core.Path.{ap, ◌∙◌}
use native.Mathlib.Omega.{arith}
use Rattle.elf_read.specs.Sections.{section_at}
use Rattle.elf_check.proofs.Laws.Bounds.{some_symbol}
use Rattle.placing_symbols.proofs.symbols_of.Goals as goal

pub returns-then-count-eq0 : goal.returns-then-count-eq0
returns-then-count-eq0 c = record { count = c.symbol_count-count.ensures; table = λ some. absurd (omega arith) }

pub read_section-requires-2 : goal.read_section-requires-2
read_section-requires-2 c =
    let s = c.args.object.now in
    let f = c.requires in
    let there = some_symbol s f 0 (omega arith) in
    (f.table, omega (arith, there.0))

pub returns : goal.returns
returns c =
    let s = c.args.object.now in
    record { count = c.symbol_count-count.ensures; table = λ some. c.read_section-2.ensures ∙ ap (section_at s) c.symbol_table.ensures }
