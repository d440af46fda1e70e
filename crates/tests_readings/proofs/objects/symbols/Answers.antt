-- `tests_readings::objects::symbols` meets its contract.
use Rattle.std.proofs.Common.{ap, ◌∙◌, arith}
use Rattle.elf_read.specs.Sections.{section_at}
use Rattle.elf_check.proofs.Laws.Bounds.{symbol_inside}
use Rattle.tests_readings.proofs.objects.symbols.Goals as goal

pub symbol-d-requires : goal.symbol-d-requires
symbol-d-requires c =
    let s = c.args.s.now in
    rw (c.read_section-h.ensures ∙ ap (section_at s) c.symbol_table-table.ensures) (symbol_inside s c.requires c.loop-k.k (omega (arith, c.symbol_count-n.ensures, c.loop-k-test.true)))
