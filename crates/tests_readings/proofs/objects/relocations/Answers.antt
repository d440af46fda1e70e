-- `tests_readings::objects::relocations` meets its contract.
use Rattle.std.proofs.Common.{sym, ◌∙◌, arith}
use Rattle.elf_check.proofs.Laws.Bounds.{rela_inside}
use Rattle.tests_readings.proofs.objects.relocations.Goals as goal

pub relocations_in-d-requires : goal.relocations_in-d-requires
relocations_in-d-requires c =
    (c.requires.table.header, rw c.read_section.ensures (rela_inside c.args.s.now c.requires c.loop-i.i (omega (arith, c.section_count-i-end.ensures, c.loop-i-test.true)) (sym c.is_counting_rela.ensures ∙ c.if-is_counting_rela.true)))
