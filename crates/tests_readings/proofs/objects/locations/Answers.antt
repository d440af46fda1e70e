-- `tests_readings::objects::locations` meets its contract.
use Rattle.std.proofs.Common.{◌+◌, ◌≤◌, arith}
use Rattle.elf_read.specs.Headers.{section_count}
use Rattle.elf_check.proofs.Laws.Bounds.{few_below}
use Rattle.tests_readings.proofs.objects.locations.Goals as goal

pub relocations_below-below-requires : goal.relocations_below-below-requires
relocations_below-below-requires c =
    let most : c.loop-i.i + 1 ≤ section_count c.args.s.now = omega (arith, c.section_count-i-end.ensures, c.loop-i-test.true) in
    (c.requires.table, most, omega (arith, few_below c.args.s.now c.requires (c.loop-i.i + 1) most))
