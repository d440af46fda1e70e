-- `tests_readings::objects::entries` is safe and ends.
use Rattle.std.proofs.Common.{◌≤◌, arith}
use Rattle.elf_read.specs.Headers.{section_count}
use Rattle.elf_check.proofs.Laws.Bounds.{few_below}
use Rattle.tests_readings.proofs.objects.entries.Goals as goal

pub relocations_below-requires : goal.relocations_below-requires
relocations_below-requires g c =
    let most : c.section_count-n.result ≤ section_count c.args.s.now = omega (arith, c.section_count-n.ensures) in
    (c.requires.table, most, omega (arith, few_below c.args.s.now c.requires c.section_count-n.result most))
