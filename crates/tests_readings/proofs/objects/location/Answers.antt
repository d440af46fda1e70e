-- `tests_readings::objects::location` is safe and ends.
use Rattle.std.proofs.Common.{arith}
use Rattle.elf_check.proofs.Laws.Bounds.{relocations_few}
use Rattle.tests_readings.proofs.objects.location.Goals as goal

pub locate-at-requires : goal.locate-at-requires
locate-at-requires c = (c.requires.table, omega (arith, relocations_few c.args.s.now c.requires))
