-- `elf_read::class_of` meets its contract.
use Rattle.elf_read.specs.Headers.{class_of}
use Rattle.numbers_definitions.proofs.Laws.Bytes.{le_at_one}
use borrow.Author.Tests.{eq-eqb, ne_eqb}
use Rattle.elf_read.proofs.class_of.Goals as goal

pub returns-then-object-eq2 : goal.returns-then-object-eq2
unfolding class_of
returns-then-object-eq2 c =
    rw (le_at_one c.args.object.now 4, eq-eqb _ _ c.if-object-eq2.true)

pub returns-else-object-eq2 : goal.returns-else-object-eq2
unfolding class_of
returns-else-object-eq2 c =
    rw (le_at_one c.args.object.now 4, ne_eqb _ _ c.if-object-eq2.false)
