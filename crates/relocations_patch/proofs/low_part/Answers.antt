-- `relocations_patch::low_part` meets its contract.
use Rattle.numbers_definitions.specs.declared.Class.TheVariants.{Elf32}
use Rattle.numbers_definitions.proofs.Laws.Whole.{residue_lt}
use Rattle.instructions_riscv.specs.Halves.{low}
use Rattle.relocations_patch.proofs.low_part.Goals as goal

pub returns : goal.returns
returns c =
    (c.lo12.ensures, rw (c.lo12.ensures Elf32) (residue_lt 12 (low 32 c.args.x)))
