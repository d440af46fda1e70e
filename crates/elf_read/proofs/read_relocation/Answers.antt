-- `elf_read::read_relocation` meets its contract.
use native.Mathlib.Omega.{arith}
use Rattle.numbers_definitions.proofs.Laws.Whole.{residue_signed}
use Rattle.elf_read.specs.Entries.{relocation_at, read_relocation}
use Rattle.elf_read.proofs.read_relocation.Goals as goal

pub returns-in-Elf32 : goal.returns-in-Elf32
unfolding relocation_at read_relocation
returns-in-Elf32 c = rw (← c.class_of-class.ensures, c.in-Elf32.is, ← c.entry_place-at.ensures.0) cc

pub returns-in-Elf64 : goal.returns-in-Elf64
unfolding relocation_at read_relocation
returns-in-Elf64 c =
    rw (← c.class_of-class.ensures, c.in-Elf64.is, ← c.entry_place-at-in-Elf64.ensures.0) (cc (residue_signed 64 c.read-in-Elf64-2.result (omega arith)))
