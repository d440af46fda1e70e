-- `elf_read::read_kind` meets its contract.
use mathlib.Core.Path.{◌∙◌}
use native.Mathlib.Omega.{arith}
use Rattle.elf_read.specs.Entries.{relocation_at, read_relocation}
use Rattle.elf_read.proofs.Laws.Entries.{low_bytes}
use Rattle.elf_read.proofs.read_kind.Goals as goal

pub returns-in-Elf32 : goal.returns-in-Elf32
unfolding relocation_at read_relocation
returns-in-Elf32 c =
    rw (← c.class_of-class.ensures, c.in-Elf32.is, ← c.entry_place.ensures.0) (c.from.ensures ∙ low_bytes 1 3 _ _ _ (omega arith) c.read.ensures)

pub returns-in-Elf64 : goal.returns-in-Elf64
unfolding relocation_at read_relocation
returns-in-Elf64 c =
    rw (← c.class_of-class.ensures, c.in-Elf64.is, ← c.entry_place-in-Elf64.ensures.0) (low_bytes 4 4 _ _ _ (omega arith) c.read-in-Elf64.ensures)
