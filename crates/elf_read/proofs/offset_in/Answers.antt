-- `elf_read::offset_in` meets its contract.
use mathlib.Core.Path.{ap, ◌∙◌}
use Rattle.numbers_definitions.specs.Places.{section_offset}
use Rattle.elf_read.specs.Entries.{relocation_at, read_relocation}
use Rattle.elf_read.proofs.offset_in.Goals as goal

pub returns-in-Elf32 : goal.returns-in-Elf32
unfolding relocation_at read_relocation
returns-in-Elf32 c =
    rw (← c.requires.1, c.in-Elf32.is, ← c.entry_place.ensures.0) (ap section_offset (c.from.ensures ∙ c.read.ensures))

pub returns-in-Elf64 : goal.returns-in-Elf64
unfolding relocation_at read_relocation
returns-in-Elf64 c =
    rw (← c.requires.1, c.in-Elf64.is, ← c.entry_place-in-Elf64.ensures.0) (ap section_offset c.read-in-Elf64.ensures)
