-- `relocations_types::word64` meets its contract.
use mathlib.Core.Path.{sym, ap, ◌∙◌}
use Rattle.relocations_types.specs.Types.{lines_of, among, table, lookup}
use Rattle.relocations_types.proofs.word64.Goals as goal

pub returns-in-Elf32 : goal.returns-in-Elf32
unfolding lookup table among
returns-in-Elf32 c = sym (ap (λ k. lookup 2 (lines_of k)) c.in-Elf32.is)

pub returns-in-Elf64 : goal.returns-in-Elf64
unfolding lookup table among
returns-in-Elf64 c = c.of.ensures ∙ sym (ap (λ k. lookup 2 (lines_of k)) c.in-Elf64.is)
