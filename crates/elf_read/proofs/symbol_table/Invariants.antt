-- `elf_read::symbol_table` meets its contract.
use mathlib.Core.Path.{◌≡◌}
use Prim.Native.Nat.{ℕ, ◌<◌}
use mathlib.Core.Bool.{false}
use lib.Dec.{eqb}
use Rattle.elf_read.specs.Sections.{SYMTAB, section_at}
use Rattle.elf_read.proofs.symbol_table.Given as goal

abbrev pub invariant-loop-i : goal.invariant-loop-i
invariant-loop-i l = (j : ℕ) → j < l.i → eqb (section_at l.object j).kind SYMTAB ≡ false
