-- `tests_relocations::pairs::passed` is safe and ends.
use mathlib.Core.Path.{sym}
use Prim.Native.Nat.{ℕ}
use lib.ListN.{length-replicate}
use Rattle.elf_header.specs.Headers.{max_object}
use Rattle.tests_relocations.proofs.pairs.passed.Goals as goal

pub slice_bounds-sections-end : goal.slice_bounds-sections-end
slice_bounds-sections-end g c = sym (length-replicate {A = ℕ} max_object 0)

pub sections-requires : goal.sections-requires
sections-requires g c = (c.requires, length-replicate {A = ℕ} max_object 0)
