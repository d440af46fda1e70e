-- Laws of sections by their numbers.
use mathlib.Core.Path.{◌≡◌}
use mathlib.Core.Bool.{true, false}
use mathlib.Core.List.{List}
use Prim.Native.Nat.{ℕ, ◌≤◌, ◌<◌}
use lib.Dec.{ltb}
use borrow.Author.Tests.{ltb-true, le-ltb}
use Rattle.numbers_definitions.proofs.Laws.Tests.{and_left}
use Rattle.elf_read.specs.Headers.{section_count}
use Rattle.elf_read.specs.Sections.{section_at, allocated, is_allocated}

-- a number that names an allocated section is in the table
pub allocated_there : (s : List ℕ) (i : ℕ) → is_allocated s i ≡ true → i < section_count s
unfolding is_allocated
allocated_there s i e = ltb-true _ _ (and_left (ltb i (section_count s)) (allocated (section_at s i)) e)

pub not_there : (s : List ℕ) (i : ℕ) → section_count s ≤ i → is_allocated s i ≡ false
unfolding is_allocated
not_there s i h = rw (le-ltb i (section_count s) h)
