-- What functions require of their callers, and what later crates may assume of an object that passes checks 4 and 5.
use Rattle.std.specs.Prelude.{◌≡◌, Bool, true, not, ◌&&◌, ◌||◌, List, ℕ, ◌≤◌, ◌<◌, eqb}
use Rattle.numbers_definitions.specs.Bytes.{le_at}
use Rattle.numbers_definitions.specs.First.{everywhere}
use Rattle.numbers_definitions.specs.Classes.{by}
use Rattle.elf_read.specs.Headers.{class_of, section_size, section_count}
use Rattle.elf_read.specs.Sections.{section_at, counting_rela}
use Rattle.elf_read.specs.Requires.{TableInside}
use Rattle.elf_header.specs.Headers.{header_allowed}
use Rattle.elf_check.specs.Sound.{SoundSection}

-- section i is in the table, and its info names a section of the table
pub record Targeted (s : List ℕ) (i : ℕ) : Type 0 where
  pub table : TableInside s
  pub there : i < section_count s
  pub target : (section_at s i).info < section_count s

-- whether no lower counting RELA has the target of section i, and whether that is so for every counting RELA
unfoldable pub target_new : List ℕ → ℕ → Bool
target_new s i = everywhere (λ j. not (counting_rela s j && eqb (section_at s j).info (section_at s i).info)) i

unfoldable pub targets_differ : List ℕ → Bool
targets_differ s = everywhere (λ i. not (counting_rela s i) || target_new s i) (section_count s)

-- an object that passes checks 4 and 5: propositions instead of tests
pub record SoundObject (s : List ℕ) : Type 0 where
  pub header : header_allowed s ≡ true
  pub table : TableInside s
  pub entries : le_at 2 s (by (class_of s) 46 58) ≡ section_size (class_of s)
  pub some : 1 ≤ section_count s
  pub sections : (i : ℕ) → i < section_count s → SoundSection s i
