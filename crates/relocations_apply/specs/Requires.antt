-- What functions require of their callers.
use Rattle.std.specs.Prelude.{◌≡◌, true, List, ℕ, ◌+◌, ◌≤◌, ◌<◌, length, get_or, Option, None, Some}
use Rattle.numbers_bytes.specs.Widths.{is_width}
use Rattle.elf_read.specs.Headers.{section_count}
use Rattle.elf_read.specs.Sections.{relocations_below}
use Rattle.relocations_bytes.specs.Sections.{rela_of}
use Rattle.relocations_rela.specs.declared.sites.Site.{Site}
use Rattle.relocations_rela.specs.Sites.{offset}
use Rattle.relocations_rela.specs.Requires.{There}
use Rattle.relocations_apply.specs.declared.Rela.{Rela}

-- relocation j of a site can be stored in a part of some length: it leaves no bytes, or so many that they are a number and lie in the part
pub record Storable (object : List ℕ) (x : Site) (j size length : ℕ) : Type 0 where
  pub there : There object x j
  pub inside : offset object x j + size ≤ length
  pub width : 0 < size → is_width size ≡ true

-- a list with an entry for each section
pub record Sided (object : List ℕ) (relas : List (Option Rela)) : Type 0 where
  pub long : section_count object ≤ length relas

-- For each section: the number of the RELA section that relocates it, and the number of that RELA section's first relocation, or None
-- where there is none.
pub record Indexed (object : List ℕ) (relas : List (Option Rela)) : Type 0 where
  pub sided : Sided object relas
  pub none : (t : ℕ) → t < section_count object → get_or relas t None ≡ None → section_count object ≤ rela_of object t
  pub some : (t : ℕ) (r : Rela) → t < section_count object → get_or relas t None ≡ Some r
      → (r.section ≡ rela_of object t) × (rela_of object t < section_count object) × (r.first ≡ relocations_below object (rela_of object t))
