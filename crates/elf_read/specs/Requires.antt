-- What functions require of their callers.
use Rattle.std.specs.Prelude.{List, ℕ, ◌+◌, ◌*◌, ◌≤◌, ◌<◌, length}
use Rattle.elf_read.specs.declared.Section.{Section}
use Rattle.elf_read.specs.Headers.{class_of, header_size, section_size, section_table, section_count, max_sections}

-- the file is long enough for the header of its class
abbrev pub HeaderInside : List ℕ → Type 0
HeaderInside s = header_size (class_of s) ≤ length s

-- all section headers lie in the file, and there are at most `max_sections`
pub record TableInside (s : List ℕ) : Type 0 where
  pub header : HeaderInside s
  pub few : section_count s ≤ max_sections
  pub inside : section_table s + section_size (class_of s) * section_count s ≤ length s

-- all section headers lie in the file, and i is the number of one
abbrev pub SectionInside : List ℕ → ℕ → Type 0
SectionInside s i = TableInside s × (i < section_count s)

-- the bytes of a section lie in the file
pub record Inside (s : List ℕ) (h : Section) : Type 0 where
  pub inside : h.offset.0 + h.size ≤ length s

-- entry k of a section that has n entries, whose bytes lie in a file with a header
pub record EntryInside (s : List ℕ) (h : Section) (n k : ℕ) : Type 0 where
  pub header : HeaderInside s
  pub bytes : Inside s h
  pub there : k < n
