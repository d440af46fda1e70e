-- What inner functions ask of their callers.
use Rattle.std.specs.Prelude.{◌≡◌, true, List, ℕ, ◌+◌, ◌^◌, ◌≤◌, ◌<◌, length, get_or}
use Rattle.elf_read.specs.Headers.{has_rvc, address_width, section_count}
use Rattle.elf_read.specs.Sections.{section_at, allocated}
use Rattle.elf_read.specs.Entries.{symbol_count}
use Rattle.elf_read.specs.Requires.{HeaderInside}
use Rattle.relocations_rela.specs.declared.sites.Site.{Site}
use Rattle.relocations_rela.specs.Sites.{count, entry}

-- a site whose RELA section and target lie in the file, whose target does not reach past the end of memory, and which has the object's bit 0 of
-- e_flags
pub record SoundSite (object : List ℕ) (x : Site) : Type 0 where
  pub header : HeaderInside object
  pub entries : x.rela.offset.0 + x.rela.size ≤ length object
  pub bytes : x.target.offset.0 + x.target.size ≤ length object
  pub placed : x.address.0 + x.target.size ≤ 2 ^ address_width object
  pub flagged : x.rvc ≡ has_rvc object

-- such a site, and relocation j of it
pub record There (object : List ℕ) (x : Site) (j : ℕ) : Type 0 where
  pub site : SoundSite object x
  pub there : j < count object x

-- the symbol of relocation j is 0 or in the table
pub record InTable (object : List ℕ) (x : Site) (j : ℕ) : Type 0 where
  pub inside : 0 < (entry object x j).symbol → (entry object x j).symbol < symbol_count object

-- no allocated section, and so no section that is relocated, reaches past the end of memory
pub record Placed (object addresses : List ℕ) : Type 0 where
  pub ends : (i : ℕ) → i < section_count object → allocated (section_at object i) ≡ true → get_or addresses i 0 + (section_at object i).size ≤ 2 ^ address_width object
