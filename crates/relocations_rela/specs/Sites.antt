-- "How a record is read": a relocation's place, and what its rules look at.
use Rattle.std.specs.Prelude.{ℕ, ◌+◌, List, get_or, ℤ}
use Rattle.numbers_definitions.specs.Whole.{signed}
use Rattle.elf_read.specs.declared.Relocation.{Relocation}
use Rattle.elf_read.specs.Headers.{class_of, has_rvc}
use Rattle.elf_read.specs.Sections.{section_at, relocation_entries}
use Rattle.elf_read.specs.Entries.{bytes_of, relocation_at}
use Rattle.relocations_types.specs.declared.Decision.{Decision}
use Rattle.relocations_types.specs.Types.{decision}
use Rattle.relocations_rela.specs.declared.sites.Site.{Site}

-- the site of RELA section i: its header, and the header, number and address of "the record's own target row"; and the object's bit 0 of e_flags
unfoldable pub site_at : List ℕ → List ℕ → ℕ → Site
site_at object addresses i =
    let h = section_at object i in
    record { rela = h; target = section_at object h.info; index = h.info; address = record { 0 = get_or addresses h.info 0 }; rvc = has_rvc object }

-- how many relocations it has
abbrev pub count : List ℕ → Site → ℕ
count object x = relocation_entries (class_of object) x.rela

-- relocation j: its fields, and what its type asks for
abbrev pub entry : List ℕ → Site → ℕ → Relocation
entry object x j = relocation_at object x.rela j

abbrev pub offset : List ℕ → Site → ℕ → ℕ
offset object x j = (entry object x j).offset.0

abbrev pub decision_at : List ℕ → Site → ℕ → Decision
decision_at object x j = decision (class_of object) (has_rvc object) (entry object x j).kind

-- A, a signed number. In the file it is the third number of the entry, in two's complement; the entry that is read keeps it modulo 2^64
-- (`Addends.addend_is_lem`).
abbrev pub A : List ℕ → Site → ℕ → ℤ
A object x j = signed 64 (entry object x j).addend

-- "P is the place's address"
abbrev pub P : List ℕ → Site → ℕ → ℕ
P object x j = x.address.0 + offset object x j

-- the target's bytes "as found in the object"
abbrev pub found : List ℕ → Site → List ℕ
found object x = bytes_of object x.target
