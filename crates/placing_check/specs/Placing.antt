-- Check 8, "Placing". `addresses` is the array that has an entry for each section.
use Rattle.std.specs.Prelude.{ℕ, ◌+◌, ◌%◌, ◌^◌, Bool, not, cond, ◌&&◌, ◌||◌, List, get_or, leb, ltb, eqb, Result, ⊤}
use Rattle.numbers_definitions.specs.First.{everywhere}
use Rattle.elf_read.specs.declared.Section.{Section}
use Rattle.elf_read.specs.Headers.{address_width, section_count}
use Rattle.elf_read.specs.Sections.{section_at, allocated, loaded}
use Rattle.placing_match.specs.Placements.{lowest}

-- the first address after a section
unfoldable pub end_of : List ℕ → List ℕ → ℕ → ℕ
end_of object addresses i = get_or addresses i 0 + (section_at object i).size

-- "an address is a multiple of the row's alignment (0 counts as 1)"
unfoldable pub unit : ℕ → ℕ
unit alignment = cond (eqb alignment 0) 1 alignment

unfoldable pub aligned : List ℕ → List ℕ → ℕ → Bool
aligned object addresses i = eqb (get_or addresses i 0 % unit (section_at object i).alignment) 0

-- "the row ends at or below 2^32", in class 2 2^64: the end of memory
unfoldable pub ends_in_memory : List ℕ → List ℕ → ℕ → Bool
ends_in_memory object addresses i = leb (end_of object addresses i) (2 ^ address_width object)

-- a section has bytes in the image: "a laid row of size above 0"
unfoldable pub has_bytes : Section → Bool
has_bytes h = loaded h && ltb 0 h.size

-- "a laid row of size above 0 lies in the window", which is `len` bytes from the base on
unfoldable pub in_window : List ℕ → List ℕ → ℕ → ℕ → ℕ → Bool
in_window object addresses base len i =
    not (has_bytes (section_at object i)) || (leb base (get_or addresses i 0) && leb (end_of object addresses i) (base + len))

-- two sections of size above 0 share an address
unfoldable pub share : List ℕ → List ℕ → ℕ → ℕ → Bool
share object addresses i j =
    ltb 0 (section_at object i).size
    && ltb 0 (section_at object j).size
    && ltb (get_or addresses i 0) (end_of object addresses j)
    && ltb (get_or addresses j 0) (end_of object addresses i)

-- "two rows of size above 0 share no address, the higher row being at fault"
unfoldable pub apart : List ℕ → List ℕ → ℕ → Bool
apart object addresses i = everywhere (λ j. not (allocated (section_at object j) && share object addresses i j)) i

-- section i is allocated and breaks a rule
unfoldable pub misplaced : List ℕ → List ℕ → ℕ → ℕ → ℕ → Bool
misplaced object addresses base len i =
    allocated (section_at object i)
    && not (aligned object addresses i && ends_in_memory object addresses i && in_window object addresses base len i && apart object addresses i)

-- check 8: the lowest section that breaks a rule
unfoldable pub placing_check : List ℕ → List ℕ → ℕ → ℕ → Result ⊤ ℕ
placing_check object addresses base len = lowest (misplaced object addresses base len) (section_count object)
