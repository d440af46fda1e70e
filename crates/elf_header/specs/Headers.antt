-- Document 01, "What the object may hold": the header of a file (System V gABI). `by c m n` is m in a file of class 1 and n in a file of
-- class 2.
use Rattle.std.specs.Prelude.{ℕ, ◌+◌, ◌*◌, Bool, ◌&&◌, ◌||◌, List, length, leb, eqb}
use Rattle.numbers_definitions.specs.Bytes.{le_at}
use Rattle.numbers_definitions.specs.Classes.{by}
use Rattle.elf_read.specs.Headers.{class_of, header_size, section_size, section_table, section_count, max_sections}

abbrev pub max_object : ℕ
max_object = 1048576

-- check 4: "at least 52 bytes, magic 7F 45 4C 46, class 1, data 1, ident version 1, e_type 1, e_machine 243, e_version 1, e_ehsize 52",
-- and "at most 65,536 bytes". Document 02: "Accept ELF class 2: header 64 bytes", and "object and image up to 1,048,576 bytes". e_flags
-- refuses nothing.
unfoldable pub header_allowed : List ℕ → Bool
header_allowed s =
    leb (length s) max_object
    && leb (header_size (class_of s)) (length s)
    && eqb (le_at 4 s 0) 0x464C457F
    && (eqb (le_at 1 s 4) 1 || eqb (le_at 1 s 4) 2)
    && eqb (le_at 1 s 5) 1
    && eqb (le_at 1 s 6) 1
    && eqb (le_at 2 s 16) 1
    && eqb (le_at 2 s 18) 243
    && eqb (le_at 4 s 20) 1
    && eqb (le_at 2 s (by (class_of s) 40 52)) (header_size (class_of s))

-- check 5 at place 0: "e_shentsize 40, 1 to 32 rows of 40 bytes, wholly inside the file"; in class 2 "rows 64"; document 02: up to 128
unfoldable pub table_allowed : List ℕ → Bool
table_allowed s =
    eqb (le_at 2 s (by (class_of s) 46 58)) (section_size (class_of s))
    && leb 1 (section_count s)
    && leb (section_count s) max_sections
    && leb (section_table s + section_size (class_of s) * section_count s) (length s)
