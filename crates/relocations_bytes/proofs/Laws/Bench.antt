-- Document 01's bench numbers marked K, those of class 2, of jumps across the top of memory and of objects without short instructions, as one
-- list with one claim. Each number is what the definitions give of a whole object with one relocation: the bytes of its section afterwards, or the number of the first rule that the relocation breaks.
use mathlib.Core.Path.{◌≡◌, refl}
use mathlib.Core.List.{List, [], ◌∷◌, ◌++◌, map}
use Prim.Native.Nat.{ℕ}
use lib.IntN.{ℤ, pos, neg_ℤ}
use Rattle.numbers_definitions.specs.Bytes.{le, le_at, bytes, part}
use Rattle.numbers_definitions.specs.First.{first}
use Rattle.numbers_definitions.specs.Sums.{sum}
use Rattle.numbers_definitions.specs.Powers.{ceil_power, ceil_log}
use Rattle.numbers_definitions.specs.Whole.{residue, signed, within, even, minus}
use Rattle.instructions_fields.specs.Layouts.{read, put}
use Rattle.instructions_riscv.specs.Halves.{high, low}
use Rattle.instructions_riscv.specs.Forms.{has_form}
use Rattle.instructions_riscv.specs.Ranges.{reaches, keeps_alignment}
use Rattle.relocations_types.specs.Types.{table, among, lookup, decision}
use Rattle.elf_read.specs.Headers.{class_of, has_rvc}
use Rattle.elf_read.specs.Sections.{read_section, section_at, allocated, counting_rela, relocations_in, is_allocated}
use Rattle.elf_read.specs.Entries.{bytes_of, read_symbol, read_relocation, relocation_at, location_of}
use Rattle.relocations_rela.specs.Sites.{site_at}
use Rattle.relocations_rela.specs.Shape.{never_falls, stays_inside, previous, no_overlap, shape_well}
use Rattle.placing_symbols.specs.Values.{symbol_value}
use Rattle.relocations_rules.specs.Rules.{symbol_well, stands_well, form_well, pair_well}
use Rattle.std.specs.Prelude.{None, Option, Some}
use Rattle.relocations_rules.specs.declared.Finding.{Finding}
use Rattle.relocations_rules.specs.Search.{number, first_broken, finding, finding_of}
use Rattle.relocations_bytes.specs.Patches.{patched}
use Rattle.relocations_bytes.specs.Sections.{sum_at, applied, after, rela_of, relocated}

-- what the definitions give, and what document 01 says
pub record Number : Type 0 where
  pub given : ℤ
  pub said : ℤ

abbrev ◌is◌ : ℤ → ℤ → Number
a is b = record { given = a; said = b }

infixl 20 ◌is◌
-- ---- an object with one relocation

unfoldable pub words : List ℕ → List ℕ
words [] = []
words (w ∷ ws) = bytes 4 w ++ words ws

-- e_flags is flags; section 1 is the eight bytes w; its relocation is at offset 0, of a type, with symbol 0, so that S is 0, and with an addend
unfoldable pub object_of : ℕ → ℕ → ℕ → ℕ → List ℕ
object_of flags type w addend =
    -- the header
    words (0x464C457F ∷ 0x00010101 ∷ 0 ∷ 0 ∷ 0x00F30001 ∷ 1 ∷ 0 ∷ 0 ∷ 72 ∷ flags ∷ 52 ∷ 0x00280000 ∷ 3 ∷ [])
    -- the section, the relocation
    ++ bytes 8 w
    ++ words (0 ∷ type ∷ addend ∷ [])
    -- the section header table: NULL, PROGBITS, RELA
    ++ words (0 ∷ 0 ∷ 0 ∷ 0 ∷ 0 ∷ 0 ∷ 0 ∷ 0 ∷ 0 ∷ 0 ∷ [])
    ++ words (0 ∷ 1 ∷ 2 ∷ 0 ∷ 52 ∷ 8 ∷ 0 ∷ 0 ∷ 1 ∷ 0 ∷ [])
    ++ words (0 ∷ 4 ∷ 0 ∷ 0 ∷ 60 ∷ 12 ∷ 0 ∷ 1 ∷ 4 ∷ 12 ∷ [])

-- the bytes w after a relocation of a type with S + A at P, as one number; bit 0 of e_flags is set
abbrev laid : ℕ → ℕ → ℕ → ℕ → ℤ
laid type w a p = pos (le_at 8 (relocated (object_of 1 type w a) [] (0 ∷ p ∷ []) 1) 0)

-- the number of the first rule that it breaks, or 0 if it breaks none
abbrev number_given : Option Finding → ℤ
number_given None = pos 0
number_given (Some f) = pos (number f)

abbrev gives : ℕ → ℕ → ℕ → ℕ → ℤ
gives type w a p = number_given (finding_of (object_of 1 type w a) [] (0 ∷ p ∷ []) 0)

-- the same where the bit is clear, and all others are set
abbrev without : ℕ → ℕ → ℕ → ℕ → ℤ
without type w a p = number_given (finding_of (object_of 0xFFFFFFFE type w a) [] (0 ∷ p ∷ []) 0)

-- ---- the same in class 2

unfoldable pub doubles : List ℕ → List ℕ
doubles [] = []
doubles (d ∷ ds) = bytes 8 d ++ doubles ds

unfoldable pub object_of64 : ℕ → ℕ → ℕ → ℕ → List ℕ
object_of64 flags type w addend =
    -- the header
    words (0x464C457F ∷ 0x00010102 ∷ 0 ∷ 0 ∷ 0x00F30001 ∷ 1 ∷ [])
    ++ doubles (0 ∷ 0 ∷ 96 ∷ [])
    ++ words (flags ∷ 64 ∷ 0x00400000 ∷ 3 ∷ [])
    -- the section, the relocation
    ++ doubles (w ∷ 0 ∷ type ∷ addend ∷ [])
    -- the section header table: NULL, PROGBITS, RELA
    ++ doubles (0 ∷ 0 ∷ 0 ∷ 0 ∷ 0 ∷ 0 ∷ 0 ∷ 0 ∷ [])
    ++ (words (0 ∷ 1 ∷ []) ++ doubles (2 ∷ 0 ∷ 64 ∷ 8 ∷ []) ++ words (0 ∷ 0 ∷ []) ++ doubles (1 ∷ 0 ∷ []))
    ++ (words (0 ∷ 4 ∷ []) ++ doubles (0 ∷ 0 ∷ 72 ∷ 24 ∷ []) ++ words (0 ∷ 1 ∷ []) ++ doubles (8 ∷ 24 ∷ []))

abbrev laid64 : ℕ → ℕ → ℕ → ℕ → ℤ
laid64 type w a p = pos (le_at 8 (relocated (object_of64 1 type w a) [] (0 ∷ p ∷ []) 1) 0)

abbrev gives64 : ℕ → ℕ → ℕ → ℕ → ℤ
gives64 type w a p = number_given (finding_of (object_of64 1 type w a) [] (0 ∷ p ∷ []) 0)

abbrev without64 : ℕ → ℕ → ℕ → ℕ → ℤ
without64 type w a p = number_given (finding_of (object_of64 0xFFFFFFFE type w a) [] (0 ∷ p ∷ []) 0)

unfoldable pub numbers : List Number
numbers =
    -- "T 0x7FFFF7FF: high 0x7FFFF, low 2,047. 0x7FFFF800: 0x80000, -2,048."
    (pos (high 32 0x7FFFF7FF) is pos 0x7FFFF)
    ∷ (low 32 0x7FFFF7FF is pos 2047)
    ∷ (pos (high 32 0x7FFFF800) is pos 0x80000)
    ∷ (low 32 0x7FFFF800 is neg_ℤ (pos 2048))
    -- "T 0x12345FFF: 00000537 becomes 12346537, 00050513 becomes FFF50513."
    ∷ (laid 26 0x00000537 0x12345FFF 0 is pos 0x12346537)
    ∷ (laid 27 0x00050513 0x12345FFF 0 is pos 0xFFF50513)
    -- "CALL at 0x1000 to 0x2800: 00000097 000080E7 becomes 00002097 800080E7."
    ∷ (laid 18 0x000080E700000097 0x2800 0x1000 is pos 0x800080E700002097)
    ∷ (laid 19 0x000080E700000097 0x2800 0x1000 is pos 0x800080E700002097)
    -- "JAL 000000EF, distance 8: 008000EF. Distance 1,048,574 done, 1,048,576 gives 13."; document 02: with bit 0 of e_flags set
    ∷ (laid 17 0x000000EF 0x1008 0x1000 is pos 0x008000EF)
    ∷ (gives 17 0x000000EF 0x200FFE 0x101000 is pos 0)
    ∷ (without 17 0x000000EF 0x200FFE 0x101000 is pos 13)
    ∷ (gives 17 0x000000EF 0x201000 0x101000 is pos 13)
    -- "BRANCH 00000063, -4: FE000EE3. 4,094 done, 4,096 gives 13."; document 02: with bit 0 of e_flags set
    ∷ (laid 16 0x00000063 0xFFC 0x1000 is pos 0xFE000EE3)
    ∷ (gives 16 0x00000063 0x1FFE 0x1000 is pos 0)
    ∷ (without 16 0x00000063 0x1FFE 0x1000 is pos 13)
    ∷ (gives 16 0x00000063 0x2000 0x1000 is pos 13)
    -- "RVC_JUMP A001, -2: BFFD. RVC_BRANCH C101, 8: C501."
    ∷ (laid 45 0xA001 0xFFE 0x1000 is pos 0xBFFD)
    ∷ (laid 44 0xC101 0x1008 0x1000 is pos 0xC501)
    -- "ADD8, V F0, S + A 20 hex: 10. SUB6, byte C1, S + A 2: FF."
    ∷ (laid 33 0xF0 0x20 0 is pos 0x10)
    ∷ (laid 52 0xC1 2 0 is pos 0xFF)
    -- "ALIGN A 6: P 0x1002 done, P 0x1000 gives 14."
    ∷ (gives 43 0 6 0x1002 is pos 0)
    ∷ (gives 43 0 6 0x1000 is pos 14)
    -- class 2, 23: both ends of its range are done, and one step past each gives 13; the ends of 26 and of 18 are the same
    ∷ (laid64 23 0x00000097 0x407FFFF7FF 0x4000000000 is pos 0x7FFFF097)
    ∷ (gives64 23 0x00000097 0x407FFFF7FF 0x4000000000 is pos 0)
    ∷ (gives64 23 0x00000097 0x407FFFF800 0x4000000000 is pos 13)
    ∷ (laid64 23 0x00000097 0x3F7FFFF800 0x4000000000 is pos 0x80000097)
    ∷ (gives64 23 0x00000097 0x3F7FFFF800 0x4000000000 is pos 0)
    ∷ (gives64 23 0x00000097 0x3F7FFFF7FF 0x4000000000 is pos 13)
    ∷ (gives64 26 0x00000537 0x7FFFF7FF 0 is pos 0)
    ∷ (gives64 26 0x00000537 0x7FFFF800 0 is pos 13)
    ∷ (laid64 26 0x00000537 0xFFFFFFFF7FFFF800 0 is pos 0x80000537)
    ∷ (gives64 26 0x00000537 0xFFFFFFFF7FFFF7FF 0 is pos 13)
    ∷ (gives64 18 0x000080E700000097 0x407FFFF7FE 0x4000000000 is pos 0)
    ∷ (gives64 18 0x000080E700000097 0x407FFFF7FF 0x4000000000 is pos 13)
    ∷ (gives64 18 0x000080E700000097 0x407FFFF800 0x4000000000 is pos 13)
    -- type 2 with T above 2^63; class 1 has no type 2, and type numbers are not cut to eight bits
    ∷ (laid64 2 0 0x8000000000001234 0 is pos 0x8000000000001234)
    ∷ (gives 2 0 0x1234 0 is pos 9)
    ∷ (gives64 258 0 0x1234 0 is pos 9)
    -- opcode 0x1B as _I; in class 1 it gives 11
    ∷ (laid64 27 0x0005051B 0x12345FFF 0 is pos 0xFFF5051B)
    ∷ (gives 27 0x0005051B 0x12345FFF 0 is pos 11)
    -- RVC_JUMP with funct3 1, which is C.JAL, is done in class 1 and gives 11 in class 2
    ∷ (gives 45 0x2001 0xFFE 0x1000 is pos 0)
    ∷ (gives64 45 0x2001 0xFFE 0x1000 is pos 11)
    -- the low 32 bits of T and of T - P
    ∷ (laid64 1 0 0x123456789A 0 is pos 0x3456789A)
    ∷ (laid64 57 0 0x1000 0x1004 is pos 0xFFFFFFFC)
    -- "a JAL at 0xFFFFFFF0 to 0x10 has distance 32 and is valid"; the same backwards, by a branch and -8; RVC_JUMP; and at 2^64
    ∷ (laid 17 0x000000EF 0x10 0xFFFFFFF0 is pos 0x020000EF)
    ∷ (gives 17 0x000000EF 0x10 0xFFFFFFF0 is pos 0)
    ∷ (laid 16 0x00000063 0xFFFFFFFC 0x4 is pos 0xFE000CE3)
    ∷ (gives 16 0x00000063 0xFFFFFFFC 0x4 is pos 0)
    ∷ (laid 45 0xA001 0 0xFFFFFFF8 is pos 0xA021)
    ∷ (gives 45 0xA001 0 0xFFFFFFF8 is pos 0)
    ∷ (laid64 17 0x000000EF 0x10 0xFFFFFFFFFFFFFFF0 is pos 0x020000EF)
    ∷ (gives64 17 0x000000EF 0x10 0xFFFFFFFFFFFFFFF0 is pos 0)
    ∷ (laid64 16 0x00000063 0xFFFFFFFFFFFFFFFC 0x4 is pos 0xFE000CE3)
    ∷ (gives64 16 0x00000063 0xFFFFFFFFFFFFFFFC 0x4 is pos 0)
    ∷ (laid64 45 0xA001 0 0xFFFFFFFFFFFFFFF8 is pos 0xA021)
    ∷ (gives64 45 0xA001 0 0xFFFFFFFFFFFFFFF8 is pos 0)
    -- in class 2 nothing wraps at 2^32
    ∷ (gives64 17 0x000000EF 0x10 0xFFFFFFF0 is pos 13)
    -- the farthest JAL across the top, ahead and back, is done, and one step more gives 13; so does half of all addresses
    ∷ (gives 17 0x000000EF 0xFFFEE 0xFFFFFFF0 is pos 0)
    ∷ (gives 17 0x000000EF 0xFFFF0 0xFFFFFFF0 is pos 13)
    ∷ (gives 17 0x000000EF 0xFFF00010 0x10 is pos 0)
    ∷ (gives 17 0x000000EF 0xFFF0000E 0x10 is pos 13)
    ∷ (gives 17 0x000000EF 0x80000000 0 is pos 13)
    ∷ (gives64 17 0x000000EF 0xFFFEE 0xFFFFFFFFFFFFFFF0 is pos 0)
    ∷ (gives64 17 0x000000EF 0xFFFF0 0xFFFFFFFFFFFFFFF0 is pos 13)
    ∷ (gives64 17 0x000000EF 0xFFFFFFFFFFF00010 0x10 is pos 0)
    ∷ (gives64 17 0x000000EF 0xFFFFFFFFFFF0000E 0x10 is pos 13)
    ∷ (gives64 17 0x000000EF 0x8000000000000000 0 is pos 13)
    -- "If e_flags bit 0 is clear, types 44 and 45 are refused with 9", whatever else they break: here the form and the distance
    ∷ (without 44 0xC101 0x1008 0x1000 is pos 9)
    ∷ (without 45 0xA001 0xFFE 0x1000 is pos 9)
    ∷ (without 45 0 0x101001 0x1000 is pos 9)
    ∷ (without64 44 0xC101 0x1008 0x1000 is pos 9)
    ∷ (without64 45 0xA001 0xFFE 0x1000 is pos 9)
    -- "a distance for 16 to 19 that isn't a multiple of 4 with 13": 4 is done and 2 is not, ahead, back, and across the top
    ∷ (without 16 0x00000063 0x1004 0x1000 is pos 0)
    ∷ (without 16 0x00000063 0x1002 0x1000 is pos 13)
    ∷ (without 17 0x000000EF 0xFFC 0x1000 is pos 0)
    ∷ (without 17 0x000000EF 0xFFE 0x1000 is pos 13)
    ∷ (without 17 0x000000EF 0x10 0xFFFFFFF0 is pos 0)
    ∷ (without 17 0x000000EF 0x10 0xFFFFFFF2 is pos 13)
    ∷ (without 18 0x000080E700000097 0x2800 0x1000 is pos 0)
    ∷ (without 18 0x000080E700000097 0x2802 0x1000 is pos 13)
    ∷ (without 19 0x000080E700000097 0xFFE 0x1000 is pos 13)
    ∷ (without64 16 0x00000063 0x1FFE 0x1000 is pos 13)
    ∷ (without64 17 0x000000EF 0x200FFE 0x101000 is pos 13)
    ∷ (without64 17 0x000000EF 0x10 0xFFFFFFFFFFFFFFF0 is pos 0)
    ∷ (without64 17 0x000000EF 0x10 0xFFFFFFFFFFFFFFF2 is pos 13)
    ∷ (without64 18 0x000080E700000097 0x407FFFF7FC 0x4000000000 is pos 0)
    ∷ (without64 18 0x000080E700000097 0x407FFFF7FE 0x4000000000 is pos 13)
    ∷ (without64 19 0x000080E700000097 0x407FFFF7FE 0x4000000000 is pos 13)
    -- the distance counts and not the place: an instruction may stand at 2 modulo 4
    ∷ (without 17 0x000000EF 0x100A 0x1002 is pos 0)
    -- nothing else is refused
    ∷ (without 23 0x00000097 0x1002 0x1000 is pos 0)
    ∷ (without 26 0x00000537 0x1002 0 is pos 0)
    ∷ (without64 23 0x00000097 0x1002 0x1000 is pos 0)
    ∷ []

pub right : map (λ n. n.given) numbers ≡ map (λ n. n.said) numbers
unfolding numbers object_of object_of64 words doubles bytes le le_at part first sum ceil_power ceil_log residue signed within even minus read put high low has_form reaches keeps_alignment decision table lookup among class_of has_rvc read_section section_at allocated is_allocated counting_rela relocations_in bytes_of read_symbol read_relocation relocation_at location_of site_at never_falls stays_inside previous no_overlap shape_well symbol_value symbol_well stands_well form_well pair_well finding first_broken finding_of patched sum_at applied after rela_of relocated
right = refl
