-- S of a symbol of the table, and of one past it.
use Rattle.std.specs.Prelude.{Err, None, Ok, Option, Some}
use mathlib.Core.Path.{◌≡◌}
use mathlib.Core.Bool.{true, false, not}
use mathlib.Core.List.{List}
use Prim.Native.Nat.{ℕ, ◌≤◌, ◌<◌}
use native.Mathlib.Omega.{arith}
use lib.ListN.{get_or}
use lib.Dec.{eqb}
use borrow.Author.Tests.{le-leb, lt-leb, ne_eqb}
use Rattle.numbers_definitions.proofs.Laws.Tests.{and_false}
use Rattle.numbers_definitions.specs.declared.Address.{Address}
use Rattle.numbers_definitions.specs.Places.{address}
use Rattle.numbers_definitions.specs.Whole.{plus}
use Rattle.elf_read.specs.Headers.{class_of, address_width}
use Rattle.elf_read.specs.declared.Symbol.{Symbol}
use Rattle.elf_read.specs.Sections.{section_at, is_allocated, symbol_table}
use Rattle.elf_read.specs.Entries.{SHN_UNDEF, SHN_LORESERVE, SHN_ABS, SHN_COMMON, STB_WEAK, symbol_at, symbol_count}
use Rattle.order_lookup.specs.Values.{external_value}
use Rattle.placing_symbols.specs.declared.Reason.TheVariants.{PastTable, NotAllocated, Common, Reserved, Undefined, WrongType}
use Rattle.placing_symbols.specs.Reasons.{because}
use Rattle.placing_symbols.specs.Values.{is_wrong_type, of_section, of_entry, symbol_value}

-- ---- by the section

module _ (object : List ℕ) (given : Option Address) (start : ℕ) (y : Symbol) where
  -- an undefined symbol that is weak, and that has no value in the order
  pub entry_weak : y.section ≡ SHN_UNDEF → y.binding ≡ STB_WEAK → given ≡ None → of_entry object given start y ≡ because WrongType (is_wrong_type y) (Ok (address 0))
  unfolding of_entry of_section
  entry_weak e w g = rw (e, w, g)

  -- an undefined symbol that has a value in the order
  pub entry_given : y.section ≡ SHN_UNDEF → (v : Address) → given ≡ Some v → of_entry object given start y ≡ because WrongType (is_wrong_type y) (Ok v)
  unfolding of_entry of_section
  entry_given e v g = rw (e, g, and_false (not (eqb y.binding STB_WEAK)))

  -- an undefined symbol that is not weak, and that has none
  pub entry_missing : y.section ≡ SHN_UNDEF → (y.binding ≡ STB_WEAK → ⊥) → given ≡ None → of_entry object given start y ≡ Err Undefined
  unfolding of_entry
  entry_missing e w g = rw (e, g, ne_eqb y.binding STB_WEAK w)

  -- a symbol of a section that can be there
  module _ (some : 1 ≤ y.section) (low : y.section < SHN_LORESERVE) where
    pub entry_unplaced : is_allocated object y.section ≡ false → of_entry object given start y ≡ Err NotAllocated
    unfolding of_entry
    entry_unplaced e = rw (le-leb 1 y.section some, le-leb y.section 0xFEFF (omega arith), e)

    pub entry_placed : is_allocated object y.section ≡ true
        → of_entry object given start y ≡ because WrongType (is_wrong_type y) (Ok (address (plus (address_width object) start y.value.0)))
    unfolding of_entry of_section
    entry_placed e =
        rw (
          le-leb 1 y.section some,
          le-leb y.section 0xFEFF (omega arith),
          e,
          lt-leb SHN_LORESERVE y.section low,
          ne_eqb y.section SHN_COMMON (λ z. omega arith),
          ne_eqb y.section SHN_ABS (λ z. omega arith),
          ne_eqb y.section SHN_UNDEF (λ z. omega arith),
        )

  pub entry_absolute : y.section ≡ SHN_ABS → of_entry object given start y ≡ because WrongType (is_wrong_type y) (Ok (address y.value.0))
  unfolding of_entry of_section
  entry_absolute e = rw e

  pub entry_common : y.section ≡ SHN_COMMON → of_entry object given start y ≡ Err Common
  unfolding of_entry
  entry_common e = rw e

  pub entry_reserved : SHN_LORESERVE ≤ y.section → (y.section ≡ SHN_ABS → ⊥) → (y.section ≡ SHN_COMMON → ⊥) → of_entry object given start y ≡ Err Reserved
  unfolding of_entry
  entry_reserved high a c =
      rw (
        le-leb 1 y.section (omega arith),
        lt-leb y.section 0xFEFF (omega arith),
        ne_eqb y.section SHN_COMMON c,
        le-leb SHN_LORESERVE y.section high,
        ne_eqb y.section SHN_ABS a,
      )

-- ---- by the number

module _ (object order addresses : List ℕ) (k : ℕ) (some : 0 < k) where
  -- a symbol of the table that was read
  pub value_read : k < symbol_count object → (y : Symbol) → y ≡ symbol_at object (section_at object (symbol_table object)) k
      → (start : ℕ) → start ≡ get_or addresses y.section 0 → of_entry object (external_value (class_of object) order k) start y ≡ symbol_value object order addresses k
  unfolding symbol_value
  value_read there y read start at = rw (at, read, ne_eqb k 0 (λ z. omega arith), lt-leb (symbol_count object) k there)

  -- a symbol past the table does not resolve
  pub value_past : symbol_count object ≤ k → symbol_value object order addresses k ≡ Err PastTable
  unfolding symbol_value
  value_past out = rw (ne_eqb k 0 (λ z. omega arith), le-leb (symbol_count object) k out)
