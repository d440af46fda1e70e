-- S, the value of a symbol ("How a record is read"), or why it has none: document 02, Ticket 9, "Wherever a symbol is looked up, the answer
-- becomes its value or one of" seven reasons, "the first that applies, in this order". The last of them, "not in the target row (24 and
-- 25 only)", is asked of relocations, in `relocations_rules`.
use Rattle.std.specs.Prelude.{ℕ, Bool, not, cond, ◌&&◌, ◌||◌, List, get_or, leb, eqb, None, Ok, Option, Some}
use Rattle.numbers_definitions.specs.declared.Address.{Address}
use Rattle.numbers_definitions.specs.Places.{address}
use Rattle.numbers_definitions.specs.Whole.{plus}
use Rattle.elf_read.specs.declared.Symbol.{Symbol}
use Rattle.elf_read.specs.Headers.{class_of, address_width}
use Rattle.elf_read.specs.Sections.{section_at, is_allocated, symbol_table}
use Rattle.elf_read.specs.Entries.{SHN_UNDEF, SHN_LORESERVE, SHN_ABS, SHN_COMMON, STB_WEAK, STT_TLS, STT_GNU_IFUNC, symbol_at, symbol_count}
use Rattle.order_lookup.specs.Values.{is_given, external_value}
use Rattle.placing_symbols.specs.declared.Reason.TheVariants.{PastTable, NotAllocated, Common, Reserved, Undefined, WrongType}
use Rattle.placing_symbols.specs.Reasons.{because, SymbolValue}

-- ---- whether a reason applies to a symbol of the table; `given` is what the order gives to the symbol

-- "row missing or not allocated (sections 1 to 0xFEFF)"
abbrev pub not_allocated : List ℕ → Symbol → Bool
not_allocated object y = leb 1 y.section && leb y.section 0xFEFF && not (is_allocated object y.section)

-- "common (section 0xFFF2)"
abbrev pub is_common : Symbol → Bool
is_common y = eqb y.section SHN_COMMON

-- "reserved section (0xFF00 and up, but for 0xFFF1 and 0xFFF2)"
abbrev pub is_reserved : Symbol → Bool
is_reserved y = leb SHN_LORESERVE y.section && not (eqb y.section SHN_ABS) && not (eqb y.section SHN_COMMON)

-- "undefined, not weak and without a value in the order"
abbrev pub is_missing : Option Address → Symbol → Bool
is_missing given y = eqb y.section SHN_UNDEF && not (eqb y.binding STB_WEAK) && not (is_given given)

-- "wrong type (TLS or IFUNC)"
abbrev pub is_wrong_type : Symbol → Bool
is_wrong_type y = eqb y.kind STT_TLS || eqb y.kind STT_GNU_IFUNC

-- ---- the value of a symbol to which no reason applies

-- "for an undefined symbol the order's value, else 0 if weak": without a value only a weak one gets here
abbrev pub of_undefined : Option Address → Address
of_undefined (Some v) = v
of_undefined None = address 0

-- "placed address plus value modulo 2^32 for a symbol of an allocated row; the value for section 0xFFF1; for an undefined symbol the
-- order's value, else 0 if weak". In class 2, "S and T are taken modulo 2^64". Section 0xFFF1 means an absolute symbol: it is in no
-- section, and its value is the address itself. `start` is the placed address of the section.
unfoldable pub of_section : List ℕ → Option Address → ℕ → Symbol → Address
of_section object given start y =
    cond (eqb y.section SHN_UNDEF) (of_undefined given)
    (cond (eqb y.section SHN_ABS) (address y.value.0)
    (address (plus (address_width object) start y.value.0)))

-- ---- S, or the reason

-- of a symbol of the table that is not symbol 0
unfoldable pub of_entry : List ℕ → Option Address → ℕ → Symbol → SymbolValue
of_entry object given start y =
    because NotAllocated (not_allocated object y)
    (because Common (is_common y)
    (because Reserved (is_reserved y)
    (because Undefined (is_missing given y)
    (because WrongType (is_wrong_type y)
    (Ok (of_section object given start y))))))

-- "0 for symbol 0, whatever its entry holds and even in an empty table": "Symbol 0 always has its value"
unfoldable pub symbol_value : List ℕ → List ℕ → List ℕ → ℕ → SymbolValue
symbol_value object order addresses k =
    let y = symbol_at object (section_at object (symbol_table object)) k in
    cond (eqb k 0) (Ok (address 0))
    (because PastTable (leb (symbol_count object) k)
    (of_entry object (external_value (class_of object) order k) (get_or addresses y.section 0) y))
