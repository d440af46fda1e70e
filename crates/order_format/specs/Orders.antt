-- Document 01, "Order": the bytes that say where sections go and which values undefined symbols have.
--
--     base          count 1; one u32 (u64 in an order for class 2)
--     placements    count at most 128; section u32, address u32 (u64)
--     externals     count at most 8,192; symbol u32, value u32 (u64)         (document 01: outside values)
--
-- Document 02: "The order's base, addresses and values become u64 for such an object": one of class 2; "Rows and placements up to 128, symbols
-- and outside values up to 8,192".
--
-- "Both lists strictly ascending by index; no byte left over."
use Rattle.order_format.specs.declared.OrderHeader.{OrderHeader}
use Rattle.std.specs.Prelude.{ℕ, suc, ◌+◌, ◌-◌, ◌*◌, Bool, cond, ◌&&◌, List, [], ◌∷◌, ◌++◌, length, leb, ltb, eqb, None, Option, Some}
use Rattle.numbers_definitions.specs.Bytes.{le_at, bytes}
use Rattle.numbers_definitions.specs.Classes.{address_bytes}
use Rattle.numbers_definitions.specs.First.{everywhere, tabulate}
use Rattle.numbers_definitions.specs.Places.{address}
use Rattle.numbers_definitions.specs.declared.Address.{Address}
use Rattle.numbers_definitions.specs.declared.Class.{Class}
use Rattle.order_format.specs.declared.Entry.{Entry}

-- ---- the format

-- what an order says
pub record Order : Type 0 where
  pub base : Address
  pub placements : List Entry
  pub externals : List Entry

-- document 01: 32 and 1,024; document 02: 128 and 8,192
abbrev pub max_placements : ℕ
max_placements = 128

abbrev pub max_externals : ℕ
max_externals = 8192

-- the sizes in bytes of an entry, and of an order without entries, which is three counts and the base
abbrev pub entry_size : Class → ℕ
entry_size c = 4 + address_bytes c

abbrev pub empty_size : Class → ℕ
empty_size c = 12 + address_bytes c

-- placements start after the base and their count; after p placements come the count of the external values and the values themselves
abbrev pub placements_start : Class → ℕ
placements_start c = 8 + address_bytes c

abbrev pub external_count_at : Class → ℕ → ℕ
external_count_at c p = placements_start c + entry_size c * p

abbrev pub externals_at : Class → ℕ → ℕ
externals_at c p = empty_size c + entry_size c * p

-- the bytes of entries: each is the number of a section or a symbol, and its address or value
unfoldable pub encode_entries : Class → List Entry → List ℕ
encode_entries c [] = []
encode_entries c (e ∷ es) = bytes 4 e.index ++ bytes (address_bytes c) e.value.0 ++ encode_entries c es

-- the bytes of an order: each part after its count
unfoldable pub encode : Class → Order → List ℕ
encode c o =
    bytes 4 1
    ++ bytes (address_bytes c) o.base.0
    ++ bytes 4 (length o.placements)
    ++ encode_entries c o.placements
    ++ bytes 4 (length o.externals)
    ++ encode_entries c o.externals

-- ---- reading one

-- entry i of the list that starts at place `at`
unfoldable pub entry_at : Class → List ℕ → ℕ → ℕ → Entry
entry_at c s at i =
    record { index = le_at 4 s (at + entry_size c * i); value = address (le_at (address_bytes c) s (at + entry_size c * i + 4)) }

-- the base, and the placements
abbrev pub base : Class → List ℕ → ℕ
base c s = le_at (address_bytes c) s 4

abbrev pub placement_count : Class → List ℕ → ℕ
placement_count c s = le_at 4 s (4 + address_bytes c)

abbrev pub placement : Class → List ℕ → ℕ → Entry
placement c s i = entry_at c s (placements_start c) i

-- the external values
abbrev pub externals_start : Class → List ℕ → ℕ
externals_start c s = externals_at c (placement_count c s)

abbrev pub external_count : Class → List ℕ → ℕ
external_count c s = le_at 4 s (external_count_at c (placement_count c s))

abbrev pub external : Class → List ℕ → ℕ → Entry
external c s i = entry_at c s (externals_start c s) i

-- n numbers, each above the one before it
unfoldable pub ascending : (ℕ → ℕ) → ℕ → Bool
ascending f n = everywhere (λ i. ltb (f i) (f (suc i))) (n - 1)

-- check 2: the bytes are an order
unfoldable pub well_formed : Class → List ℕ → Bool
well_formed c s =
    leb (empty_size c) (length s)
    && eqb (le_at 4 s 0) 1
    && leb (placement_count c s) max_placements
    && leb (externals_start c s) (length s)
    && leb (external_count c s) max_externals
    && eqb (length s) (externals_start c s + entry_size c * external_count c s)
    && ascending (λ i. (placement c s i).index) (placement_count c s)
    && ascending (λ i. (external c s i).index) (external_count c s)

-- the order that the bytes spell
unfoldable pub order_of : Class → List ℕ → Order
order_of c s =
    record {
      base = address (base c s);
      placements = tabulate (placement c s) (placement_count c s);
      externals = tabulate (external c s) (external_count c s);
    }

-- the base and the counts, or nothing if the bytes are malformed
unfoldable pub reading : Class → List ℕ → Option OrderHeader
reading c s =
    cond (well_formed c s)
    (Some (record { base = address (base c s); placements = placement_count c s; externals = external_count c s }))
    None
