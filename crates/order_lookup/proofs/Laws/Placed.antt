-- The values that a well-formed order gives, in plain words.
use Rattle.std.specs.Prelude.{None, Some}
use mathlib.Core.Path.{◌≡◌, ap, ◌∙◌}
use mathlib.Core.Bool.{true}
use mathlib.Core.List.{List}
use Prim.Native.Nat.{ℕ, ◌<◌}
use native.Mathlib.Omega.{arith}
use lib.ListN.{get_or}
use Rattle.numbers_definitions.specs.declared.Class.{Class}
use Rattle.numbers_definitions.proofs.Laws.First.{get_d_tabulate}
use Rattle.elf_read.specs.Headers.{max_sections}
use Rattle.order_format.specs.Orders.{placements_start, placement_count, placement, externals_start, external_count, external, entry_at, ascending, well_formed}
use Rattle.order_lookup.specs.Values.{value_in, external_value}
use Rattle.order_lookup.specs.Addresses.{or_zero, placed_at, addresses}
use Rattle.order_format.proofs.Laws.Sound.{well_formed_sound}
use Rattle.order_lookup.proofs.Laws.Values.{value_in_at, value_in_none}

-- no entry has the number
abbrev pub Unnamed : Class → List ℕ → ℕ → ℕ → ℕ → Type 0
Unnamed c s at n k = (j : ℕ) → j < n → (entry_at c s at j).index ≡ k → ⊥

-- a number has no value exactly if no entry has the number
value_in_unnamed : (c : Class) (s : List ℕ) (at n k : ℕ) → ascending (λ i. (entry_at c s at i).index) n ≡ true
    → (value_in c s at n k ≡ None → Unnamed c s at n k) × (Unnamed c s at n k → value_in c s at n k ≡ None)
value_in_unnamed c s at n k a =
    ((λ e j h named. let z : ◌≡◌ {A = ℕ} 0 1 = cc (value_in_at c s at n k a j h named) in omega arith), value_in_none c s at n k)

module _ (c : Class) (s : List ℕ) (w : well_formed c s ≡ true) where
  -- ---- sections

  pub placed_at_named : (section j : ℕ) → j < placement_count c s → (placement c s j).index ≡ section → placed_at c s section ≡ Some (placement c s j).value
  unfolding placed_at
  placed_at_named section j h e = value_in_at c s (placements_start c) (placement_count c s) section (well_formed_sound c s w).placed j h e

  pub placed_at_unnamed : (section : ℕ)
      → (placed_at c s section ≡ None → Unnamed c s (placements_start c) (placement_count c s) section) × (Unnamed c s (placements_start c) (placement_count c s) section → placed_at c s section ≡ None)
  unfolding placed_at
  placed_at_unnamed section = value_in_unnamed c s (placements_start c) (placement_count c s) section (well_formed_sound c s w).placed

  -- ---- the array

  addresses_at : (section : ℕ) → section < max_sections → get_or (addresses c s) section 0 ≡ or_zero (placed_at c s section)
  unfolding addresses
  addresses_at section h = get_d_tabulate (λ section. or_zero (placed_at c s section)) max_sections section 0 h

  pub addresses_named : (section j : ℕ) → section < max_sections → j < placement_count c s → (placement c s j).index ≡ section
      → get_or (addresses c s) section 0 ≡ (placement c s j).value.0
  addresses_named section j l h e = addresses_at section l ∙ ap or_zero (placed_at_named section j h e)

  pub addresses_unnamed : (section : ℕ) → section < max_sections → Unnamed c s (placements_start c) (placement_count c s) section → get_or (addresses c s) section 0 ≡ 0
  addresses_unnamed section l u = addresses_at section l ∙ ap or_zero ((placed_at_unnamed section).1 u)

  -- ---- symbols

  pub external_value_named : (symbol j : ℕ) → j < external_count c s → (external c s j).index ≡ symbol → external_value c s symbol ≡ Some (external c s j).value
  unfolding external_value
  external_value_named symbol j h e = value_in_at c s (externals_start c s) (external_count c s) symbol (well_formed_sound c s w).given j h e

  pub external_value_unnamed : (symbol : ℕ)
      → (external_value c s symbol ≡ None → Unnamed c s (externals_start c s) (external_count c s) symbol)
      × (Unnamed c s (externals_start c s) (external_count c s) symbol → external_value c s symbol ≡ None)
  unfolding external_value
  external_value_unnamed symbol = value_in_unnamed c s (externals_start c s) (external_count c s) symbol (well_formed_sound c s w).given
