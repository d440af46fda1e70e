-- The array of the sections' addresses, as it fills.
use mathlib.Core.Path.{◌≡◌, refl, sym, ap, ◌∙◌}
use mathlib.Core.Bool.{true}
use mathlib.Core.List.{List}
use Prim.Native.Nat.{ℕ, ◌+◌, ◌≤◌, ◌<◌}
use native.Mathlib.Omega.{arith}
use lib.ListN.{set, replicate}
use Rattle.numbers_definitions.specs.First.{first, tabulate}
use Rattle.numbers_definitions.specs.declared.Class.{Class}
use Rattle.numbers_definitions.proofs.Laws.First.{tabulate_same, set_tabulate}
use Rattle.elf_read.specs.Headers.{max_sections}
use Rattle.order_format.specs.declared.Entry.{Entry}
use Rattle.order_format.specs.Orders.{placements_start, entry_at, ascending, placement_count}
use Rattle.order_lookup.specs.Values.{value_in}
use Rattle.order_lookup.specs.Addresses.{or_zero, placed_at, addresses}
use Rattle.order_format.proofs.Laws.Ascending.{ascending_fewer}
use Rattle.order_lookup.proofs.Laws.Values.{value_in_more, value_in_read}

-- the array after n placements
unfoldable pub filled : Class → List ℕ → ℕ → List ℕ
filled c s n = tabulate (λ section. or_zero (value_in c s (placements_start c) n section)) max_sections

pub filled_none : (c : Class) (s : List ℕ) → replicate max_sections 0 ≡ filled c s 0
unfolding filled tabulate value_in first
filled_none c s = refl

pub filled_all : (c : Class) (s : List ℕ) (n : ℕ) → n ≡ placement_count c s → filled c s n ≡ addresses c s
unfolding filled addresses placed_at
filled_all c s n e = rw e

module _ (c : Class) (s : List ℕ) (i : ℕ) (e : Entry) (read : e ≡ entry_at c s (placements_start c) i) where
  -- a section that the placement does not name keeps its entry
  kept : (section : ℕ) → (section ≡ e.index → ⊥) → value_in c s (placements_start c) i section ≡ value_in c s (placements_start c) (i + 1) section
  kept section other = sym (value_in_more c s (placements_start c) i section (λ z. other (sym z ∙ sym (ap (λ (e : Entry). e.index) read))))

  -- a placement of a section that the array has is stored
  pub filled_in : (n : ℕ) → ascending (λ i. (entry_at c s (placements_start c) i).index) n ≡ true → i < n → set (filled c s i) e.index e.value.0 ≡ filled c s (i + 1)
  unfolding filled
  filled_in n a h =
      let fewer : ascending (λ i. (entry_at c s (placements_start c) i).index) (i + 1) ≡ true = ascending_fewer _ (i + 1) n (omega arith) a in
      let here : e.value.0 ≡ or_zero (value_in c s (placements_start c) (i + 1) e.index) =
      ap or_zero (value_in_read c s (placements_start c) (i + 1) e.index fewer i e read refl (omega arith)) in
      rw here
      (set_tabulate (λ section. or_zero (value_in c s (placements_start c) i section)) (λ section. or_zero (value_in c s (placements_start c) (i + 1) section)) max_sections e.index
      (λ section l other. ap or_zero (kept section other)))

  -- a placement of a section past the array is not stored
  pub filled_out : max_sections ≤ e.index → filled c s i ≡ filled c s (i + 1)
  unfolding filled
  filled_out high =
      tabulate_same _ _ max_sections (λ section l. ap or_zero (kept section (λ z. omega arith)))
