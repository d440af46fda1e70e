-- The bounds that a sound object gives to later crates.
use mathlib.Core.Logic.{◌⊎◌, inl, inr}
use mathlib.Core.Path.{◌≡◌, refl}
use mathlib.Core.Bool.{Bool, true, false, cond, not}
use mathlib.Core.List.{List}
use Prim.Native.Nat.{ℕ, zero, suc, ◌/◌, ◌%◌, ◌^◌, ◌≤◌, ◌<◌}
use native.Mathlib.Omega.{arith}
use lib.Dec.{ltb, eqb}
use borrow.Author.Tests.{ltb-true, eqb-true, eqb-false, not-true}
use Rattle.numbers_definitions.specs.Sums.{sum}
use Rattle.numbers_definitions.specs.Powers.{one_bit}
use Rattle.numbers_definitions.proofs.Laws.Tests.{and_left, and_right}
use Rattle.numbers_definitions.proofs.Laws.First.{first_at}
use Rattle.numbers_definitions.proofs.Laws.Sums.{sum_locate}
use Rattle.numbers_definitions.proofs.Laws.Powers.{power_one_bit}
use Rattle.elf_read.specs.declared.Section.{Section}
use Rattle.elf_read.specs.Headers.{class_of, section_count}
use Rattle.elf_read.specs.Sections.{NULL, SYMTAB, RELA, NOBITS, section_at, allocated, loaded, symbol_table, targets, counting_rela, relocation_entries, relocations_in, relocations_below}
use Rattle.elf_read.specs.Entries.{symbol_entries, symbol_count, relocation_count, location_of}
use Rattle.elf_read.specs.Requires.{Inside, EntryInside}
use Rattle.elf_check.specs.Rules.{max_symbols, max_relocations}
use Rattle.elf_check.specs.Requires.{SoundObject}

-- ---- what a test on a header says of its type

allocated_kind : (h : Section) → allocated h ≡ true → h.kind ≡ NULL → ⊥
unfolding allocated
allocated_kind h e = eqb-false _ _ (not-true _ (and_right (eqb (h.flags / 2 % 2) 1) (not (eqb h.kind NULL)) e))

loaded_allocated : (h : Section) → loaded h ≡ true → allocated h ≡ true
unfolding loaded
loaded_allocated h e = and_left (allocated h) (not (eqb h.kind NOBITS)) e

loaded_kind : (h : Section) → loaded h ≡ true → h.kind ≡ NOBITS → ⊥
unfolding loaded
loaded_kind h e = eqb-false _ _ (not-true _ (and_right (allocated h) (not (eqb h.kind NOBITS)) e))

rela_kind : (s : List ℕ) (i : ℕ) → counting_rela s i ≡ true → (section_at s i).kind ≡ RELA
unfolding counting_rela
rela_kind s i e = eqb-true _ _ (and_left (eqb (section_at s i).kind RELA) (targets s (section_at s i)) e)

module _ (s : List ℕ) (f : SoundObject s) where
  -- ---- sections

  -- a loaded section's bytes lie in the file
  pub loaded_inside : (i : ℕ) → i < section_count s → loaded (section_at s i) ≡ true → Inside s (section_at s i)
  loaded_inside i h e =
      record { inside = (f.sections i h).inside (allocated_kind (section_at s i) (loaded_allocated (section_at s i) e)) (loaded_kind (section_at s i) e) }

  -- an allocated section's alignment is 0 or a power of two
  pub alignment_power : (i : ℕ) → i < section_count s → allocated (section_at s i) ≡ true → (section_at s i).alignment < 2 ^ 64
      → ((section_at s i).alignment ≡ 0) ⊎ ((k : ℕ) × (k < 64) × ((section_at s i).alignment ≡ 2 ^ k))
  alignment_power i h e b = go ((f.sections i h).aligned e)
    where
      go : ((section_at s i).alignment ≡ 0) ⊎ (one_bit 64 (section_at s i).alignment ≡ true) → ((section_at s i).alignment ≡ 0) ⊎ ((k : ℕ) × (k < 64) × ((section_at s i).alignment ≡ 2 ^ k))
      go (inl z) = inl z
      go (inr p) = inr (power_one_bit 64 (section_at s i).alignment b p)

  -- ---- symbols

  table_kind : symbol_table s < section_count s → (section_at s (symbol_table s)).kind ≡ SYMTAB
  unfolding symbol_table
  table_kind h = eqb-true _ _ (first_at (λ i. eqb (section_at s i).kind SYMTAB) (section_count s) h)

  pub some_symbol : (k : ℕ) → k < symbol_count s → (symbol_table s < section_count s) × (k < symbol_entries (class_of s) (section_at s (symbol_table s)))
  unfolding symbol_count
  some_symbol k h = go (ltb (symbol_table s) (section_count s)) refl h
    where
      go : (b : Bool) → ltb (symbol_table s) (section_count s) ≡ b → k < cond b (symbol_entries (class_of s) (section_at s (symbol_table s))) 0
          → (symbol_table s < section_count s) × (k < symbol_entries (class_of s) (section_at s (symbol_table s)))
      go true e l = (ltb-true _ _ e, l)
      go false e l = absurd (omega arith)

  pub symbol_inside : (k : ℕ) → k < symbol_count s → EntryInside s (section_at s (symbol_table s)) (symbol_entries (class_of s) (section_at s (symbol_table s))) k
  symbol_inside k h =
      let t = some_symbol k h in
      let kind : (section_at s (symbol_table s)).kind ≡ SYMTAB = table_kind t.0 in
      let section = f.sections (symbol_table s) t.0 in
      let inside = section.inside (λ e. omega arith) (λ e. omega arith) in
      record { header = f.table.header; bytes = record { inside = inside }; there = t.1 }

  pub symbols_few : symbol_count s ≤ max_symbols
  unfolding symbol_count
  symbols_few = go (ltb (symbol_table s) (section_count s)) refl
    where
      go : (b : Bool) → ltb (symbol_table s) (section_count s) ≡ b → cond b (symbol_entries (class_of s) (section_at s (symbol_table s))) 0 ≤ max_symbols
      go true e = ((f.sections (symbol_table s) (ltb-true _ _ e)).symbols (table_kind (ltb-true _ _ e))).few
      go false e = omega arith

  -- ---- relocations

  some_relocation : (i k : ℕ) → k < relocations_in s i → (counting_rela s i ≡ true) × (k < relocation_entries (class_of s) (section_at s i))
  unfolding relocations_in
  some_relocation i k h = go (counting_rela s i) refl h
    where
      go : (b : Bool) → counting_rela s i ≡ b → k < cond b (relocation_entries (class_of s) (section_at s i)) 0 → (counting_rela s i ≡ true) × (k < relocation_entries (class_of s) (section_at s i))
      go true e l = (e, l)
      go false e l = absurd (omega arith)

  -- a counting RELA's bytes lie in the file
  pub rela_inside : (i : ℕ) → i < section_count s → counting_rela s i ≡ true → Inside s (section_at s i)
  rela_inside i h e =
      let kind : (section_at s i).kind ≡ RELA = rela_kind s i e in
      record { inside = (f.sections i h).inside (λ z. omega arith) (λ z. omega arith) }

  pub relocation_inside : (i k : ℕ) → i < section_count s → k < relocations_in s i → EntryInside s (section_at s i) (relocation_entries (class_of s) (section_at s i)) k
  relocation_inside i k h l =
      let t = some_relocation i k l in
      record { header = f.table.header; bytes = rela_inside i h t.0; there = t.1 }

  -- the sections below any i together hold at most `max_relocations` relocations
  pub few_below : (i : ℕ) → i ≤ section_count s → relocations_below s i ≤ max_relocations
  unfolding sum relocations_in
  few_below zero h = omega arith
  few_below (suc i) h = go (counting_rela s i) refl (few_below i (omega arith))
    where
      go : (b : Bool) → counting_rela s i ≡ b → relocations_below s i ≤ max_relocations → relocations_below s (suc i) ≤ max_relocations
      go true e l = ((f.sections i h).rela e).few
      go false e l = let none : relocations_in s i ≡ 0 = rw e in omega arith

  pub relocations_few : relocation_count s ≤ max_relocations
  relocations_few = few_below (section_count s) (omega arith)

  -- a relocation's number leads to an entry of a counting RELA
  pub located_inside : (k : ℕ) → k < relocation_count s → ((location_of s k).section < section_count s) × ((location_of s k).entry < relocations_in s (location_of s k).section)
  unfolding location_of sum
  located_inside k h =
      let at = sum_locate (relocations_in s) (section_count s) k h in
      (at.0, omega (arith, at.1, at.2))
