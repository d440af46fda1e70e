-- Laws of the rules as the code tries them.
use Rattle.std.specs.Prelude.{Err, Ok}
use mathlib.Core.Path.{◌≡◌, refl, ap}
use mathlib.Core.Bool.{Bool, true, false, not, ◌&&◌}
use mathlib.Core.List.{List}
use Prim.Native.Nat.{ℕ, suc, ◌<◌}
use native.Mathlib.Omega.{arith}
use lib.Dec.{leb, ltb}
use borrow.Author.Tests.{eq-eqb, ne_eqb, lt-ltb, le-ltb, le-leb, leb-true}
use Rattle.numbers_definitions.proofs.Laws.Tests.{and_false}
use Rattle.numbers_definitions.specs.First.{first}
use Rattle.numbers_definitions.proofs.Laws.First.{first_is}
use Rattle.numbers_definitions.proofs.Laws.Sums.{sum_mono}
use Rattle.elf_read.specs.Headers.{section_count}
use Rattle.elf_read.specs.Sections.{REL, RELA, section_at, targets, counting_rel, counting_rela, relocations_in, relocations_below}
use Rattle.elf_header.specs.Headers.{table_allowed}
use Rattle.elf_check.specs.Rules.{max_relocations, starts_null, inside_file, allocated_well, symbol_table_well, no_counting_rel, rela_kept, relocations_kept, rela_well, relocations_well, section_well, section_check}

-- ---- the number of relocations

-- where all are not too many, those up to a section are not
pub number_kept : (s : List ℕ) (i : ℕ) → i < section_count s → leb (relocations_below s (section_count s)) max_relocations ≡ true → relocations_kept s i ≡ true
unfolding relocations_kept
number_kept s i h few =
    le-leb (relocations_below s (suc i)) max_relocations
    (omega (arith, sum_mono (relocations_in s) (suc i) (section_count s) h, leb-true (relocations_below s (section_count s)) max_relocations few))

-- ---- the rules of RELA and REL sections, by what is found

abbrev pub relocation_well : List ℕ → ℕ → Bool
relocation_well s i = no_counting_rel s i && rela_well s i && relocations_well s i

module _ (s : List ℕ) (i : ℕ) where
  -- a section with no target
  pub well_untargeted : targets s (section_at s i) ≡ false → relocation_well s i ≡ true
  unfolding no_counting_rel rela_well relocations_well counting_rel counting_rela
  well_untargeted t = rw (t, and_false, and_false)

  -- a REL with a target
  pub broken_rel : targets s (section_at s i) ≡ true → (section_at s i).kind ≡ REL → relocation_well s i ≡ false
  unfolding no_counting_rel counting_rel
  broken_rel t k = rw (t, eq-eqb _ _ k)

  -- a section that is neither REL nor RELA
  pub well_other : ((section_at s i).kind ≡ REL → ⊥) → ((section_at s i).kind ≡ RELA → ⊥) → relocation_well s i ≡ true
  unfolding no_counting_rel rela_well relocations_well counting_rel counting_rela
  well_other rel rela = rw (ne_eqb _ _ rel, ne_eqb _ _ rela)

  -- a RELA with a target
  pub well_rela : targets s (section_at s i) ≡ true → (section_at s i).kind ≡ RELA → relocation_well s i ≡ (rela_kept s i && relocations_kept s i)
  unfolding no_counting_rel rela_well relocations_well counting_rel counting_rela
  well_rela t k = rw (t, k)

-- ---- all rules, and check 5

regroup : (a b c d e : Bool) → (a && b && c && d && e) ≡ (a && b && (c && d && e))
regroup true true c d e = refl
regroup true false c d e = refl
regroup false b c d e = refl

pub section_well_lem : (s : List ℕ) (i : ℕ) → section_well s i ≡ (starts_null s i && inside_file s i && allocated_well s i && symbol_table_well s i && relocation_well s i)
unfolding section_well
section_well_lem s i =
    regroup (starts_null s i && inside_file s i && allocated_well s i) (symbol_table_well s i) (no_counting_rel s i) (rela_well s i) (relocations_well s i)

-- what check 5 finds
pub check_table_broken : (s : List ℕ) → table_allowed s ≡ false → section_check s ≡ Err 0
unfolding section_check
check_table_broken s e = rw e

pub check_broken : (s : List ℕ) (i : ℕ) → table_allowed s ≡ true → i < section_count s → ((j : ℕ) → j < i → not (section_well s j) ≡ false) → section_well s i ≡ false
    → section_check s ≡ Err i
unfolding section_check
check_broken s i t h below here =
    let is : first (λ j. not (section_well s j)) (section_count s) ≡ i = first_is _ (section_count s) i (omega arith) below (λ _. ap not here) in
    rw (t, is, lt-ltb _ _ h)

pub check_sound : (s : List ℕ) → table_allowed s ≡ true → ((j : ℕ) → j < section_count s → not (section_well s j) ≡ false) → section_check s ≡ Ok tt
unfolding section_check
check_sound s t all =
    let n : ℕ = section_count s in
    let is : first (λ j. not (section_well s j)) n ≡ n = first_is _ n n (omega arith) all (λ h. absurd (omega arith)) in
    let none : ltb n n ≡ false = le-ltb n n (omega arith) in
    rw (t, is, none)
