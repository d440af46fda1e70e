-- Laws of the relocations' types and numbers.
use mathlib.Core.Path.{◌≡◌, sym, ap, ◌∙◌}
use mathlib.Core.Bool.{false}
use mathlib.Core.List.{List}
use Prim.Native.Nat.{ℕ, suc, ◌+◌, ◌-◌, ◌%◌, ◌^◌, ◌<◌}
use native.Mathlib.Nat.{mod-eq_of_lt, add-mul-mod_self_left}
use native.Mathlib.Omega.{arith}
use lib.Dec.{ltb}
use borrow.Author.Tests.{lt-ltb}
use Rattle.numbers_definitions.specs.Bytes.{le_at}
use Rattle.numbers_definitions.specs.First.{first}
use Rattle.numbers_definitions.proofs.Laws.Bytes.{le_at_split}
use Rattle.numbers_definitions.proofs.Laws.First.{first_is}
use Rattle.elf_read.specs.declared.Location.{Location}
use Rattle.elf_read.specs.Headers.{section_count}
use Rattle.elf_read.specs.Sections.{relocations_below}
use Rattle.elf_read.specs.Entries.{location_of}

-- the lowest m of m + n bytes
pub low_bytes : (m n : ℕ) (s : List ℕ) (i b : ℕ) → b < 256 ^ m → b ≡ le_at m s i → b ≡ le_at (m + n) s i % 256 ^ m
low_bytes m n s i b h e =
    sym
    (ap (λ k. k % 256 ^ m) (le_at_split m n s i)
    ∙ add-mul-mod_self_left (le_at m s i) (256 ^ m) (le_at n s (i + m))
    ∙ ap (λ k. k % 256 ^ m) (sym e)
    ∙ mod-eq_of_lt h)

-- number k is not in the sections below i
abbrev pub NotBelow : List ℕ → ℕ → ℕ → Type 0
NotBelow s k i = (j : ℕ) → j < i → ltb k (relocations_below s (suc j)) ≡ false

pub located : (s : List ℕ) (k i : ℕ) → i < section_count s → NotBelow s k i → k < relocations_below s (suc i)
    → ◌≡◌ {A = Location} (record { section = i; entry = k - relocations_below s i }) (location_of s k)
unfolding location_of
located s k i h below here =
    let is : first (λ j. ltb k (relocations_below s (suc j))) (section_count s) ≡ i = first_is _ (section_count s) i (omega arith) below (λ _. lt-ltb _ _ here) in
    rw is

pub located_nowhere : (s : List ℕ) (k : ℕ) → NotBelow s k (section_count s)
    → ◌≡◌ {A = Location} (record { section = section_count s; entry = k - relocations_below s (section_count s) }) (location_of s k)
unfolding location_of
located_nowhere s k below =
    let n : ℕ = section_count s in
    let is : first (λ j. ltb k (relocations_below s (suc j))) n ≡ n = first_is _ n n (omega arith) below (λ h. absurd (omega arith)) in
    rw is
