-- What follows if check 6 passes.
use Rattle.std.specs.Prelude.{Result, ⊤, Err, Ok}
use mathlib.Core.Path.{◌≡◌, refl, ◌∙◌}
use mathlib.Core.Bool.{Bool, true, false, cond}
use mathlib.Core.List.{List}
use Prim.Native.Nat.{ℕ, ◌^◌, ◌≤◌, ◌<◌}
use native.Mathlib.Omega.{arith}
use lib.Dec.{ltb}
use borrow.Author.Tests.{ltb-false, lt-ltb}
use Rattle.numbers_definitions.proofs.Laws.Tests.{same_tests}
use Rattle.numbers_definitions.specs.First.{first}
use Rattle.numbers_definitions.proofs.Laws.First.{first_below}
use Rattle.elf_read.specs.Headers.{class_of, section_count}
use Rattle.elf_read.specs.Sections.{section_at, allocated, is_allocated}
use Rattle.order_format.specs.Orders.{placements_start, placement_count}
use Rattle.order_lookup.specs.Values.{is_given, value_in}
use Rattle.order_lookup.specs.Addresses.{placed_at}
use Rattle.placing_match.specs.Placements.{lowest, differs, placement_check}
use Rattle.placing_match.proofs.Laws.Lowest.{given_named}

-- where nothing is broken, the rule holds everywhere
pub nowhere_holds : (p : ℕ → Bool) (n : ℕ) → lowest p n ≡ Ok tt → (k : ℕ) → k < n → p k ≡ false
unfolding lowest
nowhere_holds p n e k h = first_below p n k (go (ltb (first p n) n) refl e)
  where
    go : (b : Bool) → ltb (first p n) n ≡ b → ◌≡◌ {A = Result ⊤ ℕ} (cond b (Err (first p n)) (Ok tt)) (Ok tt) → k < first p n
    go true q r =
        let z : ◌≡◌ {A = ℕ} 0 1 = cc in
        absurd (omega arith)
    go false q r = omega (arith, ltb-false (first p n) n q)

-- ---- check 6

-- an order gives a section an address exactly when the section is allocated
pub placed_allocated : (object order : List ℕ) → placement_check object order ≡ Ok tt → (i : ℕ) → i < 2 ^ 32 → is_given (placed_at (class_of object) order i) ≡ is_allocated object i
unfolding placement_check differs
placed_allocated object order e i h = same_tests _ _ (nowhere_holds (differs object order) (2 ^ 32) e i h)

-- an order without placements passes only for an object with no allocated section
pub nothing_to_place : (object order : List ℕ) → placement_check object order ≡ Ok tt → placement_count (class_of object) order ≡ 0 → section_count object ≤ 2 ^ 32
    → (i : ℕ) → i < section_count object → allocated (section_at object i) ≡ false
unfolding is_allocated placed_at
nothing_to_place object order e none few i h = go (allocated (section_at object i)) refl
  where
    go : (b : Bool) → allocated (section_at object i) ≡ b → allocated (section_at object i) ≡ false
    go false q = q
    go true q =
        let given : is_given (value_in (class_of object) order (placements_start (class_of object)) (placement_count (class_of object) order) i) ≡ true =
        placed_allocated object order e i (omega arith) ∙ rw (lt-ltb i (section_count object) h, q) in
        let entry = given_named (class_of object) order (placements_start (class_of object)) (placement_count (class_of object) order) i given in
        absurd (omega (arith, entry.1))
