-- Laws of check 6, by the lowest allocated section that is not placed and the lowest number that is placed and names no allocated section.
use Rattle.std.specs.Prelude.{Err, Ok, Result, ⊤, min}
use mathlib.Core.Path.{◌≡◌, sym, ap, ◌∙◌}
use mathlib.Core.Bool.{Bool, true, false, not, ◌&&◌}
use mathlib.Core.List.{List}
use Prim.Native.Nat.{ℕ, ◌^◌, ◌≤◌, ◌<◌}
use native.Mathlib.Omega.{arith}
use native.Mathlib.Decide.{dec_lt}
use Rattle.numbers_definitions.proofs.Laws.Tests.{or_true}
use Rattle.elf_read.specs.Headers.{class_of, section_count}
use Rattle.elf_read.specs.Sections.{is_allocated}
use Rattle.elf_read.proofs.Laws.Sections.{not_there}
use Rattle.order_lookup.specs.Addresses.{placed_at}
use Rattle.order_lookup.specs.Values.{is_given}
use Rattle.placing_match.specs.Placements.{lowest, differs, placement_check}
use Rattle.placing_match.proofs.Laws.Lowest.{lowest_at, lowest_nowhere, lowest_err}
use Rattle.placing_match.proofs.Laws.Theorems.{nowhere_holds}

-- placed and not allocated; allocated and not placed
abbrev pub extra : List ℕ → List ℕ → ℕ → Bool
extra object order k = is_given (placed_at (class_of object) order k) && not (is_allocated object k)

abbrev pub missing : List ℕ → List ℕ → ℕ → Bool
missing object order k = is_allocated object k && not (is_given (placed_at (class_of object) order k))

module _ (object order : List ℕ) where
  abbrev pub unplaced_check : Result ⊤ ℕ
  unplaced_check = lowest (missing object order) (section_count object)

  abbrev pub extra_check : Result ⊤ ℕ
  extra_check = lowest (extra object order) (2 ^ 32)

  no_difference : (k : ℕ) → missing object order k ≡ false → extra object order k ≡ false → differs object order k ≡ false
  unfolding differs
  no_difference k m e = rw (e, m)

  -- no section is allocated and not placed
  none_missing : unplaced_check ≡ Ok tt → (k : ℕ) → missing object order k ≡ false
  none_missing u k = go (dec_lt k (section_count object))
    where
      go : Dec (k < section_count object) → missing object order k ≡ false
      go (yes l) = nowhere_holds (missing object order) (section_count object) u k l
      go (no l) = rw (not_there object k (omega arith))

  differs_extra : (k : ℕ) → extra object order k ≡ true → differs object order k ≡ true
  unfolding differs
  differs_extra k e = rw e

  differs_missing : (k : ℕ) → missing object order k ≡ true → differs object order k ≡ true
  unfolding differs
  differs_missing k e = rw (e, or_true)

  module _ (few : section_count object ≤ 2 ^ 32) where
    -- every allocated section is placed
    pub all_placed : unplaced_check ≡ Ok tt → (r : Result ⊤ ℕ) → r ≡ extra_check → r ≡ placement_check object order
    unfolding placement_check
    all_placed u (Ok _) e =
        sym (lowest_nowhere (differs object order) (2 ^ 32) (λ j l. no_difference j (none_missing u j) (nowhere_holds (extra object order) (2 ^ 32) (sym e) j l)))
    all_placed u (Err k) e =
        let found = lowest_err (extra object order) (2 ^ 32) k (sym e) in
        sym (lowest_at (differs object order) (2 ^ 32) k found.0 (λ j l. no_difference j (none_missing u j) (found.1 j l)) (differs_extra k found.2))

    -- every section that is placed is allocated
    pub none_extra : (i : ℕ) → unplaced_check ≡ Err i → extra_check ≡ Ok tt → Err i ≡ placement_check object order
    unfolding placement_check
    none_extra i u e =
        let found = lowest_err (missing object order) (section_count object) i u in
        sym
        (lowest_at (differs object order) (2 ^ 32) i (omega (arith, found.0))
        (λ j l. no_difference j (found.1 j l) (nowhere_holds (extra object order) (2 ^ 32) e j (omega (arith, found.0))))
        (differs_missing i found.2))

    -- the lower of the two
    pub lower : (i k m : ℕ) → unplaced_check ≡ Err i → extra_check ≡ Err k → m ≡ min i k → Err m ≡ placement_check object order
    unfolding placement_check
    lower i k m u e is = go (dec_lt i k)
      where
        missed : (i < section_count object) × ((j : ℕ) → j < i → missing object order j ≡ false) × (missing object order i ≡ true)
        missed = lowest_err (missing object order) (section_count object) i u

        added : (k < 2 ^ 32) × ((j : ℕ) → j < k → extra object order j ≡ false) × (extra object order k ≡ true)
        added = lowest_err (extra object order) (2 ^ 32) k e

        below : (j : ℕ) → j < m → differs object order j ≡ false
        below j l = no_difference j (missed.1 j (omega arith)) (added.1 j (omega arith))

        go : Dec (i < k) → Err m ≡ placement_check object order
        go (yes l) =
            let here : m ≡ i = omega arith in
            sym (lowest_at (differs object order) (2 ^ 32) m (omega (arith, missed.0)) below (ap (differs object order) here ∙ differs_missing i missed.2))
        go (no l) =
            let here : m ≡ k = omega arith in
            sym (lowest_at (differs object order) (2 ^ 32) m (omega (arith, added.0)) below (ap (differs object order) here ∙ differs_extra k added.2))
