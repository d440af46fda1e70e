-- What follows if check 8 passes.
use Rattle.std.specs.Prelude.{Ok}
use mathlib.Core.Logic.{◌⊎◌, inl, inr}
use mathlib.Core.Path.{◌≡◌, refl, sym, ap, ◌∙◌}
use mathlib.Core.Bool.{Bool, true, false, not, cond, ◌&&◌}
use mathlib.Core.List.{List}
use Prim.Native.Nat.{ℕ, ◌+◌, ◌-◌, ◌≤◌, ◌<◌}
use native.Mathlib.Omega.{arith}
use lib.ListN.{get_or}
use lib.Dec.{leb, ltb, eqb}
use borrow.Author.Tests.{leb-true, ltb-false}
use Rattle.numbers_definitions.proofs.Laws.Tests.{and_left, and_right, given, implies}
use Rattle.numbers_definitions.proofs.Laws.First.{everywhere_at}
use Rattle.elf_read.specs.Headers.{section_count}
use Rattle.elf_read.specs.Sections.{NOBITS, section_at, allocated, loaded}
use Rattle.placing_check.specs.Placing.{end_of, has_bytes, in_window, share, apart, aligned, ends_in_memory, misplaced, placing_check}
use Rattle.placing_match.proofs.Laws.Theorems.{nowhere_holds}

-- a section that has bytes is allocated
bytes_allocated : (object : List ℕ) (i : ℕ) → has_bytes (section_at object i) ≡ true → allocated (section_at object i) ≡ true
unfolding has_bytes loaded
bytes_allocated object i e =
    let h = section_at object i in
    and_left (allocated h) (not (eqb h.kind NOBITS)) (and_left (allocated h && not (eqb h.kind NOBITS)) (ltb 0 h.size) e)

bytes_some : (object : List ℕ) (i : ℕ) → has_bytes (section_at object i) ≡ true → ltb 0 (section_at object i).size ≡ true
unfolding has_bytes
bytes_some object i e = and_right (loaded (section_at object i)) (ltb 0 (section_at object i).size) e

not_and : (a b : Bool) → not (a && b) ≡ true → a ≡ true → b ≡ false
not_and true true e h = cc
not_and true false e h = refl
not_and false b e h = cc

one_before : (a b c d : ℕ) {p q : Bool} → p ≡ true → q ≡ true → (p && q && ltb a b && ltb c d) ≡ false → (b ≤ a) ⊎ (d ≤ c)
one_before a b c d hp hq e = go (ltb a b) refl (ltb c d) refl (rw (hp, hq) at e)
  where
    go : (x : Bool) → ltb a b ≡ x → (y : Bool) → ltb c d ≡ y → (ltb a b && ltb c d) ≡ false → (b ≤ a) ⊎ (d ≤ c)
    go false ex y ey r = inl (ltb-false a b ex)
    go true ex false ey r = inr (ltb-false c d ey)
    go true ex true ey r =
        let both : ltb a b && ltb c d ≡ true = rw (ex, ey) in
        let z : ◌≡◌ {A = Bool} true false = sym both ∙ r in
        let one : ◌≡◌ {A = ℕ} 0 1 = ap (λ t. cond t 0 1) z in
        absurd (omega arith)

module _ (object addresses : List ℕ) (base len : ℕ) (fine : placing_check object addresses base len ≡ Ok tt) where
  -- an allocated section keeps every rule
  abbrev kept : ℕ → Bool
  kept i = aligned object addresses i && ends_in_memory object addresses i && in_window object addresses base len i && apart object addresses i

  keeps : (i : ℕ) → i < section_count object → allocated (section_at object i) ≡ true → kept i ≡ true
  unfolding placing_check misplaced
  keeps i h a = implies (allocated (section_at object i)) (kept i) (nowhere_holds (misplaced object addresses base len) (section_count object) fine i h) a

  -- the bytes of a loaded section lie inside the image
  pub inside_image : (i : ℕ) → i < section_count object → has_bytes (section_at object i) ≡ true
      → (base ≤ get_or addresses i 0) × (get_or addresses i 0 - base + (section_at object i).size ≤ len)
  unfolding in_window end_of
  inside_image i h e =
      let whole = keeps i h (bytes_allocated object i e) in
      let a : Bool = aligned object addresses i && ends_in_memory object addresses i in
      let window : in_window object addresses base len i ≡ true = and_right a (in_window object addresses base len i) (and_left (a && in_window object addresses base len i) (apart object addresses i) whole) in
      let low : Bool = leb base (get_or addresses i 0) in
      let high : Bool = leb (get_or addresses i 0 + (section_at object i).size) (base + len) in
      let both : low && high ≡ true = given (has_bytes (section_at object i)) (low && high) window e in
      let from = leb-true base (get_or addresses i 0) (and_left low high both) in
      let to = leb-true (get_or addresses i 0 + (section_at object i).size) (base + len) (and_right low high both) in
      (from, omega arith)

  -- two loaded sections share no byte: the one ends before the other starts
  pub disjoint : (i j : ℕ) → i < section_count object → j < i → has_bytes (section_at object i) ≡ true → has_bytes (section_at object j) ≡ true
      → (end_of object addresses j ≤ get_or addresses i 0) ⊎ (end_of object addresses i ≤ get_or addresses j 0)
  unfolding apart share
  disjoint i j h l e d =
      let whole = keeps i h (bytes_allocated object i e) in
      let rest : Bool = aligned object addresses i && ends_in_memory object addresses i && in_window object addresses base len i in
      let alone : apart object addresses i ≡ true = and_right rest (apart object addresses i) whole in
      let not-share = everywhere_at (λ k. not (allocated (section_at object k) && share object addresses i k)) i alone j l in
      let none : share object addresses i j ≡ false = not_and (allocated (section_at object j)) (share object addresses i j) not-share (bytes_allocated object j d) in
      one_before _ _ _ _ (bytes_some object i e) (bytes_some object j d) none
