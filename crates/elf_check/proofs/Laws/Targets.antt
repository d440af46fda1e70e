-- The targets of RELA sections, as they are marked.
use mathlib.Core.Path.{◌≡◌, refl, sym, ap, ◌∙◌}
use mathlib.Core.Bool.{Bool, true, false, not, ◌&&◌, ◌||◌}
use mathlib.Core.List.{List}
use Prim.Native.Nat.{ℕ, ◌+◌, ◌<◌}
use native.Mathlib.Omega.{arith}
use lib.ListN.{length, get_or, set, replicate, get_or-replicate, get_or-eq_default, length-replicate}
use lib.Seq.{get_or-set_same, get_or-set_other}
use lib.Dec.{eqb, ltb}
use borrow.Author.Count.{below_more}
use borrow.Author.Tests.{eqb-true, eqb-false, eq-eqb, ne_eqb, ltb-true, ltb-false}
use Rattle.std.proofs.lemmas.Bool.{true≢false}
use Rattle.numbers_definitions.proofs.Laws.First.{everywhere_is, everywhere_not, everywhere_at}
use Rattle.numbers_definitions.proofs.Laws.Tests.{and_right, both}
use Rattle.elf_read.specs.Headers.{section_count}
use Rattle.elf_read.specs.Sections.{RELA, section_at, targets, counting_rela}
use Rattle.elf_read.proofs.Laws.Sections.{allocated_there}
use Rattle.elf_check.specs.Requires.{target_new, targets_differ}

-- a RELA with a target counts
pub rela_counts : (s : List ℕ) (i : ℕ) → (section_at s i).kind ≡ RELA → targets s (section_at s i) ≡ true → counting_rela s i ≡ true
unfolding counting_rela
rela_counts s i k t = both _ _ (eq-eqb _ _ k) t

-- and its target is there
pub target_there : (s : List ℕ) (i : ℕ) → counting_rela s i ≡ true → (section_at s i).info < section_count s
unfolding counting_rela
target_there s i e = allocated_there s (section_at s i).info (and_right (eqb (section_at s i).kind RELA) _ e)

-- the start of a list that tells of nothing
nowhere : (n t : ℕ) → get_or (replicate n false) t false ≡ false
nowhere n t = go (ltb t n) refl
  where
    go : (b : Bool) → ltb t n ≡ b → get_or (replicate n false) t false ≡ false
    go true e = get_or-replicate n t false false (ltb-true t n e)
    go false e = get_or-eq_default (replicate n false) false (rw length-replicate (ltb-false t n e))

module _ (object : List ℕ) where
  -- where all differ, each is new
  pub differ_new : (i : ℕ) → i < section_count object → counting_rela object i ≡ true → targets_differ object ≡ true → target_new object i ≡ true
  unfolding targets_differ
  differ_new i h e all =
      let one : (not (counting_rela object i) || target_new object i) ≡ true = everywhere_at (λ i. not (counting_rela object i) || target_new object i) (section_count object) all i h in
      rw e at one

  -- the RELA sections below i have been met at their targets, and all of them are new
  pub record MetBelow (met : List Bool) (i : ℕ) : Type 0 where
    pub none : (t : ℕ) → get_or met t false ≡ false → (j : ℕ) → j < i → (counting_rela object j && eqb (section_at object j).info t) ≡ false
    pub some : (t : ℕ) → get_or met t false ≡ true → (k : ℕ) × (k < i) × ((counting_rela object k && eqb (section_at object k).info t) ≡ true)
    pub new : (j : ℕ) → j < i → (not (counting_rela object j) || target_new object j) ≡ true

  pub met_none : (n : ℕ) → MetBelow (replicate n false) 0
  met_none n =
      record { none = λ t e j h. absurd (omega arith); some = λ t e. absurd (true≢false (sym e ∙ nowhere n t)); new = λ j h. absurd (omega arith) }

  -- a section that is no RELA that counts
  pub met_skip : (met : List Bool) (i : ℕ) → MetBelow met i → counting_rela object i ≡ false → MetBelow met (i + 1)
  met_skip met i b e =
      record {
        none = λ t z. below_more (λ j. (counting_rela object j && eqb (section_at object j).info t) ≡ false) i (b.none t z) (rw e);
        some = λ t s. let w = b.some t s in (w.0, omega (arith, w.1), w.2);
        new = below_more (λ j. (not (counting_rela object j) || target_new object j) ≡ true) i b.new (rw e);
      }

  -- one whose target has been met
  pub met_twice : (met : List Bool) (i : ℕ) → MetBelow met i → i < section_count object → counting_rela object i ≡ true → get_or met (section_at object i).info false ≡ true
      → targets_differ object ≡ false
  unfolding targets_differ target_new
  met_twice met i b h e z =
      let w = b.some (section_at object i).info z in
      let old : target_new object i ≡ false = unfold target_new in everywhere_not _ i w.0 w.1 (ap not w.2) in
      everywhere_not _ (section_count object) i h (rw (e, old))

  -- one whose target has not been met
  pub met_more : (met : List Bool) (i t : ℕ) → MetBelow met i → counting_rela object i ≡ true → t ≡ (section_at object i).info → t < length met → get_or met t false ≡ false
      → MetBelow (set met t true) (i + 1)
  unfolding target_new
  met_more met i t b e is h z =
      record {
        none = λ u. none u (eqb u t) refl;
        some = λ u. some u (eqb u t) refl;
        new = below_more (λ j. (not (counting_rela object j) || target_new object j) ≡ true) i b.new (rw (e, first));
      }
    where
      first : target_new object i ≡ true
      first = everywhere_is _ i (λ j l. ap not (ap (λ n. counting_rela object j && eqb (section_at object j).info n) (sym is) ∙ b.none t z j l))

      stored : get_or (set met t true) t false ≡ true
      stored = get_or-set_same met t true false h

      none : (u : ℕ) (q : Bool) → eqb u t ≡ q → get_or (set met t true) u false ≡ false → (j : ℕ) → j < i + 1 → (counting_rela object j && eqb (section_at object j).info u) ≡ false
      none u true q y = let same : get_or (set met t true) u false ≡ true = ap (λ n. get_or (set met t true) n false) (eqb-true u t q) ∙ stored in absurd (true≢false (sym same ∙ y))
      none u false q y =
          let other : u ≡ t → ⊥ = eqb-false u t q in
          below_more (λ j. (counting_rela object j && eqb (section_at object j).info u) ≡ false) i (b.none u (sym (get_or-set_other met t u true false other) ∙ y))
          (rw (e, ← is, ne_eqb t u (λ r. other (sym r))))

      some : (u : ℕ) (q : Bool) → eqb u t ≡ q → get_or (set met t true) u false ≡ true → (k : ℕ) × (k < i + 1) × ((counting_rela object k && eqb (section_at object k).info u) ≡ true)
      some u true q y =
          let same : u ≡ t = eqb-true u t q in
          (i, omega arith, rw (e, ← is, eq-eqb t u (sym same)))
      some u false q y =
          let other : u ≡ t → ⊥ = eqb-false u t q in
          let w = b.some u (sym (get_or-set_other met t u true false other) ∙ y) in
          (w.0, omega (arith, w.1), w.2)

  pub met_all : (met : List Bool) → MetBelow met (section_count object) → targets_differ object ≡ true
  unfolding targets_differ
  met_all met b = everywhere_is _ (section_count object) b.new
