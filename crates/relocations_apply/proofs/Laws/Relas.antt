-- The list of RELA sections, as it fills.
use Rattle.std.specs.Prelude.{Option, None, Some}
use mathlib.Core.Path.{◌≡◌, refl, sym, ap, ◌∙◌}
use mathlib.Core.Bool.{Bool, true, false, ◌&&◌}
use mathlib.Core.List.{List}
use Prim.Native.Nat.{ℕ, ◌+◌, ◌≤◌, ◌<◌}
use native.Mathlib.Omega.{arith}
use lib.ListN.{length, get_or, set, replicate, length-set, length-replicate, get_or-eq_default}
use lib.Seq.{get_or-set_same, get_or-set_other}
use lib.Dec.{eqb, ltb}
use borrow.Author.Count.{below_more}
use borrow.Author.Tests.{eqb-true, eqb-false, eq-eqb, ne_eqb, ltb-true, ltb-false}
use Rattle.std.proofs.lemmas.List.{get_or-replicate}
use Rattle.std.proofs.lemmas.Option.{none-some, same_Some}
use Rattle.numbers_definitions.proofs.Laws.First.{first_is}
use Rattle.numbers_definitions.proofs.Laws.Tests.{and_left, and_right}
use Rattle.elf_read.specs.Headers.{section_count}
use Rattle.elf_read.specs.Sections.{section_at, counting_rela, relocations_below}
use Rattle.elf_check.specs.Requires.{SoundObject}
use Rattle.relocations_bytes.specs.Sections.{rela_of}
use Rattle.relocations_apply.specs.declared.Rela.{Rela}
use Rattle.relocations_apply.specs.Requires.{Sided, Indexed}

-- a list of n places with nothing in them
abbrev nothing : ℕ → List (Option Rela)
nothing n = replicate {A = Option Rela} n None

pub nothing_at : (n t : ℕ) → get_or (replicate {A = Option Rela} n None) t None ≡ None
nothing_at n t = go (ltb t n) refl
  where
    go : (b : Bool) → ltb t n ≡ b → get_or (nothing n) t None ≡ None
    go true e = get_or-replicate n t None None (ltb-true t n e)
    go false e = get_or-eq_default (nothing n) None (rw (length-replicate {A = Option Rela} n None) (ltb-false t n e))

module _ (object : List ℕ) where
  -- whether section j is a RELA that counts, and section t is its target
  abbrev pub relocates_at : ℕ → ℕ → Bool
  relocates_at t j = counting_rela object j && eqb (section_at object j).info t

  -- the RELA sections below i are listed
  pub record IndexedBelow (relas : List (Option Rela)) (i : ℕ) : Type 0 where
    pub sided : Sided object relas
    pub none : (t : ℕ) → get_or relas t None ≡ None → (j : ℕ) → j < i → relocates_at t j ≡ false
    pub some : (t : ℕ) (r : Rela) → get_or relas t None ≡ Some r
        → (r.section < i) × (relocates_at t r.section ≡ true) × ((j : ℕ) → j < r.section → relocates_at t j ≡ false) × (r.first ≡ relocations_below object r.section)

  pub blank : (n : ℕ) → section_count object ≤ n → Sided object (replicate {A = Option Rela} n None)
  blank n h = let long = length-replicate {A = Option Rela} n None in record { long = omega (arith, long) }

  pub index_none : (relas : List (Option Rela)) → Sided object relas → ((t : ℕ) → get_or relas t None ≡ None) → IndexedBelow relas 0
  index_none relas l nones =
      record { sided = l; none = λ t e j h. absurd (omega arith); some = λ t r e. absurd (none-some r (sym (nones t) ∙ e)) }

  -- a section that is no RELA that counts
  pub index_skip : (relas : List (Option Rela)) (i : ℕ) → IndexedBelow relas i → counting_rela object i ≡ false → IndexedBelow relas (i + 1)
  index_skip relas i b e =
      record {
        sided = b.sided;
        none = λ t z. below_more (λ j. relocates_at t j ≡ false) i (b.none t z) (rw e);
        some = λ t r s. let w = b.some t r s in (omega (arith, w.0), w.1, w.2, w.3);
      }

  -- a RELA that counts, and is the first for its target
  module _ (sound : SoundObject object) (i : ℕ) (h : i < section_count object) (e : counting_rela object i ≡ true) where
    abbrev t₀ : ℕ
    t₀ = (section_at object i).info

    there : t₀ < section_count object
    there = ((sound.sections i h).rela e).target_there

    new : (j : ℕ) → j < i → relocates_at t₀ j ≡ false
    new j l = go (relocates_at t₀ j) refl
      where
        go : (b : Bool) → relocates_at t₀ j ≡ b → b ≡ false
        go false _ = refl
        go true q =
            absurd (((sound.sections i h).rela e).new_target j l (and_left (counting_rela object j) _ q) (eqb-true _ _ (and_right (counting_rela object j) _ q)))

    index_more : (relas : List (Option Rela)) (x : Rela) → x.section ≡ i → x.first ≡ relocations_below object i → IndexedBelow relas i
        → IndexedBelow (set relas t₀ (Some x)) (i + 1)
    index_more relas x number below b =
        record {
          sided = record { long = omega (arith, b.sided.long, length-set relas t₀ (Some x)) };
          none = λ t z. none t (eqb t t₀) refl z;
          some = λ t r s. some t r (eqb t t₀) refl s;
        }
      where
        long : t₀ < length relas
        long = omega (arith, there, b.sided.long)

        stored : (t : ℕ) → t ≡ t₀ → get_or (set relas t₀ (Some x)) t None ≡ Some x
        stored t same = ap (λ n. get_or (set relas t₀ (Some x)) n None) same ∙ get_or-set_same relas t₀ (Some x) None long

        none : (t : ℕ) (q : Bool) → eqb t t₀ ≡ q → get_or (set relas t₀ (Some x)) t None ≡ None → (j : ℕ) → j < i + 1 → relocates_at t j ≡ false
        none t true q z = absurd (none-some x (sym z ∙ stored t (eqb-true t t₀ q)))
        none t false q z =
            let other : t ≡ t₀ → ⊥ = eqb-false t t₀ q in
            below_more (λ j. relocates_at t j ≡ false) i (b.none t (sym (get_or-set_other relas t₀ t (Some x) None other) ∙ z)) (rw (e, ne_eqb t₀ t (λ r. other (sym r))))

        some : (t : ℕ) (r : Rela) (q : Bool) → eqb t t₀ ≡ q → get_or (set relas t₀ (Some x)) t None ≡ Some r
            → (r.section < i + 1) × (relocates_at t r.section ≡ true) × ((j : ℕ) → j < r.section → relocates_at t j ≡ false) × (r.first ≡ relocations_below object r.section)
        some t r true q s =
            let same : t ≡ t₀ = eqb-true t t₀ q in
            let is : r ≡ x = same_Some r x (sym s ∙ stored t same) in
            rw (same, is, number, below) (omega arith, rw (e, eq-eqb t₀ t₀ refl), new, refl)
        some t r false q s =
            let other : t ≡ t₀ → ⊥ = eqb-false t t₀ q in
            let w = b.some t r (sym (get_or-set_other relas t₀ t (Some x) None other) ∙ s) in
            (omega (arith, w.0), w.1, w.2, w.3)

    -- the same of a target that is known to be this
    pub index_stored : (relas : List (Option Rela)) (t : ℕ) (x : Rela) → t ≡ t₀ → x.section ≡ i → x.first ≡ relocations_below object i → IndexedBelow relas i
        → IndexedBelow (set relas t (Some x)) (i + 1)
    index_stored relas t x is number below b = rw is (index_more relas x number below b)

  -- all sections
  pub index_all : (relas : List (Option Rela)) → IndexedBelow relas (section_count object) → Indexed object relas
  unfolding rela_of
  index_all relas b =
      record {
        sided = b.sided;
        none = λ t h z. let is = first_is (relocates_at t) (section_count object) (section_count object) (omega arith) (b.none t z) (λ l. absurd (omega arith)) in omega (arith, is);
        some = λ t r h s. some t r s;
      }
    where
      some : (t : ℕ) (r : Rela) → get_or relas t None ≡ Some r
          → (r.section ≡ rela_of object t) × (rela_of object t < section_count object) × (r.first ≡ relocations_below object (rela_of object t))
      some t r s =
          let w = b.some t r s in
          let is : rela_of object t ≡ r.section = unfold rela_of in first_is (relocates_at t) (section_count object) r.section (omega (arith, w.0)) w.2 (λ _. w.1) in
          rw is (refl, w.0, w.3)
