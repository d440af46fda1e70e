-- A pair that is looked up in the list of the high halves.
use Rattle.std.specs.Prelude.{None, Option, Some, is_some}
use mathlib.Core.Path.{◌≡◌, refl, sym, ap, ◌∙◌}
use mathlib.Core.Bool.{Bool, true, false}
use mathlib.Core.List.{List}
use Prim.Native.Nat.{ℕ, ◌+◌, ◌≤◌, ◌<◌}
use native.Mathlib.Omega.{arith}
use native.Mathlib.Decide.{dec_lt}
use lib.Dec.{eqb}
use lib.ListN.{get_or}
use borrow.Author.Tests.{eq-eqb, eqb-true}
use Rattle.numbers_definitions.specs.declared.SectionOffset.{SectionOffset}
use Rattle.numbers_definitions.proofs.Laws.Tests.{and_left, and_right, both, never}
use Rattle.relocations_rela.specs.declared.sites.Site.{Site}
use Rattle.relocations_rela.specs.Sites.{count, offset}
use Rattle.relocations_rela.specs.Requires.{SoundSite}
use Rattle.relocations_values.specs.Pairs.{is_pair, pair_of}
use Rattle.relocations_values.specs.Highs.{is_high, Listed}
use Rattle.relocations_values.specs.Sorting.{keys, Stands, Ordered, NotBelow}
use Rattle.relocations_values.proofs.Laws.Pairs.{pair_alone, pair_missing, pair_twice}

-- ---- halving, over any keys

module _ (f : ℕ → ℕ) (m value : ℕ) (ordered : Ordered f m) where
  pub halves_below : (middle : ℕ) → middle < m → f middle < value → (i : ℕ) → i < middle + 1 → f i < value
  halves_below middle h l i b = omega (arith, ordered i middle (omega arith) h)

  pub halves_from : (middle : ℕ) → value ≤ f middle → (i : ℕ) → middle ≤ i → i < m → value ≤ f i
  halves_from middle l i a b = omega (arith, ordered middle i a b)

-- ---- the search

-- what was met of the high halves at an offset before place i, from place r on
module _ (object : List ℕ) (x : Site) (l : List ℕ) (m : ℕ) (value : SectionOffset) (r : ℕ) where
  abbrev pub Met : Option ℕ → ℕ → Type 0
  Met None i = i ≡ r
  Met (Some k) i = (i ≡ r + 1) × (r < m) × (keys object x l r ≡ value.0) × (k ≡ get_or l r 0)

module _ (object : List ℕ) (x : Site) (l : List ℕ) (m : ℕ) (list : Listed object x l m) where
  pub listed_stands : SoundSite object x → (i : ℕ) → i < m → Stands object x l i
  listed_stands s i h = record { site = s; place = omega (arith, list.fits); number = (list.each i h).0 }

  module _ (value : SectionOffset) where
    -- a high half at the offset is a pair
    is_pair_lem : (i : ℕ) → i < m → keys object x l i ≡ value.0 → is_pair object x value (get_or l i 0) ≡ true
    unfolding is_pair
    is_pair_lem i h e = both (is_high object x (get_or l i 0)) (eqb (keys object x l i) value.0) (list.each i h).1 (eq-eqb _ _ e)

    -- a pair is listed
    place_of : (k : ℕ) → k < count object x → is_pair object x value k ≡ true → (i : ℕ) × (i < m) × (get_or l i 0 ≡ k) × (keys object x l i ≡ value.0)
    unfolding is_pair
    place_of k h e =
        let there = list.all k h (and_left (is_high object x k) (eqb (offset object x k) value.0) e) in
        let same : offset object x k ≡ value.0 = eqb-true _ _ (and_right (is_high object x k) (eqb (offset object x k) value.0) e) in
        (there.0, there.1, there.2, ap (offset object x) there.2 ∙ same)

    -- a relocation is no pair if no place that holds it has the offset
    no_pair : (k : ℕ) → k < count object x → ((i : ℕ) → i < m → get_or l i 0 ≡ k → keys object x l i ≡ value.0 → ⊥) → is_pair object x value k ≡ false
    no_pair k h none = go (is_pair object x value k) refl
      where
        go : (b : Bool) → is_pair object x value k ≡ b → b ≡ false
        go true e = let p = place_of k h e in absurd (none p.0 p.1 p.2 p.3)
        go false e = refl

    module _ (r : ℕ) (parted : NotBelow (keys object x l) m value.0 r) where
      -- from a place on that does not have the offset, none has it
      pub past : (j : ℕ) → r ≤ j → (keys object x l j ≡ value.0 → ⊥) → (i : ℕ) → j ≤ i → i < m → keys object x l i ≡ value.0 → ⊥
      past j from differs i a b same = differs (omega (arith, parted.from j from (omega arith), list.ordered j i a b))

      pub met_from : (pair : Option ℕ) (i : ℕ) → Met object x l m value r pair i → r ≤ i
      met_from None i e = omega arith
      met_from (Some k) i (e, there, held, is) = omega arith

      pub met_all : (pair : Option ℕ) (i : ℕ) → Met object x l m value r pair i → ((j : ℕ) → i ≤ j → j < m → keys object x l j ≡ value.0 → ⊥) → pair ≡ pair_of object x value
      met_all None i e none =
          sym (pair_missing object x value (λ k h. no_pair k h (λ j b held same. here j b same (dec_lt j r))))
        where
          here : (j : ℕ) → j < m → keys object x l j ≡ value.0 → Dec (j < r) → ⊥
          here j b same (yes less) = omega (arith, parted.below j less)
          here j b same (no less) = none j (omega arith) b same
      met_all (Some k) i (e, there, held, is) none =
          ap Some is
          ∙ sym (pair_alone object x value (get_or l r 0) (list.each r there).0 (is_pair_lem r there held)
          (λ k h differs. no_pair k h (λ j b at same. here k differs j b at same (dec_lt j r) (dec_lt r j))))
        where
          here : (k : ℕ) → (k ≡ get_or l r 0 → ⊥) → (j : ℕ) → j < m → get_or l j 0 ≡ k → keys object x l j ≡ value.0 → Dec (j < r) → Dec (r < j) → ⊥
          here k differs j b at same (yes less) more = omega (arith, parted.below j less)
          here k differs j b at same (no less) (yes more) = none j (omega arith) b same
          here k differs j b at same (no less) (no more) =
              let one : j ≡ r = omega arith in
              differs (sym at ∙ ap (λ j. get_or l j 0) one)

      pub lookup_two : r + 1 < m → keys object x l r ≡ value.0 → keys object x l (r + 1) ≡ value.0 → pair_of object x value ≡ None
      lookup_two there first second = go (dec_lt a b) (dec_lt b a)
        where
          a : ℕ
          a = get_or l r 0

          b : ℕ
          b = get_or l (r + 1) 0

          go : Dec (a < b) → Dec (b < a) → pair_of object x value ≡ None
          go (yes h) k = pair_twice object x value a b h (list.each (r + 1) there).0 (is_pair_lem r (omega arith) first) (is_pair_lem (r + 1) there second)
          go (no h) (yes k) = pair_twice object x value b a k (list.each r (omega arith)).0 (is_pair_lem (r + 1) there second) (is_pair_lem r (omega arith) first)
          go (no h) (no k) = absurd (list.once r (r + 1) (omega arith) there (omega arith))

      -- a second one
      pub met_twice : (pair : Option ℕ) (i : ℕ) → Met object x l m value r pair i → is_some pair ≡ true → i < m → keys object x l i ≡ value.0 → None ≡ pair_of object x value
      met_twice None i e some b same = never some
      met_twice (Some k) i (e, there, held, is) some b same =
          sym (lookup_two (omega arith) held (ap (keys object x l) (sym e) ∙ same))
