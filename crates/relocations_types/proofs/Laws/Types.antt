-- Laws of the decision from type number to rule.
use mathlib.Core.Logic.{◌⊎◌, inl, inr}
use mathlib.Core.Path.{◌≡◌, refl, sym, ap, ◌∙◌}
use mathlib.Core.Bool.{Bool, true, false, ◌&&◌, ◌||◌}
use mathlib.Core.List.{List, [], ◌∷◌, ◌++◌}
use Prim.Native.Nat.{ℕ, ◌≤◌, ◌<◌}
use native.Mathlib.Omega.{arith}
use lib.Dec.{eqb}
use types.Run.{OneOf}
use borrow.Author.Tests.{eqb-true, eqb-false}
use Rattle.numbers_definitions.specs.declared.Class.{Class}
use Rattle.numbers_definitions.specs.declared.Class.TheVariants.{Elf32, Elf64}
use Rattle.numbers_definitions.proofs.Laws.Tests.{and_left, and_right, or_false}
use Rattle.relocations_types.specs.declared.Decision.TheVariants.{Refused}
use Rattle.relocations_types.specs.Types.{Line, table, lines_of, among, lookup, permitted, decision}

-- ---- a number in a list, and in several

among_append : (t : ℕ) (xs ys : List ℕ) → among t (xs ++ ys) ≡ (among t xs || among t ys)
unfolding among
among_append t [] ys = refl
among_append t (x ∷ xs) ys = go (eqb t x) (among_append t xs ys)
  where
    go : (b : Bool) → among t (xs ++ ys) ≡ (among t xs || among t ys) → (b || among t (xs ++ ys)) ≡ (b || among t xs || among t ys)
    go true e = refl
    go false e = e

or_none : (a b : Bool) → a || b ≡ false → (a ≡ false) × (b ≡ false)
or_none true b e = (e, cc)
or_none false b e = (refl, e)

-- every number of one list is in the other
unfoldable covers : List ℕ → List ℕ → Bool
covers [] ys = true
covers (x ∷ xs) ys = among x ys && covers xs ys

covered : (t : ℕ) (xs ys : List ℕ) → covers xs ys ≡ true → among t ys ≡ false → among t xs ≡ false
unfolding covers among
covered t [] ys c n = refl
covered t (x ∷ xs) ys c n = go (eqb t x) refl (covered t xs ys (and_right (among x ys) (covers xs ys) c) n)
  where
    go : (b : Bool) → eqb t x ≡ b → among t xs ≡ false → (b || among t xs) ≡ false
    go true e rest =
        let here : among t ys ≡ true = rw (eqb-true t x e) (and_left (among x ys) (covers xs ys) c) in
        cc
    go false e rest = rest

-- ---- the arms of a match on a number

-- a number that is in none of the arms' lists, which come with the last arm first
abbrev pub Passed : List (List ℕ) → ℕ → Type 0
Passed [] t = Unit {0}
Passed (ks ∷ kss) t = Passed kss t × (OneOf ks t → ⊥)

unfoldable joined : List (List ℕ) → List ℕ
joined [] = []
joined (ks ∷ kss) = ks ++ joined kss

one_of : (t k : ℕ) (ks : List ℕ) → among t (k ∷ ks) ≡ true → OneOf (k ∷ ks) t
unfolding among
one_of t k [] e = eqb-true t k (sym (or_false (eqb t k)) ∙ e)
one_of t k (k' ∷ ks) e = go (eqb t k) refl e (one_of t k' ks)
  where
    go : (b : Bool) → eqb t k ≡ b → (b || (eqb t k' || among t ks)) ≡ true → (among t (k' ∷ ks) ≡ true → OneOf (k' ∷ ks) t) → OneOf (k ∷ k' ∷ ks) t
    go true q h rest = inl (eqb-true t k q)
    go false q h rest = inr (rest h)

not_one_of : (t : ℕ) (ks : List ℕ) → (OneOf ks t → ⊥) → among t ks ≡ false
unfolding among
not_one_of t [] n = refl
not_one_of t (k ∷ ks) n = go (among t (k ∷ ks)) refl
  where
    go : (b : Bool) → among t (k ∷ ks) ≡ b → among t (k ∷ ks) ≡ false
    go true e = absurd (n (one_of t k ks e))
    go false e = e

passed_among : (t : ℕ) (kss : List (List ℕ)) → Passed kss t → among t (joined kss) ≡ false
unfolding joined among
passed_among t [] p = refl
passed_among t (ks ∷ kss) p = among_append t ks (joined kss) ∙ rw (not_one_of t ks p.1, passed_among t kss p.0)

-- ---- the table

unfoldable types_of : List Line → List ℕ
types_of [] = []
types_of (l ∷ ls) = l.types ++ types_of ls

-- a number that no line has is refused
lookup_none : (t : ℕ) (ls : List Line) → among t (types_of ls) ≡ false → lookup t ls ≡ Refused
unfolding lookup types_of
lookup_none t [] n = refl
lookup_none t (l ∷ ls) n =
    let apart = or_none (among t l.types) (among t (types_of ls)) (sym (among_append t l.types (types_of ls)) ∙ n) in
    rw apart.0 (lookup_none t ls apart.1)

-- the arms of `decide` that name numbers, with the last one first
abbrev pub arms : List (List ℕ)
arms =
    (56 ∷ [])
    ∷ (55 ∷ [])
    ∷ (54 ∷ [])
    ∷ (53 ∷ [])
    ∷ (52 ∷ [])
    ∷ (40 ∷ [])
    ∷ (39 ∷ [])
    ∷ (38 ∷ [])
    ∷ (37 ∷ [])
    ∷ (36 ∷ [])
    ∷ (35 ∷ [])
    ∷ (34 ∷ [])
    ∷ (33 ∷ [])
    ∷ (25 ∷ [])
    ∷ (24 ∷ [])
    ∷ (28 ∷ [])
    ∷ (27 ∷ [])
    ∷ (26 ∷ [])
    ∷ (23 ∷ [])
    ∷ (45 ∷ [])
    ∷ (44 ∷ [])
    ∷ (17 ∷ [])
    ∷ (16 ∷ [])
    ∷ (57 ∷ [])
    ∷ (2 ∷ [])
    ∷ (1 ∷ [])
    ∷ (43 ∷ [])
    ∷ (0 ∷ 51 ∷ [])
    ∷ []

-- a number in none of these arms is that of CALL or CALL_PLT, or it is refused
no_line : (ls : List Line) → covers (types_of ls) (joined ((18 ∷ 19 ∷ []) ∷ arms)) ≡ true → (t : ℕ) → Passed arms t → (OneOf (18 ∷ 19 ∷ []) t → ⊥) → lookup t ls ≡ Refused
no_line ls all t p n = lookup_none t ls (covered t (types_of ls) (joined ((18 ∷ 19 ∷ []) ∷ arms)) all (passed_among t ((18 ∷ 19 ∷ []) ∷ arms) (p, n)))

pub others_refused : (c : Class) (rvc : Bool) (t : ℕ) → Passed arms t → (OneOf (18 ∷ 19 ∷ []) t → ⊥) → decision c rvc t ≡ Refused
unfolding decision types_of table covers among joined
others_refused Elf32 rvc t p n = ap (permitted rvc) (no_line (lines_of Elf32) refl t p n)
others_refused Elf64 rvc t p n = ap (permitted rvc) (no_line (lines_of Elf64) refl t p n)

pub call_types : (t : ℕ) → 16 ≤ t → t < 20 → Passed arms t → OneOf (18 ∷ 19 ∷ []) t
unfolding among joined
call_types t low high p = go (eqb t 18) refl (eqb t 16) refl (eqb t 17) refl
  where
    out : (k : ℕ) → among k (joined arms) ≡ true → t ≡ k → ⊥
    out k e q =
        let here : among t (joined arms) ≡ true = rw q e in
        let z : ◌≡◌ {A = Bool} true false = sym here ∙ passed_among t arms p in
        let one : ◌≡◌ {A = ℕ} 0 1 = ap (λ b. mathlib.Core.Bool.cond b 0 1) z in
        omega arith

    go : (a : Bool) → eqb t 18 ≡ a → (b : Bool) → eqb t 16 ≡ b → (c : Bool) → eqb t 17 ≡ c → (t ≡ 18) ⊎ (t ≡ 19)
    go true e b f c g = inl (eqb-true t 18 e)
    go false e true f c g = absurd (out 16 refl (eqb-true t 16 f))
    go false e false f true g = absurd (out 17 refl (eqb-true t 17 g))
    go false e false f false g = last (eqb-false t 18 e) (eqb-false t 16 f) (eqb-false t 17 g)
      where
        last : (t ≡ 18 → ⊥) → (t ≡ 16 → ⊥) → (t ≡ 17 → ⊥) → (t ≡ 18) ⊎ (t ≡ 19)
        last x y z = inr (omega arith)

-- a number below 16, or from 20 on, is neither 18 nor 19
pub too_low : (t : ℕ) → t < 16 → (k : ℕ) → 16 ≤ k → t ≡ k → ⊥
too_low t h k l e = omega arith

pub too_high : (t : ℕ) → 20 ≤ t → (k : ℕ) → k < 20 → t ≡ k → ⊥
too_high t h k l e = omega arith

-- a type other than 2 has its line in document 01's table, in both classes
pub listed : (c : Class) (rvc : Bool) (t k : ℕ) → t ≡ k → eqb k 2 ≡ false → decision c rvc t ≡ permitted rvc (lookup k table)
unfolding decision lookup among
listed Elf32 rvc t k e other = ap (λ t. permitted rvc (lookup t table)) e
listed Elf64 rvc t k e other = ap (λ t. permitted rvc (lookup t (lines_of Elf64))) e ∙ rw other

-- the line of type 2, which no object refuses for its short instructions
pub doubled : (c : Class) (rvc : Bool) (t : ℕ) → t ≡ 2 → decision c rvc t ≡ lookup 2 (lines_of c)
unfolding decision lookup among table
doubled Elf32 rvc t e = ap (λ t. permitted rvc (lookup t table)) e
doubled Elf64 rvc t e = ap (λ t. permitted rvc (lookup t (lines_of Elf64))) e
