-- What holds for every line of the table of relocation types.
use mathlib.Core.Path.{◌≡◌, refl, sym, ap, ◌∙◌}
use mathlib.Core.Bool.{Bool, true, false, not, cond, ◌&&◌, ◌||◌}
use mathlib.Core.List.{List, [], ◌∷◌}
use Prim.Native.Nat.{ℕ, zero, suc, ◌≤◌, ◌<◌}
use native.Mathlib.Omega.{arith}
use lib.Dec.{eqb}
use borrow.Author.Tests.{eqb-true}
use Rattle.numbers_definitions.specs.declared.Class.{Class}
use Rattle.numbers_definitions.specs.declared.Class.TheVariants.{Elf32, Elf64}
use Rattle.numbers_definitions.proofs.Laws.Tests.{and_left, and_right, never, clash}
use Rattle.numbers_bytes.specs.Widths.{is_width}
use Rattle.instructions_fields.specs.declared.Width.{Width}
use Rattle.instructions_fields.specs.declared.Width.TheVariants.{W6, W8, W16, W32, W64}
use Rattle.instructions_fields.specs.declared.Field.{Field}
use Rattle.instructions_fields.specs.declared.Field.TheVariants.{U, I, S, B, J, Cb, Cj, Call, Data}
use Rattle.relocations_types.specs.declared.Rule.{Rule}
use Rattle.relocations_types.specs.declared.Decision.{Decision}
use Rattle.relocations_types.specs.declared.Decision.TheVariants.{Marker, Align, Store, Refused}
use Rattle.relocations_types.specs.Types.{Line, word64, pairing, pairing_type, table, lines_of, among, lookup, is_short, permitted, decision}
use Rattle.relocations_decisions.specs.Decisions.{touched, gives_pair}
use Rattle.relocations_decisions.specs.Widths.{on_data}

-- what holds of a decision and of a refusal holds of what an object may have of it
permitted_keeps : (Q : Decision → Type 0) → Q Refused → (rvc : Bool) (d : Decision) → Q d → Q (permitted rvc d)
permitted_keeps Q none rvc (Store r) q = go (is_short r.form && not rvc)
  where
    go : (b : Bool) → Q (cond b Refused (Store r))
    go true = none
    go false = q
permitted_keeps Q none rvc Marker q = q
permitted_keeps Q none rvc Align q = q
permitted_keeps Q none rvc Refused q = q

-- a test that holds for each line and for a refusal holds for every decision
unfoldable pub holds : (Decision → Bool) → List Line → Bool
holds p [] = p Refused
holds p (l ∷ ls) = p l.decision_at && holds p ls

looked_up : (p : Decision → Bool) (ls : List Line) → holds p ls ≡ true → (t : ℕ) → p (lookup t ls) ≡ true
unfolding holds lookup
looked_up p [] e t = e
looked_up p (l ∷ ls) e t = go (among t l.types) (looked_up p ls (and_right (p l.decision_at) (holds p ls) e) t)
  where
    go : (b : Bool) → p (lookup t ls) ≡ true → p (cond b l.decision_at (lookup t ls)) ≡ true
    go true rest = and_left (p l.decision_at) (holds p ls) e
    go false rest = rest

refusal_holds : (p : Decision → Bool) (ls : List Line) → holds p ls ≡ true → p Refused ≡ true
unfolding holds
refusal_holds p [] e = e
refusal_holds p (l ∷ ls) e = refusal_holds p ls (and_right (p l.decision_at) (holds p ls) e)

-- class 2 has the lines of class 1 too, so the lines of class 2 are enough
pub decided : (p : Decision → Bool) → holds p (lines_of Elf64) ≡ true → (c : Class) (rvc : Bool) (t : ℕ) → p (decision c rvc t) ≡ true
unfolding decision holds
decided p e c rvc t = permitted_keeps (λ d. p d ≡ true) (refusal_holds p (lines_of Elf64) e) rvc (lookup t (lines_of c)) (go c)
  where
    go : (c : Class) → p (lookup t (lines_of c)) ≡ true
    go Elf32 = looked_up p (lines_of Elf32) (and_right (p word64) (holds p table) e) t
    go Elf64 = looked_up p (lines_of Elf64) e t

-- ---- how many bytes a field is stored in

abbrev pub data_bytes : Width → ℕ
data_bytes W6 = 1
data_bytes W8 = 1
data_bytes W16 = 2
data_bytes W32 = 4
data_bytes W64 = 8

abbrev pub field_bytes : Field → ℕ
field_bytes U = 4
field_bytes I = 4
field_bytes S = 4
field_bytes B = 4
field_bytes J = 4
field_bytes Cb = 2
field_bytes Cj = 2
field_bytes Call = 8
field_bytes (Data width) = data_bytes width

-- a store touches the bytes of its field, which are 1, 2, 4 or 8, and ADD, SUB and SET have data fields only
abbrev pub well_stored : Decision → Bool
well_stored (Store r) = is_width r.size && eqb r.size (field_bytes r.field) && on_data r.calculation r.field
well_stored Marker = true
well_stored Align = true
well_stored Refused = true

pub stores_well : (c : Class) (rvc : Bool) (t : ℕ) → well_stored (decision c rvc t) ≡ true
unfolding holds table
stores_well c rvc t = decided well_stored refl c rvc t

pub small : (n : ℕ) → is_width n ≡ true → n ≤ 8
small n e = go (eqb n 1) refl (eqb n 2) refl (eqb n 4) refl e
  where
    go : (a : Bool) → eqb n 1 ≡ a → (b : Bool) → eqb n 2 ≡ b → (c : Bool) → eqb n 4 ≡ c → a || b || c || eqb n 8 ≡ true → n ≤ 8
    go true p b q c r e = omega (arith, eqb-true n 1 p)
    go false p true q c r e = omega (arith, eqb-true n 2 q)
    go false p false q true r e = omega (arith, eqb-true n 4 r)
    go false p false q false r e = omega (arith, eqb-true n 8 e)

module _ (c : Class) (rvc : Bool) (t : ℕ) (r : Rule) (e : decision c rvc t ≡ Store r) where
  facts : is_width r.size && eqb r.size (field_bytes r.field) && on_data r.calculation r.field ≡ true
  facts = sym (ap well_stored e) ∙ stores_well c rvc t

  both : is_width r.size && eqb r.size (field_bytes r.field) ≡ true
  both = and_left (is_width r.size && eqb r.size (field_bytes r.field)) (on_data r.calculation r.field) facts

  pub store_width : is_width r.size ≡ true
  store_width = and_left (is_width r.size) (eqb r.size (field_bytes r.field)) both

  pub store_bytes : r.size ≡ field_bytes r.field
  store_bytes = eqb-true _ _ (and_right (is_width r.size) (eqb r.size (field_bytes r.field)) both)

  pub store_data : on_data r.calculation r.field ≡ true
  store_data = and_right (is_width r.size && eqb r.size (field_bytes r.field)) (on_data r.calculation r.field) facts

-- no decision touches more than eight bytes
pub touched_small : (c : Class) (rvc : Bool) (t : ℕ) → touched (decision c rvc t) ≤ 8
touched_small c rvc t = go (decision c rvc t) refl
  where
    go : (d : Decision) → decision c rvc t ≡ d → touched d ≤ 8
    go (Store r) e = small r.size (store_width c rvc t r e)
    go Marker e = omega arith
    go Align e = omega arith
    go Refused e = omega arith

pub width_some : (n : ℕ) → is_width n ≡ true → 0 < n
width_some zero e = never e
width_some (suc n) e = omega arith

-- ---- the one line that gives a pair

-- what holds of each line and of a refusal holds of every decision
abbrev pub Each : (Decision → Type 0) → List Line → Type 0
Each Q [] = Q Refused
Each Q (l ∷ ls) = Q l.decision_at × Each Q ls

each : (Q : Decision → Type 0) (ls : List Line) → Each Q ls → (t : ℕ) → Q (lookup t ls)
unfolding lookup
each Q [] q t = q
each Q (l ∷ ls) q t = go (among t l.types) (each Q ls q.1 t)
  where
    go : (b : Bool) → Q (lookup t ls) → Q (cond b l.decision_at (lookup t ls))
    go true rest = q.0
    go false rest = rest

each_refusal : (Q : Decision → Type 0) (ls : List Line) → Each Q ls → Q Refused
each_refusal Q [] q = q
each_refusal Q (l ∷ ls) q = each_refusal Q ls q.1

each_line : (Q : Decision → Type 0) → Each Q (lines_of Elf64) → (c : Class) (t : ℕ) → Q (lookup t (lines_of c))
each_line Q q Elf32 t = each Q (lines_of Elf32) q.1 t
each_line Q q Elf64 t = each Q (lines_of Elf64) q t

pub each_decided : (Q : Decision → Type 0) → Each Q (lines_of Elf64) → (c : Class) (rvc : Bool) (t : ℕ) → Q (decision c rvc t)
unfolding decision
each_decided Q q c rvc t = permitted_keeps Q (each_refusal Q (lines_of Elf64) q) rvc (lookup t (lines_of c)) (each_line Q q c t)

abbrev OnlyPairing : Decision → Type 0
OnlyPairing d = gives_pair d ≡ true → d ≡ pairing

-- each line keeps that
only_pairing : Each OnlyPairing (lines_of Elf64)
unfolding table
only_pairing = (never, (never, (never, (never, (never, (never, (never, (never, (never, (never, ((λ e. refl), (never, (never, (never, (never, (never, (never, (never, (never, (never, (never, (never, (never, (never, (never, (never, (never, (never, (never, never)))))))))))))))))))))))))))))

pub pair_is : (c : Class) (rvc : Bool) (t : ℕ) → gives_pair (decision c rvc t) ≡ true → decision c rvc t ≡ pairing
pair_is c rvc t = each_decided OnlyPairing only_pairing c rvc t

-- a line that gives a pair has the type
unfoldable gives_at : ℕ → List Line → Bool
gives_at t [] = false
gives_at t (l ∷ ls) = (gives_pair l.decision_at && among t l.types) || gives_at t ls

gives_at_lem : (t : ℕ) (ls : List Line) → gives_pair (lookup t ls) ≡ true → gives_at t ls ≡ true
unfolding gives_at lookup
gives_at_lem t [] e = never e
gives_at_lem t (l ∷ ls) e = go (among t l.types) (gives_pair l.decision_at) refl e (gives_at_lem t ls)
  where
    go : (a g : Bool) → gives_pair l.decision_at ≡ g → gives_pair (cond a l.decision_at (lookup t ls)) ≡ true → (gives_pair (lookup t ls) ≡ true → gives_at t ls ≡ true)
        → ((g && a) || gives_at t ls) ≡ true
    go true true p q rest = refl
    go true false p q rest = never (sym p ∙ q)
    go false true p q rest = rest q
    go false false p q rest = rest q

-- and the one type that gives a pair
pair_in : (ls : List Line) → gives_pair (lookup pairing_type ls) ≡ true → ((t : ℕ) → eqb t pairing_type ≡ false → gives_at t ls ≡ false) → (t : ℕ)
    → gives_pair (lookup t ls) ≡ eqb t pairing_type
pair_in ls there only t = go (eqb t pairing_type) refl (gives_pair (lookup t ls)) refl
  where
    go : (b : Bool) → eqb t pairing_type ≡ b → (g : Bool) → gives_pair (lookup t ls) ≡ g → gives_pair (lookup t ls) ≡ b
    go true e g q = rw (eqb-true t pairing_type e) there
    go false e false q = q
    go false e true q = clash (gives_at t ls) (only t e) (gives_at_lem t ls q)

line_type : (c : Class) (t : ℕ) → gives_pair (lookup t (lines_of c)) ≡ eqb t pairing_type
unfolding table lookup among gives_at
line_type Elf32 t = pair_in (lines_of Elf32) refl (λ t e. rw e) t
line_type Elf64 t = pair_in (lines_of Elf64) refl (λ t e. rw e) t

-- it is the same in every object
permitted_pairs : (rvc : Bool) (d : Decision) → OnlyPairing d → gives_pair (permitted rvc d) ≡ gives_pair d
permitted_pairs rvc d only = go (gives_pair d) refl
  where
    go : (b : Bool) → gives_pair d ≡ b → gives_pair (permitted rvc d) ≡ b
    go true e = ap (λ d. gives_pair (permitted rvc d)) (only e)
    go false e = permitted_keeps (λ d. gives_pair d ≡ false) refl rvc d e

pub pair_type : (c : Class) (rvc : Bool) (t : ℕ) → gives_pair (decision c rvc t) ≡ eqb t pairing_type
unfolding decision
pair_type c rvc t = permitted_pairs rvc (lookup t (lines_of c)) (each_line OnlyPairing only_pairing c t) ∙ line_type c t
