-- Laws of checks 10 to 14.
use mathlib.Core.Path.{◌≡◌, refl, sym, ap, ◌∙◌}
use mathlib.Core.Bool.{Bool, true, false, not, ◌&&◌, ◌||◌}
use mathlib.Core.List.{List}
use Prim.Native.Nat.{ℕ, ◌+◌, ◌*◌, ◌%◌, ◌^◌, ◌≤◌, ◌<◌}
use native.Mathlib.Omega.{arith}
use lib.Dec.{leb, ltb, eqb}
use borrow.Author.Tests.{ne_eqb, ltb-true, leb-false}
use Rattle.numbers_definitions.specs.Bytes.{le_at}
use Rattle.numbers_definitions.specs.Whole.{signed}
use Rattle.numbers_definitions.specs.Powers.{ceil_power}
use Rattle.numbers_definitions.proofs.Laws.Tests.{and_left, never}
use Rattle.elf_read.specs.declared.Relocation.{Relocation}
use Rattle.elf_read.specs.Headers.{class_of, has_rvc, address_width}
use Rattle.elf_read.specs.Entries.{symbol_count}
use Rattle.placing_symbols.specs.declared.Reason.TheVariants.{PastTable}
use Rattle.placing_symbols.specs.Reasons.{because, SymbolValue}
use Rattle.placing_symbols.specs.Values.{symbol_value}
use Rattle.relocations_types.specs.declared.Rule.{Rule}
use Rattle.relocations_types.specs.declared.Decision.{Decision}
use Rattle.relocations_types.specs.declared.Decision.TheVariants.{Marker, Align, Store, Refused}
use Rattle.relocations_types.specs.Types.{decision}
use Rattle.relocations_rela.specs.declared.sites.Site.{Site}
use Rattle.relocations_rela.specs.Sites.{entry, offset, decision_at, A, P, found}
use Rattle.relocations_decisions.specs.Decisions.{is_store, touched, needs_pair}
use Rattle.relocations_rela.specs.Shape.{end}
use Rattle.relocations_rules.specs.Rules.{is_resolved, in_target, symbol_well, stands_well, asks_well, form_well, boundary_well}
use Rattle.relocations_rela.specs.Requires.{SoundSite}
use Rattle.relocations_decisions.proofs.Laws.Decisions.{store_width, width_some}
use Rattle.relocations_rela.proofs.Laws.Addends.{signed_low}

-- ---- check 10

-- a symbol that resolves is 0 or in the table
pub resolved_there : (object order addresses : List ℕ) (k : ℕ) → is_resolved (symbol_value object order addresses k) ≡ true → 0 < k → k < symbol_count object
unfolding symbol_value
resolved_there object order addresses k e h =
    let some : eqb k 0 ≡ false = ne_eqb k 0 (λ z. omega arith) in
    go (leb (symbol_count object) k) _ refl (rw some at e)
  where
    go : (b : Bool) (v : SymbolValue) → leb (symbol_count object) k ≡ b → is_resolved (because PastTable b v) ≡ true → k < symbol_count object
    go true v q r = never r
    go false v q r = leb-false _ _ q

-- a PCREL_LO12 that keeps check 10 has a symbol above 0, which resolves
pub pair_symbol : (object : List ℕ) (x : Site) (j : ℕ) (v : SymbolValue) → symbol_well object x j v ≡ true → needs_pair (decision_at object x j) ≡ true
    → (is_resolved v ≡ true) × (0 < (entry object x j).symbol)
unfolding symbol_well in_target
pair_symbol object x j v e n = go (decision_at object x j) refl (is_resolved v) e n
  where
    go : (d : Decision) → decision_at object x j ≡ d → (b : Bool) → not (is_store d) || (b && (not (needs_pair d) || in_target object x j)) ≡ true → needs_pair d ≡ true
        → (b ≡ true) × (0 < (entry object x j).symbol)
    go (Store r) q true e n =
        let is_in_target : in_target object x j ≡ true = rw n at e in
        (refl, ltb-true _ _ (and_left (ltb 0 (entry object x j).symbol) _ is_in_target))
    go (Store r) q false e n = never e
    go Marker q b e n = never n
    go Align q b e n = never n
    go Refused q b e n = never n

-- ---- check 11

-- for a store, stated for the bytes l and the relocation r that the code has read
pub form_read : (object : List ℕ) (x : Site) (j : ℕ) (rule : Rule) (l : List ℕ) (r : Relocation) → decision_at object x j ≡ Store rule → l ≡ found object x → r ≡ entry object x j
    → stands_well (class_of object) rule.form (x.address.0 + r.offset.0) (le_at rule.size l r.offset.0) ≡ form_well object x j
unfolding form_well
form_read object x j rule l r e p q =
    ap (λ l. stands_well (class_of object) rule.form (x.address.0 + r.offset.0) (le_at rule.size l r.offset.0)) p
    ∙ ap (λ r. stands_well (class_of object) rule.form (x.address.0 + r.offset.0) (le_at rule.size (found object x) r.offset.0)) q
    ∙ sym (ap (λ d. asks_well (class_of object) d (P object x j) (found object x) (offset object x j)) e)

-- ---- check 13

-- P of a store lies in memory, so addition modulo 2^w gives it
pub place_below : (object : List ℕ) (x : Site) (j : ℕ) → SoundSite object x → end object x j ≤ x.target.size → is_store (decision_at object x j) ≡ true → P object x j < 2 ^ address_width object
place_below object x j f inside s = go (decision_at object x j) refl s inside
  where
    go : (d : Decision) → decision_at object x j ≡ d → is_store d ≡ true → offset object x j + touched d ≤ x.target.size → P object x j < 2 ^ address_width object
    go (Store r) q s i = omega (arith, width_some r.size (store_width _ _ _ r q), f.placed)
    go Marker q s i = never s
    go Align q s i = never s
    go Refused q s i = never s

-- ---- check 14

pub boundary_read : (object : List ℕ) (x : Site) (j : ℕ) (r : Relocation) (d : Decision) → r ≡ entry object x j → d ≡ decision (class_of object) (has_rvc object) r.kind
    → boundary_well d (x.address.0 + r.offset.0) (signed 64 r.addend) ≡ boundary_well (decision_at object x j) (P object x j) (A object x j)
boundary_read object x j r d re de = rw (de, re)

pub boundary_is : (p a : ℕ) → a ≤ 4094 → boundary_well Align p (signed 64 a) ≡ eqb ((p + a) % ceil_power 32 (a + 2)) 0
boundary_is p a h =
    let low : 2 * a < 2 ^ 64 = omega arith in
    rw (signed_low 64 a low)
