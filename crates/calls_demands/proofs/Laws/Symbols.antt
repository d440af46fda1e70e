-- Check 10: a relocation's symbol has a value exactly when no reason applies, and otherwise the reason is the first that does.
use Rattle.std.specs.Prelude.{Ok, Option}
use mathlib.Core.Logic.{◌⊎◌, inl, inr, ⊎_elim}
use mathlib.Core.Path.{◌≡◌, refl, sym, ap, ◌∙◌, subst}
use mathlib.Core.Bool.{Bool, true, false, not, ◌&&◌, ◌||◌}
use mathlib.Core.List.{List}
use Prim.Native.Nat.{ℕ, ◌≤◌, ◌<◌}
use native.Mathlib.Omega.{arith}
use native.Mathlib.Decide.{dec_lt}
use lib.ListN.{get_or}
use lib.Dec.{leb, ltb, eqb}
use borrow.Author.Tests.{leb-true, leb-false, ltb-true, eqb-true, eqb-false, le-leb, lt-ltb, eq-eqb, ne_eqb, not-true, not-false}
use Rattle.numbers_definitions.specs.declared.Address.{Address}
use Rattle.numbers_definitions.specs.Places.{address}
use Rattle.numbers_definitions.proofs.Laws.Tests.{and_left, and_right, never, clash, both, given, one_of_two, neither_left, neither_right}
use Rattle.elf_read.specs.declared.Symbol.{Symbol}
use Rattle.elf_read.specs.Headers.{class_of}
use Rattle.elf_read.specs.Sections.{is_allocated}
use Rattle.elf_read.specs.Entries.{symbol_count}
use Rattle.order_lookup.specs.Values.{is_given, external_value}
use Rattle.order_lookup.specs.Addresses.{addresses_for}
use Rattle.plan_pieces.specs.Answers.{Answer, says_why}
use Rattle.placing_symbols.specs.declared.Reason.{Reason}
use Rattle.placing_symbols.specs.declared.Reason.TheVariants.{PastTable, NotAllocated, Common, Reserved, Undefined, WrongType, OutsideTarget}
use Rattle.placing_symbols.specs.Reasons.{reason_number, because, SymbolValue}
use Rattle.placing_symbols.specs.Values.{not_allocated, is_common, is_reserved, is_missing, is_wrong_type, of_section, of_entry, symbol_value}
use Rattle.relocations_types.specs.declared.Decision.{Decision}
use Rattle.relocations_types.specs.declared.Decision.TheVariants.{Marker, Align, Store, Refused}
use Rattle.relocations_decisions.specs.Decisions.{is_store, needs_pair}
use Rattle.relocations_rela.specs.declared.sites.Site.{Site}
use Rattle.relocations_rela.specs.Sites.{entry, decision_at}
use Rattle.relocations_values.specs.Values.{value_at}
use Rattle.relocations_rules.specs.Rules.{is_resolved, symbol, in_target, symbol_well, why}
use Rattle.calls_demands.specs.Rules.{LooksUp, InTable, InAllocated, NotCommon, NotReserved, NotMissing, RightType, InTarget, SymbolWell, site, entry_of, of_relocation, FormIs, OnePair, Reaches, OnBoundary}
use Rattle.calls_demands.specs.First.{Line, nil, rule, HoldAt, BrokenAt}

-- 24 and 25 are not markers
needs_store : (d : Decision) → needs_pair d ≡ true → is_store d ≡ true
needs_store (Store r) e = refl
needs_store Marker e = never e
needs_store Align e = never e
needs_store Refused e = never e

-- ---- each test of a reason, and its rule

module _ (object : List ℕ) (y : Symbol) where
  allocated_if : not_allocated object y ≡ false → 1 ≤ y.section → y.section ≤ 0xFEFF → is_allocated object y.section ≡ true
  allocated_if e low high = not-false _ (rw (le-leb 1 y.section low, le-leb y.section 0xFEFF high) at e)

  reserved_if : is_reserved y ≡ false → 0xFF00 ≤ y.section → (y.section ≡ 0xFFF1) ⊎ (y.section ≡ 0xFFF2)
  reserved_if e high = go (eqb y.section 0xFFF1) refl (eqb y.section 0xFFF2) refl
    where
      go : (a : Bool) → eqb y.section 0xFFF1 ≡ a → (b : Bool) → eqb y.section 0xFFF2 ≡ b → (y.section ≡ 0xFFF1) ⊎ (y.section ≡ 0xFFF2)
      go true p b q = inl (eqb-true _ _ p)
      go false p true q = inr (eqb-true _ _ q)
      go false p false q = never (sym (rw (le-leb 0xFF00 y.section high, p, q) at e))

  missing_if : (g : Option Address) → is_missing g y ≡ false → y.section ≡ 0 → (y.binding ≡ 2) ⊎ (is_given g ≡ true)
  missing_if g e none = go (eqb y.binding 2) refl (is_given g) refl
    where
      go : (a : Bool) → eqb y.binding 2 ≡ a → (b : Bool) → is_given g ≡ b → (y.binding ≡ 2) ⊎ (is_given g ≡ true)
      go true p b q = inl (eqb-true _ _ p)
      go false p true q = inr q
      go false p false q = never (sym (rw (none, p, q) at e))

  type_if : is_wrong_type y ≡ false → (y.kind ≡ 6 → ⊥) × (y.kind ≡ 10 → ⊥)
  type_if e = (eqb-false _ _ (neither_left (eqb y.kind 6) (eqb y.kind 10) e), eqb-false _ _ (neither_right (eqb y.kind 6) (eqb y.kind 10) e))

  not_allocated_if : not_allocated object y ≡ true → (1 ≤ y.section → y.section ≤ 0xFEFF → is_allocated object y.section ≡ true) → ⊥
  not_allocated_if e h =
      let ends : (leb 1 y.section && leb y.section 0xFEFF) ≡ true = and_left (leb 1 y.section && leb y.section 0xFEFF) (not (is_allocated object y.section)) e in
      clash (is_allocated object y.section) (not-true _ (and_right (leb 1 y.section && leb y.section 0xFEFF) (not (is_allocated object y.section)) e))
      (h (leb-true _ _ (and_left (leb 1 y.section) (leb y.section 0xFEFF) ends)) (leb-true _ _ (and_right (leb 1 y.section) (leb y.section 0xFEFF) ends)))

  not_reserved_if : is_reserved y ≡ true → (0xFF00 ≤ y.section → (y.section ≡ 0xFFF1) ⊎ (y.section ≡ 0xFFF2)) → ⊥
  not_reserved_if e h =
      let high : Bool = leb 0xFF00 y.section in
      let absolute : Bool = eqb y.section 0xFFF1 in
      let common : Bool = eqb y.section 0xFFF2 in
      let first : (high && not absolute) ≡ true = and_left (high && not absolute) (not common) e in
      ⊎_elim (eqb-false _ _ (not-true absolute (and_right high (not absolute) first))) (eqb-false _ _ (not-true common (and_right (high && not absolute) (not common) e)))
      (h (leb-true _ _ (and_left high (not absolute) first)))

  not_missing_if : (g : Option Address) → is_missing g y ≡ true → (y.section ≡ 0 → (y.binding ≡ 2) ⊎ (is_given g ≡ true)) → ⊥
  not_missing_if g e h =
      let undefined : Bool = eqb y.section 0 in
      let weak : Bool = eqb y.binding 2 in
      let first : (undefined && not weak) ≡ true = and_left (undefined && not weak) (not (is_given g)) e in
      ⊎_elim (eqb-false _ _ (not-true weak (and_right undefined (not weak) first))) (clash (is_given g) (not-true (is_given g) (and_right (undefined && not weak) (not (is_given g)) e)))
      (h (eqb-true _ _ (and_left undefined (not weak) first)))

  not_type_if : is_wrong_type y ≡ true → (y.kind ≡ 6 → ⊥) × (y.kind ≡ 10 → ⊥) → ⊥
  not_type_if e h = ⊎_elim (λ q. h.0 (eqb-true _ _ q)) (λ q. h.1 (eqb-true _ _ q)) (one_of_two (eqb y.kind 6) (eqb y.kind 10) e)

-- ---- a relocation's symbol

module _ (object order addresses : List ℕ) (x : Site) (j : ℕ) where
  abbrev k : ℕ
  k = (entry object x j).symbol

  abbrev y : Symbol
  y = symbol object x j

  abbrev g : Option Address
  g = external_value (class_of object) order k

  abbrev value : SymbolValue
  value = value_at object order addresses x j

  -- what is left of the reasons, from one on
  abbrev from6 : SymbolValue
  from6 = because WrongType (is_wrong_type y) (Ok (of_section object g (get_or addresses y.section 0) y))

  abbrev from5 : SymbolValue
  from5 = because Undefined (is_missing g y) from6

  abbrev from4 : SymbolValue
  from4 = because Reserved (is_reserved y) from5

  abbrev from3 : SymbolValue
  from3 = because Common (is_common y) from4

  abbrev from2 : SymbolValue
  from2 = because NotAllocated (not_allocated object y) from3

  abbrev from1 : SymbolValue
  from1 = because PastTable (leb (symbol_count object) k) from2

  looked_up : 0 < k → value ≡ from1
  unfolding symbol_value of_entry
  looked_up some = rw (ne_eqb k 0 (λ z. omega arith))

  zero_value : k ≡ 0 → value ≡ Ok (address 0)
  unfolding symbol_value
  zero_value none = rw (eq-eqb k 0 none)

  -- ---- no reason applies to a symbol that has a value

  no_reason : (r : Reason) (t : Bool) (v : SymbolValue) → is_resolved (because r t v) ≡ true → (t ≡ false) × (is_resolved v ≡ true)
  no_reason r true v e = never e
  no_reason r false v e = (refl, e)

  -- what check 10 asks of a store
  asked : symbol_well object x j value ≡ true → is_store (decision_at object x j) ≡ true → (is_resolved value && (not (needs_pair (decision_at object x j)) || in_target object x j)) ≡ true
  unfolding symbol_well
  asked e s = given (is_store (decision_at object x j)) (is_resolved value && (not (needs_pair (decision_at object x j)) || in_target object x j)) e s

  none_applies : is_resolved from1 ≡ true
      → (leb (symbol_count object) k ≡ false) × (not_allocated object y ≡ false) × (is_common y ≡ false) × (is_reserved y ≡ false) × (is_missing g y ≡ false) × (is_wrong_type y ≡ false)
  none_applies e =
      let one = no_reason PastTable (leb (symbol_count object) k) from2 e in
      let two = no_reason NotAllocated (not_allocated object y) from3 one.1 in
      let three = no_reason Common (is_common y) from4 two.1 in
      let four = no_reason Reserved (is_reserved y) from5 three.1 in
      let five = no_reason Undefined (is_missing g y) from6 four.1 in
      let six = no_reason WrongType (is_wrong_type y) (Ok (of_section object g (get_or addresses y.section 0) y)) five.1 in
      (one.0, two.0, three.0, four.0, five.0, six.0)

  pub symbol_well_lem : symbol_well object x j value ≡ true → SymbolWell object order x j
  unfolding in_target
  symbol_well_lem e =
      let d : Decision = decision_at object x j in
      let rest : Bool = not (needs_pair d) || in_target object x j in
      let all : LooksUp object x j → is_resolved from1 ≡ true = λ l. sym (ap is_resolved (looked_up l.1)) ∙ and_left (is_resolved value) rest (asked e l.0) in
      let there : needs_pair d ≡ true → in_target object x j ≡ true = λ p. given (needs_pair d) (in_target object x j) (and_right (is_resolved value) rest (asked e (needs_store d p))) p in
      record {
        in_table = λ l. leb-false _ _ (none_applies (all l)).0;
        in_allocated = λ l. allocated_if object y (none_applies (all l)).1;
        not_common = λ l. eqb-false _ _ (none_applies (all l)).2;
        not_reserved = λ l. reserved_if object y (none_applies (all l)).3;
        not_missing = λ l. missing_if object y g (none_applies (all l)).4;
        right_type = λ l. type_if object y (none_applies (all l)).5;
        is_in_target = λ p. (
          ltb-true _ _ (and_left (ltb 0 k) (eqb y.section x.index) (there p)),
          eqb-true _ _ (and_right (ltb 0 k) (eqb y.section x.index) (there p)),
        );
      }

  -- ---- where check 10 is broken, the reason is the first that applies

  module _ (out : symbol_well object x j value ≡ false) (p : ℕ) where
    abbrev answer : Answer
    answer = says_why 10 p (reason_number (why value))

    stores : is_store (decision_at object x j) ≡ true
    unfolding symbol_well
    stores = go (is_store (decision_at object x j)) out
      where
        go : (s : Bool) → (not s || (is_resolved value && (not (needs_pair (decision_at object x j)) || in_target object x j))) ≡ false → s ≡ true
        go true e = refl
        go false e = never (sym e)

    -- one reason: it applies, or the rest decides
    step : (R : ℕ → Type 0) (l : Line) (r : Reason) (t b : Bool) (v : SymbolValue) → t ≡ b → value ≡ because r t v → (t ≡ false → R p) → (t ≡ true → R p → ⊥)
        → (value ≡ v → BrokenAt l answer) → BrokenAt (rule 10 (reason_number r) R l) answer
    step R l r t true v e is holds breaks rest = inl (ap (λ v. says_why 10 p (reason_number (why v))) (is ∙ ap (λ t. because r t v) e), breaks e)
    step R l r t false v e is holds breaks rest = inr (holds e, rest (is ∙ ap (λ t. because r t v) e))

    -- a symbol that has a value is outside the target
    outside : is_resolved value ≡ true → InTarget object x j → ⊥
    unfolding symbol_well in_target
    outside r h = go (needs_pair (decision_at object x j)) refl (rw (stores, r) at out)
      where
        go : (n : Bool) → needs_pair (decision_at object x j) ≡ n → (not n || in_target object x j) ≡ false → ⊥
        go true q e = clash (in_target object x j) e (both (ltb 0 k) (eqb y.section x.index) (lt-ltb _ _ (h q).0) (eq-eqb _ _ (h q).1))
        go false q e = never (sym e)

-- the rules of check 10, from one on, before others
module _ (object order : List ℕ) (l : Line) where
  abbrev rules7 : Line
  rules7 = rule 10 (reason_number OutsideTarget) (of_relocation object order (InTarget object)) l

  abbrev rules6 : Line
  rules6 = rule 10 (reason_number WrongType) (of_relocation object order (RightType object)) rules7

  abbrev rules5 : Line
  rules5 = rule 10 (reason_number Undefined) (of_relocation object order (NotMissing object order)) rules6

  abbrev rules4 : Line
  rules4 = rule 10 (reason_number Reserved) (of_relocation object order (NotReserved object)) rules5

  abbrev rules3 : Line
  rules3 = rule 10 (reason_number Common) (of_relocation object order (NotCommon object)) rules4

  abbrev rules2 : Line
  rules2 = rule 10 (reason_number NotAllocated) (of_relocation object order (InAllocated object)) rules3

  abbrev pub symbol_rules : Line
  symbol_rules = rule 10 (reason_number PastTable) (of_relocation object order (InTable object)) rules2

-- those after it
abbrev pub later_rules : List ℕ → List ℕ → Line
later_rules object order = rule 11 0 (FormIs object order) (rule 12 0 (OnePair object order) (rule 13 0 (Reaches object order) (rule 14 0 (OnBoundary object order) nil)))

module _ (object order : List ℕ) (l : Line) (n : ℕ) where
  abbrev at : Site
  at = site object order n

  abbrev number : ℕ
  number = entry_of object order n

  -- the value of relocation n's symbol
  abbrev found : SymbolValue
  found = value_at object order (addresses_for object order) at number

  pub symbols_hold : SymbolWell object order at number → HoldAt l n → HoldAt (symbol_rules object order l) n
  symbols_hold w h = (w.in_table, (w.in_allocated, (w.not_common, (w.not_reserved, (w.not_missing, (w.right_type, (w.is_in_target, h)))))))

  pub symbols_held : HoldAt (symbol_rules object order l) n → SymbolWell object order at number × HoldAt l n
  symbols_held h = (
    record {
      in_table = h.0;
      in_allocated = h.1.0;
      not_common = h.1.1.0;
      not_reserved = h.1.1.1.0;
      not_missing = h.1.1.1.1.0;
      right_type = h.1.1.1.1.1.0;
      is_in_target = h.1.1.1.1.1.1.0;
    },
    h.1.1.1.1.1.1.1,
  )

  -- the rules after them decide, where they hold
  pub symbols_pass : SymbolWell object order at number → (a : Answer) → a.place ≡ n → BrokenAt l a → BrokenAt (symbol_rules object order l) a
  symbols_pass w a e b =
      subst (λ n. BrokenAt l a → SymbolWell object order (site object order n) (entry_of object order n) → BrokenAt (symbol_rules object order l) a) e
      (λ b w. inr (w.in_table, inr (w.in_allocated, inr (w.not_common, inr (w.not_reserved, inr (w.not_missing, inr (w.right_type, inr (w.is_in_target, b)))))))) b w

  pub symbol_broken : symbol_well object at number found ≡ false → BrokenAt (symbol_rules object order l) (says_why 10 n (reason_number (why found)))
  symbol_broken out = go (dec_lt 0 (k object order a at number))
    where
      a : List ℕ
      a = addresses_for object order

      s : Symbol
      s = y object order a at number

      c : Option Address
      c = g object order a at number

      here : Address
      here = of_section object c (get_or a s.section 0) s

      answers : Answer
      answers = says_why 10 n (reason_number (why found))

      last : (z : Address) → found ≡ Ok z → BrokenAt (rules7 object order l) answers
      last z e = inl (ap (λ v. says_why 10 n (reason_number (why v))) e, outside object order a at number out n (ap is_resolved e))

      by : (R : ℕ → Type 0) (l : Line) (r : Reason) (t : Bool) (v : SymbolValue) → found ≡ because r t v → (t ≡ false → R n) → (t ≡ true → R n → ⊥) → (found ≡ v → BrokenAt l answers)
          → BrokenAt (rule 10 (reason_number r) R l) answers
      by R l r t v = step object order a at number out n R l r t t v refl

      -- nothing is asked of symbol 0 but the last
      unasked : {R : Type 0} → k object order a at number ≡ 0 → LooksUp object at number → R
      unasked zero l = absurd (omega (arith, zero, l.1))

      go : Dec (0 < k object order a at number) → BrokenAt (symbol_rules object order l) answers
      go (yes some) =
          let looks : LooksUp object at number = (stores object order a at number out n, some) in
          by (of_relocation object order (InTable object)) (rules2 object order l) PastTable (leb (symbol_count object) (k object order a at number)) (from2 object order a at number) (looked_up object order a at number some)
          (λ e l. leb-false (symbol_count object) (k object order a at number) e)
          (λ e h. let past = leb-true (symbol_count object) (k object order a at number) e in let there = h looks in absurd (omega (arith, past, there)))
          (λ e2. by (of_relocation object order (InAllocated object)) (rules3 object order l) NotAllocated (not_allocated object s) (from3 object order a at number) e2
          (λ e l. allocated_if object s e) (λ e h. not_allocated_if object s e (h looks))
          (λ e3. by (of_relocation object order (NotCommon object)) (rules4 object order l) Common (is_common s) (from4 object order a at number) e3
          (λ e l. eqb-false s.section 0xFFF2 e) (λ e h. h looks (eqb-true s.section 0xFFF2 e))
          (λ e4. by (of_relocation object order (NotReserved object)) (rules5 object order l) Reserved (is_reserved s) (from5 object order a at number) e4
          (λ e l. reserved_if object s e) (λ e h. not_reserved_if object s e (h looks))
          (λ e5. by (of_relocation object order (NotMissing object order)) (rules6 object order l) Undefined (is_missing c s) (from6 object order a at number) e5
          (λ e l. missing_if object s c e) (λ e h. not_missing_if object s c e (h looks))
          (λ e6. by (of_relocation object order (RightType object)) (rules7 object order l) WrongType (is_wrong_type s) (Ok here) e6
          (λ e l. type_if object s e) (λ e h. not_type_if object s e (h looks)) (λ e7. last here e7))))))
      go (no none) =
          let zero : k object order a at number ≡ 0 = omega arith in
          inr (unasked zero, inr (unasked zero, inr (unasked zero, inr (unasked zero, inr (unasked zero, inr (unasked zero, last (address 0) (zero_value object order a at number zero)))))))
