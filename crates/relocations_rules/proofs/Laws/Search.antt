-- Laws of the search over all relocations.
use Rattle.placing_symbols.specs.Reasons.{SymbolValue}
use Rattle.std.specs.Prelude.{⊤, Option, Some, None, Result, Ok, Err}
use mathlib.Core.Path.{◌≡◌, refl, sym, ap, ◌∙◌}
use mathlib.Core.Bool.{Bool, true, false, cond}
use mathlib.Core.List.{List}
use Prim.Native.Nat.{ℕ, suc, ◌+◌, ◌-◌, ◌<◌}
use native.Mathlib.Omega.{arith}
use lib.Dec.{ltb}
use borrow.Author.Tests.{lt-ltb, le-ltb, ltb-false, ltb-true}
use Rattle.numbers_definitions.proofs.Laws.Tests.{never}
use Rattle.numbers_definitions.specs.First.{first}
use Rattle.numbers_definitions.specs.Sums.{sum}
use Rattle.numbers_definitions.proofs.Laws.First.{first_is, first_below, first_at}
use Rattle.numbers_definitions.proofs.Laws.Sums.{sum_mono}
use Rattle.elf_read.specs.declared.Location.{Location}
use Rattle.elf_read.specs.Headers.{class_of, has_rvc, section_count}
use Rattle.elf_read.specs.Sections.{relocations_in, relocations_below}
use Rattle.elf_read.specs.Entries.{relocation_count, location_of}
use Rattle.elf_read.proofs.Laws.Entries.{located}
use Rattle.relocations_types.specs.declared.Decision.{Decision}
use Rattle.relocations_rela.specs.declared.sites.Site.{Site}
use Rattle.relocations_rules.specs.declared.Finding.{Finding}
use Rattle.relocations_rules.specs.declared.Finding.TheVariants.{BadShape, BadSymbol, BadForm, NoPair, OutOfReach, OffBoundary}
use Rattle.relocations_rules.specs.declared.Broken.{Broken}
use Rattle.relocations_rela.specs.Sites.{site_at, decision_at, A, P}
use Rattle.relocations_values.specs.Values.{value_at, target_at}
use Rattle.relocations_rela.specs.Shape.{shape_well}
use Rattle.relocations_rules.specs.Rules.{symbol_well, why, form_well, pair_well, distance_well, boundary_well}
use Rattle.relocations_rules.specs.Search.{number, first_broken, finding, finding_of, is_broken, blamed, relocation_check}

-- ---- the number of an entry

module _ (object : List ℕ) (i j : ℕ) (h : i < section_count object) (l : j < relocations_in object i) where
  -- it is below the number of all relocations
  pub counted : relocations_below object i + j < relocation_count object
  unfolding sum
  counted = omega (arith, sum_mono (relocations_in object) (suc i) (section_count object) h)

  -- and leads back to the entry
  pub located_entry : ◌≡◌ {A = Location} (record { section = i; entry = j }) (location_of object (relocations_below object i + j))
  unfolding sum
  located_entry =
      let k : ℕ = relocations_below object i + j in
      let below : (m : ℕ) → m < i → ltb k (relocations_below object (suc m)) ≡ false =
      λ m n. le-ltb k (relocations_below object (suc m)) (omega (arith, sum_mono (relocations_in object) (suc m) i n)) in
      let back : k - relocations_below object i ≡ j = omega arith in
      ap (λ e. record { section = i; entry = e }) (sym back) ∙ located object k i h below (omega arith)

  pub finding_entry : (order addresses : List ℕ)
      → finding_of object order addresses (relocations_below object i + j) ≡ finding object order addresses (site_at object addresses i) j
  unfolding finding_of
  finding_entry order addresses =
      ap (λ at. finding object order addresses (site_at object addresses at.section) at.entry) (sym located_entry)

-- ---- what checks 9 to 14 find

module _ (object order addresses : List ℕ) where
  pub check_broken : (k : ℕ) → k < relocation_count object → ((m : ℕ) → m < k → is_broken (finding_of object order addresses m) ≡ false)
      → is_broken (finding_of object order addresses k) ≡ true → relocation_check object order addresses ≡ blamed (finding_of object order addresses k) k
  unfolding relocation_check
  check_broken k h below here =
      let is : first (λ k. is_broken (finding_of object order addresses k)) (relocation_count object) ≡ k = first_is _ (relocation_count object) k (omega arith) below (λ _. here) in
      rw (is, lt-ltb _ _ h)

  pub check_passed : ((m : ℕ) → m < relocation_count object → is_broken (finding_of object order addresses m) ≡ false) → relocation_check object order addresses ≡ Ok tt
  unfolding relocation_check
  check_passed all =
      let n : ℕ = relocation_count object in
      let is : first (λ k. is_broken (finding_of object order addresses k)) n ≡ n = first_is _ n n (omega arith) all (λ h. absurd (omega arith)) in
      rw (is, le-ltb n n (omega arith))

  -- if they pass, no relocation breaks a rule
  pub passed_kept : relocation_check object order addresses ≡ Ok tt → (k : ℕ) → k < relocation_count object → finding_of object order addresses k ≡ None
  unfolding relocation_check
  passed_kept e k h = kept (finding_of object order addresses k) (first_below p (relocation_count object) k (go (ltb (first p (relocation_count object)) (relocation_count object)) refl e))
    where
      p : ℕ → Bool
      p m = is_broken (finding_of object order addresses m)

      unblamed : (f : Option Finding) (m : ℕ) → blamed f m ≡ Ok tt → is_broken f ≡ false
      unblamed None m r = refl
      unblamed (Some f) m r =
          let z : ◌≡◌ {A = ℕ} 0 1 = cc in
          absurd (omega arith)

      go : (b : Bool) → ltb (first p (relocation_count object)) (relocation_count object) ≡ b
          → cond b (blamed (finding_of object order addresses (first p (relocation_count object))) (first p (relocation_count object))) (Ok tt) ≡ Ok tt
          → k < first p (relocation_count object)
      go true q r =
          let here : p (first p (relocation_count object)) ≡ true = first_at p (relocation_count object) (ltb-true _ _ q) in
          never (sym (unblamed _ _ r) ∙ here)
      go false q r = omega (arith, ltb-false (first p (relocation_count object)) (relocation_count object) q)

      kept : (f : Option Finding) → is_broken f ≡ false → f ≡ None
      kept None q = refl
      kept (Some f) q = never (sym q)

-- ---- a relocation that breaks no rule, taken apart

-- checks 9 to 14 of relocation j
pub record Rules (object order addresses : List ℕ) (x : Site) (j : ℕ) : Type 0 where
  pub shape : shape_well object x j ≡ true
  pub symbol : symbol_well object x j (value_at object order addresses x j) ≡ true
  pub form : form_well object x j ≡ true
  pub pair : pair_well object x j ≡ true
  pub distance : distance_well (class_of object) (has_rvc object) (decision_at object x j) (target_at object order addresses x j) (P object x j) ≡ true
  pub boundary : boundary_well (decision_at object x j) (P object x j) (A object x j) ≡ true

other : {B : Type 0} (f : Finding) → Some f ≡ None → B
other f e = never (sym (ap is_broken e))

pub kept_rules : (object order addresses : List ℕ) (x : Site) (j : ℕ) → finding object order addresses x j ≡ None → Rules object order addresses x j
unfolding finding first_broken
kept_rules object order addresses x j e =
    go (shape_well object x j) refl (symbol_well object x j v) refl (form_well object x j) refl (pair_well object x j) refl (distance_well (class_of object) (has_rvc object) d t (P object x j)) refl
    (boundary_well d (P object x j) (A object x j)) refl e
  where
    v : SymbolValue
    v = value_at object order addresses x j

    d : Decision
    d = decision_at object x j

    t : ℕ
    t = target_at object order addresses x j

    go : (a : Bool) → shape_well object x j ≡ a → (b : Bool) → symbol_well object x j v ≡ b → (c : Bool) → form_well object x j ≡ c → (p : Bool) → pair_well object x j ≡ p
        → (q : Bool) → distance_well (class_of object) (has_rvc object) d t (P object x j) ≡ q → (r : Bool) → boundary_well d (P object x j) (A object x j) ≡ r
        → cond a (cond b (cond c (cond p (cond q (cond r None (Some OffBoundary)) (Some OutOfReach)) (Some NoPair)) (Some BadForm)) (Some (BadSymbol (why v)))) (Some BadShape) ≡ None → Rules object order addresses x j
    go false e₁ b e₂ c e₃ p e₄ q e₅ r e₆ k = other BadShape k
    go true e₁ false e₂ c e₃ p e₄ q e₅ r e₆ k = other (BadSymbol (why v)) k
    go true e₁ true e₂ false e₃ p e₄ q e₅ r e₆ k = other BadForm k
    go true e₁ true e₂ true e₃ false e₄ q e₅ r e₆ k = other NoPair k
    go true e₁ true e₂ true e₃ true e₄ false e₅ r e₆ k = other OutOfReach k
    go true e₁ true e₂ true e₃ true e₄ true e₅ false e₆ k = other OffBoundary k
    go true e₁ true e₂ true e₃ true e₄ true e₅ true e₆ k = record { shape = e₁; symbol = e₂; form = e₃; pair = e₄; distance = e₅; boundary = e₆ }

-- a relocation that breaks check 10 breaks it for the reason of its symbol
pub symbol_finding : (object order addresses : List ℕ) (x : Site) (j : ℕ) (f : Finding) → finding object order addresses x j ≡ Some f → number f ≡ 10
    → f ≡ BadSymbol (why (value_at object order addresses x j))
unfolding finding first_broken
symbol_finding object order addresses x j f e n =
    go (shape_well object x j) (symbol_well object x j v) (form_well object x j) (pair_well object x j) (distance_well (class_of object) (has_rvc object) d t (P object x j)) (boundary_well d (P object x j) (A object x j)) e
  where
    v : SymbolValue
    v = value_at object order addresses x j

    d : Decision
    d = decision_at object x j

    t : ℕ
    t = target_at object order addresses x j

    another : (g : Finding) → Some g ≡ Some f → (number g ≡ 10 → ⊥) → f ≡ BadSymbol (why v)
    another g k other =
        let same : g ≡ f = cc in
        absurd (other (ap number same ∙ n))

    go : (a b c p q r : Bool) → cond a (cond b (cond c (cond p (cond q (cond r None (Some OffBoundary)) (Some OutOfReach)) (Some NoPair)) (Some BadForm)) (Some (BadSymbol (why v)))) (Some BadShape) ≡ Some f
        → f ≡ BadSymbol (why v)
    go false b c p q r k = another BadShape k (λ h. absurd (omega arith))
    go true false c p q r k = cc
    go true true false p q r k = another BadForm k (λ h. absurd (omega arith))
    go true true true false q r k = another NoPair k (λ h. absurd (omega arith))
    go true true true true false r k = another OutOfReach k (λ h. absurd (omega arith))
    go true true true true true false k = another OffBoundary k (λ h. absurd (omega arith))
    go true true true true true true k =
        let z : ◌≡◌ {A = ℕ} 0 1 = cc in
        absurd (omega arith)
