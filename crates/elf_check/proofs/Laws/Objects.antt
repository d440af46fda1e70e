-- Checks 4 and 5 pass exactly for sound objects.
use Rattle.std.specs.Prelude.{Err, Ok, Result, ⊤}
use mathlib.Core.Logic.{◌⊎◌, inl, inr}
use mathlib.Core.Path.{◌≡◌, refl, sym, ap, ◌∙◌}
use mathlib.Core.Bool.{Bool, true, false, not, cond, ◌&&◌, ◌||◌}
use mathlib.Core.List.{List}
use Prim.Native.Nat.{ℕ, ◌+◌, ◌%◌, ◌≤◌, ◌<◌}
use native.Mathlib.Omega.{arith}
use lib.ListN.{length}
use lib.Dec.{leb, ltb, eqb}
use borrow.Author.Tests.{leb-true, ltb-true, ltb-false, eqb-true, eqb-false, le-leb, eq-eqb, ne_eqb, lt-ltb, not-true, not-false}
use Rattle.numbers_definitions.specs.First.{first, everywhere}
use Rattle.numbers_definitions.specs.Powers.{one_bit}
use Rattle.numbers_definitions.proofs.Laws.Tests.{and_left, and_right, both, one_of_two, or_two, given, implied}
use Rattle.numbers_definitions.proofs.Laws.First.{first_below, everywhere_at, everywhere_is}
use Rattle.elf_read.specs.Headers.{class_of, symbol_size, relocation_size, section_count}
use Rattle.elf_read.specs.Sections.{NULL, SYMTAB, RELA, NOBITS, REL, section_at, allocated, loaded, symbol_table, targets, counting_rel, counting_rela}
use Rattle.elf_read.specs.Entries.{symbol_entries}
use Rattle.elf_header.specs.Headers.{header_allowed, table_allowed}
use Rattle.elf_check.specs.Rules.{max_symbols, starts_null, inside_file, allocated_well, symbol_table_well, no_counting_rel, rela_kept, relocations_kept, rela_well, relocations_well, section_well, section_check}
use Rattle.elf_check.specs.Sound.{SoundSymbols, SoundRela, SoundSection}
use Rattle.elf_check.specs.Requires.{SoundObject}
use Rattle.elf_header.proofs.Laws.Headers.{header_long, table_inside, table_entries, table_some, allowed_table}
use Rattle.elf_read.proofs.Laws.Sections.{allocated_there}
use Rattle.elf_check.proofs.Laws.Tables.{check_sound}

-- ---- tests

either : (a b c : Bool) → (a || b || c) ≡ true → (a ≡ false) → (b ≡ false) → c ≡ true
either true b c e p q = cc
either false true c e p q = cc
either false false c e p q = e

none_of_three : (a b c : Bool) → not (a || b || c) ≡ true → (a ≡ false) × (b ≡ false) × (c ≡ false)
none_of_three true b c e = (cc, cc, cc)
none_of_three false true c e = (cc, cc, cc)
none_of_three false false true e = (cc, cc, cc)
none_of_three false false false e = (refl, refl, refl)

⊎_map : {A B C : Type 0} → (A → B) → A ⊎ C → B ⊎ C
⊎_map f (inl a) = inl (f a)
⊎_map f (inr c) = inr c

or_three : (a b c : Bool) → (a ≡ false → b ≡ false → c ≡ true) → (a || b || c) ≡ true
or_three true b c f = refl
or_three false true c f = refl
or_three false false c f = f refl refl

not_three : (a b c : Bool) → a ≡ false → b ≡ false → c ≡ false → not (a || b || c) ≡ true
not_three a b c p q r = rw (p, q, r)

neither : (a : Bool) (m n : ℕ) → (a ≡ true → m ≡ n → ⊥) → not (a && eqb m n) ≡ true
neither false m n f = refl
neither true m n f = ap not (ne_eqb m n (f refl))

-- ---- from the tests to the facts

section_symbols : (s : List ℕ) (i : ℕ) → symbol_table_well s i ≡ true → (section_at s i).kind ≡ SYMTAB → SoundSymbols s i
unfolding symbol_table_well
section_symbols s i e k =
    let h = section_at s i in
    let kept : eqb i (symbol_table s) && eqb h.entsize (symbol_size (class_of s)) && eqb (h.size % symbol_size (class_of s)) 0 && leb (symbol_entries (class_of s) h) max_symbols ≡ true = given _ _ e (eq-eqb _ _ k) in
    let lowest : eqb i (symbol_table s) ≡ true = search (and_left, and_right) in
    let entries : eqb h.entsize (symbol_size (class_of s)) ≡ true = search (and_left, and_right) in
    let whole : eqb (h.size % symbol_size (class_of s)) 0 ≡ true = search (and_left, and_right) in
    let few : leb (symbol_entries (class_of s) h) max_symbols ≡ true = search (and_left, and_right) in
    record { lowest = eqb-true _ _ lowest; entries = eqb-true _ _ entries; whole = eqb-true _ _ whole; few = leb-true _ _ few }

-- two tests that cannot both hold
not_both : (a b : Bool) → not (a && b) ≡ true → a ≡ true → b ≡ true → ⊥
not_both a b n p q =
    let z : ◌≡◌ {A = Bool} false true = sym (ap not (both a b p q)) ∙ n in
    let one : ◌≡◌ {A = ℕ} 0 1 = ap (λ t. cond t 1 0) z in
    omega arith

counting_targets : (s : List ℕ) (i : ℕ) → counting_rela s i ≡ true → targets s (section_at s i) ≡ true
unfolding counting_rela
counting_targets s i c = and_right (eqb (section_at s i).kind RELA) (targets s (section_at s i)) c

section_null : (s : List ℕ) (i : ℕ) → starts_null s i ≡ true → i ≡ 0 → (section_at s i).kind ≡ NULL
unfolding starts_null
section_null s i e z = eqb-true _ _ (given _ _ e (eq-eqb _ _ z))

section_inside : (s : List ℕ) (i : ℕ) → inside_file s i ≡ true → ((section_at s i).kind ≡ NULL → ⊥) → ((section_at s i).kind ≡ NOBITS → ⊥)
    → (section_at s i).offset.0 + (section_at s i).size ≤ length s
unfolding inside_file
section_inside s i e a b = leb-true _ _ (either _ _ _ e (ne_eqb _ _ a) (ne_eqb _ _ b))

section_aligned : (s : List ℕ) (i : ℕ) → allocated_well s i ≡ true → allocated (section_at s i) ≡ true
    → ((section_at s i).alignment ≡ 0) ⊎ (one_bit 64 (section_at s i).alignment ≡ true)
unfolding allocated_well
section_aligned s i e a =
    let h = section_at s i in
    let fine : Bool = eqb h.alignment 0 || one_bit 64 h.alignment in
    let table : Bool = eqb h.kind SYMTAB || eqb h.kind RELA || eqb h.kind REL in
    let kept : fine && not table ≡ true = given (allocated h) (fine && not table) e a in
    ⊎_map (eqb-true h.alignment 0) (one_of_two _ _ (and_left fine (not table) kept))

section_plain : (s : List ℕ) (i : ℕ) → allocated_well s i ≡ true → allocated (section_at s i) ≡ true
    → ((section_at s i).kind ≡ SYMTAB → ⊥) × ((section_at s i).kind ≡ RELA → ⊥) × ((section_at s i).kind ≡ REL → ⊥)
unfolding allocated_well
section_plain s i e a =
    let h = section_at s i in
    let fine : Bool = eqb h.alignment 0 || one_bit 64 h.alignment in
    let table : Bool = eqb h.kind SYMTAB || eqb h.kind RELA || eqb h.kind REL in
    let kept : fine && not table ≡ true = given (allocated h) (fine && not table) e a in
    let none = none_of_three (eqb h.kind SYMTAB) (eqb h.kind RELA) (eqb h.kind REL) (and_right fine (not table) kept) in
    (eqb-false _ _ none.0, eqb-false _ _ none.1, eqb-false _ _ none.2)

section_rela : (s : List ℕ) (i : ℕ) → rela_well s i ≡ true → relocations_well s i ≡ true → counting_rela s i ≡ true → SoundRela s i
unfolding rela_well relocations_well rela_kept relocations_kept
section_rela s i e f c =
    let h = section_at s i in
    let new : ℕ → Bool = λ j. not (counting_rela s j && eqb (section_at s j).info h.info) in
    let kept : (eqb h.entsize (relocation_size (class_of s)) && eqb (h.size % relocation_size (class_of s)) 0) && (ltb (symbol_table s) (section_count s) && eqb h.link (symbol_table s)) && loaded (section_at s h.info) && everywhere new i ≡ true = given _ _ e c in
    let entries : eqb h.entsize (relocation_size (class_of s)) ≡ true = search (and_left, and_right) in
    let whole : eqb (h.size % relocation_size (class_of s)) 0 ≡ true = search (and_left, and_right) in
    let some_table : ltb (symbol_table s) (section_count s) ≡ true = search (and_left, and_right) in
    let linked : eqb h.link (symbol_table s) ≡ true = search (and_left, and_right) in
    let target_loaded : loaded (section_at s h.info) ≡ true = search (and_left, and_right) in
    let all_new : everywhere new i ≡ true = search (and_left, and_right) in
    record {
      entries = eqb-true _ _ entries;
      whole = eqb-true _ _ whole;
      some_table = ltb-true _ _ some_table;
      linked = eqb-true _ _ linked;
      target_there = allocated_there s h.info (counting_targets s i c);
      target_loaded = target_loaded;
      new_target = λ j l d q. not_both _ _ (everywhere_at new i all_new j l) d (eq-eqb _ _ q);
      few = leb-true _ _ (given _ _ f c);
    }

section_no_rel : (s : List ℕ) (i : ℕ) → no_counting_rel s i ≡ true → counting_rel s i ≡ false
unfolding no_counting_rel
section_no_rel s i e = not-true (counting_rel s i) e

pub section_sound : (s : List ℕ) (i : ℕ) → section_well s i ≡ true → SoundSection s i
unfolding section_well
section_sound s i e =
    let h = section_at s i in
    let null : starts_null s i ≡ true = search (and_left, and_right) depth 8 in
    let inside : inside_file s i ≡ true = search (and_left, and_right) depth 8 in
    let plain : allocated_well s i ≡ true = search (and_left, and_right) depth 8 in
    let table : symbol_table_well s i ≡ true = search (and_left, and_right) depth 8 in
    let rel : no_counting_rel s i ≡ true = search (and_left, and_right) depth 8 in
    let rela : rela_well s i ≡ true = search (and_left, and_right) depth 8 in
    let few : relocations_well s i ≡ true = search (and_left, and_right) depth 8 in
    record {
      null_first = λ z. section_null s i null z;
      inside = λ a b. section_inside s i inside a b;
      aligned = λ a. section_aligned s i plain a;
      no_table = λ a k. (section_plain s i plain a).0 k;
      no_rela = λ a k. (section_plain s i plain a).1 k;
      no_rel = λ a k. (section_plain s i plain a).2 k;
      symbols = section_symbols s i table;
      without_counting_rel = section_no_rel s i rel;
      rela = section_rela s i rela few;
    }

-- ---- from the facts to the tests

symbols_well : (s : List ℕ) (i : ℕ) → ((section_at s i).kind ≡ SYMTAB → SoundSymbols s i) → symbol_table_well s i ≡ true
unfolding symbol_table_well
symbols_well s i f =
    implied _ _
    (λ k.
    let x = f (eqb-true _ _ k) in
    both _ _ (both _ _ (both _ _ (eq-eqb _ _ x.lowest) (eq-eqb _ _ x.entries)) (eq-eqb _ _ x.whole)) (le-leb _ _ x.few))

rela_well_lem : (s : List ℕ) (i : ℕ) → (counting_rela s i ≡ true → SoundRela s i) → rela_well s i ≡ true
unfolding rela_well rela_kept
rela_well_lem s i f =
    implied _ _
    (λ k.
    let x = f k in
    both _ _
    (both _ _
    (both _ _ (both _ _ (eq-eqb _ _ x.entries) (eq-eqb _ _ x.whole)) (both _ _ (lt-ltb _ _ x.some_table) (eq-eqb _ _ x.linked)))
    x.target_loaded)
    (everywhere_is _ i (λ j l. neither (counting_rela s j) (section_at s j).info (section_at s i).info (x.new_target j l))))

relocations_well_lem : (s : List ℕ) (i : ℕ) → (counting_rela s i ≡ true → SoundRela s i) → relocations_well s i ≡ true
unfolding relocations_well relocations_kept
relocations_well_lem s i f = implied _ _ (λ k. le-leb _ _ (f k).few)

pub well_section : (s : List ℕ) (i : ℕ) → SoundSection s i → section_well s i ≡ true
unfolding section_well starts_null inside_file allocated_well no_counting_rel
well_section s i f =
    both _ _
    (both _ _
    (both _ _
    (both _ _
    (both _ _
    (both _ _ (implied _ _ (λ z. eq-eqb _ _ (f.null_first (eqb-true _ _ z))))
    (or_three _ _ _ (λ a b. le-leb _ _ (f.inside (eqb-false _ _ a) (eqb-false _ _ b)))))
    (implied _ _
    (λ a.
    both _ _ (or_two _ _ (⊎_map (eq-eqb (section_at s i).alignment 0) (f.aligned a)))
    (not_three _ _ _ (ne_eqb _ _ (f.no_table a)) (ne_eqb _ _ (f.no_rela a)) (ne_eqb _ _ (f.no_rel a))))))
    (symbols_well s i f.symbols))
    (ap not f.without_counting_rel))
    (rela_well_lem s i f.rela))
    (relocations_well_lem s i f.rela)

-- ---- check 5

check_table : (s : List ℕ) → section_check s ≡ Ok tt → table_allowed s ≡ true
unfolding section_check
check_table s e = go (table_allowed s) e
  where
    inner : Result ⊤ ℕ
    inner = cond (ltb (first (λ j. not (section_well s j)) (section_count s)) (section_count s)) (Err (first (λ j. not (section_well s j)) (section_count s))) (Ok tt)

    go : (t : Bool) → cond t inner (Err 0) ≡ Ok tt → t ≡ true
    go true h = refl
    go false h = cc

check_wells : (s : List ℕ) → section_check s ≡ Ok tt → (i : ℕ) → i < section_count s → section_well s i ≡ true
unfolding section_check
check_wells s e i h =
    not-false _ (first_below p n i (go (ltb (first p n) n) refl (rw (check_table s e) at e)))
  where
    p : ℕ → Bool
    p j = not (section_well s j)

    n : ℕ
    n = section_count s

    ok : Result ⊤ ℕ
    ok = Ok tt

    go : (t : Bool) → ltb (first p n) n ≡ t → cond (ltb (first p n) n) (Err (first p n)) ok ≡ ok → i < first p n
    go true q r =
        let broken : Err (first p n) ≡ ok = rw q at r in
        let z : ◌≡◌ {A = ℕ} 0 1 = cc in
        absurd (omega arith)
    go false q r = omega (arith, ltb-false (first p n) n q)

-- ---- checks 4 and 5 pass exactly for sound objects

-- the one record from which later crates take every bound
pub sound_object : (s : List ℕ) → header_allowed s ≡ true → section_check s ≡ Ok tt → SoundObject s
sound_object s header sections =
    let table : table_allowed s ≡ true = check_table s sections in
    record {
      header = header;
      table = table_inside s (header_long s header) table;
      entries = table_entries s table;
      some = table_some s table;
      sections = λ i h. section_sound s i (check_wells s sections i h);
    }

-- the sections of a sound object pass check 5; its header is one of its fields
pub object_sound : (s : List ℕ) → SoundObject s → section_check s ≡ Ok tt
object_sound s f = check_sound s (allowed_table s f.entries f.some f.table) (λ i h. ap not (well_section s i (f.sections i h)))
