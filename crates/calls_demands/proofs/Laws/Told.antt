-- What an install answers is what the table says: done if every rule holds, otherwise the first broken rule.
use Rattle.std.specs.Prelude.{Err, None, Ok, Option, Result, Some, ⊤}
use mathlib.Core.Logic.{inl, inr}
use mathlib.Core.Path.{◌≡◌, refl, sym, subst}
use mathlib.Core.Bool.{Bool, true, false, not, cond, ◌&&◌}
use mathlib.Core.List.{List}
use Prim.Native.Nat.{ℕ, ◌^◌, ◌<◌}
use native.Mathlib.Omega.{arith}
use lib.ListN.{length}
use lib.Dec.{ltb}
use borrow.Author.Tests.{ltb-true, ltb-false, not-true, not-false}
use Rattle.numbers_definitions.proofs.Laws.Tests.{never, clash}
use Rattle.numbers_definitions.specs.First.{first}
use Rattle.numbers_definitions.proofs.Laws.First.{first_below, first_at}
use Rattle.elf_read.specs.Headers.{class_of, has_rvc, address_width, section_count}
use Rattle.elf_read.specs.Entries.{relocation_count}
use Rattle.elf_header.specs.Headers.{header_allowed, table_allowed}
use Rattle.elf_check.specs.Rules.{section_well, section_check}
use Rattle.elf_check.specs.Sound.{SoundSection}
use Rattle.elf_check.proofs.Laws.Objects.{section_sound, well_section}
use Rattle.elf_check.proofs.Laws.Tables.{check_table_broken, check_broken, check_sound}
use Rattle.order_format.specs.Orders.{well_formed}
use Rattle.order_lookup.specs.Values.{is_given, external_value}
use Rattle.order_format.specs.Windows.{window_allowed}
use Rattle.order_format.proofs.Laws.Sound.{order_header_of, well_formed_sound, sound_reading}
use Rattle.order_lookup.specs.Addresses.{addresses_for, base_for}
use Rattle.journal_format.specs.Journals.{count, held, Sound, sound, no_room}
use Rattle.plan_pieces.specs.Plans.{Verdict, plan, span_of}
use Rattle.plan_pieces.specs.Answers.{Answer, says, says_why}
use Rattle.journal_history.specs.Calls.{journal_unsound, journal_full, Files, refuse, succeed, installed, settle, install}
use Rattle.journal_format.proofs.Laws.Sound.{test_sound, sound_test}
use Rattle.placing_match.specs.Placements.{lowest, differs, placement_check}
use Rattle.placing_match.specs.Externals.{is_undefined, external_check}
use Rattle.placing_check.specs.Placing.{misplaced, placing_check}
use Rattle.placing_match.proofs.Laws.Theorems.{nowhere_holds}
use Rattle.placing_symbols.specs.Reasons.{reason_number, SymbolValue}
use Rattle.relocations_types.specs.declared.Decision.{Decision}
use Rattle.relocations_rela.specs.declared.sites.Site.{Site}
use Rattle.relocations_rela.specs.Shape.{shape_well}
use Rattle.relocations_rela.specs.Sites.{decision_at, A, P}
use Rattle.relocations_rules.specs.declared.Finding.{Finding}
use Rattle.relocations_rules.specs.declared.Finding.TheVariants.{BadShape, BadSymbol, BadForm, NoPair, OutOfReach, OffBoundary}
use Rattle.relocations_rules.specs.declared.Broken.{Broken}
use Rattle.relocations_values.specs.Values.{value_at, target_at}
use Rattle.relocations_rules.specs.Rules.{symbol_well, why, form_well, pair_well, distance_well, boundary_well}
use Rattle.relocations_rules.specs.Search.{number, reason, first_broken, finding, finding_of, is_broken, blamed, relocation_check}
use Rattle.calls_judgement.specs.Requires.{Readable, Named, Placeable, Fitting}
use Rattle.calls_judgement.specs.Judgement.{after_test, after_sections, after_fault, after_relocations, plan_of, judgement}
use Rattle.calls_demands.specs.Rules.{OrderWell, WindowWell, HeaderWell, TableWell, PlacedAsAllocated, ValuedIfUndefined, PlacedIfAllocated, site, entry_of, Shape, Room}
use Rattle.calls_demands.specs.Laid.{IsSpan}
use Rattle.calls_demands.specs.First.{Line, nil, rule, Checks, none, check, HoldAt, BrokenAt, one, each, table}
use Rattle.calls_demands.proofs.Laws.First.{Told, later, at_once, at_each, broken_once, broken_at}
use Rattle.calls_demands.proofs.Laws.Spans.{is_span}
use Rattle.calls_demands.proofs.Laws.Rules.{lowest_found, order_well, well_order, window_well, well_window, header_well, well_header, table_well, well_table, matches, no_match, valued, not_valued, placed_well, placed_wrong, has_room, room_left}
use Rattle.calls_demands.proofs.Laws.Symbols.{symbol_rules, later_rules, symbols_hold, symbols_pass, symbol_well_lem, symbol_broken}
use Rattle.calls_demands.proofs.Laws.Relocations.{shape_well_lem, well_shape, form_well_lem, well_form, pair_well_lem, well_pair, boundary_well_lem, reach_well, well_reach, well_boundary}

-- ---- checks 9 to 14 of relocation k

module _ (object order : List ℕ) where
  abbrev pub line : Line
  line = rule 9 0 (Shape object order) (symbol_rules object order (later_rules object order))

  -- what a finding says about relocation k
  abbrev Means : ℕ → Option Finding → Type 0
  Means k None = HoldAt line k
  Means k (Some BadShape) = BrokenAt line (says 9 k)
  Means k (Some (BadSymbol why)) = BrokenAt line (says_why 10 k (reason_number why))
  Means k (Some BadForm) = BrokenAt line (says 11 k)
  Means k (Some NoPair) = BrokenAt line (says 12 k)
  Means k (Some OutOfReach) = BrokenAt line (says 13 k)
  Means k (Some OffBoundary) = BrokenAt line (says 14 k)

  means : (k : ℕ) → Means k (finding_of object order (addresses_for object order) k)
  unfolding finding_of finding first_broken
  means k = go (shape_well object x j) refl (symbol_well object x j v) refl (form_well object x j) refl (pair_well object x j) refl (distance_well (class_of object) (has_rvc object) d t (P object x j)) refl (boundary_well d (P object x j) (A object x j)) refl
    where
      x : Site
      x = site object order k

      j : ℕ
      j = entry_of object order k

      v : SymbolValue
      v = value_at object order (addresses_for object order) x j

      d : Decision
      d = decision_at object x j

      t : ℕ
      t = target_at object order (addresses_for object order) x j

      after : symbol_well object x j v ≡ true → (a : Answer) → a.place ≡ k → BrokenAt (later_rules object order) a → BrokenAt (symbol_rules object order (later_rules object order)) a
      after e a = symbols_pass object order (later_rules object order) k (symbol_well_lem object order (addresses_for object order) x j e) a

      go : (a : Bool) → shape_well object x j ≡ a → (b : Bool) → symbol_well object x j v ≡ b → (c : Bool) → form_well object x j ≡ c → (p : Bool) → pair_well object x j ≡ p
          → (q : Bool) → distance_well (class_of object) (has_rvc object) d t (P object x j) ≡ q → (r : Bool) → boundary_well d (P object x j) (A object x j) ≡ r
          → Means k (cond a (cond b (cond c (cond p (cond q (cond r None (Some OffBoundary)) (Some OutOfReach)) (Some NoPair)) (Some BadForm)) (Some (BadSymbol (why v)))) (Some BadShape))
      go false e₁ b e₂ c e₃ p e₄ q e₅ r e₆ = inl (refl, λ s. clash _ e₁ (well_shape object x j s))
      go true e₁ false e₂ c e₃ p e₄ q e₅ r e₆ = inr (shape_well_lem object x j e₁, symbol_broken object order (later_rules object order) k e₂)
      go true e₁ true e₂ false e₃ p e₄ q e₅ r e₆ = inr (shape_well_lem object x j e₁, after e₂ _ refl (inl (refl, λ s. clash _ e₃ (well_form object x j s))))
      go true e₁ true e₂ true e₃ false e₄ q e₅ r e₆ =
          inr (shape_well_lem object x j e₁, after e₂ _ refl (inr (form_well_lem object x j e₃, inl (refl, λ s. clash _ e₄ (well_pair object x j s)))))
      go true e₁ true e₂ true e₃ true e₄ false e₅ r e₆ =
          inr (shape_well_lem object x j e₁, after e₂ _ refl (inr (form_well_lem object x j e₃, inr (pair_well_lem object x j e₄, inl (refl, λ s. clash _ e₅ (well_reach object x j t s))))))
      go true e₁ true e₂ true e₃ true e₄ true e₅ false e₆ =
          inr (
            shape_well_lem object x j e₁,
            after e₂ _ refl (inr (form_well_lem object x j e₃, inr (pair_well_lem object x j e₄, inr (reach_well object x j t e₅, inl (refl, λ s. clash _ e₆ (well_boundary object x j s)))))),
          )
      go true e₁ true e₂ true e₃ true e₄ true e₅ true e₆ = (
        shape_well_lem object x j e₁,
        symbols_hold object order (later_rules object order) k (symbol_well_lem object order (addresses_for object order) x j e₂)
            (form_well_lem object x j e₃, (pair_well_lem object x j e₄, (reach_well object x j t e₅, (boundary_well_lem object x j e₆, tt)))),
      )

  kept_holds : (k : ℕ) (f : Option Finding) → is_broken f ≡ false → Means k f → HoldAt line k
  kept_holds k None e m = m
  kept_holds k (Some f) e m = never (sym e)

  broken_breaks : (k : ℕ) (f : Finding) → Means k (Some f) → BrokenAt line (says_why (number f) k (reason f))
  broken_breaks k BadShape m = m
  broken_breaks k (BadSymbol why) m = m
  broken_breaks k BadForm m = m
  broken_breaks k NoPair m = m
  broken_breaks k OutOfReach m = m
  broken_breaks k OffBoundary m = m

  -- ---- the first broken of them, over all relocations

  abbrev broken : ℕ → Bool
  broken k = is_broken (finding_of object order (addresses_for object order) k)

  kept_at : (k : ℕ) → broken k ≡ false → HoldAt line k
  kept_at k e = kept_holds k (finding_of object order (addresses_for object order) k) e (means k)

  -- the relocation that is blamed, as one of n, of which those before it keep every rule
  blamed_here : (f : Files) (tail : Checks) (next : Verdict) (n k : ℕ) → k < n → ((q : ℕ) → q < k → HoldAt line q) → (o : Option Finding) → is_broken o ≡ true → Means k o
      → Told (check n line tail) (settle f (after_relocations (blamed o k) next)).answer
  unfolding settle
  blamed_here f tail next n k l below None e m = never e
  blamed_here f tail next n k l below (Some x) e m = inr (inl (l, below, broken_breaks k x m))

  relocations : (f : Files) (tail : Checks) (next : Verdict) → (relocation_check object order (addresses_for object order) ≡ Ok tt → Told tail (settle f next).answer)
      → Told (check (relocation_count object) line tail) (settle f (after_relocations (relocation_check object order (addresses_for object order)) next)).answer
  unfolding relocation_check settle
  relocations f tail next t = go (ltb (first broken (relocation_count object)) (relocation_count object)) refl
    where
      n : ℕ
      n = relocation_count object

      k : ℕ
      k = first broken n

      go : (b : Bool) → ltb k n ≡ b → Told (check n line tail) (settle f (after_relocations (cond b (blamed (finding_of object order (addresses_for object order) k) k) (Ok tt)) next)).answer
      go true e = blamed_here f tail next n k (ltb-true k n e) (λ q l. kept_at q (first_below broken n q l)) _ (first_at broken n (ltb-true k n e)) (means k)
      go false e = later n line tail (settle f next).answer (λ q l. kept_at q (first_below broken n q (omega (arith, ltb-false k n e)))) (t (rw e))

-- ---- the other checks, each before any that follow, which may count on it

module _ (f : Files) (tail : Checks) (next : Verdict) where
  -- a check with place 0 alone
  alone : (n : ℕ) (R : Type 0) (b : Bool) → (b ≡ true → Told tail (settle f next).answer) → (b ≡ true → R) → (b ≡ false → R → ⊥)
      → Told (one n R tail) (settle f (after_test n b next)).answer
  unfolding settle
  alone n R true t holds breaks = later 1 (rule n 0 (λ _. R) nil) tail (settle f next).answer (at_once n (holds refl)) (t refl)
  alone n R false t holds breaks = broken_once n tail (breaks refl)

  -- a check that names the lowest place where it is broken
  at_lowest : (m n : ℕ) (R : ℕ → Type 0) (p : ℕ → Bool) → (lowest p m ≡ Ok tt → Told tail (settle f next).answer)
      → ((k : ℕ) → p k ≡ false → R k) → ((k : ℕ) → p k ≡ true → R k → ⊥)
      → Told (each m n R tail) (settle f (after_fault n (lowest p m) next)).answer
  unfolding settle
  at_lowest m n R p t holds breaks = go (lowest p m) refl
    where
      go : (r : Result ⊤ ℕ) → lowest p m ≡ r → Told (each m n R tail) (settle f (after_fault n r next)).answer
      go (Ok _) e = later m (rule n 0 R nil) tail (settle f next).answer (at_each m n (λ k l. holds k (nowhere_holds p m e k l))) (t e)
      go (Err k) e =
          let l = lowest_found p m k e in
          broken_at m n k tail l.0 (λ q h. holds q (l.1 q h)) (breaks k l.2)

-- ---- 5

module _ (object : List ℕ) where
  abbrev wrong : ℕ → Bool
  wrong j = not (section_well object j)

  fine : (j : ℕ) → wrong j ≡ false → SoundSection object j
  fine j e = section_sound object j (not-false (section_well object j) e)

  not_fine : (j : ℕ) → wrong j ≡ true → SoundSection object j → ⊥
  not_fine j e s = clash (section_well object j) (not-true (section_well object j) e) (well_section object j s)

  module _ (f : Files) (tail : Checks) (next : Verdict) (t : section_check object ≡ Ok tt → Told tail (settle f next).answer) where
    abbrev sections : Checks
    sections = each (section_count object) 5 (SoundSection object) tail

    abbrev section_table : Checks
    section_table = one 5 (TableWell object) sections

    past_table : (a : Answer) → table_allowed object ≡ true → Told sections a → Told section_table a
    past_table a e h = later 1 (rule 5 0 (λ _. TableWell object) nil) sections a (at_once 5 (table_well object e)) h

    by : (r : Result ⊤ ℕ) → section_check object ≡ r → Told section_table (settle f (after_sections r next)).answer
        → Told section_table (settle f (after_sections (section_check object) next)).answer
    by r e h = subst (λ o. Told section_table (settle f (after_sections o next)).answer) (sym e) h

    sections_told : Told section_table (settle f (after_sections (section_check object) next)).answer
    unfolding settle
    sections_told = go (table_allowed object) refl (ltb k n) refl
      where
        n : ℕ
        n = section_count object

        k : ℕ
        k = first wrong n

        go : (b : Bool) → table_allowed object ≡ b → (c : Bool) → ltb k n ≡ c → Told section_table (settle f (after_sections (section_check object) next)).answer
        go false e₂ c e₃ =
            by (Err 0) (check_table_broken object e₂)
            (broken_once 5 sections (λ h. clash (table_allowed object) e₂ (well_table object h)))
        go true e₂ true e₃ =
            let there : k < n = ltb-true k n e₃ in
            let here : wrong k ≡ true = first_at wrong n there in
            by (Err k) (check_broken object k e₂ there (first_below wrong n) (not-true (section_well object k) here))
            (past_table (says 5 k) e₂ (broken_at n 5 k tail there (λ j l. fine j (first_below wrong n j l)) (not_fine k here)))
        go true e₂ false e₃ =
            let all : (j : ℕ) → j < n → wrong j ≡ false = λ j l. first_below wrong n j (omega (arith, ltb-false k n e₃)) in
            let passed : section_check object ≡ (Ok tt) = check_sound object e₂ all in
            by (Ok tt) passed
            (past_table (settle f next).answer e₂
            (later n (rule 5 0 (SoundSection object) nil) tail (settle f next).answer (at_each n 5 (λ j l. fine j (all j l))) (t passed)))

-- ---- all of them

module _ (object order : List ℕ) (f : Files) where
  abbrev len : ℕ
  len = length f.image

  -- what is left of the table, and of the judgement, from a check on
  abbrev checks15 : Checks
  checks15 = one 15 (Room object order f.journal) none

  abbrev checks9 : Checks
  checks9 = check (relocation_count object) (line object order) checks15

  abbrev verdict9 : Verdict
  verdict9 = after_relocations (relocation_check object order (addresses_for object order)) (plan (plan_of object order))

  abbrev checks8 : Checks
  checks8 = each (section_count object) 8 (PlacedIfAllocated object order len) checks9

  abbrev verdict8 : Verdict
  verdict8 = after_fault 8 (placing_check object (addresses_for object order) (base_for object order) len) verdict9

  abbrev checks7 : Checks
  checks7 = each (2 ^ 32) 7 (ValuedIfUndefined object order) checks8

  abbrev verdict7 : Verdict
  verdict7 = after_fault 7 (external_check object order) verdict8

  abbrev checks6 : Checks
  checks6 = each (2 ^ 32) 6 (PlacedAsAllocated object order) checks7

  abbrev verdict6 : Verdict
  verdict6 = after_fault 6 (placement_check object order) verdict7

  abbrev checks5 : Checks
  checks5 = one 5 (TableWell object) (each (section_count object) 5 (SoundSection object) checks6)

  abbrev verdict5 : Verdict
  verdict5 = after_sections (section_check object) verdict6

  abbrev checks3 : Checks
  checks3 = one 3 (WindowWell (address_width object) (base_for object order) len) checks5

  abbrev verdict3 : Verdict
  verdict3 = after_test 3 (window_allowed (address_width object) (base_for object order) len) verdict5

  abbrev checks2 : Checks
  checks2 = one 2 (OrderWell (class_of object) order) checks3

  abbrev verdict2 : Verdict
  verdict2 = after_test 2 (well_formed (class_of object) order) verdict3

  abbrev checks4 : Checks
  checks4 = one 4 (HeaderWell object) checks2

  -- each check, given that those before it pass
  told15 : Fitting object order (order_header_of (class_of object) order) len → Told checks15 (settle f (plan (plan_of object order))).answer
  unfolding settle
  told15 fit = go (no_room (count f.journal) (held f.journal) (span_of (plan_of object order)).size (length f.journal)) refl
    where
      is : IsSpan object order (span_of (plan_of object order))
      is = is_span object order (order_header_of (class_of object) order) len fit

      go : (b : Bool) → no_room (count f.journal) (held f.journal) (span_of (plan_of object order)).size (length f.journal) ≡ b
          → Told checks15 (cond b (refuse journal_full f) (succeed (installed (plan_of object order) f))).answer
      go true e = broken_once 15 none (room_left object order f.journal (span_of (plan_of object order)) is e)
      go false e = inl (refl, (at_once 15 (has_room object order f.journal (span_of (plan_of object order)) is e), tt))

  told9 : Placeable object order (order_header_of (class_of object) order) len → Told checks9 (settle f verdict9).answer
  told9 p = relocations object order f checks15 (plan (plan_of object order)) (λ r. told15 (record { placeable = p; relocations = r }))

  told8 : Named object order (order_header_of (class_of object) order) len → Told checks8 (settle f verdict8).answer
  unfolding placing_check
  told8 n =
      at_lowest f checks9 verdict9 (section_count object) 8 (PlacedIfAllocated object order len) (misplaced object (addresses_for object order) (base_for object order) len)
      (λ p. told9 (record { named = n; placing = p })) (placed_well object (addresses_for object order) (base_for object order) len) (placed_wrong object (addresses_for object order) (base_for object order) len)

  told7 : Readable object order (order_header_of (class_of object) order) len → placement_check object order ≡ Ok tt → Told checks7 (settle f verdict7).answer
  unfolding external_check
  told7 r p =
      at_lowest f checks8 verdict8 (2 ^ 32) 7 (ValuedIfUndefined object order) (λ k. is_given (external_value (class_of object) order k) && not (is_undefined object k))
      (λ x. told8 (record { readable = r; placements = p; externals = x })) (valued object order) (not_valued object order)

  told6 : Readable object order (order_header_of (class_of object) order) len → Told checks6 (settle f verdict6).answer
  unfolding placement_check
  told6 r = at_lowest f checks7 verdict7 (2 ^ 32) 6 (PlacedAsAllocated object order) (differs object order) (told7 r) (matches object order) (no_match object order)

  told3 : header_allowed object ≡ true → well_formed (class_of object) order ≡ true → Told checks3 (settle f verdict3).answer
  told3 h o =
      alone f checks5 verdict5 3 (WindowWell (address_width object) (base_for object order) len) (window_allowed (address_width object) (base_for object order) len)
      (λ w. sections_told object f checks6 verdict6
      (λ p. told6 (record { header = h; reading_is = sound_reading (class_of object) order (order_header_of (class_of object) order) (well_formed_sound (class_of object) order o); window = w; sections = p })))
      (window_well (address_width object) (base_for object order) len) (λ e w. clash (window_allowed (address_width object) (base_for object order) len) e (well_window (address_width object) (base_for object order) len w))

  told2 : header_allowed object ≡ true → Told checks2 (settle f verdict2).answer
  told2 h =
      alone f checks3 verdict3 2 (OrderWell (class_of object) order) (well_formed (class_of object) order) (told3 h) (order_well (class_of object) order)
      (λ e w. clash (well_formed (class_of object) order) e (well_order (class_of object) order w))

  told4 : Told checks4 (settle f (judgement object order len)).answer
  unfolding judgement
  told4 = alone f checks2 verdict2 4 (HeaderWell object) (header_allowed object) told2 (header_well object) (λ e w. clash (header_allowed object) e (well_header object w))

  -- the answer of an install is what the table says
  pub told : Told (table object order f) (install judgement object order f).answer
  unfolding table install
  told = go (sound f.journal len) refl
    where
      go : (b : Bool) → sound f.journal len ≡ b → Told (one 1 (Sound f.journal len) checks4) (cond (not b) (refuse journal_unsound f) (settle f (judgement object order len))).answer
      go true e =
          later 1 (rule 1 0 (λ _. Sound f.journal len) nil) checks4 (settle f (judgement object order len)).answer
          (at_once 1 (test_sound f.journal len e)) told4
      go false e = broken_once 1 checks4 (λ s. clash (sound f.journal len) e (sound_test f.journal len s))
