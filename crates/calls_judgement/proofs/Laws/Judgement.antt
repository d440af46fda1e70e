-- Laws of the judgement: what each check gives.
use Rattle.std.specs.Prelude.{Err, None, Ok, Result, Some, ⊤}
use mathlib.Core.Path.{◌≡◌, refl, sym, ap, ◌∙◌, subst}
use mathlib.Core.Bool.{Bool, true, false, cond}
use mathlib.Core.List.{List}
use Prim.Native.Nat.{ℕ}
use native.Mathlib.Omega.{arith}
use lib.Dec.{ltb, eqb}
use borrow.Author.Tests.{ltb-true}
use Rattle.numbers_definitions.proofs.Laws.Tests.{never}
use Rattle.numbers_definitions.specs.First.{first}
use Rattle.numbers_definitions.proofs.Laws.First.{first_at}
use Rattle.order_format.specs.declared.OrderHeader.{OrderHeader}
use Rattle.order_format.specs.Orders.{base, well_formed, reading}
use Rattle.order_format.specs.Windows.{window_allowed}
use Rattle.order_lookup.specs.Addresses.{addresses, addresses_for, base_for}
use Rattle.order_format.proofs.Laws.Sound.{Sound, order_header_of, well_formed_sound, reading_sound, sound_reading, sound_counts, sound_well_formed}
use Rattle.numbers_definitions.specs.declared.Class.{Class}
use Rattle.elf_header.specs.Headers.{header_allowed}
use Rattle.elf_check.specs.Rules.{section_check}
use Rattle.elf_read.specs.Headers.{class_of, address_width}
use Rattle.elf_read.specs.Entries.{relocation_count}
use Rattle.plan_pieces.specs.Answers.{Answer, says, says_why}
use Rattle.plan_pieces.specs.Plans.{Piece, Verdict, refused, plan}
use Rattle.placing_match.specs.Placements.{placement_check}
use Rattle.placing_match.specs.Externals.{external_check}
use Rattle.placing_check.specs.Placing.{placing_check}
use Rattle.relocations_rules.specs.declared.Finding.{Finding}
use Rattle.relocations_rules.specs.declared.Finding.TheVariants.{BadShape, BadSymbol, BadForm, NoPair, OutOfReach, OffBoundary}
use Rattle.relocations_rules.specs.declared.Broken.{Broken}
use Rattle.relocations_rules.specs.Search.{number, reason, relocation_check}
use Rattle.calls_judgement.specs.Judgement.{after_test, after_sections, after_fault, after_relocations, plan_of, judgement}
use Rattle.calls_judgement.specs.Requires.{Readable, Named, Placeable, Fitting}

-- ---- orders

module _ (c : Class) (order : List ℕ) where
  pub formed : (counts : OrderHeader) → reading c order ≡ Some counts → well_formed c order ≡ true
  formed counts e =
      let s = reading_sound c order counts e in
      sound_well_formed c order (subst (Sound c order) (sound_counts c order counts s) s)

  not_formed : reading c order ≡ None → well_formed c order ≡ false
  unfolding reading
  not_formed e = go (well_formed c order) refl e
    where
      go : (b : Bool) → well_formed c order ≡ b → cond b (Some (order_header_of c order)) None ≡ None → well_formed c order ≡ false
      go true q r =
          let z : ◌≡◌ {A = ℕ} 0 1 = cc in
          absurd (omega arith)
      go false q r = q

-- ---- relocations

-- what is found has a number
pub some_number : (f : Finding) → eqb (number f) 0 ≡ false
some_number BadShape = refl
some_number (BadSymbol why) = refl
some_number BadForm = refl
some_number NoPair = refl
some_number OutOfReach = refl
some_number OffBoundary = refl

-- ---- the verdict at each check

module _ (object order : List ℕ) (len : ℕ) where
  pub gives_4 : header_allowed object ≡ false → judgement object order len ≡ refused (says 4 0)
  unfolding judgement
  gives_4 h = rw h

  pub gives_2 : header_allowed object ≡ true → reading (class_of object) order ≡ None → judgement object order len ≡ refused (says 2 0)
  unfolding judgement
  gives_2 h e = rw (h, not_formed (class_of object) order e)

  module _ (counts : OrderHeader) where
    pub gives_3 : header_allowed object ≡ true → reading (class_of object) order ≡ Some counts
        → window_allowed (address_width object) (base_for object order) len ≡ false → judgement object order len ≡ refused (says 3 0)
    unfolding judgement
    gives_3 h e w = rw (h, formed (class_of object) order counts e, w)

    pub gives_5 : (i : ℕ) → header_allowed object ≡ true → reading (class_of object) order ≡ Some counts
        → window_allowed (address_width object) (base_for object order) len ≡ true → section_check object ≡ Err i → judgement object order len ≡ refused (says 5 i)
    unfolding judgement
    gives_5 i h e w o = rw (h, formed (class_of object) order counts e, w, o)

    -- what the checks after these four say
    abbrev placed : Verdict
    placed = after_fault 8 (placing_check object (addresses_for object order) (base_for object order) len)
        (after_relocations (relocation_check object order (addresses_for object order)) (plan (plan_of object order)))

    read_well : Readable object order counts len → judgement object order len ≡ after_fault 6 (placement_check object order) (after_fault 7 (external_check object order) placed)
    unfolding judgement
    read_well r = rw (r.header, formed (class_of object) order counts r.reading_is, r.window, r.sections)

    pub gives_6 : (i : ℕ) → Readable object order counts len → placement_check object order ≡ Err i → judgement object order len ≡ refused (says 6 i)
    gives_6 i r p = read_well r ∙ rw p

    pub gives_7 : (k : ℕ) → Readable object order counts len → placement_check object order ≡ Ok tt → external_check object order ≡ Err k → judgement object order len ≡ refused (says 7 k)
    gives_7 k r p x = read_well r ∙ rw (p, x)

    named_well : Named object order counts len → judgement object order len ≡ placed
    named_well n = read_well n.readable ∙ rw (n.placements, n.externals)

    pub gives_8 : (i : ℕ) → Named object order counts len → placing_check object (addresses_for object order) (base_for object order) len ≡ Err i
        → judgement object order len ≡ refused (says 8 i)
    gives_8 i n p = named_well n ∙ rw p

    pub gives_9_to_14 : (b : Broken) → Placeable object order counts len → relocation_check object order (addresses_for object order) ≡ Err b
        → judgement object order len ≡ refused (says_why (number b.finding) b.relocation (reason b.finding))
    gives_9_to_14 b p e = named_well p.named ∙ rw (p.placing, e)

    pub gives_plan : Fitting object order counts len → judgement object order len ≡ plan (plan_of object order)
    gives_plan f = named_well f.placeable.named ∙ rw (f.placeable.placing, f.relocations)

-- ---- a plan is given only where every check passes

pub record Fits (object order : List ℕ) (len : ℕ) (ps : List Piece) : Type 0 where
  pub counts : OrderHeader
  pub fitting : Fitting object order counts len
  pub plan_is : plan_of object order ≡ ps

wrong : {A : Type 0} (a : Answer) (ps : List Piece) → refused a ≡ plan ps → A
wrong a ps e =
    let z : ◌≡◌ {A = ℕ} 0 1 = cc in
    absurd (omega arith)

pub plan_fits : (object order : List ℕ) (len : ℕ) (ps : List Piece) → judgement object order len ≡ plan ps → Fits object order len ps
unfolding judgement
plan_fits object order len ps h =
    go (header_allowed object) refl (well_formed c order) refl (window_allowed (address_width object) (base c order) len) refl (section_check object) refl (placement_check object order) refl
    (external_check object order) refl (placing_check object (addresses c order) (base c order) len) refl (relocation_check object order (addresses c order)) refl h
  where
    c : Class
    c = class_of object

    go : (h : Bool) → header_allowed object ≡ h → (a : Bool) → well_formed c order ≡ a → (b : Bool) → window_allowed (address_width object) (base c order) len ≡ b
        → (s : Result ⊤ ℕ) → section_check object ≡ s → (d : Result ⊤ ℕ) → placement_check object order ≡ d → (e : Result ⊤ ℕ) → external_check object order ≡ e
        → (f : Result ⊤ ℕ) → placing_check object (addresses c order) (base c order) len ≡ f → (g : Result ⊤ Broken) → relocation_check object order (addresses c order) ≡ g
        → after_test 4 h (after_test 2 a (after_test 3 b (after_sections s (after_fault 6 d (after_fault 7 e (after_fault 8 f (after_relocations g (plan (plan_of object order))))))))) ≡ plan ps
        → Fits object order len ps
    go false p₀ a p₁ b p₂ s p₃ d p₄ e p₅ f p₆ g p₇ h = wrong (says 4 0) ps h
    go true p₀ false p₁ b p₂ s p₃ d p₄ e p₅ f p₆ g p₇ h = wrong (says 2 0) ps h
    go true p₀ true p₁ false p₂ s p₃ d p₄ e p₅ f p₆ g p₇ h = wrong (says 3 0) ps h
    go true p₀ true p₁ true p₂ (Err i) p₃ d p₄ e p₅ f p₆ g p₇ h = wrong (says 5 i) ps h
    go true p₀ true p₁ true p₂ (Ok _) p₃ (Err i) p₄ e p₅ f p₆ g p₇ h = wrong (says 6 i) ps h
    go true p₀ true p₁ true p₂ (Ok _) p₃ (Ok _) p₄ (Err i) p₅ f p₆ g p₇ h = wrong (says 7 i) ps h
    go true p₀ true p₁ true p₂ (Ok _) p₃ (Ok _) p₄ (Ok _) p₅ (Err i) p₆ g p₇ h = wrong (says 8 i) ps h
    go true p₀ true p₁ true p₂ (Ok _) p₃ (Ok _) p₄ (Ok _) p₅ (Ok _) p₆ (Err b) p₇ h = wrong (says_why (number b.finding) b.relocation (reason b.finding)) ps h
    go true p₀ true p₁ true p₂ (Ok _) p₃ (Ok _) p₄ (Ok _) p₅ (Ok _) p₆ (Ok _) p₇ h =
        let s = well_formed_sound c order p₁ in
        record {
          counts = order_header_of c order;
          fitting = record {
            placeable = record {
              named = record {
                readable = record { header = p₀; reading_is = sound_reading c order (order_header_of c order) s; window = p₂; sections = p₃ };
                placements = p₄;
                externals = p₅;
              };
              placing = p₆;
            };
            relocations = p₇;
          };
          plan_is = cc;
        }

-- ---- from a plan back to the checks

module _ (object order : List ℕ) (len : ℕ) where
  pub done_fits : (counts : OrderHeader) → judgement object order len ≡ plan (plan_of object order) → reading (class_of object) order ≡ Some counts → Fitting object order counts len
  done_fits counts e r =
      let f = plan_fits object order len (plan_of object order) e in
      let told : Some f.counts ≡ Some counts = sym f.fitting.placeable.named.readable.reading_is ∙ r in
      let same : f.counts ≡ counts = cc in
      subst (λ n. Fitting object order n len) same f.fitting

  pub done_formed : judgement object order len ≡ plan (plan_of object order) → reading (class_of object) order ≡ None → ⊥
  done_formed e r =
      let f = plan_fits object order len (plan_of object order) e in
      let told : Some f.counts ≡ None = sym f.fitting.placeable.named.readable.reading_is ∙ r in
      let z : ◌≡◌ {A = ℕ} 0 1 = cc in
      omega arith
