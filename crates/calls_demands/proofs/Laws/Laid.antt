-- Each laid byte is the object's own, or belongs to the field that is asked for.
use mathlib.Core.Path.{◌≡◌, refl, sym, ap, ◌∙◌, subst}
use mathlib.Core.Bool.{Bool, true, false, not, ◌&&◌}
use mathlib.Core.List.{List}
use Prim.Native.Nat.{ℕ, ◌+◌, ◌≤◌, ◌<◌}
use native.Mathlib.Omega.{arith}
use native.Mathlib.Decide.{dec_lt}
use lib.ListN.{length, get_or}
use lib.Dec.{leb, ltb, eqb}
use borrow.Author.Tests.{leb-true, ltb-true, ltb-false, eqb-true, eq-eqb}
use Rattle.numbers_definitions.proofs.Laws.Tests.{and_left, and_right, clash}
use Rattle.numbers_definitions.proofs.Laws.First.{first_is, everywhere_is}
use Rattle.numbers_definitions.proofs.Laws.Whole.{residue_lt}
use Rattle.elf_read.specs.Headers.{class_of, has_rvc, address_width, section_count}
use Rattle.elf_read.specs.Sections.{section_at, counting_rela}
use Rattle.elf_read.specs.Entries.{bytes_of}
use Rattle.order_format.specs.declared.OrderHeader.{OrderHeader}
use Rattle.order_lookup.specs.Addresses.{addresses, addresses_for}
use Rattle.plan_pieces.specs.Plans.{overwritten}
use Rattle.placing_check.specs.Placing.{has_bytes}
use Rattle.relocations_types.specs.declared.Operand.TheVariants.{Absolute}
use Rattle.relocations_types.specs.declared.Part.TheVariants.{High, Low}
use Rattle.relocations_types.specs.declared.Decision.{Decision}
use Rattle.relocations_types.specs.declared.Decision.TheVariants.{Marker, Align, Store, Refused}
use Rattle.instructions_riscv.specs.Halves.{low}
use Rattle.relocations_rela.specs.declared.sites.Site.{Site}
use Rattle.relocations_rela.specs.Sites.{site_at, count, entry, decision_at, offset, P, found}
use Rattle.relocations_decisions.specs.Decisions.{is_store, touched}
use Rattle.relocations_rela.specs.Shape.{end, stays_inside}
use Rattle.relocations_decisions.proofs.Laws.Decisions.{store_width, width_some}
use Rattle.relocations_values.specs.Values.{target_at}
use Rattle.relocations_rules.proofs.Laws.Search.{kept_rules}
use Rattle.relocations_bytes.specs.Requires.{Checked}
use Rattle.relocations_bytes.specs.Sections.{pair_distance, rela_of, relocated, after}
use Rattle.relocations_bytes.specs.Promises.{stack_at, Stored, ReadsBack}
use Rattle.relocations_bytes.specs.Wholes.{touches, untouched}
use Rattle.relocations_bytes.proofs.Laws.Sections.{checked, rela_found, relocated_some, relocated_none, found_target}
use Rattle.relocations_bytes.proofs.Laws.After.{untouched_own}
use Rattle.relocations_bytes.proofs.Laws.ReadBack.{read_back}
use Rattle.relocations_bytes.proofs.Laws.Halves.{add_up, part_said, halves_of}
use Rattle.calls_judgement.specs.Judgement.{plan_of}
use Rattle.calls_judgement.specs.Requires.{Fitting}
use Rattle.calls_judgement.proofs.Laws.Laying.{is_sound, is_placed}
use Rattle.calls_demands.specs.Laid.{start, section_in, Covers, site_of, Untouched, bytes_at, target, Laid}
use Rattle.calls_demands.proofs.Laws.Relocations.{shape_well_lem}
use Rattle.calls_demands.proofs.Laws.Lists.{get_d_part}
use Rattle.calls_demands.proofs.Laws.Images.{installed_length, installed_section, installed_others}

not_touched : (p b q : ℕ) → (p ≤ b → b < q → ⊥) → not (leb p b && ltb b q) ≡ true
not_touched p b q out = go (leb p b) refl (ltb b q) refl
  where
    go : (x : Bool) → leb p b ≡ x → (y : Bool) → ltb b q ≡ y → not (x && y) ≡ true
    go false e y d = refl
    go true e false d = refl
    go true e true d = absurd (out (leb-true p b e) (ltb-true b q d))

not_first : (c : Bool) (m n : ℕ) → (c ≡ true → m ≡ n → ⊥) → (c && eqb m n) ≡ false
not_first c m n out = go (c && eqb m n) refl
  where
    go : (x : Bool) → (c && eqb m n) ≡ x → (c && eqb m n) ≡ false
    go false e = e
    go true e = absurd (out (and_left c (eqb m n) e) (eqb-true m n (and_right c (eqb m n) e)))

-- a relocation that stores nothing says nothing
nothing_read : (object order addresses : List ℕ) (x : Site) (final : List ℕ) (j : ℕ) → (is_store (decision_at object x j) ≡ true → ⊥) → ReadsBack object order addresses x final j
unfolding ReadsBack
nothing_read object order addresses x final j none = go (decision_at object x j) none
  where
    go : (d : Decision) → (is_store d ≡ true → ⊥)
        → Stored (address_width object) d (found object x) final (offset object x j) (target_at object order addresses x j) (P object x j) (pair_distance object order addresses x j)
        (λ v. stack_at object order addresses x (offset object x j) v (count object x))
    go (Store r) none = absurd (none refl)
    go Marker none = tt
    go Align none = tt
    go Refused none = tt

module _ (object order : List ℕ) (counts : OrderHeader) (image : List ℕ) (fit : Fitting object order counts (length image)) where
  abbrev a : List ℕ
  a = addresses_for object order

  abbrev final : List ℕ
  final = overwritten image (plan_of object order)

  -- ---- bytes that no relocation touches

  own_section : (t b : ℕ) → Untouched object order t b → get_or (relocated object order a t) b 0 ≡ get_or (bytes_of object (section_at object t)) b 0
  unfolding untouched touches
  own_section t b out = go (dec_lt (rela_of object t) (section_count object))
    where
      x : Site
      x = site_at object a (rela_of object t)

      go : Dec (rela_of object t < section_count object) → get_or (relocated object order a t) b 0 ≡ get_or (bytes_of object (section_at object t)) b 0
      go (yes r) =
          let f = rela_found object t r in
          let none : untouched object x b ≡ true = everywhere_is (λ j. not (touches object x j b)) (count object x)
          (λ j l. not_touched (offset object x j) b (end object x j) (out (rela_of object t) j (record { there = r; counts = f.0; entry = l }) f.1)) in
          ap (λ s. get_or s b 0) (relocated_some object order a t r)
          ∙ untouched_own object order a x b none
          ∙ ap (λ s. get_or s b 0) (found_target object a t r)
      go (no r) = ap (λ s. get_or s b 0) (relocated_none object order a t (omega arith))

  own_byte : (t b : ℕ) → Covers object order t (start object order t + b) → Untouched object order t b
      → get_or final (start object order t + b) 0 ≡ get_or (bytes_of object (section_at object t)) b 0
  own_byte t b c out =
      sym (get_d_part final (start object order t) (section_at object t).size b (omega (arith, c.to)))
      ∙ ap (λ s. get_or s b 0) (installed_section object order counts image fit t c.there c.loaded)
      ∙ own_section t b out

  -- ---- relocations

  module _ (i : ℕ) (h-there : i < section_count object) (c : counting_rela object i ≡ true) where
    abbrev x : Site
    x = site_of object order i

    pub is_checked : Checked object order a x
    is_checked = checked object order a (is_sound object order counts (length image) fit) (is_placed object order counts (length image) fit) fit.relocations i h-there c

    -- the RELA section of its target
    rela_is : rela_of object (section_at object i).info ≡ i
    unfolding rela_of
    rela_is =
        let sound = ((is_sound object order counts (length image) fit).sections i h-there).rela c in
        let q : ℕ → Bool = λ k. counting_rela object k && eqb (section_at object k).info (section_at object i).info in
        let here : q i ≡ true = rw (c, eq-eqb (section_at object i).info (section_at object i).info refl) in
        first_is q (section_count object) i (omega arith) (λ k l. not_first (counting_rela object k) (section_at object k).info (section_at object i).info (sound.new_target k l)) (λ _. here)

    relocated_target : relocated object order a (section_at object i).info ≡ after object order a x (count object x)
    relocated_target =
        let r : rela_of object (section_at object i).info < section_count object = omega (arith, rela_is) in
        relocated_some object order a (section_at object i).info r
        ∙ ap (λ k. after object order a (site_at object a k) (count object (site_at object a k))) rela_is

    -- a section of size 0 has no room for a store
    no_store : (j : ℕ) → j < count object x → has_bytes (section_at object (section_at object i).info) ≡ false → (d : Decision) → decision_at object x j ≡ d → is_store d ≡ true → ⊥
    unfolding has_bytes site_at stays_inside
    no_store j l e (Store r) p s =
        let h = section_at object (section_at object i).info in
        let there = (((is_sound object order counts (length image) fit).sections i h-there).rela c).target_loaded in
        let empty : ltb 0 h.size ≡ false = rw there at e in
        let inside : end object x j ≤ h.size = (shape_well_lem object x j (kept_rules object order a x j (is_checked.kept j l)).shape).inside in
        let touches-n : touched (decision_at object x j) ≡ r.size = ap touched p in
        omega (arith, width_some r.size (store_width (class_of object) (has_rvc object) (entry object x j).kind r p), inside, ltb-false 0 h.size empty)
    no_store j l e Marker p s = clash false refl s
    no_store j l e Align p s = clash false refl s
    no_store j l e Refused p s = clash false refl s

    -- every relocation, read out of the image
    back : (j : ℕ) → j < count object x → ReadsBack object order a x (section_in object order final (section_at object i).info) j
    back j l = go (has_bytes (section_at object (section_at object i).info)) refl
      where
        there : (section_at object i).info < section_count object
        there = (((is_sound object order counts (length image) fit).sections i h-there).rela c).target_there

        go : (b : Bool) → has_bytes (section_at object (section_at object i).info) ≡ b → ReadsBack object order a x (section_in object order final (section_at object i).info) j
        go true e =
            subst (λ s. ReadsBack object order a x s j) (sym (installed_section object order counts image fit (section_at object i).info there e ∙ relocated_target))
            (read_back object order a x is_checked j l)
        go false e = nothing_read object order a x (section_in object order final (section_at object i).info) j (no_store j l e (decision_at object x j) refl)

  -- ---- all of it

  pub laid_well : Laid object order image final
  laid_well =
      record {
        same_length = installed_length object order counts image fit;
        others_same = installed_others object order counts image fit;
        own = own_byte;
        fields = λ i j r. back i r.there r.counts j r.entry;
        addresses_whole = λ p i q j r s g b e u high_is low_is same.
            let high = part_said object order a (site_of object order p) (section_in object order final (section_at object p).info) (back p r.there r.counts) i r.entry g High Absolute e high_is in
            let low_half_lem = part_said object order a (site_of object order q) (section_in object order final (section_at object q).info) (back q s.there s.counts) j s.entry b Low Absolute u low_is in
            add_up (address_width object) g.field b.field (bytes_at object order final p i g.size) (bytes_at object order final q j b.size) (target object order p i) (residue_lt (address_width object) _) high (low_half_lem ∙ ap (low (address_width object)) (sym same));
        distances_whole = λ i j r b e low_is.
            (halves_of object order a (site_of object order i) (section_in object order final (section_at object i).info) (back i r.there r.counts) (is_checked i r.there r.counts)).distance j r.entry b e low_is;
      }
