-- The image after a done install: each loaded section stands in it as its relocations leave it, and no other byte changes.
use mathlib.Core.Logic.{◌⊎◌, inl, inr, ⊎_elim}
use mathlib.Core.Path.{◌≡◌, refl, sym, ap, ◌∙◌, subst}
use mathlib.Core.Bool.{Bool, true, false, cond}
use mathlib.Core.List.{List}
use Prim.Native.Nat.{ℕ, zero, suc, ◌+◌, ◌≤◌, ◌<◌}
use native.Mathlib.Omega.{arith}
use native.Mathlib.Decide.{dec_lt}
use lib.ListN.{length, get_or}
use lib.Seq.{sets, length-sets}
use Rattle.numbers_definitions.proofs.Laws.Lists.{part_stored, part_other, get_d_sets_other}
use Rattle.elf_read.specs.Headers.{section_count}
use Rattle.elf_read.specs.Sections.{section_at}
use Rattle.order_format.specs.declared.OrderHeader.{OrderHeader}
use Rattle.order_lookup.specs.Addresses.{addresses_for, base_for}
use Rattle.plan_pieces.specs.Plans.{overwritten}
use Rattle.placing_check.specs.Placing.{has_bytes, end_of}
use Rattle.placing_check.proofs.Laws.Theorems.{disjoint}
use Rattle.calls_judgement.specs.Judgement.{plan_of}
use Rattle.calls_judgement.specs.Requires.{Fitting}
use Rattle.calls_judgement.proofs.Laws.Laying.{bytes_inside, bytes_loaded, relocated_length, with_none, with_some, laid_below, laid_none, laid_more, laid_all}
use Rattle.relocations_bytes.specs.Sections.{relocated}
use Rattle.calls_demands.specs.Laid.{start, section_in, Covers}

-- ---- section by section

module _ (object order : List ℕ) (counts : OrderHeader) (image : List ℕ) (fit : Fitting object order counts (length image)) where
  -- an image with the sections below n laid into it
  abbrev now : ℕ → List ℕ
  now n = laid_below object order image n

  -- one more section
  next_none : (t : ℕ) → has_bytes (section_at object t) ≡ false → now (suc t) ≡ now t
  next_none t e = laid_more object order image t ∙ with_none object order (now t) t e

  next_some : (t : ℕ) → has_bytes (section_at object t) ≡ true → now (suc t) ≡ sets (now t) (start object order t) (relocated object order (addresses_for object order) t)
  next_some t e = laid_more object order image t ∙ with_some object order (now t) t e

  size_is : (t : ℕ) → t < section_count object → has_bytes (section_at object t) ≡ true → length (relocated object order (addresses_for object order) t) ≡ (section_at object t).size
  size_is t h e = relocated_length object order counts (length image) fit t h (bytes_loaded object order counts (length image) fit t e)

  length_now : (n : ℕ) → length (now n) ≡ length image
  length_now zero = ap length (laid_none object order image)
  length_now (suc t) = go (has_bytes (section_at object t)) refl (length_now t)
    where
      go : (b : Bool) → has_bytes (section_at object t) ≡ b → length (now t) ≡ length image → length (now (suc t)) ≡ length image
      go true e i = ap length (next_some t e) ∙ length-sets (now t) (start object order t) (relocated object order (addresses_for object order) t) ∙ i
      go false e i = ap length (next_none t e) ∙ i

  -- two loaded sections share no byte of the image
  apart : (t u : ℕ) → t < u → u < section_count object → has_bytes (section_at object t) ≡ true → has_bytes (section_at object u) ≡ true
      → (start object order t + (section_at object t).size ≤ start object order u) ⊎ (start object order u + (section_at object u).size ≤ start object order t)
  unfolding end_of
  apart t u l h e d =
      let p = bytes_inside object order counts (length image) fit t (omega arith) e in
      let q = bytes_inside object order counts (length image) fit u h d in
      ⊎_elim (λ a. inl (omega arith)) (λ a. inr (omega arith))
      (disjoint object (addresses_for object order) (base_for object order) (length image) fit.placeable.placing u t h l d e)

  -- each stands in the image as its relocations leave it
  stands : (n t : ℕ) → n ≤ section_count object → t < n → has_bytes (section_at object t) ≡ true → section_in object order (now n) t ≡ relocated object order (addresses_for object order) t
  stands zero t h l e = absurd (omega arith)
  stands (suc m) t h l e = go (has_bytes (section_at object m)) refl (dec_lt t m) (stands m t (omega arith))
    where
      at : ℕ
      at = start object order m

      bytes : List ℕ
      bytes = relocated object order (addresses_for object order) m

      go : (b : Bool) → has_bytes (section_at object m) ≡ b → Dec (t < m) → (t < m → has_bytes (section_at object t) ≡ true → section_in object order (now m) t ≡ relocated object order (addresses_for object order) t)
          → section_in object order (now (suc m)) t ≡ relocated object order (addresses_for object order) t
      go true d (yes b) before =
          let inside = bytes_inside object order counts (length image) fit m (omega arith) d in
          let size : length bytes ≡ (section_at object m).size = size_is m (omega arith) d in
          let long : length (now m) ≡ length image = length_now m in
          ap (λ s. section_in object order s t) (next_some m d)
          ∙ part_other (now m) at bytes (start object order t) (section_at object t).size (omega (arith, inside.1))
          (⊎_elim (λ a. inl a) (λ a. inr (omega arith)) (apart t m b (omega arith) e d))
          ∙ before b e
      go true d (no b) before =
          let same : m ≡ t = omega arith in
          let inside = bytes_inside object order counts (length image) fit t (omega arith) e in
          let long : length (now m) ≡ length image = length_now m in
          ap (λ s. section_in object order s t) (next_some m d)
          ∙ subst (λ k. section_in object order (sets (now m) (start object order k) (relocated object order (addresses_for object order) k)) t ≡ relocated object order (addresses_for object order) t) (sym same)
          (part_stored (now m) (start object order t) (relocated object order (addresses_for object order) t) (section_at object t).size (size_is t (omega arith) e) (omega (arith, inside.1)))
      go false d (yes b) before = ap (λ s. section_in object order s t) (next_none m d) ∙ before b e
      go false d (no b) before =
          let same : t ≡ m = omega arith in
          let z : ◌≡◌ {A = Bool} true false = sym e ∙ ap (λ k. has_bytes (section_at object k)) same ∙ d in
          let one : ◌≡◌ {A = ℕ} 0 1 = ap (λ b. cond b 0 1) z in
          absurd (omega arith)

  -- a byte that belongs to no section is as before
  kept : (n b : ℕ) → n ≤ section_count object → ((t : ℕ) → Covers object order t b → ⊥) → get_or (now n) b 0 ≡ get_or image b 0
  kept zero b h out = ap (λ s. get_or s b 0) (laid_none object order image)
  kept (suc t) b h out = go (has_bytes (section_at object t)) refl (kept t b (omega arith) out)
    where
      go : (d : Bool) → has_bytes (section_at object t) ≡ d → get_or (now t) b 0 ≡ get_or image b 0 → get_or (now (suc t)) b 0 ≡ get_or image b 0
      go true e before =
          let size : length (relocated object order (addresses_for object order) t) ≡ (section_at object t).size = size_is t h e in
          ap (λ s. get_or s b 0) (next_some t e)
          ∙ get_d_sets_other (now t) (start object order t) (relocated object order (addresses_for object order) t) b
          (λ from to. out t (record { there = h; loaded = e; from = from; to = omega arith }))
          ∙ before
      go false e before = ap (λ s. get_or s b 0) (next_none t e) ∙ before

  -- ---- the whole install

  pub installed_length : length (overwritten image (plan_of object order)) ≡ length image
  installed_length = ap length (sym (laid_all object order image)) ∙ length_now (section_count object)

  pub installed_section : (t : ℕ) → t < section_count object → has_bytes (section_at object t) ≡ true
      → section_in object order (overwritten image (plan_of object order)) t ≡ relocated object order (addresses_for object order) t
  installed_section t h e = ap (λ s. section_in object order s t) (sym (laid_all object order image)) ∙ stands (section_count object) t (omega arith) h e

  pub installed_others : (b : ℕ) → ((t : ℕ) → Covers object order t b → ⊥) → get_or (overwritten image (plan_of object order)) b 0 ≡ get_or image b 0
  installed_others b out = ap (λ s. get_or s b 0) (sym (laid_all object order image)) ∙ kept (section_count object) b (omega arith) out
