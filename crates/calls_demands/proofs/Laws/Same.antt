-- An image of bytes is determined by what demand 2 says about it.
use mathlib.Core.Logic.{◌⊎◌, inl, inr, ⊎_elim}
use mathlib.Core.Path.{◌≡◌, refl, sym, ap, subst, ◌∙◌}
use mathlib.Core.Bool.{Bool, true, false}
use mathlib.Core.List.{List}
use Prim.Native.Nat.{ℕ, ◌+◌, ◌-◌, ◌≤◌, ◌<◌}
use native.Mathlib.Omega.{arith}
use native.Mathlib.Decide.{dec_lt}
use lib.ListN.{length, get_or}
use lib.Seq.{ext_get_or}
use Rattle.numbers_definitions.proofs.Laws.Tests.{clash}
use Rattle.numbers_definitions.proofs.Laws.Bytes.{Bytes}
use Rattle.numbers_definitions.proofs.Laws.Lists.{length_part}
use Rattle.elf_read.specs.Headers.{class_of, has_rvc, address_width, section_count}
use Rattle.elf_read.specs.Sections.{section_at, counting_rela}
use Rattle.order_format.specs.declared.OrderHeader.{OrderHeader}
use Rattle.order_lookup.specs.Addresses.{addresses_for}
use Rattle.placing_check.specs.Placing.{has_bytes}
use Rattle.relocations_types.specs.declared.Decision.{Decision}
use Rattle.relocations_types.specs.declared.Decision.TheVariants.{Marker, Align, Store, Refused}
use Rattle.relocations_rela.specs.declared.sites.Site.{Site}
use Rattle.relocations_rela.specs.Sites.{site_at, count, entry, decision_at, offset, P, found}
use Rattle.relocations_rela.specs.Shape.{end}
use Rattle.relocations_decisions.specs.Decisions.{touched}
use Rattle.relocations_values.specs.Values.{target_at}
use Rattle.relocations_rules.proofs.Laws.Search.{kept_rules}
use Rattle.relocations_bytes.specs.Sections.{pair_distance}
use Rattle.relocations_bytes.specs.Promises.{stack_at, Stored, ReadsBack}
use Rattle.elf_read.proofs.Laws.Headers.{address_wide}
use Rattle.relocations_bytes.proofs.Laws.Known.{bytes_known}
use Rattle.calls_judgement.specs.Requires.{Fitting}
use Rattle.calls_judgement.proofs.Laws.Laying.{bytes_inside}
use Rattle.calls_demands.specs.Laid.{start, section_in, Covers, site_of, IsRelocation, Untouched, Laid}
use Rattle.calls_demands.proofs.Laws.Relocations.{shape_well_lem}
use Rattle.calls_demands.proofs.Laws.Lists.{equal, search_below, get_d_part, bytes_part, same_number, spelt_lt}
use Rattle.calls_demands.proofs.Laws.Laid.{is_checked}

module _ (object order : List ℕ) where
  -- ---- whether a section covers a byte, and a relocation touches it

  covers_or_not : (b t : ℕ) → t < section_count object → Covers object order t b ⊎ (Covers object order t b → ⊥)
  covers_or_not b t there = go (has_bytes (section_at object t)) refl (dec_lt b (start object order t)) (dec_lt b (start object order t + (section_at object t).size))
    where
      go : (d : Bool) → has_bytes (section_at object t) ≡ d → Dec (b < start object order t) → Dec (b < start object order t + (section_at object t).size)
          → Covers object order t b ⊎ (Covers object order t b → ⊥)
      go false e x y = inr (λ c. clash (has_bytes (section_at object t)) e c.loaded)
      go true e (yes k) y = inr (λ c. omega (arith, c.from))
      go true e (no k) (yes l) = inl (record { there = there; loaded = e; from = omega arith; to = l })
      go true e (no k) (no l) = inr (λ c. omega (arith, c.to))

  -- relocation j of RELA section i, which relocates section t, touches byte b of it
  pub record Touches (t b i j : ℕ) : Type 0 where
    pub is : IsRelocation object order i j
    pub relocates : (section_at object i).info ≡ t
    pub low : offset object (site_of object order i) j ≤ b
    pub high : b < end object (site_of object order i) j

  touches_or_not : (t b i : ℕ) → i < section_count object → counting_rela object i ≡ true → (section_at object i).info ≡ t → (j : ℕ) → j < count object (site_of object order i)
      → Touches t b i j ⊎ (Touches t b i j → ⊥)
  touches_or_not t b i there counts relocates j entry = go (dec_lt b (offset object (site_of object order i) j)) (dec_lt b (end object (site_of object order i) j))
    where
      go : Dec (b < offset object (site_of object order i) j) → Dec (b < end object (site_of object order i) j) → Touches t b i j ⊎ (Touches t b i j → ⊥)
      go (yes k) y = inr (λ c. omega (arith, c.low))
      go (no k) (yes l) = inl (record { is = record { there = there; counts = counts; entry = entry }; relocates = relocates; low = omega arith; high = l })
      go (no k) (no l) = inr (λ c. omega (arith, c.high))

  -- one relocation of a RELA section touches it, or none does
  touched_or_not : (t b i : ℕ) → i < section_count object → ((j : ℕ) × Touches t b i j) ⊎ (((j : ℕ) × Touches t b i j) → ⊥)
  touched_or_not t b i there = go (counting_rela object i) refl (equal (section_at object i).info t)
    where
      go : (d : Bool) → counting_rela object i ≡ d → ((section_at object i).info ≡ t) ⊎ ((section_at object i).info ≡ t → ⊥)
          → ((j : ℕ) × Touches t b i j) ⊎ (((j : ℕ) × Touches t b i j) → ⊥)
      go false e x = inr (λ c. clash (counting_rela object i) e c.1.is.counts)
      go true e (inr other) = inr (λ c. other c.1.relocates)
      go true e (inl same) =
          ⊎_elim (λ c. inl c) (λ none. inr (λ c. none c.0 c.1.is.entry c.1))
          (search_below (Touches t b i) (count object (site_of object order i)) (touches_or_not t b i there e same))

  -- ---- two images of which demand 2 says the same

  module _ (counts : OrderHeader) (before g h : List ℕ) (fit : Fitting object order counts (length before)) (lg : Laid object order before g) (lh : Laid object order before h)
      (bg : Bytes g) (bh : Bytes h) where
    -- bytes of a section in either image
    in_section : (t b : ℕ) → b < (section_at object t).size → get_or (section_in object order g t) b 0 ≡ get_or (section_in object order h t) b 0
        → get_or g (start object order t + b) 0 ≡ get_or h (start object order t + b) 0
    in_section t b l e =
        sym (get_d_part g (start object order t) (section_at object t).size b l) ∙ e ∙ get_d_part h (start object order t) (section_at object t).size b l

    -- a byte that a relocation touches
    touched_same : (t b i j : ℕ) → t < section_count object → has_bytes (section_at object t) ≡ true → Touches t b i j
        → get_or (section_in object order g t) b 0 ≡ get_or (section_in object order h t) b 0
    unfolding ReadsBack site_at
    touched_same t b i j there some c = go (decision_at object x j) refl
      where
        x : Site
        x = site_of object order i

        sg : List ℕ
        sg = section_in object order g t

        sh : List ℕ
        sh = section_in object order h t

        inside : end object x j ≤ (section_at object t).size
        inside =
            let kept = kept_rules object order (addresses_for object order) x j ((is_checked object order counts before fit i c.is.there c.is.counts).kept j c.is.entry) in
            let within : end object x j ≤ (section_at object (section_at object i).info).size = (shape_well_lem object x j kept.shape).inside in
            omega (arith, within, ap (λ u. (section_at object u).size) c.relocates)

        length_is : (s : List ℕ) → length s ≡ length before → length (section_in object order s t) ≡ (section_at object t).size
        length_is s e = length_part s (start object order t) (section_at object t).size (omega (arith, (bytes_inside object order counts (length before) fit t there some).1))

        bsg : Bytes sg
        bsg = bytes_part g (start object order t) (section_at object t).size bg

        bsh : Bytes sh
        bsh = bytes_part h (start object order t) (section_at object t).size bh

        says : (s : List ℕ) → Laid object order before s → (d : Decision) → decision_at object x j ≡ d
            → Stored (address_width object) d (found object x) (section_in object order s t) (offset object x j) (target_at object order (addresses_for object order) x j) (P object x j)
            (pair_distance object order (addresses_for object order) x j) (λ v. stack_at object order (addresses_for object order) x (offset object x j) v (count object x))
        says s l d e =
            subst
            (λ q. Stored (address_width object) q (found object x) (section_in object order s t) (offset object x j) (target_at object order (addresses_for object order) x j) (P object x j)
            (pair_distance object order (addresses_for object order) x j) (λ v. stack_at object order (addresses_for object order) x (offset object x j) v (count object x)))
            e (subst (λ u. ReadsBack object order (addresses_for object order) x (section_in object order s u) j) c.relocates (l.fields i j c.is))

        go : (d : Decision) → decision_at object x j ≡ d → get_or sg b 0 ≡ get_or sh b 0
        go (Store r) e =
            let n : ℕ = r.size in
            let ends : end object x j ≡ offset object x j + n = ap (λ d. offset object x j + touched d) e in
            let a = says g lg (Store r) e in
            let z = says h lh (Store r) e in
            same_number sg sh (offset object x j) n b bsg bsh (omega (arith, length_is g lg.same_length, inside)) (omega (arith, length_is h lh.same_length, inside))
            (bytes_known (address_width object) (address_wide object) (class_of object) (has_rvc object) (entry object x j).kind r e _ _ (spelt_lt n sg (offset object x j) bsg) (spelt_lt n sh (offset object x j) bsh) _ _ _ _ a.0 z.0 (a.1 ∙ sym z.1))
            c.low (omega (arith, c.high))
        go Marker e = let none : end object x j ≡ offset object x j + 0 = ap (λ d. offset object x j + touched d) e in absurd (omega (arith, c.low, c.high))
        go Align e = let none : end object x j ≡ offset object x j + 0 = ap (λ d. offset object x j + touched d) e in absurd (omega (arith, c.low, c.high))
        go Refused e = let none : end object x j ≡ offset object x j + 0 = ap (λ d. offset object x j + touched d) e in absurd (omega (arith, c.low, c.high))

    -- every byte
    byte_same : (b : ℕ) → get_or g b 0 ≡ get_or h b 0
    byte_same b = ⊎_elim (λ c. covered c.0 c.1) (λ none. free (λ t c. none t c.there c)) (search_below (λ t. Covers object order t b) (section_count object) (covers_or_not b))
      where
        free : ((t : ℕ) → Covers object order t b → ⊥) → get_or g b 0 ≡ get_or h b 0
        free none = lg.others_same b none ∙ sym (lh.others_same b none)

        covered : (t : ℕ) → Covers object order t b → get_or g b 0 ≡ get_or h b 0
        covered t c =
            let k : ℕ = b - start object order t in
            let there : start object order t + (b - start object order t) ≡ b = omega (arith, c.from) in
            let within : b - start object order t < (section_at object t).size = omega (arith, c.from, c.to) in
            let here : Covers object order t (start object order t + (b - start object order t)) = rw there c in
            let same : get_or g (start object order t + (b - start object order t)) 0 ≡ get_or h (start object order t + (b - start object order t)) 0 =
            ⊎_elim
            (λ r. in_section t (b - start object order t) within (touched_same t (b - start object order t) r.0 r.1.0 c.there c.loaded r.1.1))
            (λ none.
            let own : Untouched object order t (b - start object order t) = λ i j is relocates low high. none i is.there (j, record { is = is; relocates = relocates; low = low; high = high }) in
            lg.own t (b - start object order t) here own ∙ sym (lh.own t (b - start object order t) here own))
            (search_below (λ i. (j : ℕ) × Touches t (b - start object order t) i j) (section_count object) (touched_or_not t (b - start object order t))) in
            ap (λ i. get_or g i 0) (sym there) ∙ same ∙ ap (λ i. get_or h i 0) there

    pub same_image : g ≡ h
    same_image = ext_get_or 0 g h (lg.same_length ∙ sym lh.same_length) (λ b l. byte_same b)
