-- Each relocation can be read out of the final bytes, whatever the others store: rule 9 suffices.
use mathlib.Core.Logic.{◌⊎◌, inl, inr, ⊎_elim}
use mathlib.Core.Path.{◌≡◌, refl, sym, ap, ◌∙◌, subst}
use mathlib.Core.Bool.{Bool, true, false}
use mathlib.Core.List.{List}
use Prim.Native.Nat.{ℕ, zero, suc, ◌+◌, ◌^◌, ◌≤◌, ◌<◌}
use native.Mathlib.Nat.{mod-eq_of_lt}
use native.Mathlib.Omega.{arith}
use native.Mathlib.Decide.{dec_lt}
use lib.ListN.{length}
use lib.Dec.{eqb}
use lib.IntN.{ℤ, pos}
use borrow.Author.Tests.{eq-eqb, ne_eqb}
use Rattle.numbers_definitions.specs.declared.Class.{Class}
use Rattle.numbers_definitions.proofs.Laws.Tests.{never, given}
use Rattle.numbers_definitions.specs.Bytes.{le_at, bytes}
use Rattle.numbers_definitions.specs.Whole.{residue}
use Rattle.numbers_definitions.proofs.Laws.Bytes.{le_at_sets}
use Rattle.instructions_fields.specs.declared.Width.TheVariants.{W6, W8, W16, W32, W64}
use Rattle.instructions_fields.specs.declared.Field.{Field}
use Rattle.instructions_fields.specs.declared.Field.TheVariants.{U, I, S, B, J, Cb, Cj, Call, Data}
use Rattle.instructions_fields.specs.Layouts.{read, outside}
use Rattle.instructions_fields.specs.Fields.{layout, value_bits}
use Rattle.instructions_fields.proofs.Laws.Layouts.{total, put_lt, outside_put}
use Rattle.relocations_types.specs.declared.Calculation.{Calculation}
use Rattle.relocations_types.specs.declared.Calculation.TheVariants.{Of, Add, Sub, Set}
use Rattle.relocations_types.specs.declared.Rule.{Rule}
use Rattle.relocations_types.specs.declared.Decision.{Decision}
use Rattle.relocations_types.specs.declared.Decision.TheVariants.{Marker, Align, Store, Refused}
use Rattle.elf_read.specs.Headers.{class_of, has_rvc, address_width}
use Rattle.relocations_rela.specs.declared.sites.Site.{Site}
use Rattle.relocations_rela.specs.Sites.{count, decision_at, offset, P, found}
use Rattle.relocations_values.specs.Values.{target_at}
use Rattle.relocations_decisions.specs.Decisions.{touched, is_store, stacks, stack_width}
use Rattle.relocations_rela.specs.Shape.{end, shape_well}
use Rattle.relocations_rules.specs.Rules.{reaches_well, distance_well}
use Rattle.relocations_decisions.specs.Widths.{is_data_field}
use Rattle.relocations_decisions.proofs.Laws.Decisions.{field_bytes, store_width, store_bytes, store_data, width_some}
use Rattle.relocations_rela.proofs.Laws.Sites.{store_inside}
use Rattle.relocations_rela.proofs.Laws.Shape.{shape_inside}
use Rattle.relocations_rules.proofs.Laws.Search.{kept_rules}
use Rattle.relocations_bytes.specs.Patches.{patched}
use Rattle.relocations_bytes.specs.Sections.{sum_at, pair_distance, after}
use Rattle.relocations_bytes.specs.Promises.{stack_step, stack_on, stack_at, Said, Stored, ReadsBack}
use Rattle.relocations_bytes.specs.Requires.{Checked}
use Rattle.relocations_bytes.proofs.Laws.Sections.{applied_store, applied_marker}
use Rattle.relocations_bytes.proofs.Laws.Overlap.{Shares, apart, same_stack}
use Rattle.relocations_bytes.proofs.Laws.After.{length_after, applied_other}
use Rattle.relocations_bytes.proofs.Laws.Said.{store_suits, said}
use Rattle.relocations_bytes.proofs.Laws.Stacks.{field_lt, stacked}

-- ---- what is stored fits its bytes

pub radix : (f : Field) → 2 ^ total (layout f) ≡ 256 ^ field_bytes f
unfolding total
radix U = refl
radix I = refl
radix S = refl
radix B = refl
radix J = refl
radix Cb = refl
radix Cj = refl
radix Call = refl
radix (Data W6) = refl
radix (Data W8) = refl
radix (Data W16) = refl
radix (Data W32) = refl
radix (Data W64) = refl

pub patched_lt : (w : ℕ) (c : Calculation) (f : Field) (b : ℕ) (x : ℤ) (p d n : ℕ) → n ≡ field_bytes f → patched w c f b x p d < 256 ^ n
unfolding patched
patched_lt w c f b x p d n e = rw (e, ← (radix f)) (put_lt (layout f) b _)

outside_patched : (w : ℕ) (c : Calculation) (f : Field) (b : ℕ) (x : ℤ) (p d : ℕ) → outside (layout f) (patched w c f b x p d) ≡ outside (layout f) b
unfolding patched
outside_patched w c f b x p d = outside_put (layout f) b _

-- a decision that belongs to no stack has width 0, and one that belongs to a stack has a width above 0
no_width : (r : Rule) → stacks r.calculation ≡ false → stack_width (Store r) ≡ 0
no_width r e = rw e

data_some : (f : Field) → is_data_field f ≡ true → 0 < value_bits f
data_some (Data W6) e = omega arith
data_some (Data W8) e = omega arith
data_some (Data W16) e = omega arith
data_some (Data W32) e = omega arith
data_some (Data W64) e = omega arith
data_some U e = never e
data_some I e = never e
data_some S e = never e
data_some B e = never e
data_some J e = never e
data_some Cb e = never e
data_some Cj e = never e
data_some Call e = never e

-- what two facts about a decision say about its parts
reaches_of : (k : Class) (rvc : Bool) (d : Decision) (r : Rule) (t p : ℕ) → d ≡ Store r → distance_well k rvc d t p ≡ true → reaches_well k rvc r.calculation r.field t p ≡ true
reaches_of k rvc d r t p e h = sym (ap (λ d. distance_well k rvc d t p) e) ∙ h

module _ (object order addresses : List ℕ) (x : Site) (k : Checked object order addresses x) (j : ℕ) (h : j < count object x)
    (r : Rule) (e : decision_at object x j ≡ Store r) where
  abbrev c : Calculation
  c = r.calculation

  abbrev f : Field
  f = r.field

  abbrev n : ℕ
  n = r.size

  shaped : (i : ℕ) → i < count object x → shape_well object x i ≡ true
  shaped i l = (kept_rules object order addresses x i (k.kept i l)).shape

  abbrev w : ℕ
  w = address_width object

  abbrev at : ℕ
  at = offset object x j

  abbrev now : ℕ → List ℕ
  now m = after object order addresses x m

  some : 0 < n
  some = width_some n (store_width _ _ _ r e)

  store : is_store (decision_at object x j) ≡ true
  store = ap is_store e

  ends : end object x j ≡ at + n
  ends = ap (λ d. at + touched d) e

  fits : (m : ℕ) → at + n ≤ length (now m)
  fits m =
      let here = store_inside object x j k.site (shape_inside object x j (shaped j h)) n (ap touched e) in
      omega (arith, length_after object order addresses x m)

  -- ---- another relocation lies apart from it, or shares its place

  abbrev Away : ℕ → Type 0
  Away m = (at + n ≤ offset object x m) ⊎ (end object x m ≤ at)

  meets : (m : ℕ) → m < count object x → (m ≡ j → ⊥) → is_store (decision_at object x m) ≡ true → Away m ⊎ Shares object x j m
  meets m l other s = go (dec_lt m j)
    where
      turned : Shares object x m j → Shares object x j m
      turned q = record { place = sym q.place; some = omega (arith, q.some, q.width); width = sym q.width }

      go : Dec (m < j) → Away m ⊎ Shares object x j m
      go (yes d) = ⊎_elim (λ a. inl (inr a)) (λ q. inr (turned q)) (apart object x (count object x) shaped (suc j) m j (omega arith) d h s store)
      go (no d) =
          ⊎_elim (λ a. inl (inl (omega (arith, ends)))) (λ q. inr q)
          (apart object x (count object x) shaped (suc m) j m (omega arith) (later d) l store s)
        where
          later : (m < j → ⊥) → j < m
          later d = after_other m j d other
            where
              after_other : (m j : ℕ) → (m < j → ⊥) → (m ≡ j → ⊥) → j < m
              after_other m j a b = omega arith

  -- a relocation that lies apart changes nothing here
  away_same : (m : ℕ) → Away m → le_at n (now (suc m)) at ≡ le_at n (now m) at
  unfolding after
  away_same m a = applied_other object order addresses x m n at (now m) a

  marker_same : (m : ℕ) → is_store (decision_at object x m) ≡ false → le_at n (now (suc m)) at ≡ le_at n (now m) at
  unfolding after
  marker_same m s = ap (λ l. le_at n l at) (applied_marker object order addresses x m (now m) s)

  -- what a relocation that shares the place stores, read right after it
  stored_here : (m : ℕ) (a : Rule) → decision_at object x m ≡ Store a → a.field ≡ f → a.size ≡ n → offset object x m ≡ at
      → le_at n (now (suc m)) at ≡ patched w a.calculation f (le_at n (now m) at) (sum_at object order addresses x m) (P object x m) (pair_distance object order addresses x m)
  unfolding after
  stored_here m a q same_field same_size o =
      let b : Calculation = a.calculation in
      let s : List ℕ = now m in
      let y : ℤ = sum_at object order addresses x m in
      let d : ℕ = pair_distance object order addresses x m in
      let u : ℕ = patched w b f (le_at n s (offset object x m)) y (P object x m) d in
      ap (λ l. le_at n l at) (applied_store object order addresses x m a s q)
      ∙ ap (λ k. le_at n (lib.Seq.sets s (offset object x m) (bytes k (patched w b a.field (le_at k s (offset object x m)) y (P object x m) d))) at) same_size
      ∙ ap (λ g. le_at n (lib.Seq.sets s (offset object x m) (bytes n (patched w b g (le_at n s (offset object x m)) y (P object x m) d))) at) same_field
      ∙ ap (λ i. le_at n (lib.Seq.sets s i (bytes n u)) at) o
      ∙ le_at_sets n s at u (fits m)
      ∙ mod-eq_of_lt (patched_lt w b f (le_at n s (offset object x m)) y (P object x m) d n (store_bytes _ _ _ r e))
      ∙ ap (λ a. patched w b f (le_at n s a) y (P object x m) d) o

  -- ---- a relocation of no stack is alone

  module _ (single : stacks c ≡ false) where
    alone : (m : ℕ) → m < count object x → (m ≡ j → ⊥) → le_at n (now (suc m)) at ≡ le_at n (now m) at
    alone m l other = go (is_store (decision_at object x m)) refl
      where
        none : Shares object x j m → le_at n (now (suc m)) at ≡ le_at n (now m) at
        none q =
            let zero : stack_width (decision_at object x j) ≡ 0 = ap stack_width e ∙ no_width r single in
            absurd (omega (arith, q.some))

        go : (b : Bool) → is_store (decision_at object x m) ≡ b → le_at n (now (suc m)) at ≡ le_at n (now m) at
        go true s = ⊎_elim (λ a. away_same m a) none (meets m l other s)
        go false s = marker_same m s

    before : (m : ℕ) → m ≤ j → le_at n (now m) at ≡ le_at n (found object x) at
    unfolding after
    before zero l = refl
    before (suc m) l = alone m (omega arith) (λ z. omega arith) ∙ before m (omega arith)

    abbrev laid : ℕ
    laid = patched w c f (le_at n (found object x) at) (sum_at object order addresses x j) (P object x j) (pair_distance object order addresses x j)

    then : (m : ℕ) → j < m → m ≤ count object x → le_at n (now m) at ≡ laid
    then zero l b = absurd (omega arith)
    then (suc m) l b = go (dec_lt j m) (then m)
      where
        go : Dec (j < m) → (j < m → m ≤ count object x → le_at n (now m) at ≡ laid) → le_at n (now (suc m)) at ≡ laid
        go (yes d) rest = alone m (omega arith) (λ z. omega arith) ∙ rest d (omega arith)
        go (no d) rest =
            let same : m ≡ j = omega arith in
            ap (λ i. le_at n (now (suc i)) at) same
            ∙ stored_here j r e refl refl refl
            ∙ ap (λ b. patched w c f b (sum_at object order addresses x j) (P object x j) (pair_distance object order addresses x j)) (before j (omega arith))

    pub single_back : Stored w (Store r) (found object x) (now (count object x)) at (residue w (sum_at object order addresses x j)) (P object x j)
        (pair_distance object order addresses x j) (λ v. stack_at object order addresses x at v (count object x))
    unfolding sum_at
    single_back =
        let y : ℤ = sum_at object order addresses x j in
        let p : ℕ = P object x j in
        let d : ℕ = pair_distance object order addresses x j in
        let b : ℕ = le_at n (found object x) at in
        let whole : ℤ = stack_at object order addresses x at (read (layout f) b) (count object x) in
        let final : le_at n (now (count object x)) at ≡ laid = then (count object x) h (omega arith) in
        let reach : reaches_well (class_of object) (has_rvc object) c f (residue w y) p ≡ true =
        reaches_of (class_of object) (has_rvc object) (decision_at object x j) r (residue w y) p e (kept_rules object order addresses x j (k.kept j h)).distance in (
          subst (λ u. Said w c f u (residue w y) p d whole) (sym final)
              (said (class_of object) (has_rvc object) c f b y p d whole single (store_suits _ _ _ r e) reach),
          ap (outside (layout f)) final ∙ outside_patched w c f b y p d,
        )

  -- ---- a stack

  module _ (stack : stacks c ≡ true) where
    on_data_lem : is_data_field f ≡ true
    on_data_lem = given (stacks c) (is_data_field f) (store_data _ _ _ r e) stack

    wide : 0 < stack_width (decision_at object x j)
    wide = rw (e, stack) (data_some f on_data_lem)

    abbrev v₀ : ℕ
    v₀ = read (layout f) (le_at n (found object x) at)

    record Holds (m : ℕ) : Type 0 where
      value : read (layout f) (le_at n (now m) at) ≡ residue (value_bits f) (stack_at object order addresses x at v₀ m)
      rest : outside (layout f) (le_at n (now m) at) ≡ outside (layout f) (le_at n (found object x) at)

    -- if nothing is stored here, the stack's number stays the same
    unchanged : (m : ℕ) → le_at n (now (suc m)) at ≡ le_at n (now m) at → stack_at object order addresses x at v₀ (suc m) ≡ stack_at object order addresses x at v₀ m → Holds m → Holds (suc m)
    unchanged m same stays held =
        record {
          value = ap (read (layout f)) same ∙ held.value ∙ ap (residue (value_bits f)) (sym stays);
          rest = ap (outside (layout f)) same ∙ held.rest;
        }

    marker_stays : (m : ℕ) → is_store (decision_at object x m) ≡ false → stack_at object order addresses x at v₀ (suc m) ≡ stack_at object order addresses x at v₀ m
    unfolding stack_at
    marker_stays m s = go (decision_at object x m) s
      where
        go : (d : Decision) → is_store d ≡ false → stack_on d (eqb (offset object x m) at) (stack_at object order addresses x at v₀ m) (sum_at object order addresses x m) ≡ stack_at object order addresses x at v₀ m
        go (Store a) q = never (sym q)
        go Marker q = refl
        go Align q = refl
        go Refused q = refl

    away_stays : (m : ℕ) → (offset object x m ≡ at → ⊥) → stack_at object order addresses x at v₀ (suc m) ≡ stack_at object order addresses x at v₀ m
    unfolding stack_at
    away_stays m o = rw (ne_eqb (offset object x m) at o) (go (decision_at object x m))
      where
        go : (d : Decision) → stack_on d false (stack_at object order addresses x at v₀ m) (sum_at object order addresses x m) ≡ stack_at object order addresses x at v₀ m
        go (Store a) = refl
        go Marker = refl
        go Align = refl
        go Refused = refl

    -- a store that lies apart has another offset
    other_place : (m : ℕ) → is_store (decision_at object x m) ≡ true → Away m → offset object x m ≡ at → ⊥
    other_place m s (inl a) o = omega (arith, some)
    other_place m s (inr a) o = go (decision_at object x m) refl s
      where
        go : (d : Decision) → decision_at object x m ≡ d → is_store d ≡ true → ⊥
        go (Store b) q t =
            let many : touched (decision_at object x m) ≡ b.size = ap touched q in
            omega (arith, width_some b.size (store_width _ _ _ b q))
        go Marker q t = never t
        go Align q t = never t
        go Refused q t = never t

    -- one more relocation of the stack
    taken : (m : ℕ) (a : Rule) → decision_at object x m ≡ Store a → a.field ≡ f → a.size ≡ n → offset object x m ≡ at → stacks a.calculation ≡ true → Holds m → Holds (suc m)
    unfolding stack_at
    taken m a q same_field same_size o t held =
        let b : Calculation = a.calculation in
        let z : ℤ = stack_at object order addresses x at v₀ m in
        let y : ℤ = sum_at object order addresses x m in
        let p : ℕ = P object x m in
        let d : ℕ = pair_distance object order addresses x m in
        let u : ℕ = le_at n (now m) at in
        let is : le_at n (now (suc m)) at ≡ patched w b f u y p d = stored_here m a q same_field same_size o in
        record {
          value = ap (read (layout f)) is ∙ stacked w b f u z y p d t on_data_lem held.value ∙ ap (residue (value_bits f)) (sym (here q));
          rest = ap (outside (layout f)) is ∙ outside_patched w b f u y p d ∙ held.rest;
        }
      where
        here : decision_at object x m ≡ Store a
            → stack_on (decision_at object x m) (eqb (offset object x m) at) (stack_at object order addresses x at v₀ m) (sum_at object order addresses x m)
            ≡ stack_step a.calculation (stack_at object order addresses x at v₀ m) (sum_at object order addresses x m)
        here q = rw (q, eq-eqb (offset object x m) at o)

    together : (m : ℕ) → Shares object x j m → is_store (decision_at object x m) ≡ true → Holds m → Holds (suc m)
    together m q s held = go (decision_at object x m) refl s
      where
        go : (d : Decision) → decision_at object x m ≡ d → is_store d ≡ true → Holds (suc m)
        go (Store a) u t =
            let same = same_stack _ _ _ _ r a e u q.some q.width in
            taken m a u (sym same.2) (sym same.3) (sym q.place) same.1 held
        go Marker u t = never t
        go Align u t = never t
        go Refused u t = never t

    holds : (m : ℕ) → m ≤ count object x → Holds m
    unfolding after stack_at
    holds zero l = record { value = sym (small (field_lt f (le_at n (found object x) at) on_data_lem)); rest = refl }
      where
        small : v₀ < 2 ^ value_bits f → residue (value_bits f) (pos v₀) ≡ v₀
        small b = unfold residue in mod-eq_of_lt b
    holds (suc m) l = go (is_store (decision_at object x m)) refl (dec_lt m j) (dec_lt j m) (holds m (omega arith))
      where
        apart_or : (m ≡ j → ⊥) → is_store (decision_at object x m) ≡ true → Holds m → Holds (suc m)
        apart_or other s held = ⊎_elim (λ a. unchanged m (away_same m a) (away_stays m (other_place m s a)) held) (λ q. together m q s held) (meets m l other s)

        go : (b : Bool) → is_store (decision_at object x m) ≡ b → Dec (m < j) → Dec (j < m) → Holds m → Holds (suc m)
        go false s p q held = unchanged m (marker_same m s) (marker_stays m s) held
        go true s (yes p) q held = apart_or (λ z. omega arith) s held
        go true s (no p) (yes q) held = apart_or (λ z. omega arith) s held
        go true s (no p) (no q) held =
            let same : j ≡ m = omega arith in
            together m (record { place = ap (offset object x) same; some = wide; width = ap (λ i. stack_width (decision_at object x i)) same }) s held

    said_stack : (b : Calculation) (u t p d : ℕ) (whole : ℤ) → stacks b ≡ true → read (layout f) u ≡ residue (value_bits f) whole → Said w b f u t p d whole
    said_stack Add u t p d whole s r = r
    said_stack Sub u t p d whole s r = r
    said_stack Set u t p d whole s r = r
    said_stack (Of part operand) u t p d whole s r = never s

    pub stack_back : (t p d : ℕ) → Stored w (Store r) (found object x) (now (count object x)) at t p d (λ v. stack_at object order addresses x at v (count object x))
    stack_back t p d =
        let held = holds (count object x) (omega arith) in
        (said_stack c (le_at n (now (count object x)) at) t p d (stack_at object order addresses x at v₀ (count object x)) stack held.value, held.rest)

-- ---- theorems 2 and 3: every relocation of a section whose relocations pass 9 to 14

pub read_back : (object order addresses : List ℕ) (x : Site) → Checked object order addresses x → (j : ℕ) → j < count object x
    → ReadsBack object order addresses x (after object order addresses x (count object x)) j
unfolding ReadsBack sum_at
read_back object order addresses x k j h = go (decision_at object x j) refl
  where
    final : List ℕ
    final = after object order addresses x (count object x)

    t : ℕ
    t = target_at object order addresses x j

    go : (d : Decision) → decision_at object x j ≡ d
        → Stored (address_width object) d (found object x) final (offset object x j) t (P object x j) (pair_distance object order addresses x j)
        (λ v. stack_at object order addresses x (offset object x j) v (count object x))
    go (Store r) e = split (stacks r.calculation) refl
      where
        split : (b : Bool) → stacks r.calculation ≡ b
            → Stored (address_width object) (Store r) (found object x) final (offset object x j) t (P object x j) (pair_distance object order addresses x j)
            (λ v. stack_at object order addresses x (offset object x j) v (count object x))
        split true s = stack_back object order addresses x k j h r e s t (P object x j) (pair_distance object order addresses x j)
        split false s = single_back object order addresses x k j h r e s
    go Marker e = tt
    go Align e = tt
    go Refused e = tt
