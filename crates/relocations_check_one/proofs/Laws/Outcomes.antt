-- Checks 9 to 14 of a relocation, by what its type asks for.
use Rattle.placing_symbols.specs.Reasons.{SymbolValue}
use Rattle.std.specs.Prelude.{Err, None, Ok, Option, Result, Some}
use mathlib.Core.Path.{◌≡◌, refl, sym, ap, ◌∙◌, subst}
use mathlib.Core.Bool.{Bool, true, false, cond, ◌&&◌}
use mathlib.Core.List.{List}
use Prim.Native.Nat.{ℕ, ◌+◌, ◌%◌, ◌^◌, ◌≤◌, ◌<◌}
use lib.IntN.{ℤ, pos, ◌+ℤ◌}
use lib.Dec.{ltb, eqb}
use native.Mathlib.Nat.{mod-eq_of_lt}
use native.Mathlib.Omega.{arith}
use borrow.Author.Tests.{lt-ltb}
use Rattle.numbers_definitions.specs.declared.Class.{Class}
use Rattle.numbers_definitions.specs.declared.Class.TheVariants.{Elf32, Elf64}
use Rattle.numbers_definitions.specs.Classes.{bits}
use Rattle.numbers_definitions.specs.Bytes.{le_at}
use Rattle.numbers_definitions.specs.Whole.{residue, signed, plus, minus}
use Rattle.numbers_definitions.proofs.Laws.Whole.{residue_lt, residue_signed, minus_mod}
use Rattle.numbers_definitions.proofs.Laws.Tests.{never}
use Rattle.instructions_riscv.proofs.Laws.Halves.{narrowed}
use Rattle.elf_read.specs.declared.Relocation.{Relocation}
use Rattle.elf_read.specs.declared.Section.{Section}
use Rattle.elf_read.specs.declared.Symbol.{Symbol}
use Rattle.elf_read.specs.Sections.{section_at, symbol_table}
use Rattle.elf_read.specs.Entries.{symbol_at}
use Rattle.elf_read.specs.Headers.{class_of, has_rvc, address_width}
use Rattle.elf_read.proofs.Laws.Headers.{address_narrow}
use Rattle.placing_symbols.specs.Values.{symbol_value}
use Rattle.relocations_types.specs.declared.Decision.TheVariants.{Marker, Align, Store, Refused}
use Rattle.relocations_types.specs.declared.Decision.{Decision}
use Rattle.relocations_types.specs.declared.Rule.{Rule}
use Rattle.relocations_decisions.specs.Decisions.{is_store, touched, stack_width, takes_pair}
use Rattle.relocations_rela.specs.declared.sites.Site.{Site}
use Rattle.relocations_rela.specs.Sites.{entry, decision_at, A, P, found}
use Rattle.relocations_rela.specs.Shape.{end, shape_well}
use Rattle.relocations_rela.specs.declared.shape.Trail.{Trail}
use Rattle.relocations_rela.specs.Trails.{shares_by, shape_by}
use Rattle.relocations_rela.proofs.Laws.Shape.{shape_inside}
use Rattle.relocations_rela.proofs.Laws.Trails.{shape_by_lem}
use Rattle.relocations_values.specs.Values.{S, T}
use Rattle.relocations_values.specs.Pairs.{pair_of}
use Rattle.relocations_rules.specs.Rules.{is_resolved, in_target, symbol, symbol_well, why, form_well, is_one, pair_well, reaches_well, boundary_well}
use Rattle.placing_symbols.specs.declared.Reason.{Reason}
use Rattle.placing_symbols.specs.declared.Reason.TheVariants.{OutsideTarget}
use Rattle.relocations_rules.specs.declared.Finding.{Finding}
use Rattle.relocations_rules.specs.declared.Finding.TheVariants.{BadShape, BadSymbol, BadForm, NoPair, OutOfReach, OffBoundary}
use Rattle.relocations_rules.specs.Search.{first_broken, finding}
use Rattle.relocations_bytes.specs.Sections.{sum_at, distance_at}
use Rattle.relocations_bytes.specs.Patches.{patched}
use Rattle.relocations_bytes.specs.Words.{word, word_from}
use Rattle.relocations_bytes.proofs.Laws.Patches.{same_patch}
use Rattle.relocations_bytes.proofs.Laws.Sections.{symbol_read, place_read}
use Rattle.relocations_check_one.specs.Outcomes.{Answers, Onward, align_finding, marker_finding, value_by, target_by, finding_by, sum_by, distance_by, distance_of_by, distance_if, pair_distance_by, word_by, Takes, Comes}
use Rattle.relocations_check_one.specs.declared.Step.{Step}
use Rattle.relocations_check_one.specs.Requires.{Storing, Read}

-- ---- with the values of an object and an order

module _ (object order addresses : List ℕ) (x : Site) (j : ℕ) where
  pub finding_by_lem : finding_by (symbol_value object order addresses) object x j ≡ finding object order addresses x j
  unfolding finding_by finding
  finding_by_lem = refl

  pub word_by_lem : (b : ℕ) → word_by (symbol_value object order addresses) object x j b ≡ word_from object order addresses x j b
  unfolding word_by sum_at distance_at
  word_by_lem b = refl

-- the first of 10 to 13 that is broken: of the symbol, for a reason, the form, the pair and the distance, by whether each is kept
abbrev pub store_finding : Reason → Bool → Bool → Bool → Bool → Option Finding
store_finding reason symbols forms pairs reaches =
    cond symbols (cond forms (cond pairs (cond reaches None (Some OutOfReach)) (Some NoPair)) (Some BadForm)) (Some (BadSymbol reason))

module _ (v : ℕ → SymbolValue) (object : List ℕ) (x : Site) (j : ℕ) where
  -- ---- 9 is broken

  pub misshapen : shape_well object x j ≡ false → finding_by v object x j ≡ Some BadShape
  unfolding finding_by first_broken
  misshapen e = rw e

  -- ---- a store that keeps 9

  module _ (r : Rule) (e : decision_at object x j ≡ Store r) where
    pub store_finding_lem : shape_well object x j ≡ true
        → finding_by v object x j
        ≡ store_finding (why (value_by v object x j)) (symbol_well object x j (value_by v object x j)) (form_well object x j) (pair_well object x j)
        (reaches_well (class_of object) (has_rvc object) r.calculation r.field (target_by v object x j) (P object x j))
    unfolding finding_by first_broken
    store_finding_lem s = rw (s, e)

    -- of any type but PCREL_LO12
    module _ (plain : takes_pair r.calculation ≡ false) where
      and_true : (b : Bool) → (b && true) ≡ b
      and_true true = refl
      and_true false = refl

      pub plain_symbol : (y : SymbolValue) → symbol_well object x j y ≡ is_resolved y
      unfolding symbol_well
      plain_symbol y = rw (e, plain) (and_true (is_resolved y))

      pub plain_pair : pair_well object x j ≡ true
      unfolding pair_well
      plain_pair = rw (e, plain)

    -- of a PCREL_LO12
    module _ (paired : takes_pair r.calculation ≡ true) where
      pub paired_symbol : (y : SymbolValue) → symbol_well object x j y ≡ (is_resolved y && in_target object x j)
      unfolding symbol_well
      paired_symbol y = rw (e, paired)

      pub paired_pair : pair_well object x j ≡ is_one (pair_of object x (symbol object x j).value)
      unfolding pair_well
      paired_pair = rw (e, paired)

  -- ---- markers that keep 9

  pub align_finding_lem : decision_at object x j ≡ Align → shape_well object x j ≡ true → finding_by v object x j ≡ cond (boundary_well Align (P object x j) (A object x j)) None (Some OffBoundary)
  unfolding finding_by first_broken symbol_well form_well pair_well
  align_finding_lem e s = rw (s, e)

  pub marker_finding_lem : decision_at object x j ≡ Marker → shape_well object x j ≡ true → finding_by v object x j ≡ None
  unfolding finding_by first_broken symbol_well form_well pair_well
  marker_finding_lem e s = rw (s, e)

  -- and the bytes of a marker
  pub no_word : (b : ℕ) → is_store (decision_at object x j) ≡ false → 0 ≡ word_by v object x j b
  unfolding word_by
  no_word b s = go (decision_at object x j) s
    where
      go : (d : Decision) → is_store d ≡ false
          → 0 ≡ word (address_width object) d b (sum_by v object x j) (P object x j) (pair_distance_by v object x j)
      go (Store r) q = never (sym q)
      go Marker q = refl
      go Align q = refl
      go Refused q = refl

-- ---- what a marker does not have

pub marker_width : (d : Decision) → is_store d ≡ false → 0 ≡ stack_width d
marker_width (Store r) e = never (sym e)
marker_width Marker e = refl
marker_width Align e = refl
marker_width Refused e = refl

pub marker_bytes : (d : Decision) → is_store d ≡ false → 0 ≡ touched d
marker_bytes (Store r) e = never (sym e)
marker_bytes Marker e = refl
marker_bytes Align e = refl
marker_bytes Refused e = refl

-- ---- T is S + A modulo 2^w, also by S + A modulo 2^64, which is y

narrow : (k : Class) → bits k ≤ 64
narrow Elf32 = omega arith
narrow Elf64 = omega arith

pub target_sum : (k : Class) (t y : ℕ) (z : ℤ) → y < 2 ^ 64 → t ≡ residue (bits k) z → y ≡ residue 64 z → t ≡ residue (bits k) (signed 64 y)
target_sum k t y z h te ye =
    te
    ∙ sym (narrowed 64 (bits k) z (narrow k))
    ∙ ap (λ n. n % 2 ^ bits k) (sym ye ∙ sym (residue_signed 64 y h))
    ∙ narrowed 64 (bits k) (signed 64 y) (narrow k)

-- ---- by what was read and worked out: y is S + A in two's complement, t is T, p is P, d is the pair's T - P

module _ (v : ℕ → SymbolValue) (object : List ℕ) (x : Site) (j : ℕ) (rule : Rule) (here : Relocation) (f : Storing object x j rule here) (value : SymbolValue)
    (value-is : value ≡ v here.symbol) (p : ℕ) (place : p ≡ plus 64 x.address.0 here.offset.0) where
  abbrev w : ℕ
  w = address_width object

  inside : end object x j ≤ x.target.size
  inside = shape_inside object x j f.shape

  pub value_read : value ≡ value_by v object x j
  value_read = value-is ∙ ap (λ r. v r.symbol) f.read

  pub at_place : p ≡ P object x j
  at_place = place_read object x j here p f.read place f.there.site inside (ap is_store f.decided)

  reach_is : (t : ℕ) → t ≡ T w (S value) (signed 64 here.addend)
      → reaches_well (class_of object) (has_rvc object) rule.calculation rule.field t p ≡ reaches_well (class_of object) (has_rvc object) rule.calculation rule.field (target_by v object x j) (P object x j)
  reach_is t te =
      ap (λ t. reaches_well (class_of object) (has_rvc object) rule.calculation rule.field t p)
      (te ∙ ap (λ y. T w (S y) (signed 64 here.addend)) value_read ∙ ap (λ r. T w (S (value_by v object x j)) (signed 64 r.addend)) f.read)
      ∙ ap (reaches_well (class_of object) (has_rvc object) rule.calculation rule.field (target_by v object x j)) at_place

  -- the first of 11 to 13 that is broken, where 10 is kept
  module _ (t : ℕ) (forms pairs reaches : Bool) (se : symbol_well object x j (value_by v object x j) ≡ true) (fe : forms ≡ form_well object x j) (pe : pairs ≡ pair_well object x j)
      (re : reaches ≡ reaches_well (class_of object) (has_rvc object) rule.calculation rule.field t p) (te : t ≡ T w (S value) (signed 64 here.addend)) where
    pub finding_read : finding_by v object x j ≡ store_finding OutsideTarget true forms pairs reaches
    finding_read =
        store_finding_lem v object x j rule f.decided f.shape
        ∙ ap (λ b. store_finding (why (value_by v object x j)) b (form_well object x j) (pair_well object x j) (reaches_well (class_of object) (has_rvc object) rule.calculation rule.field (target_by v object x j) (P object x j))) se
        ∙ ap (λ b. store_finding (why (value_by v object x j)) true b (pair_well object x j) (reaches_well (class_of object) (has_rvc object) rule.calculation rule.field (target_by v object x j) (P object x j))) (sym fe)
        ∙ ap (λ b. store_finding (why (value_by v object x j)) true forms b (reaches_well (class_of object) (has_rvc object) rule.calculation rule.field (target_by v object x j) (P object x j))) (sym pe)
        ∙ ap (λ b. store_finding (why (value_by v object x j)) true forms pairs b) (sym (re ∙ reach_is t te))

  pub word_read : (u b y d : ℕ) → u ≡ patched w rule.calculation rule.field b (signed 64 y) p d → y < 2 ^ 64 → y ≡ residue 64 (pos (S value) +ℤ signed 64 here.addend)
      → (takes_pair rule.calculation ≡ true → d ≡ pair_distance_by v object x j) → u ≡ word_by v object x j b
  unfolding word_by
  word_read u b y d ue h ye de =
      let z : ℤ = sum_by v object x j in
      let sum : residue 64 (pos (S value) +ℤ signed 64 here.addend) ≡ residue 64 z =
      ap (λ s. residue 64 (pos (S s) +ℤ signed 64 here.addend)) value_read ∙ ap (λ r. residue 64 (pos (S (value_by v object x j)) +ℤ signed 64 r.addend)) f.read in
      let same : residue 64 (signed 64 y) ≡ residue 64 z = residue_signed 64 y h ∙ ye ∙ sum in
      ue
      ∙ same_patch w (address_narrow object) rule.calculation rule.field b (signed 64 y) z p d (pair_distance_by v object x j) same de
      ∙ ap (λ p. patched w rule.calculation rule.field b z p (pair_distance_by v object x j)) at_place
      ∙ sym (ap (λ d. word w d b z (P object x j) (pair_distance_by v object x j)) f.decided)

-- ---- T - P of relocation k, by the relocation r and the value that were read

pub distance_read : (v : ℕ → SymbolValue) (object : List ℕ) (x : Site) (k : ℕ) (r : Relocation) (value : SymbolValue) (y p : ℕ) → r ≡ entry object x k → value ≡ v r.symbol
    → y ≡ residue 64 (pos (S value) +ℤ signed 64 r.addend) → p ≡ plus 64 x.address.0 r.offset.0
    → minus (address_width object) y p ≡ distance_by v object x k
unfolding plus residue
distance_read v object x k r value y p re ve ye pe =
    let w : ℕ = address_width object in
    let m : ℕ = x.address.0 + r.offset.0 in
    let t : ℕ = T w (S value) (signed 64 r.addend) in
    let same : value ≡ value_by v object x k = ve ∙ ap (λ e. v e.symbol) re in
    let target : y % 2 ^ w ≡ t % 2 ^ w =
    ap (λ n. n % 2 ^ w) ye ∙ narrowed 64 w (pos (S value) +ℤ signed 64 r.addend) (address_narrow object) ∙ sym (mod-eq_of_lt (residue_lt w (pos (S value) +ℤ signed 64 r.addend))) in
    let place : p % 2 ^ w ≡ m % 2 ^ w = ap (λ n. n % 2 ^ w) pe ∙ narrowed 64 w (pos m) (address_narrow object) in
    minus_mod w y p t m target place
    ∙ ap (λ s. minus w (T w (S s) (signed 64 r.addend)) m) same
    ∙ ap (λ e. minus w (T w (S (value_by v object x k)) (signed 64 e.addend)) (x.address.0 + e.offset.0)) re

-- ---- the symbol of a PCREL_LO12, by the table h and the symbol y that were read

module _ (object : List ℕ) (x : Site) (j : ℕ) (r : Relocation) (read : r ≡ entry object x j) where
  -- symbol 0 is not in the target
  pub none_in_target : r.symbol ≡ 0 → in_target object x j ≡ false
  unfolding in_target
  none_in_target e =
      let none : (entry object x j).symbol ≡ 0 = ap (λ r. r.symbol) (sym read) ∙ e in
      rw none

  pub in_target_read : (h : Section) (y : Symbol) → h ≡ section_at object (symbol_table object) → y ≡ symbol_at object h r.symbol → 0 < r.symbol
      → eqb y.section x.index ≡ in_target object x j
  unfolding in_target
  in_target_read h y he ye some =
      let same : y ≡ symbol object x j = symbol_read object x j r h y read he ye in
      let above : ltb 0 (entry object x j).symbol ≡ true = lt-ltb 0 (entry object x j).symbol (subst (λ (r : Relocation). 0 < r.symbol) read some) in
      ap (λ y. eqb y.section x.index) same ∙ sym (ap (λ b. b && eqb (symbol object x j).section x.index) above)

-- ---- the symbol of a store that keeps 9, and the high half that it takes

module _ (v : ℕ → SymbolValue) (object : List ℕ) (x : Site) (j : ℕ) (rule : Rule) (here : Relocation) (f : Storing object x j rule here) where
  same : v here.symbol ≡ value_by v object x j
  same = ap (λ r. v r.symbol) f.read

  -- where the symbol breaks check 10
  pub symbol_breaks : symbol_well object x j (value_by v object x j) ≡ false → finding_by v object x j ≡ Some (BadSymbol (why (value_by v object x j)))
  symbol_breaks e =
      store_finding_lem v object x j rule f.decided f.shape
      ∙ ap (λ b. store_finding (why (value_by v object x j)) b (form_well object x j) (pair_well object x j) (reaches_well (class_of object) (has_rvc object) rule.calculation rule.field (target_by v object x j) (P object x j))) e

  pub unresolved_breaks : (reason : Reason) → v here.symbol ≡ Err reason → finding_by v object x j ≡ Some (BadSymbol reason)
  unfolding symbol_well
  unresolved_breaks reason e =
      let out : symbol_well object x j (value_by v object x j) ≡ false = rw (f.decided, ← same, e) in
      symbol_breaks out ∙ ap (λ v. Some (BadSymbol (why v))) (sym same ∙ e)

  module _ (resolved : is_resolved (v here.symbol) ≡ true) where
    -- any type but PCREL_LO12
    pub plain_takes : takes_pair rule.calculation ≡ false → (d : ℕ) → Takes v object x j rule.calculation (Some d)
    plain_takes plain d =
        record {
          symbol_is = plain_symbol v object x j rule f.decided plain _ ∙ rw (← same, resolved);
          pair_is = sym (plain_pair v object x j rule f.decided plain);
          distance_is = λ _ _ e. never (sym plain ∙ e);
        }

    module _ (paired : takes_pair rule.calculation ≡ true) where
      pub elsewhere_breaks : in_target object x j ≡ false → symbol_well object x j (value_by v object x j) ≡ false
      elsewhere_breaks t = paired_symbol v object x j rule f.decided paired _ ∙ rw (← same, resolved, t)

      pub resolved_why : why (value_by v object x j) ≡ OutsideTarget
      resolved_why = ap why (sym same) ∙ go (v here.symbol) resolved
        where
          go : (y : SymbolValue) → is_resolved y ≡ true → why y ≡ OutsideTarget
          go (Ok a) r = refl
          go (Err a) r = never r

      pub target_takes : in_target object x j ≡ true → (pair d : Option ℕ) → pair ≡ pair_of object x (symbol object x j).value → d ≡ distance_if v object x pair
          → Takes v object x j rule.calculation d
      target_takes t pair d pe de =
          record {
            symbol_is = paired_symbol v object x j rule f.decided paired _ ∙ rw (← same, resolved, t);
            pair_is = ap is_one de ∙ one pair ∙ ap is_one pe ∙ sym (paired_pair v object x j rule f.decided paired);
            distance_is = λ n ne _. of pair n (sym de ∙ ne) ∙ ap (distance_of_by v object x) pe;
          }
        where
          one : (o : Option ℕ) → is_one (distance_if v object x o) ≡ is_one o
          one (Some k) = refl
          one None = refl

          of : (o : Option ℕ) (n : ℕ) → distance_if v object x o ≡ Some n → n ≡ distance_of_by v object x o
          of (Some k) n e = let back : distance_by v object x k ≡ n = cc in sym back
          of None n e = never (ap is_one e)

-- ---- what was read and decided of relocation j, and the trail before it

module _ (object : List ℕ) (x : Site) (j : ℕ) (t : Trail) (d : Decision) (r : Relocation) (f : Read object x j t d r) where
  pub shape_read : shape_by t d r x.target.size ≡ shape_well object x j
  shape_read = rw (f.followed, f.decided, f.read) (shape_by_lem object x j)

  -- the bytes that a store finds
  pub found_read : (rule : Rule) (shares : Bool) (last : ℕ) → d ≡ Store rule → shares ≡ shares_by t d r.offset.0
      → cond shares last (le_at rule.size (found object x) r.offset.0) ≡ cond (shares_by t d r.offset.0) last (le_at (touched d) (found object x) r.offset.0)
  found_read rule shares last e q =
      ap (λ b. cond b last (le_at rule.size (found object x) r.offset.0)) q
      ∙ sym (ap (λ e. cond (shares_by t d r.offset.0) last (le_at (touched e) (found object x) r.offset.0)) e)

  -- what breaks check 9
  pub shape_breaks : (v : ℕ → SymbolValue) → shape_by t d r x.target.size ≡ false → finding_by v object x j ≡ Some BadShape
  shape_breaks v e = misshapen v object x j (sym shape_read ∙ e)

  -- markers
  pub align_read : (v : ℕ → SymbolValue) → d ≡ Align → align_finding t x r ≡ finding_by v object x j
  align_read v e = rw (← e, shape_read, f.read) (go (shape_well object x j) refl)
    where
      align : decision_at object x j ≡ Align
      align = sym f.decided ∙ e

      go : (k : Bool) → shape_well object x j ≡ k → cond k (cond (boundary_well Align (P object x j) (A object x j)) None (Some OffBoundary)) (Some BadShape) ≡ finding_by v object x j
      go true q = sym (align_finding_lem v object x j align q)
      go false q = sym (misshapen v object x j q)

  pub marker_read : (v : ℕ → SymbolValue) → d ≡ Marker → marker_finding t x r ≡ finding_by v object x j
  marker_read v e = rw (← e, shape_read) (go (shape_well object x j) refl)
    where
      marker : decision_at object x j ≡ Marker
      marker = sym f.decided ∙ e

      go : (k : Bool) → shape_well object x j ≡ k → cond k None (Some BadShape) ≡ finding_by v object x j
      go true q = sym (marker_finding_lem v object x j marker q)
      go false q = sym (misshapen v object x j q)

  -- what answers a marker, as what answers relocation j
  pub marker_comes : (v : ℕ → SymbolValue) (b last : ℕ) (found : Option Finding) (answer : Result Step Finding) → is_store d ≡ false → found ≡ finding_by v object x j
      → Answers found (λ s. (s.word ≡ 0) × Onward t d r last s.word s.size s.last s.trail) answer → Comes v object x j b t d r last answer
  marker_comes v b last found (Ok s) m is e = (sym is ∙ e.0, (e.1.0 ∙ no_word v object x j b (ap is_store (sym f.decided) ∙ m), e.1.1))
  marker_comes v b last found (Err g) m is e = sym is ∙ e
