-- Checks 9 to 14 of a relocation, and the bytes that it leaves, for any values of symbols: v gives S of each symbol.
use Rattle.placing_symbols.specs.Reasons.{SymbolValue}
use Rattle.std.specs.Prelude.{◌≡◌, ℕ, ◌+◌, true, false, cond, List, [], ◌∷◌, ℤ, pos, ◌+ℤ◌, None, Option, Some, Result, MatchResult}
use Rattle.numbers_definitions.specs.Whole.{minus, signed}
use Rattle.elf_read.specs.declared.Relocation.{Relocation}
use Rattle.elf_read.specs.Headers.{class_of, has_rvc, address_width}
use Rattle.relocations_types.specs.declared.Calculation.{Calculation}
use Rattle.relocations_types.specs.declared.Decision.{Decision}
use Rattle.relocations_types.specs.declared.Decision.TheVariants.{Marker, Align}
use Rattle.relocations_decisions.specs.Decisions.{is_store, touched, takes_pair}
use Rattle.relocations_rela.specs.declared.sites.Site.{Site}
use Rattle.relocations_rela.specs.declared.shape.Trail.{Trail}
use Rattle.relocations_rela.specs.Sites.{entry, decision_at, A, P}
use Rattle.relocations_rela.specs.Shape.{shape_well}
use Rattle.relocations_rela.specs.Trails.{advanced, shape_by}
use Rattle.relocations_values.specs.Values.{S, T}
use Rattle.relocations_values.specs.Pairs.{pair_of}
use Rattle.relocations_rules.specs.declared.Finding.{Finding}
use Rattle.relocations_rules.specs.declared.Finding.TheVariants.{BadShape, BadSymbol, BadForm, NoPair, OutOfReach, OffBoundary}
use Rattle.relocations_rules.specs.Rules.{symbol, symbol_well, why, form_well, is_one, pair_well, distance_well, boundary_well}
use Rattle.relocations_rules.specs.Search.{check, first_broken}
use Rattle.relocations_bytes.specs.Words.{word}
use Rattle.relocations_check_one.specs.declared.Step.{Step}

-- What answers a relocation, where `found` is the first rule that it breaks, if it breaks one: that rule, or something of which P holds.
abbrev pub Answers : {A : Type 0} → Option Finding → (A → Type 0) → Result A Finding → Type 0
Answers found P r = MatchResult r (λ a. (found ≡ None) × P a) (λ f. found ≡ Some f)

-- What goes on to the next relocation: how many bytes this one left, what the previous non-marker left, and the trail.
pub record Onward (t : Trail) (d : Decision) (r : Relocation) (last word size left : ℕ) (next : Trail) : Type 0 where
  pub size_is : size ≡ touched d
  pub left_is : left ≡ cond (is_store d) word last
  pub next_is : next ≡ advanced t d r

-- what a marker breaks, by the trail before it and what was read of it
abbrev pub align_finding : Trail → Site → Relocation → Option Finding
align_finding t x r =
    cond (shape_by t Align r x.target.size) (cond (boundary_well Align (x.address.0 + r.offset.0) (signed 64 r.addend)) None (Some OffBoundary)) (Some BadShape)

abbrev pub marker_finding : Trail → Site → Relocation → Option Finding
marker_finding t x r = cond (shape_by t Marker r x.target.size) None (Some BadShape)

module _ (v : ℕ → SymbolValue) (object : List ℕ) (x : Site) where
  abbrev pub value_by : ℕ → SymbolValue
  value_by j = v (entry object x j).symbol

  abbrev pub target_by : ℕ → ℕ
  target_by j = T (address_width object) (S (value_by j)) (A object x j)

  -- what relocation j breaks
  unfoldable pub finding_by : ℕ → Option Finding
  finding_by j =
      first_broken
      (check BadShape (shape_well object x j)
      ∷ check (BadSymbol (why (value_by j))) (symbol_well object x j (value_by j))
      ∷ check BadForm (form_well object x j)
      ∷ check NoPair (pair_well object x j)
      ∷ check OutOfReach (distance_well (class_of object) (has_rvc object) (decision_at object x j) (target_by j) (P object x j))
      ∷ check OffBoundary (boundary_well (decision_at object x j) (P object x j) (A object x j))
      ∷ [])

  -- S + A; T - P; and T - P of the pair
  abbrev pub sum_by : ℕ → ℤ
  sum_by j = pos (S (value_by j)) +ℤ A object x j

  abbrev pub distance_by : ℕ → ℕ
  distance_by j = minus (address_width object) (target_by j) (P object x j)

  abbrev pub distance_of_by : Option ℕ → ℕ
  distance_of_by (Some k) = distance_by k
  distance_of_by None = 0

  abbrev pub pair_distance_by : ℕ → ℕ
  pair_distance_by j = distance_of_by (pair_of object x (symbol object x j).value)

  -- the bytes that relocation j leaves, where it found b
  unfoldable pub word_by : ℕ → ℕ → ℕ
  word_by j b = word (address_width object) (decision_at object x j) b (sum_by j) (P object x j) (pair_distance_by j)

  -- T - P of the relocation that a pair names, if it names one
  abbrev pub distance_if : Option ℕ → Option ℕ
  distance_if (Some k) = Some (distance_by k)
  distance_if None = None

  -- T - P of the high half that relocation j takes, whose symbol keeps check 10; none if it takes one, and not exactly one is there. Types
  -- but PCREL_LO12 take none.
  pub record Takes (j : ℕ) (c : Calculation) (distance : Option ℕ) : Type 0 where
    pub symbol_is : symbol_well object x j (value_by j) ≡ true
    pub pair_is : is_one distance ≡ pair_well object x j
    pub distance_is : (d : ℕ) → distance ≡ Some d → takes_pair c ≡ true → d ≡ pair_distance_by j

  -- What is found out about the high half that relocation j takes, where S is there: that check 10 is broken, or T - P.
  abbrev pub Partnered : ℕ → Calculation → Result (Option ℕ) Finding → Type 0
  Partnered j c r = MatchResult r (Takes j c) (λ f. (symbol_well object x j (value_by j) ≡ false) × (f ≡ BadSymbol (why (value_by j))))

  -- what is found out about relocation j: the first of 9 to 14 that it breaks, or the bytes that it leaves, where it found b
  abbrev pub Leaves : ℕ → ℕ → Result ℕ Finding → Type 0
  Leaves j b r = Answers (finding_by j) (λ w. w ≡ word_by j b) r

  -- the same, and what goes on to the next relocation
  abbrev pub Comes : ℕ → ℕ → Trail → Decision → Relocation → ℕ → Result Step Finding → Type 0
  Comes j b t d r last answer = Answers (finding_by j) (λ s. (s.word ≡ word_by j b) × Onward t d r last s.word s.size s.last s.trail) answer
