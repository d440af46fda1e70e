-- The high half and the low half of one address or distance add up to it.
use Rattle.std.specs.Prelude.{None, Option, Some}
use mathlib.Core.Path.{◌≡◌, refl, sym, ap, ◌∙◌, subst}
use mathlib.Core.Bool.{true, not, ◌||◌}
use mathlib.Core.List.{List}
use Prim.Native.Nat.{ℕ, ◌^◌, ◌<◌}
use lib.Dec.{eqb}
use lib.IntN.{ℤ}
use Rattle.numbers_definitions.specs.Bytes.{le_at}
use Rattle.numbers_definitions.specs.Whole.{signed, minus}
use Rattle.numbers_definitions.specs.declared.SectionOffset.{SectionOffset}
use Rattle.numbers_definitions.proofs.Laws.Tests.{and_left, never}
use Rattle.numbers_definitions.proofs.Laws.Whole.{residue_lt}
use Rattle.instructions_fields.specs.declared.Field.{Field}
use Rattle.instructions_fields.specs.declared.Field.TheVariants.{U}
use Rattle.instructions_fields.specs.Layouts.{read}
use Rattle.instructions_fields.specs.Fields.{layout}
use Rattle.relocations_types.specs.declared.Operand.{Operand}
use Rattle.relocations_types.specs.declared.Operand.TheVariants.{Absolute, Paired}
use Rattle.relocations_types.specs.declared.Part.{Part}
use Rattle.relocations_types.specs.declared.Part.TheVariants.{High, Low}
use Rattle.relocations_types.specs.declared.Calculation.TheVariants.{Of}
use Rattle.relocations_types.specs.declared.Rule.{Rule}
use Rattle.relocations_types.specs.declared.Decision.{Decision}
use Rattle.relocations_types.specs.declared.Decision.TheVariants.{Store}
use Rattle.relocations_types.specs.Types.{pairing}
use Rattle.instructions_riscv.specs.Halves.{low}
use Rattle.instructions_riscv.proofs.Laws.Halves.{halves_whole}
use Rattle.elf_read.specs.Headers.{address_width}
use Rattle.relocations_rela.specs.declared.sites.Site.{Site}
use Rattle.relocations_rela.specs.Sites.{count, entry, decision_at, offset, P, found}
use Rattle.relocations_values.specs.Values.{target_at}
use Rattle.relocations_decisions.specs.Decisions.{takes_pair, needs_pair, gives_pair}
use Rattle.relocations_values.specs.Pairs.{is_pair, pair_of}
use Rattle.relocations_rules.specs.Rules.{symbol, is_one, pair_well}
use Rattle.relocations_decisions.proofs.Laws.Decisions.{pair_is}
use Rattle.relocations_values.proofs.Laws.Pairs.{pair_there}
use Rattle.relocations_rules.proofs.Laws.Search.{kept_rules}
use Rattle.relocations_bytes.specs.Patches.{high_part, operand_of}
use Rattle.relocations_bytes.specs.Sections.{distance_at, distance_of, pair_distance, after}
use Rattle.relocations_bytes.specs.Promises.{extended, stack_at, SaidPart, Said, Stored, ReadsBack, AddUp}
use Rattle.relocations_bytes.specs.Wholes.{Halves}
use Rattle.relocations_bytes.specs.Requires.{Checked}
use Rattle.relocations_bytes.proofs.Laws.ReadBack.{read_back}

-- the two values that are read, added up
pub add_up : (w : ℕ) (f g : Field) (b v d : ℕ) → d < 2 ^ w → extended w (read (layout f) b) ≡ high_part w d → signed 12 (read (layout g) v) ≡ low w d → AddUp w f b g v d
add_up w f g b v d h p q = halves_whole w d _ _ h p q

-- a section of which every relocation is read back
module _ (object order addresses : List ℕ) (x : Site) (final : List ℕ) (back : (j : ℕ) → j < count object x → ReadsBack object order addresses x final j) where
  abbrev w : ℕ
  w = address_width object

  abbrev t : ℕ → ℕ
  t j = target_at object order addresses x j

  -- what relocation j says, for a decision
  abbrev Says : ℕ → Decision → Type 0
  Says j d =
      Stored w d (found object x) final (offset object x j) (t j) (P object x j) (pair_distance object order addresses x j)
      (λ v. stack_at object order addresses x (offset object x j) v (count object x))

  pub says : (j : ℕ) → j < count object x → (d : Decision) → decision_at object x j ≡ d → Says j d
  says j h d e = subst (Says j) e (unfold ReadsBack in back j h)

  -- a pair is a PCREL_HI20
  hi20 : (j : ℕ) (value : SectionOffset) → is_pair object x value j ≡ true → decision_at object x j ≡ pairing
  unfolding is_pair
  hi20 j value e = pair_is _ _ (entry object x j).kind (and_left (gives_pair (decision_at object x j)) (eqb (offset object x j) value.0) e)

  -- a PCREL_LO12 has one
  has_pair : Checked object order addresses x → (j : ℕ) → j < count object x → needs_pair (decision_at object x j) ≡ true → (i : ℕ) × (pair_of object x (symbol object x j).value ≡ Some i)
  unfolding pair_well
  has_pair k j h n = go (pair_of object x (symbol object x j).value) refl (one n (kept_rules object order addresses x j (k.kept j h)).pair)
    where
      one : needs_pair (decision_at object x j) ≡ true → (not (needs_pair (decision_at object x j)) || is_one (pair_of object x (symbol object x j).value)) ≡ true
          → is_one (pair_of object x (symbol object x j).value) ≡ true
      one n e = rw n at e

      go : (p : Option ℕ) → pair_of object x (symbol object x j).value ≡ p → is_one (pair_of object x (symbol object x j).value) ≡ true
          → (i : ℕ) × (pair_of object x (symbol object x j).value ≡ Some i)
      go (Some i) e o = (i, e)
      go None e o = never (sym (ap is_one e) ∙ o)

  distance_lt : (i : ℕ) → distance_at object order addresses x i < 2 ^ w
  unfolding distance_at minus
  distance_lt i = residue_lt w _

  -- the number of the whole stack, for the rule of relocation j
  abbrev whole : ℕ → Rule → ℤ
  whole j r = stack_at object order addresses x (offset object x j) (read (layout r.field) (le_at r.size (found object x) (offset object x j))) (count object x)

  -- what relocation j says about a part of an operand
  pub part_said : (j : ℕ) → j < count object x → (r : Rule) (part : Part) (o : Operand) → decision_at object x j ≡ Store r → r.calculation ≡ Of part o
      → SaidPart w part r.field (le_at r.size final (offset object x j)) (operand_of w o (t j) (P object x j) (pair_distance object order addresses x j)) (t j) (P object x j)
  part_said j h r part o e c =
      subst (λ c. Said w c r.field (le_at r.size final (offset object x j)) (t j) (P object x j) (pair_distance object order addresses x j) (whole j r)) c (says j h (Store r) e).0

  pub halves_of : Checked object order addresses x → Halves object order addresses x final
  unfolding distance_at
  halves_of k =
      record {
        address = λ i j hi hj a b p q high_is low_is same.
            add_up w a.field b.field (le_at a.size final (offset object x i)) (le_at b.size final (offset object x j)) (t i) (residue_lt w _) (part_said i hi a High Absolute p high_is)
            (part_said j hj b Low Absolute q low_is ∙ ap (low w) (sym same));
        distance = λ j hj b q low_is.
            let pair = has_pair k j hj (ap needs_pair q ∙ ap takes_pair low_is) in
            let i : ℕ = pair.0 in
            let there = pair_there object x (symbol object x j).value i pair.1 in
            let high = says i there.0 pairing (hi20 i (symbol object x j).value there.1) in
            let same : pair_distance object order addresses x j ≡ distance_at object order addresses x i = ap (distance_of object order addresses x) pair.1 in (
              i,
              there.0,
              pair.1,
              add_up w U b.field (le_at 4 final (offset object x i)) (le_at b.size final (offset object x j)) (distance_at object order addresses x i) (distance_lt i) high.0
                  (part_said j hj b Low Paired q low_is ∙ ap (low w) same),
            );
      }

pub halves : (object order addresses : List ℕ) (x : Site) → Checked object order addresses x → Halves object order addresses x (after object order addresses x (count object x))
halves object order addresses x k = halves_of object order addresses x (after object order addresses x (count object x)) (read_back object order addresses x k) k
