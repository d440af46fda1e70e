-- Every rule of the table is regular; and what the field alone then says.
use mathlib.Core.Path.{◌≡◌, refl, sym, ap, ◌∙◌, subst}
use mathlib.Core.Bool.{Bool, true, false, ◌&&◌}
use Prim.Native.Nat.{ℕ, ◌/◌, ◌%◌, ◌^◌, ◌≤◌, ◌<◌}
use native.Mathlib.Omega.{arith}
use lib.Dec.{eqb}
use lib.IntN.{ℤ, pos}
use Rattle.numbers_definitions.specs.declared.Class.{Class}
use Rattle.numbers_definitions.specs.declared.Class.TheVariants.{Elf32, Elf64}
use Rattle.numbers_definitions.specs.Classes.{bits}
use Rattle.numbers_definitions.specs.Whole.{residue, signed, even, minus}
use Rattle.numbers_definitions.proofs.Laws.Tests.{never}
use Rattle.numbers_definitions.proofs.Laws.Whole.{cut_signed, minus_lt}
use Rattle.instructions_fields.specs.declared.Width.{Width}
use Rattle.instructions_fields.specs.declared.Field.{Field}
use Rattle.instructions_fields.specs.declared.Field.TheVariants.{Call, Data}
use Rattle.instructions_fields.specs.Layouts.{put}
use Rattle.instructions_fields.specs.Fields.{layout}
use Rattle.instructions_riscv.specs.declared.forms.Form.{Form}
use Rattle.instructions_riscv.specs.declared.forms.Form.TheVariants.{Any, Lui, Auipc, Jal, Branch, LowI, LowS, CallPair, CBranch, CJump}
use Rattle.instructions_riscv.specs.Forms.{has_form}
use Rattle.instructions_riscv.specs.declared.ranges.Range.{Range}
use Rattle.instructions_riscv.specs.Ranges.{range_of, reaches, keeps_alignment, halves_reach}
use Rattle.instructions_riscv.proofs.Laws.Ranges.{aligned_signed}
use Rattle.relocations_types.specs.declared.Operand.{Operand}
use Rattle.relocations_types.specs.declared.Operand.TheVariants.{Absolute, PcRelative, Paired}
use Rattle.relocations_types.specs.declared.Part.{Part}
use Rattle.relocations_types.specs.declared.Part.TheVariants.{Whole, Distance, High, Low, BothHalves}
use Rattle.relocations_types.specs.declared.Calculation.{Calculation}
use Rattle.relocations_types.specs.declared.Calculation.TheVariants.{Of, Add, Sub, Set}
use Rattle.relocations_types.specs.declared.Rule.{Rule}
use Rattle.relocations_types.specs.declared.Decision.{Decision}
use Rattle.relocations_types.specs.declared.Decision.TheVariants.{Marker, Align, Store, Refused}
use Rattle.relocations_types.specs.Types.{table, decision}
use Rattle.relocations_decisions.specs.Decisions.{is_paired, takes_pair}
use Rattle.relocations_decisions.proofs.Laws.Decisions.{each_decided}
use Rattle.relocations_rules.specs.Rules.{is_data, stands_well, operand_reaches, part_reaches, reaches_well}
use Rattle.relocations_bytes.specs.Patches.{operand_of, part_of, patched}
use Rattle.relocations_patch.specs.Regular.{is_upper, OfPart, fills, Regular, operand_by}

-- ---- every rule of the table

-- T, out of S + A in two's complement of 64 bits
pub cut : (k : Class) (x : ℕ) → x < 2 ^ 64 → x % 2 ^ bits k ≡ residue (bits k) (signed 64 x)
cut Elf32 x h = cut_signed 32 32 x h
cut Elf64 x h = cut_signed 0 64 x h

abbrev RegularOf : Decision → Type 0
RegularOf (Store r) = Regular r.calculation r.field r.form
RegularOf Marker = Unit {0}
RegularOf Align = Unit {0}
RegularOf Refused = Unit {0}

regular_each : (k : Class) (rvc : Bool) (t : ℕ) → RegularOf (decision k rvc t)
unfolding table
regular_each =
    each_decided RegularOf (
      (refl, refl),
      (
        tt,
        (
          tt,
          (
            (refl, refl),
            (
              (refl, refl),
              (
                (refl, refl),
                (
                  (refl, refl),
                  (
                    (refl, refl),
                    (
                      (refl, refl),
                      (
                        (refl, refl),
                        (
                          (by PcRelative, refl, refl),
                          (
                            (by Absolute, refl, refl),
                            (
                              (by Absolute, refl),
                              (
                                (by Absolute, refl),
                                (
                                  (by Paired, refl),
                                  (
                                    (by Paired, refl),
                                    (
                                      (refl, refl),
                                      (
                                        (refl, refl),
                                        (
                                          (refl, refl),
                                          (
                                            (refl, refl),
                                            (
                                              (refl, refl),
                                              (
                                                (refl, refl),
                                                (
                                                  (refl, refl),
                                                  (
                                                    (refl, refl),
                                                    (
                                                      (refl, refl),
                                                      (
                                                        (refl, refl),
                                                        (
                                                          (refl, refl),
                                                          (
                                                            (refl, refl),
                                                            (
                                                              (refl, refl),
                                                              tt,
                                                            ),
                                                          ),
                                                        ),
                                                      ),
                                                    ),
                                                  ),
                                                ),
                                              ),
                                            ),
                                          ),
                                        ),
                                      ),
                                    ),
                                  ),
                                ),
                              ),
                            ),
                          ),
                        ),
                      ),
                    ),
                  ),
                ),
              ),
            ),
          ),
        ),
      ),
    )
  where
    by : {part : Part} (o : Operand) → OfPart part (Of part o)
    by o = record { operand = o; is = refl }

pub rules_regular : (k : Class) (rvc : Bool) (t : ℕ) (r : Rule) → decision k rvc t ≡ Store r → Regular r.calculation r.field r.form
rules_regular k rvc t r e = subst RegularOf e (regular_each k rvc t)

-- ---- check 11: of LUI and AUIPC, and of any other form of an instruction

pub stands_form : (k : Class) (form : Form) (place found : ℕ) → is_data form ≡ false → (eqb (place % 2) 0 && has_form k form found (found / 2 ^ 32)) ≡ stands_well k form place found
unfolding stands_well
stands_form k form place found e = rw e

pub upper_instruction : (form : Form) → is_upper form ≡ true → is_data form ≡ false
upper_instruction Any e = never e
upper_instruction Lui e = refl
upper_instruction Auipc e = refl
upper_instruction Jal e = refl
upper_instruction Branch e = refl
upper_instruction LowI e = refl
upper_instruction LowS e = refl
upper_instruction CallPair e = refl
upper_instruction CBranch e = refl
upper_instruction CJump e = refl

-- ---- check 13, and the bytes, of a part

module _ (c : Calculation) (f : Field) (part : Part) (o : OfPart part c) where
  pub part_reaches_lem : (k : Class) (rvc : Bool) (t p : ℕ) → part_reaches k rvc part o.operand f t p ≡ reaches_well k rvc c f t p
  part_reaches_lem k rvc t p = ap (λ c. reaches_well k rvc c f t p) (sym o.is)

  pub part_patched : (w b : ℕ) (x : ℤ) (p d v : ℕ) → v ≡ operand_by w c (residue w x) p d → put (layout f) b (part_of w part v) ≡ patched w c f b x p d
  unfolding patched
  part_patched w b x p d v e =
      ap (λ v. put (layout f) b (part_of w part v)) (e ∙ ap (λ c. operand_by w c (residue w x) p d) o.is)
      ∙ ap (λ c. patched w c f b x p d) (sym o.is)

-- ---- check 13 of a high half, by the operand

operand_reaches_lem : (k : Class) (o : Operand) (t p d : ℕ) → is_paired o ≡ false → halves_reach k (operand_of (bits k) o t p d) ≡ operand_reaches k o t p
operand_reaches_lem k Absolute t p d e = refl
operand_reaches_lem k PcRelative t p d e = refl
operand_reaches_lem k Paired t p d e = never (sym e)

pub high_reaches : (k : Class) (c : Calculation) (o : OfPart High c) (t p d v : ℕ) → takes_pair c ≡ false → v ≡ operand_by (bits k) c t p d
    → halves_reach k v ≡ operand_reaches k o.operand t p
high_reaches k c o t p d v e v-is =
    ap (halves_reach k) (v-is ∙ ap (λ c. operand_by (bits k) c t p d) o.is)
    ∙ operand_reaches_lem k o.operand t p d (sym (ap takes_pair o.is) ∙ e)

-- ---- check 13 of a CALL, a jump or a branch, whose operand is T - P

pub call_within : (k : Class) (rvc : Bool) (t p v : ℕ) (h a : Bool) → v ≡ minus (bits k) t p → h ≡ halves_reach k v → a ≡ keeps_alignment rvc (pos v)
    → (eqb (v % 2) 0 && h && a) ≡ part_reaches k rvc BothHalves PcRelative Call t p
unfolding even
call_within k rvc t p v h a is h-is a-is = rw (h-is, a-is) (ap (λ v. eqb (v % 2) 0 && halves_reach k v && keeps_alignment rvc (pos v)) is)

pub jump_within :
    (k : Class) (rvc : Bool) (f : Field) (t p v : ℕ) (r : Range) (b : Bool) → v ≡ minus (bits k) t p → r ≡ range_of f
    → (v < 2 ^ bits k → b ≡ reaches r (signed (bits k) v)) → (b && keeps_alignment rvc (pos v)) ≡ part_reaches k rvc Distance PcRelative f t p
jump_within k rvc f t p v r b is r-is e =
    let small : v < 2 ^ bits k = subst (λ n. n < 2 ^ bits k) (sym is) (minus_lt (bits k) t p) in
    ap (λ b. b && keeps_alignment rvc (pos v)) (e small ∙ ap (λ r. reaches r (signed (bits k) v)) r-is)
    ∙ ap (λ b. reaches (range_of f) (signed (bits k) v) && b) (sym (aligned_signed rvc (bits k) v (two k) small))
    ∙ ap (λ v. reaches (range_of f) (signed (bits k) v) && keeps_alignment rvc (signed (bits k) v)) is
  where
    two : (k : Class) → 2 ≤ bits k
    two Elf32 = omega arith
    two Elf64 = omega arith

-- T - P as the operand of a part
pub relative : (k : Class) (part : Part) (c : Calculation) (t p d v : ℕ) → c ≡ Of part PcRelative → v ≡ operand_by (bits k) c t p d → v ≡ minus (bits k) t p
relative k part c t p d v is v-is = v-is ∙ ap (λ c. operand_by (bits k) c t p d) is

-- ---- data

pub data_reaches : (c : Calculation) (width : Width) → fills c ≡ true → (w : Class) (rvc : Bool) (t p : ℕ) → true ≡ reaches_well w rvc c (Data width) t p
data_reaches (Of Whole o) width e w rvc t p = refl
data_reaches (Of Distance o) width e w rvc t p = never e
data_reaches (Of High o) width e w rvc t p = never e
data_reaches (Of Low o) width e w rvc t p = never e
data_reaches (Of BothHalves o) width e w rvc t p = never e
data_reaches Add width e w rvc t p = refl
data_reaches Sub width e w rvc t p = refl
data_reaches Set width e w rvc t p = refl

pub whole_part : (part : Part) (w v : ℕ) → fills (Of part Absolute) ≡ true → v ≡ part_of w part v
whole_part Whole w v e = refl
whole_part Distance w v e = never e
whole_part High w v e = never e
whole_part Low w v e = never e
whole_part BothHalves w v e = never e

-- ---- all three, of the field that was matched

module _ (k : Class) (rvc : Bool) (c : Calculation) (form : Form) (found w t p d : ℕ) (x : ℤ) where
  abbrev n : ℕ
  n = bits k

  abbrev pub Made : Field → Bool → Bool → ℕ → Type 0
  Made f stands reaches word = (stands ≡ stands_well k form p found) × (reaches ≡ reaches_well k rvc c f t p) × (word ≡ patched n c f w x p d)

  -- of an instruction, whose form was asked for
  pub instruction_made :
      (f g : Field)
      (part : Part)
      (asked : Form)
      (h r : Bool)
      (u v : ℕ)
      → f ≡ g
      → (o : OfPart part c)
      → form ≡ asked
      → is_data asked ≡ false
      → h ≡ has_form k asked found (found / 2 ^ 32)
      → r ≡ part_reaches k rvc part o.operand g t p
      → v ≡ operand_by n c (residue n x) p d
      → u ≡ put (layout g) w (part_of n part v)
      → Made f (eqb (p % 2) 0 && h) r u
  instruction_made f g part asked h r u v told o form_is e h-is r-is v-is u-is =
      subst (λ f. Made f (eqb (p % 2) 0 && h) r u) (sym told) (
        ap (λ h. eqb (p % 2) 0 && h) h-is ∙ stands_form k asked p found e ∙ ap (λ a. stands_well k a p found) (sym form_is),
        r-is ∙ part_reaches_lem c g part o k rvc t p,
        u-is ∙ part_patched c g part o n w x p d v v-is,
      )

  -- of data
  pub data_made :
      (f : Field) (width : Width) (u : ℕ) → f ≡ Data width → fills c ≡ true → form ≡ Any → u ≡ patched n c (Data width) w x p d → Made f true true u
  unfolding stands_well
  data_made f width u told e form_is u-is =
      subst (λ f. Made f true true u) (sym told) (sym (ap (λ a. stands_well k a p found) form_is), data_reaches c width e k rvc t p, u-is)
