-- What a relocation has stored, read by the manual's fields, is what document 01's table says.
use mathlib.Core.Path.{◌≡◌, refl, sym, ap, ◌∙◌, subst}
use mathlib.Core.Bool.{Bool, true, false, ◌&&◌}
use Prim.Native.Nat.{ℕ, ◌+◌, ◌*◌, ◌/◌, ◌%◌, ◌^◌, ◌≤◌, ◌<◌}
use native.Mathlib.Nat.{mod-eq_of_lt, mod-one, mul-mod_right}
use native.Mathlib.Omega.{arith}
use lib.Dec.{eqb}
use lib.IntN.{ℤ, pos, ◌+ℤ◌}
use borrow.Author.Tests.{eqb-true}
use Rattle.numbers_definitions.specs.declared.Class.{Class}
use Rattle.numbers_definitions.specs.declared.Class.TheVariants.{Elf32, Elf64}
use Rattle.numbers_definitions.specs.Classes.{bits}
use Rattle.numbers_definitions.specs.Whole.{residue, signed, even, minus}
use Rattle.numbers_definitions.proofs.Laws.Tests.{and_left, and_right, never}
use Rattle.numbers_definitions.proofs.Laws.Whole.{residue_lt, signed_residue, residue_signed, minus_lt}
use Rattle.instructions_fields.specs.declared.Field.{Field}
use Rattle.instructions_fields.specs.declared.Field.TheVariants.{U, I, S, B, J, Cb, Cj, Call, Data}
use Rattle.instructions_fields.specs.Layouts.{format_u, format_i, read, put}
use Rattle.instructions_fields.specs.Fields.{layout, value_bits, unit}
use Rattle.instructions_fields.proofs.Laws.Layouts.{held, read_put, total, put_append}
use Rattle.instructions_fields.proofs.Laws.Fields.{reads_back}
use Rattle.relocations_types.specs.declared.Operand.{Operand}
use Rattle.relocations_types.specs.declared.Operand.TheVariants.{Absolute, PcRelative, Paired}
use Rattle.relocations_types.specs.declared.Part.{Part}
use Rattle.relocations_types.specs.declared.Part.TheVariants.{Whole, Distance, High, Low, BothHalves}
use Rattle.relocations_types.specs.declared.Calculation.{Calculation}
use Rattle.relocations_types.specs.declared.Calculation.TheVariants.{Of, Add, Sub, Set}
use Rattle.relocations_types.specs.declared.Rule.{Rule}
use Rattle.relocations_types.specs.declared.Decision.{Decision}
use Rattle.relocations_types.specs.declared.Decision.TheVariants.{Marker, Align, Store, Refused}
use Rattle.relocations_types.specs.Types.{table, decision}
use Rattle.instructions_riscv.specs.Halves.{high, low}
use Rattle.instructions_riscv.specs.Ranges.{distance, range_of, reaches, keeps_alignment, halves_reach}
use Rattle.instructions_riscv.proofs.Laws.Halves.{HighSpelt, high_spelt_32, near_spelt, high_extended, low_half_spelt, halves_whole}
use Rattle.instructions_riscv.proofs.Laws.Ranges.{branch_reads_back, jal_reads_back, rvc_branch_reads_back, rvc_jump_reads_back, distance_leads}
use Rattle.relocations_decisions.specs.Decisions.{stacks}
use Rattle.relocations_rules.specs.Rules.{part_reaches, reaches_well}
use Rattle.relocations_decisions.specs.Widths.{is_data_field}
use Rattle.relocations_decisions.proofs.Laws.Decisions.{holds, decided}
use Rattle.relocations_bytes.specs.Patches.{high_part, low_part, operand_of, part_of, patched}
use Rattle.relocations_bytes.specs.Promises.{extended, SaidPart, Said}

-- ---- which fields the table has for a calculation

abbrev is_jump : Field → Bool
is_jump U = false
is_jump I = false
is_jump S = false
is_jump B = true
is_jump J = true
is_jump Cb = true
is_jump Cj = true
is_jump Call = false
is_jump (Data width) = false

abbrev pub is_call : Field → Bool
is_call U = false
is_call I = false
is_call S = false
is_call B = false
is_call J = false
is_call Cb = false
is_call Cj = false
is_call Call = true
is_call (Data width) = false

-- a field whose value has n bits, and is a multiple of u
abbrev has_bits : ℕ → ℕ → Field → Bool
has_bits u n f = eqb (unit f) u && eqb (value_bits f) n

abbrev pub suits_part : Part → Field → Bool
suits_part Whole f = eqb (unit f) 1
suits_part Distance f = is_jump f
suits_part High f = has_bits 4096 32 f
suits_part Low f = has_bits 1 12 f
suits_part BothHalves f = is_call f

-- high halves are those of T or T - P, distances and both halves those of T - P
abbrev is_own : Operand → Bool
is_own Absolute = true
is_own PcRelative = true
is_own Paired = false

abbrev is_pc_relative : Operand → Bool
is_pc_relative Absolute = false
is_pc_relative PcRelative = true
is_pc_relative Paired = false

abbrev has_part : Part → Operand → Bool
has_part Whole operand = true
has_part Distance operand = is_pc_relative operand
has_part High operand = is_own operand
has_part Low operand = true
has_part BothHalves operand = is_pc_relative operand

abbrev pub suits : Calculation → Field → Bool
suits (Of part operand) f = suits_part part f && has_part part operand
suits Add f = is_data_field f
suits Sub f = is_data_field f
suits Set f = is_data_field f

abbrev suited : Decision → Bool
suited (Store r) = suits r.calculation r.field
suited Marker = true
suited Align = true
suited Refused = true

pub store_suits : (k : Class) (rvc : Bool) (t : ℕ) (r : Rule) → decision k rvc t ≡ Store r → suits r.calculation r.field ≡ true
unfolding holds table
store_suits k rvc t r e = sym (ap suited e) ∙ decided suited refl k rvc t

pub suits_part_lem : (part : Part) (operand : Operand) (f : Field) → suits (Of part operand) f ≡ true → suits_part part f ≡ true
suits_part_lem part operand f e = and_left (suits_part part f) (has_part part operand) e

suits_operand : (part : Part) (operand : Operand) (f : Field) → suits (Of part operand) f ≡ true → has_part part operand ≡ true
suits_operand part operand f e = and_right (suits_part part f) (has_part part operand) e

-- ---- numbers that check 13 lets pass: their high half is a signed number of 32 bits, as LUI and AUIPC leave it

reach_spelt : (k : Class) (v : ℕ) → v < 2 ^ bits k → halves_reach k v ≡ true → HighSpelt (bits k) v
reach_spelt Elf32 v h e = high_spelt_32 v
reach_spelt Elf64 v h e = near_spelt 64 v (omega arith) h e

wide : (k : Class) → 32 ≤ bits k
wide Elf32 = omega arith
wide Elf64 = omega arith

-- ---- values that are read back

module _ (f : Field) (b : ℕ) where
  -- a multiple of the field's unit
  back : (u n v : ℕ) → has_bits u n f ≡ true → v % u ≡ 0 → read (layout f) (put (layout f) b v) ≡ v % 2 ^ n
  back u n v e m =
      let unit-is : unit f ≡ u = eqb-true _ _ (and_left (eqb (unit f) u) (eqb (value_bits f) n) e) in
      let bits_are : value_bits f ≡ n = eqb-true _ _ (and_right (eqb (unit f) u) (eqb (value_bits f) n) e) in
      let whole : v % unit f ≡ 0 = ap (λ k. v % k) unit-is ∙ m in
      reads_back f b v whole ∙ ap (λ k. v % 2 ^ k) bits_are

  -- any value, if the field's unit is 1
  plain_back : (v : ℕ) → eqb (unit f) 1 ≡ true → read (layout f) (put (layout f) b v) ≡ v % 2 ^ value_bits f
  plain_back v e = reads_back f b v (ap (λ k. v % k) (eqb-true _ _ e) ∙ mod-one v)

  high_back : (w x : ℕ) → 32 ≤ w → HighSpelt w x → has_bits 4096 32 f ≡ true → extended w (read (layout f) (put (layout f) b (high_part w x))) ≡ high_part w x
  high_back w x h near e = ap (extended w) (back 4096 32 (high_part w x) e (mul-mod_right 4096 (high w x))) ∙ high_extended w x h near

  low_back : (w x : ℕ) → 32 ≤ w → has_bits 1 12 f ≡ true → signed 12 (read (layout f) (put (layout f) b (low_part w x))) ≡ low w x
  low_back w x h e =
      ap (signed 12) (back 1 12 (low_part w x) e (mod-one (low_part w x)) ∙ mod-eq_of_lt (residue_lt 12 (low w x)))
      ∙ signed_residue 12 (low w x) (low_half_spelt w x (omega arith))

-- ---- jumps and branches

jump_back : (f : Field) (w b : ℕ) (z : ℤ) → 32 ≤ w → is_jump f ≡ true → reaches (range_of f) z ≡ true
    → signed (value_bits f) (read (layout f) (put (layout f) b (residue w z))) ≡ z
jump_back B w b z h e r = branch_reads_back w b z h r
jump_back J w b z h e r = jal_reads_back w b z h r
jump_back Cb w b z h e r = rvc_branch_reads_back w b z h r
jump_back Cj w b z h e r = rvc_jump_reads_back w b z h r
jump_back U w b z h e r = never e
jump_back I w b z h e r = never e
jump_back S w b z h e r = never e
jump_back Call w b z h e r = never e
jump_back (Data width) w b z h e r = never e

-- ---- the pair of a CALL

-- a number whose low 32 bits are a word with k in its low 12 bits and h above them, and whose upper bits are another word n
high_digit : (k h n : ℕ) → k < 4096 → h < 1048576 → (k + 4096 * h + 4294967296 * n) / 4096 % 1048576 ≡ h
high_digit k h n p q = omega arith

upper_word : (k h n : ℕ) → k < 4096 → h < 1048576 → (k + 4096 * h + 4294967296 * n) / 4294967296 ≡ n
upper_word k h n p q = omega arith

value_high : (h l : ℕ) → l < 4096 → (4096 * h + l) / 4096 % 1048576 ≡ h % 1048576
value_high h l q = omega arith

value_low : (h l : ℕ) → l < 4096 → (4096 * h + l) % 4096 ≡ l
value_low h l q = omega arith

module _ (b h l : ℕ) (ls : l < 4096) where
  -- the first word has twenty bits of h
  abbrev upper : ℕ
  upper = h % 1048576

  few : upper < 1048576
  few = omega arith

  -- the first word, and the second
  first_word : put format_u b (4096 * h + l) ≡ b % 4096 + 4096 * upper
  unfolding put
  first_word = let digit : (4096 * h + l) / 4096 % 1048576 ≡ upper = value_high h l ls in omega arith

  both_words : put (layout Call) b (4096 * h + l) ≡ b % 4096 + 4096 * upper + 4294967296 * put format_i (b / 4294967296) (4096 * h + l)
  unfolding total
  both_words = put_append format_u format_i b (4096 * h + l) ∙ ap (λ a. a + 4294967296 * put format_i (b / 4294967296) (4096 * h + l)) first_word

  pub call_high : read format_u (put (layout Call) b (4096 * h + l)) ≡ 4096 * h % 4294967296
  unfolding read
  call_high =
      rw both_words
      (let digit = high_digit (b % 4096) upper (put format_i (b / 4294967296) (4096 * h + l)) (omega arith) few in omega arith)

  pub call_low : read format_i (put (layout Call) b (4096 * h + l) / 4294967296) ≡ l
  unfolding held
  call_low =
      ap (λ n. read format_i (n / 4294967296)) both_words
      ∙ ap (read format_i) (upper_word (b % 4096) upper (put format_i (b / 4294967296) (4096 * h + l)) (omega arith) few)
      ∙ read_put format_i (b / 4294967296) (4096 * h + l)
      ∙ (let digit = value_low h l ls in omega arith)

call_back : (w b d : ℕ) → 32 ≤ w → HighSpelt w d → d < 2 ^ w
    → residue w (signed 32 (read format_u (put (layout Call) b (high_part w d + low_part w d))) +ℤ signed 12 (read format_i (put (layout Call) b (high_part w d + low_part w d) / 2 ^ 32))) ≡ d
call_back w b d h near small =
    let ls : low_part w d < 4096 = residue_lt 12 (low w d) in
    halves_whole w d _ _ small
    (ap (extended w) (call_high b (high w d) (low_part w d) ls) ∙ high_extended w d h near)
    (ap (signed 12) (call_low b (high w d) (low_part w d) ls) ∙ signed_residue 12 (low w d) (low_half_spelt w d (omega arith)))

-- both halves of T - P, which only a CALL has
both_back : (w : ℕ) (f : Field) (b d : ℕ) → 32 ≤ w → is_call f ≡ true → HighSpelt w d → d < 2 ^ w
    → residue w (signed 32 (read format_u (put (layout f) b (high_part w d + low_part w d))) +ℤ signed 12 (read format_i (put (layout f) b (high_part w d + low_part w d) / 2 ^ 32))) ≡ d
both_back w Call b d h e near small = call_back w b d h near small
both_back w U b d h e near small = never e
both_back w I b d h e near small = never e
both_back w S b d h e near small = never e
both_back w B b d h e near small = never e
both_back w J b d h e near small = never e
both_back w Cb b d h e near small = never e
both_back w Cj b d h e near small = never e
both_back w (Data width) b d h e near small = never e

-- ---- every part of every operand

module _ (k : Class) (rvc : Bool) (f : Field) (b t p d : ℕ) (small : t < 2 ^ bits k) where
  abbrev w : ℕ
  w = bits k

  abbrev Back : Part → Operand → Type 0
  Back part o = SaidPart w part f (put (layout f) b (part_of w part (operand_of w o t p d))) (operand_of w o t p d) t p

  back_part : (part : Part) (o : Operand) → suits_part part f ≡ true → has_part part o ≡ true → part_reaches k rvc part o f t p ≡ true → Back part o
  back_part Whole o e g r = plain_back f b (operand_of w o t p d) e
  back_part Distance PcRelative e g r =
      let field : signed (value_bits f) (read (layout f) (put (layout f) b (minus w t p))) ≡ distance w t p =
      subst (λ n. signed (value_bits f) (read (layout f) (put (layout f) b n)) ≡ distance w t p)
      (residue_signed w (minus w t p) (minus_lt w t p))
      (jump_back f w b (distance w t p) (wide k) e (and_left (reaches (range_of f) (distance w t p)) (keeps_alignment rvc (distance w t p)) r)) in
      (field, ap (λ z. residue w (pos p +ℤ z)) field ∙ distance_leads w t p small)
  back_part Distance Absolute e g r = never g
  back_part Distance Paired e g r = never g
  back_part High Absolute e g r = high_back f b w t (wide k) (reach_spelt k t small r) e
  back_part High PcRelative e g r = high_back f b w (minus w t p) (wide k) (reach_spelt k (minus w t p) (minus_lt w t p) r) e
  back_part High Paired e g r = never g
  back_part Low o e g r = low_back f b w (operand_of w o t p d) (wide k) e
  back_part BothHalves PcRelative e g r =
      both_back w f b (minus w t p) (wide k) e
      (reach_spelt k (minus w t p) (minus_lt w t p)
      (and_right (even (pos (minus w t p))) (halves_reach k (minus w t p))
      (and_left (even (pos (minus w t p)) && halves_reach k (minus w t p)) (keeps_alignment rvc (pos (minus w t p))) r)))
      (minus_lt w t p)
  back_part BothHalves Absolute e g r = never g
  back_part BothHalves Paired e g r = never g

-- every calculation but those of stacks
pub said : (k : Class) (rvc : Bool) (c : Calculation) (f : Field) (b : ℕ) (x : ℤ) (p d : ℕ) (whole : ℤ) → stacks c ≡ false → suits c f ≡ true
    → reaches_well k rvc c f (residue (bits k) x) p ≡ true → Said (bits k) c f (patched (bits k) c f b x p d) (residue (bits k) x) p d whole
unfolding patched
said k rvc (Of part o) f b x p d whole s e r =
    back_part k rvc f b (residue (bits k) x) p d (residue_lt (bits k) x) part o (suits_part_lem part o f e) (suits_operand part o f e) r
said k rvc Add f b x p d whole s e r = never (sym s)
said k rvc Sub f b x p d whole s e r = never (sym s)
said k rvc Set f b x p d whole s e r = never (sym s)
