-- The bytes of a relocation are determined by what is read out of them.
use mathlib.Core.Path.{◌≡◌, sym, ap, ap₂, ◌∙◌}
use mathlib.Core.Bool.{Bool, true, ◌&&◌}
use Prim.Native.Nat.{ℕ, ◌+◌, ◌/◌, ◌%◌, ◌^◌, ◌≤◌, ◌<◌}
use native.Mathlib.Omega.{arith}
use lib.Dec.{eqb}
use lib.IntN.{ℤ}
use borrow.Author.Tests.{eqb-true}
use Rattle.numbers_definitions.specs.declared.Class.{Class}
use Rattle.numbers_definitions.specs.Whole.{residue, signed}
use Rattle.numbers_definitions.proofs.Laws.Tests.{and_right, never}
use Rattle.numbers_definitions.proofs.Laws.Whole.{residue_signed}
use Rattle.instructions_fields.specs.declared.Field.{Field}
use Rattle.instructions_fields.specs.declared.Field.TheVariants.{U, I, S, B, J, Cb, Cj, Call, Data}
use Rattle.instructions_fields.specs.Layouts.{format_u, format_i, read, outside}
use Rattle.instructions_fields.specs.Fields.{layout, value_bits, unit}
use Rattle.instructions_fields.proofs.Laws.Layouts.{total, read_append}
use Rattle.instructions_fields.proofs.Laws.Determined.{determined, read_lt}
use Rattle.instructions_riscv.proofs.Laws.Apart.{parts_apart, extended_known}
use Rattle.relocations_types.specs.declared.Calculation.{Calculation}
use Rattle.relocations_types.specs.declared.Calculation.TheVariants.{Of, Add, Sub, Set}
use Rattle.relocations_types.specs.declared.Part.{Part}
use Rattle.relocations_types.specs.declared.Part.TheVariants.{Whole, Distance, High, Low, BothHalves}
use Rattle.relocations_types.specs.declared.Rule.{Rule}
use Rattle.relocations_types.specs.declared.Decision.TheVariants.{Store}
use Rattle.relocations_types.specs.Types.{decision}
use Rattle.relocations_decisions.proofs.Laws.Decisions.{store_bytes}
use Rattle.relocations_bytes.specs.Patches.{operand_of}
use Rattle.relocations_bytes.specs.Promises.{SaidPart, Said}
use Rattle.relocations_bytes.proofs.Laws.Said.{is_call, suits_part, suits, suits_part_lem, store_suits}
use Rattle.relocations_bytes.proofs.Laws.ReadBack.{radix}

-- a number of n bits is determined by its signed value
signed_known : (n u v : ℕ) (z : ℤ) → u < 2 ^ n → v < 2 ^ n → signed n u ≡ z → signed n v ≡ z → u ≡ v
signed_known n u v z hu hv e d = sym (residue_signed n u hu) ∙ ap (residue n) (e ∙ sym d) ∙ residue_signed n v hv

-- the two halves of a CALL are determined by their sum
high_unit : (w : ℕ) → read format_u w % 4096 ≡ 0
unfolding read
high_unit w = omega arith

call_read : (b : ℕ) → read (layout Call) b ≡ read format_u b + read format_i (b / 2 ^ 32)
unfolding total
call_read b = read_append format_u format_i b

abbrev BothSaid : ℕ → ℕ → ℕ → Type 0
BothSaid w b v = SaidPart w BothHalves Call b v 0 0

call_known : (w : ℕ) → 32 ≤ w → (f : Field) (b v d : ℕ) → is_call f ≡ true → BothSaid w b d → BothSaid w v d → read (layout f) b ≡ read (layout f) v
call_known w h Call b v d e x y =
    let apart = parts_apart w (read format_u b) (read format_u v) (read format_i (b / 2 ^ 32)) (read format_i (v / 2 ^ 32)) h (high_unit b) (high_unit v)
    (read_lt U b) (read_lt U v) (read_lt I (b / 2 ^ 32)) (read_lt I (v / 2 ^ 32)) (x ∙ sym y) in
    call_read b ∙ ap₂ ◌+◌ apart.0 apart.1 ∙ sym (call_read v)
call_known w h U b v d e x y = never e
call_known w h I b v d e x y = never e
call_known w h S b v d e x y = never e
call_known w h B b v d e x y = never e
call_known w h J b v d e x y = never e
call_known w h Cb b v d e x y = never e
call_known w h Cj b v d e x y = never e
call_known w h (Data width) b v d e x y = never e

-- a high half has 32 bits, and a low half twelve
so_many : (u n : ℕ) (f : Field) (b : ℕ) → eqb (unit f) u && eqb (value_bits f) n ≡ true → read (layout f) b < 2 ^ n
so_many u n f b e =
    let bits : value_bits f ≡ n = eqb-true _ _ (and_right (eqb (unit f) u) (eqb (value_bits f) n) e) in
    rw bits at (read_lt f b)

-- for every part
part_known : (w : ℕ) → 32 ≤ w → (part : Part) (f : Field) (b u v t p : ℕ) → suits_part part f ≡ true → SaidPart w part f b v t p → SaidPart w part f u v t p
    → read (layout f) b ≡ read (layout f) u
part_known w h Whole f b u v t p e x y = x ∙ sym y
part_known w h Distance f b u v t p e x y = signed_known (value_bits f) _ _ _ (read_lt f b) (read_lt f u) x.0 y.0
part_known w h High f b u v t p e x y = extended_known w _ _ h (so_many 4096 32 f b e) (so_many 4096 32 f u e) (x ∙ sym y)
part_known w h Low f b u v t p e x y = signed_known 12 _ _ _ (so_many 1 12 f b e) (so_many 1 12 f u e) x y
part_known w h BothHalves f b u v t p e x y = call_known w h f b u v e x y

-- for every calculation
read_known : (w : ℕ) → 32 ≤ w → (c : Calculation) (f : Field) (b v t p d : ℕ) (z : ℤ) → suits c f ≡ true → Said w c f b t p d z → Said w c f v t p d z
    → read (layout f) b ≡ read (layout f) v
read_known w h (Of part o) f b v t p d z e x y = part_known w h part f b v (operand_of w o t p d) t p (suits_part_lem part o f e) x y
read_known w h Add f b v t p d z e x y = x ∙ sym y
read_known w h Sub f b v t p d z e x y = x ∙ sym y
read_known w h Set f b v t p d z e x y = x ∙ sym y

-- and so the bytes are determined too
pub bytes_known : (w : ℕ) → 32 ≤ w → (k : Class) (rvc : Bool) (kind : ℕ) (r : Rule) → decision k rvc kind ≡ Store r → (b v : ℕ) → b < 256 ^ r.size → v < 256 ^ r.size
    → (t p d : ℕ) (z : ℤ) → Said w r.calculation r.field b t p d z → Said w r.calculation r.field v t p d z
    → outside (layout r.field) b ≡ outside (layout r.field) v → b ≡ v
bytes_known w h k rvc kind r e b v hb hv t p d z x y o =
    let f : Field = r.field in
    let size : 256 ^ r.size ≡ 2 ^ total (layout f) = ap (λ k. 256 ^ k) (store_bytes k rvc kind r e) ∙ sym (radix f) in
    determined f b v (rw size at hb) (rw size at hv) o (read_known w h r.calculation f b v t p d z (store_suits k rvc kind r e) x y)
