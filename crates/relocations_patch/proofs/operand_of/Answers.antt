-- `relocations_patch::operand_of` meets its contract.
use mathlib.Core.Path.{◌≡◌, refl, sym, ap, ◌∙◌}
use mathlib.Core.Bool.{true}
use Prim.Native.Nat.{ℕ, ◌%◌, ◌^◌, ◌<◌}
use native.Mathlib.Nat.{mod-mod}
use native.Mathlib.Omega.{arith}
use Rattle.numbers_definitions.specs.declared.Class.{Class}
use Rattle.numbers_definitions.specs.Classes.{bits}
use Rattle.numbers_definitions.specs.Whole.{residue, signed, minus}
use Rattle.numbers_definitions.proofs.Laws.Whole.{minus_mod, residue_lt}
use Rattle.numbers_definitions.proofs.Laws.Tests.{never}
use Rattle.relocations_types.specs.declared.Operand.{Operand}
use Rattle.relocations_types.specs.declared.Operand.TheVariants.{Absolute, PcRelative, Paired}
use Rattle.relocations_decisions.specs.Decisions.{is_paired}
use Rattle.relocations_bytes.specs.Patches.{operand_of}
use Rattle.relocations_patch.proofs.Laws.Regular.{cut}
use Rattle.relocations_patch.proofs.operand_of.Goals as goal

-- a difference from S + A is one from T
from_target : (k : Class) (x p : ℕ) → x < 2 ^ 64 → minus (bits k) x p ≡ minus (bits k) (residue (bits k) (signed 64 x)) p
from_target k x p h = minus_mod (bits k) x p (residue (bits k) (signed 64 x)) p (sym (mod-mod x (2 ^ bits k)) ∙ ap (λ n. n % 2 ^ bits k) (cut k x h)) refl

-- a paired operand is that of the high half
paired : (w : ℕ) (o : Operand) (t p d : ℕ) → is_paired o ≡ true → d ≡ operand_of w o t p d
paired w Absolute t p d is = never is
paired w PcRelative t p d is = never is
paired w Paired t p d is = refl

pub returns-then-is_paired : goal.returns-then-is_paired
returns-then-is_paired c =
    let a = c.args in
    paired (bits a.class) a.operand _ a.p.0 a.d (sym c.is_paired.ensures ∙ c.if-is_paired.true)

pub returns-else-is_paired : goal.returns-else-is_paired
returns-else-is_paired c =
    let a = c.args in
    c.difference-v.ensures
    ∙ from_target a.class a.x c.origin.result (omega arith)
    ∙ c.origin.ensures (bits a.class) (residue (bits a.class) (signed 64 a.x)) a.d (residue_lt (bits a.class) (signed 64 a.x)) (sym c.is_paired.ensures ∙ c.if-is_paired.false)
