-- `relocations_patch::high_part` meets its contract.
use mathlib.Core.Path.{ap}
use Prim.Native.Nat.{ℕ, ◌*◌, ◌^◌, ◌<◌}
use native.Mathlib.Omega.{arith}
use Rattle.numbers_definitions.specs.declared.Class.{Class}
use Rattle.numbers_definitions.specs.declared.Class.TheVariants.{Elf32, Elf64}
use Rattle.numbers_definitions.specs.Classes.{bits}
use Rattle.instructions_riscv.specs.Halves.{high}
use Rattle.relocations_patch.proofs.high_part.Goals as goal

few : (k : Class) (x : ℕ) → high (bits k) x < 2 ^ 52
unfolding high
few Elf32 x = omega arith
few Elf64 x = omega arith

pub overflow_mul-result : goal.overflow_mul-result
overflow_mul-result c =
    omega (arith, c.hi20.ensures, few c.args.class c.args.x)

pub returns : goal.returns
returns c =
    (ap (λ h. 4096 * h) c.hi20.ensures, omega (arith, c.hi20.ensures, few c.args.class c.args.x))
