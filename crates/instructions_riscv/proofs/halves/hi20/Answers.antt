-- `instructions_riscv::halves::hi20` meets its contract.
use mathlib.Core.Path.{◌≡◌, ap, ◌∙◌}
use Prim.Native.Nat.{ℕ, ◌/◌}
use native.Mathlib.Omega.{arith}
use Rattle.numbers_definitions.specs.declared.Class.{Class}
use Rattle.numbers_definitions.specs.declared.Class.TheVariants.{Elf32, Elf64}
use Rattle.numbers_definitions.specs.Classes.{bits}
use Rattle.numbers_definitions.specs.Whole.{plus}
use Rattle.instructions_riscv.specs.Halves.{high}
use Rattle.instructions_riscv.proofs.halves.hi20.Goals as goal

rounded : (k : Class) (x : ℕ) → plus (bits k) x 2048 / 4096 ≡ high (bits k) x
unfolding plus high
rounded Elf32 x = omega arith
rounded Elf64 x = omega arith

pub returns : goal.returns
returns c =
    ap (λ n. n / 4096) c.sum.ensures ∙ rounded c.args.class c.args.x
