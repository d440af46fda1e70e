-- `instructions_riscv::halves::lo12` meets its contract.
use mathlib.Core.Path.{◌≡◌, sym}
use Prim.Native.Nat.{ℕ, ◌%◌}
use Rattle.numbers_definitions.specs.declared.Class.{Class}
use Rattle.numbers_definitions.specs.declared.Class.TheVariants.{Elf32, Elf64}
use Rattle.numbers_definitions.specs.Classes.{bits}
use Rattle.numbers_definitions.specs.Whole.{residue}
use Rattle.instructions_riscv.specs.Halves.{low}
use Rattle.instructions_riscv.proofs.Laws.Halves.{low_bits}
use Rattle.instructions_riscv.proofs.halves.lo12.Goals as goal

twelve : (k : Class) (x : ℕ) → x % 4096 ≡ residue 12 (low (bits k) x)
twelve Elf32 x = sym (low_bits 20 x)
twelve Elf64 x = sym (low_bits 52 x)

pub returns : goal.returns
returns c = λ k. twelve k c.args.x
