-- `numbers_arithmetic::sum` meets its contract.
use Rattle.std.proofs.Common.{◌≡◌, ℕ, ◌+◌, ◌%◌, ◌^◌, ap, ◌∙◌, arith}
use Rattle.numbers_definitions.specs.declared.Class.{Class}
use Rattle.numbers_definitions.specs.declared.Class.TheVariants.{Elf32, Elf64}
use Rattle.numbers_definitions.specs.Classes.{bits}
use Rattle.numbers_definitions.specs.Whole.{plus}
use Rattle.numbers_arithmetic.proofs.sum.Goals as goal

narrowed : (k : Class) (n : ℕ) → n % 2 ^ 64 % 2 ^ bits k ≡ n % 2 ^ bits k
narrowed Elf32 n = omega arith
narrowed Elf64 n = omega arith

pub returns : goal.returns
unfolding plus
returns c =
    let a = c.args in
    c.reduce.ensures ∙ ap (λ n. n % 2 ^ bits a.class) c.add64.ensures ∙ narrowed a.class (a.a + a.b)
