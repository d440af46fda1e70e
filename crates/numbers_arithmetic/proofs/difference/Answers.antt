-- `numbers_arithmetic::difference` meets its contract.
use Rattle.std.proofs.Common.{◌≡◌, ◌%◌, ◌^◌, ℤ, pos, ◌-ℤ◌, ap, ◌∙◌}
use Rattle.numbers_definitions.specs.declared.Class.{Class}
use Rattle.numbers_definitions.specs.declared.Class.TheVariants.{Elf32, Elf64}
use Rattle.numbers_definitions.specs.Classes.{bits}
use Rattle.numbers_definitions.specs.Whole.{residue, minus}
use Rattle.numbers_definitions.proofs.Laws.Whole.{residue_narrow}
use Rattle.numbers_arithmetic.proofs.difference.Goals as goal

narrowed : (k : Class) (z : ℤ) → residue 64 z % 2 ^ bits k ≡ residue (bits k) z
narrowed Elf32 z = residue_narrow 32 32 z
narrowed Elf64 z = residue_narrow 0 64 z

pub returns : goal.returns
unfolding minus
returns c =
    let a = c.args in
    c.reduce.ensures ∙ ap (λ n. n % 2 ^ bits a.class) c.sub64.ensures ∙ narrowed a.class (pos a.a -ℤ pos a.b)
