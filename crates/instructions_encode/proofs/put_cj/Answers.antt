-- `instructions_encode::put_cj` meets its contract, by the law of the table.
use mathlib.Core.Path.{◌≡◌}
use Prim.Native.Nat.{ℕ, ◌+◌, ◌*◌, ◌/◌, ◌%◌}
use native.Mathlib.Nat.{div-div-eq-div-mul}
use native.Mathlib.Omega.{arith}
use Rattle.instructions_fields.specs.Layouts.{format_cj, outside}
use Rattle.instructions_table.proofs.Laws.Jumps.{put_by_table}
use Rattle.instructions_encode.proofs.put_cj.Goals as goal

-- the bits that are kept
kept : (w : ℕ) → outside format_cj w ≡ w % 4 + w / 0x2000 % 8 * 0x2000
unfolding outside
kept w = simp div-div-eq-div-mul (omega arith)

pub returns : goal.returns
returns c =
    let a = c.args in
    omega (arith, c.cj_field.ensures, kept a.word, put_by_table a.word a.value)
