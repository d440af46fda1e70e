-- `relocations_patch::origin` meets its contract.
use mathlib.Core.Logic.{⊎_elim}
use mathlib.Core.Path.{◌≡◌, sym, ap, ◌∙◌}
use Prim.Native.Nat.{ℕ, ◌%◌, ◌^◌, ◌<◌}
use native.Mathlib.Nat.{add-zero}
use Rattle.numbers_definitions.specs.Whole.{minus}
use Rattle.numbers_definitions.proofs.Laws.Whole.{minus_unique}
use Rattle.numbers_definitions.proofs.Laws.Tests.{never}
use Rattle.relocations_decisions.specs.Decisions.{is_paired}
use Rattle.relocations_bytes.specs.Patches.{operand_of}
use Rattle.relocations_patch.proofs.origin.Goals as goal

-- counted from 0, T is itself
from_zero : (w t : ℕ) → t < 2 ^ w → minus w t 0 ≡ t
from_zero w t h = sym (minus_unique w t 0 t h (ap (λ n. n % 2 ^ w) (add-zero t)))

pub returns-in-Absolute : goal.returns-in-Absolute
returns-in-Absolute c =
    let a = c.args in
    λ w t d h one.
    ⊎_elim (λ e. from_zero w t h ∙ sym (ap (λ o. operand_of w o t a.p.0 d) e)) (λ e. never (sym one ∙ ap is_paired e)) c.in-Absolute.is

pub returns-in-PcRelative : goal.returns-in-PcRelative
returns-in-PcRelative c =
    let a = c.args in
    λ w t d h one. sym (ap (λ o. operand_of w o t a.p.0 d) c.in-PcRelative.is)
