-- `relocations_values::highs::gather` meets its contract.
use mathlib.Core.Path.{sym, ◌∙◌}
use Prim.Native.Nat.{◌<◌}
use native.Mathlib.Omega.{arith}
use lib.ListN.{length, length-set}
use Rattle.relocations_decisions.proofs.Laws.Decisions.{pair_type}
use Rattle.relocations_values.proofs.Laws.Highs.{read_passed, read_more}
use Rattle.relocations_values.proofs.highs.gather.Goals as goal
use Rattle.relocations_values.proofs.highs.gather.Goals.{then-is_pairing, else-is_pairing}

pub loop-k-preserved : goal.loop-k-preserved
loop-k-preserved c =
    elim c.if-is_pairing.branch [
      | then-is_pairing w ↦
          let room : c.loop-k.m < length c.loop-k.highs = omega (arith, c.loop-k.invariant.1.fits) in
          rw (w.highs-is, w.m-is, w.last-is, w.falls-is) (
            simp length-set c.loop-k.invariant.0,
            read_more _ _ _ _ _ _ _ c.loop-k.invariant.1 _ c.read_kind.ensures _ (c.is_pairing.ensures ∙ sym (pair_type _ _ _)) w.if-is_pairing.true room _ w.read_offset-offset.ensures,
          )
      | else-is_pairing w ↦
          rw (w.highs-is, w.m-is, w.last-is, w.falls-is)
          (c.loop-k.invariant.0, read_passed _ _ _ _ _ _ _ c.loop-k.invariant.1 _ c.read_kind.ensures _ (c.is_pairing.ensures ∙ sym (pair_type _ _ _)) w.if-is_pairing.false)
    ]
