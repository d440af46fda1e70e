-- `numbers_bytes::copy` meets its contract.
use mathlib.Core.Path.{◌≡◌, refl}
use Prim.Native.Nat.{◌+◌}
use native.Mathlib.Omega.{arith}
use lib.ListN.{get_or, length-set}
use Rattle.numbers_definitions.specs.Bytes.{part}
use Rattle.numbers_definitions.proofs.Laws.Lists.{sets_snoc, part_snoc, length_part}
use Rattle.numbers_bytes.proofs.copy.Goals as goal

pub loop-i-init : goal.loop-i-init
unfolding part
loop-i-init c = (refl, refl)

pub loop-i-preserved : goal.loop-i-preserved
loop-i-preserved c =
    let i = c.loop-i.i in
    let src = c.args.src.now in
    let from = c.args.from in (
      simp length-set c.loop-i.invariant.0,
      rw (c.loop-i.invariant.1, part_snoc src from i (omega arith)) (sets_snoc c.args.dst.now c.args.at (part src from i) (get_or src (from + i) 0) i (length_part src from i (omega arith))),
    )

pub returns : goal.returns
returns c =
    let e : c.loop-i.i ≡ c.args.n = omega arith in
    rw e at c.loop-i.invariant.1
