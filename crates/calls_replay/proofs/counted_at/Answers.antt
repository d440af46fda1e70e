-- `calls_replay::counted_at` meets its contract.
use mathlib.Core.Path.{◌≡◌, ap, ◌∙◌}
use Prim.Native.Nat.{◌+◌, ◌-◌}
use native.Mathlib.Omega.{arith}
use Rattle.numbers_definitions.specs.Bytes.{part}
use Rattle.calls_replay.proofs.counted_at.Goals as goal

pub returns : goal.returns
unfolding part
returns c =
    let a = c.args in
    let size : a.at + 4 + c.read-size.result - (a.at + 4) ≡ c.read-size.result = omega arith in
    (ap (part a.calls.now (a.at + 4)) (size ∙ c.read-size.ensures), omega (arith, c.read-size.ensures), omega arith)
