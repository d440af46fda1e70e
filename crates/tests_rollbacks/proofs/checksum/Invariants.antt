-- `tests_rollbacks::checksum` meets its contract.
use Prim.Native.Nat.{◌^◌, ◌<◌}
use Rattle.tests_rollbacks.proofs.checksum.Given as goal

abbrev pub invariant-loop-b : goal.invariant-loop-b
invariant-loop-b l = l.sum < 2 ^ 32
