-- `calls_replay::read_list` meets its contract.
use mathlib.Core.Path.{◌≡◌}
use mathlib.Core.Bool.{true}
use Prim.Native.Nat.{ℕ, ◌≤◌, ◌<◌}
use lib.ListN.{length}
use Rattle.calls_replay.specs.Lists.{is_call, call_start}
use Rattle.calls_replay.proofs.read_list.Given as goal

abbrev pub invariant-loop : goal.invariant-loop
invariant-loop l =
    (l.at ≡ call_start l.calls l.counter) × (l.at ≤ length l.calls) × ((j : ℕ) → j < l.counter → is_call l.calls (call_start l.calls j) ≡ true)
