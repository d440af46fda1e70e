-- Demand 3 for a list of calls that was run. The contract of the exported replay states it beside the equation.
use Rattle.std.specs.Prelude.{◌≡◌, List, ℕ, take}
use Rattle.plan_pieces.specs.Answers.{Answer}
use Rattle.journal_history.specs.Calls.{Files}
use Rattle.calls_replay.specs.Lists.{call_count, calls_of}
use Rattle.calls_replay.specs.Replays.{codes}
use Rattle.calls_demands.specs.Demands.{AnyList, AfterCalls}
use Rattle.calls_demands.specs.Ours.{our_install, our_rollback}

-- The first places hold the codes of the answers in order, and demand 3 holds for these answers and for what is left.
pub record Demand3Of (calls : List ℕ) (start : Files) (places : List ℕ) (left : Files) : Type 0 where
  pub got : List Answer
  pub in_order : take (call_count calls) places ≡ codes got
  pub after_calls : AfterCalls our_install our_rollback AnyList start (calls_of calls) got left
