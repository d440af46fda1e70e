-- What inner functions ask of their callers, and what a loop over the calls keeps.
use Rattle.std.specs.Prelude.{◌≡◌, true, List, ℕ, ◌+◌, ◌≤◌, length}
use Rattle.numbers_definitions.specs.First.{tabulate}
use Rattle.journal_history.specs.Calls
use Rattle.journal_history.specs.Calls.{Files, Install, Rollback, InstallCall, RollbackCall, calling, answers, run}
use Rattle.calls_replay.specs.declared.Call.{Call}
use Rattle.calls_replay.specs.declared.Call.TheVariants.{Fit, TakeBack}
use Rattle.calls_replay.specs.Lists.{FIT, kind_at, call_end, is_call, call_at, call_start}
use Rattle.calls_replay.specs.Replays.{codes}

-- the bytes have a kind at a place, and it is that of a fit
pub record IsFit (s : List ℕ) (at : ℕ) : Type 0 where
  pub inside : at + 4 ≤ length s
  pub is_fit : kind_at s at ≡ FIT

-- a call that was read, with what its bytes are
abbrev pub the_call : Call → Calls.Call
the_call (Fit object order) = Install object.now order.now
the_call TakeBack = Rollback

-- at a place stands this call, wholly inside the bytes, and ends there
pub record Read (s : List ℕ) (at : ℕ) (call : Call) (end : ℕ) : Type 0 where
  pub stands : is_call s at ≡ true
  pub is : the_call call ≡ call_at s at
  pub ends : end ≡ call_end s at

-- the first i calls of a list
abbrev pub first_calls : List ℕ → ℕ → List Calls.Call
first_calls s i = tabulate (λ j. call_at s (call_start s j)) i

-- what they leave, and the codes of their answers
abbrev pub left_by : InstallCall → RollbackCall → List ℕ → Files → ℕ → Files
left_by installs rollsBack s f i = run (calling installs rollsBack) f (first_calls s i)

abbrev pub codes_of : InstallCall → RollbackCall → List ℕ → Files → ℕ → List ℕ
codes_of installs rollsBack s f i = codes (answers (calling installs rollsBack) f (first_calls s i))
