-- A list of calls, made one after the other: "It gives 1 where the list was run, with the answers' codes in its first places in order, and 0
-- where it was not (malformed, or fewer places than calls), with nothing changed."
use Rattle.std.specs.Prelude.{ℕ, cond, ◌&&◌, List, [], ◌∷◌, length, leb}
use Rattle.std.proofs.lemmas.List.Edits.{sets}
use Rattle.plan_pieces.specs.Answers.{Answer, packed}
use Rattle.journal_history.specs.Calls.{Files, InstallCall, RollbackCall, calling, answers, run}
use Rattle.calls_replay.specs.Lists.{call_count, is_list, calls_of}

-- what a replay gives, and leaves in the lent answers, the image and the journal
pub record Replay : Type 0 where
  pub ran : ℕ
  pub answers : List ℕ
  pub after : Files

-- the codes of answers
unfoldable pub codes : List Answer → List ℕ
codes [] = []
codes (a ∷ rest) = packed a ∷ codes rest

-- The calls that the bytes s list, made by this install and this rollback. `room` is the lent places for the answers.
unfoldable pub replay : InstallCall → RollbackCall → List ℕ → List ℕ → Files → Replay
replay installs rollsBack s room f =
    cond (is_list s && leb (call_count s) (length room))
    (record {
      ran = 1;
      answers = sets room 0 (codes (answers (calling installs rollsBack) f (calls_of s)));
      after = run (calling installs rollsBack) f (calls_of s);
    })
    (record { ran = 0; answers = room; after = f })
