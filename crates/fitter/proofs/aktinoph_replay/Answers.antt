-- `fitter::aktinoph_replay` meets its contract.
use mathlib.Core.Path.{sym, ◌∙◌}
use native.Mathlib.Omega.{arith}
use Rattle.calls_replay.specs.Lists.{call_count, is_list}
use Rattle.calls_replay.proofs.Laws.Replays.{not_run}
use Rattle.calls_demands.specs.Ours.{our_install, our_rollback}
use Rattle.fitter.proofs.Laws.Replayed.{malformed_is, listed_is, replay_holds}
use Rattle.fitter.proofs.aktinoph_replay.Goals as goal

pub replay_list-requires : goal.replay_list-requires
replay_list-requires c =
    let s = c.args.calls.now in
    listed_is (is_list s) (call_count s) _ (sym c.read_list.ensures ∙ c.in-Some.is)

pub returns-in-None : goal.returns-in-None
returns-in-None c =
    let a = c.args in
    let s = a.calls.now in
    record {
      ledger_after =
          not_run our_install our_rollback s a.answers.now (record { image = a.image.now; journal = a.ledger.now })
          (malformed_is (is_list s) (call_count s) (sym c.read_list.ensures ∙ c.in-None.is));
      demand3of = λ e. absurd (omega (arith, e));
    }

pub returns-in-Some : goal.returns-in-Some
returns-in-Some c =
    let a = c.args in
    record {
      ledger_after = c.replay_list.ensures;
      demand3of = λ e start. replay_holds a.calls.now a.answers.now (record { image = a.image.now; journal = a.ledger.now }) start _ _ _ c.replay_list.ensures e;
    }
