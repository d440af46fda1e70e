-- `fitter::replay_list` meets its contract.
use mathlib.Core.Path.{ap, ◌∙◌}
use native.Mathlib.Omega.{arith}
use lib.Seq.{sets}
use Rattle.journal_history.specs.Calls.{Files}
use Rattle.calls_replay.specs.Requires.{left_by, codes_of}
use Rattle.calls_replay.proofs.Laws.Replays.{no_places, ran}
use Rattle.calls_demands.specs.Ours.{our_install, our_rollback}
use Rattle.fitter.proofs.replay_list.Goals as goal

pub returns-then-answers-n : goal.returns-then-answers-n
returns-then-answers-n c =
    let a = c.args in
    no_places our_install our_rollback a.calls.now a.answers.now (record { image = a.image.now; journal = a.ledger.now }) (omega (arith, c.if-answers-n.true, c.requires.1))

pub make_calls-requires : goal.make_calls-requires
make_calls-requires c =
    (c.requires.0, c.requires.1, omega (arith, c.if-answers-n.false))

pub returns : goal.returns
returns c =
    let a = c.args in
    let s = a.calls.now in
    let files : Files = record { image = a.image.now; journal = a.ledger.now } in
    ran our_install our_rollback s a.answers.now files c.requires.0 (omega (arith, c.if-answers-n.false, c.requires.1)) _ _
    (c.make_calls.ensures.1 ∙ ap (λ n. sets a.answers.now 0 (codes_of our_install our_rollback s files n)) c.requires.1)
    (c.make_calls.ensures.0 ∙ ap (left_by our_install our_rollback s files) c.requires.1)
