-- `fitter::make_calls` meets its contract.
use mathlib.Core.Path.{◌≡◌}
use lib.ListN.{length}
use lib.Seq.{sets}
use Rattle.calls_replay.specs.Lists.{call_start}
use Rattle.calls_replay.specs.Requires.{left_by, codes_of}
use Rattle.calls_demands.specs.Ours.{our_install, our_rollback}
use Rattle.fitter.proofs.make_calls.Given as goal

abbrev pub invariant-loop-i : goal.invariant-loop-i
invariant-loop-i l =
    (l.at ≡ call_start l.calls l.i)
    × (record { image = l.image; journal = l.ledger } ≡ left_by our_install our_rollback l.calls (record { image = l.initial.image; journal = l.initial.ledger }) l.i)
    × (l.answers ≡ sets l.initial.answers 0 (codes_of our_install our_rollback l.calls (record { image = l.initial.image; journal = l.initial.ledger }) l.i))
    × (length l.image ≡ length l.initial.image)
    × (length l.ledger ≡ length l.initial.ledger)
