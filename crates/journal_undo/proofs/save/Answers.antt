-- `journal_undo::save` meets its contract.
use Rattle.journal_history.specs.Writes.{saving, saved}
use Rattle.plan_pieces.specs.Plans.{overwritten}
use Rattle.journal_undo.proofs.save.Goals as goal

pub returns : goal.returns
unfolding saved saving overwritten
returns c = cc
