-- `journal_format::read_entry` meets its contract.
use Rattle.journal_format.specs.Journals.{entry}
use Rattle.journal_format.proofs.read_entry.Goals as goal

pub returns : goal.returns
unfolding entry
returns c = cc
