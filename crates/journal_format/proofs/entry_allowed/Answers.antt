-- `journal_format::entry_allowed` meets its contract.
use Rattle.journal_format.specs.Journals.{is_blank, ends_within}
use Rattle.journal_format.proofs.entry_allowed.Goals as goal

pub returns : goal.returns
unfolding is_blank ends_within
returns c = cc
