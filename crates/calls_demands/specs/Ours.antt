-- The two calls of this fitter. The contracts of `install`, `rollback` and the exported functions name them, and the demands are proved of
-- them: `Promised.ours_keep` is the claim.
use Rattle.journal_history.specs.Calls.{InstallCall, RollbackCall, install, rollback}
use Rattle.calls_judgement.specs.Judgement.{judgement}

abbrev pub our_install : InstallCall
our_install = install judgement

abbrev pub our_rollback : RollbackCall
our_rollback = rollback
