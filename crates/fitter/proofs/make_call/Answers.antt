-- `fitter::make_call` meets its contract.
use Rattle.journal_history.specs.Calls.{calling}
use Rattle.fitter.proofs.make_call.Goals as goal

pub returns-in-Fit : goal.returns-in-Fit
unfolding calling
returns-in-Fit c = rw c.in-Fit.is c.aktinoph_fit.ensures

pub returns-in-TakeBack : goal.returns-in-TakeBack
unfolding calling
returns-in-TakeBack c = rw c.in-TakeBack.is c.aktinoph_take_back.ensures
