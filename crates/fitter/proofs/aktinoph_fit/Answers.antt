-- `fitter::aktinoph_fit` meets its contract.
use mathlib.Core.Path.{ap, ◌∙◌}
use Rattle.plan_pieces.specs.Answers.{packed}
use Rattle.fitter.proofs.aktinoph_fit.Goals as goal

pub returns : goal.returns
returns c =
    record {
      code_is = c.code_of.ensures ∙ ap (λ o. packed o.answer) c.install.ensures;
      left_is = ap (λ o. o.after) c.install.ensures;
    }
