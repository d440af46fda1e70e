-- The fewest digits are the decimal.
use Rattle.std.proofs.Common.{List, ℕ, ◌≤◌, ◌++◌, ap, ◌∙◌}
use Rattle.program_text.specs.Lines.{decimal}
use Rattle.program_text.proofs.Laws.Lines.{digits_decimal, fewest_most}
use Rattle.program_text.proofs.Text.push_decimal.Goals as goal

pub returns-clause-new : goal.returns-clause-new
unfolding decimal
returns-clause-new g c =
    let few : c.decimal-k.result ≤ 20 = fewest_most c.args.n c.decimal-k.result c.ranges.n.fits c.decimal-k.ensures.len in
    c.push.ensures
    ∙ ap (λ (l : List ℕ). c.args.self.now ++ l) (c.decimal-k.ensures.digits ∙ digits_decimal 20 c.decimal-k.result c.args.n few c.decimal-k.ensures.len)
