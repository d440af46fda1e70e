-- Six pieces, each behind the one before.
use Rattle.plan_pieces.specs.Answers.{says_why}
use Rattle.program_text.proofs.Laws.Lines.{line_of}
use Rattle.program_text.proofs.answer_line.Goals as goal

pub returns : goal.returns
returns c =
    line_of
    (says_why c.args.number c.args.place c.args.reason)
    c.new-text.ensures
    c.push_decimal.ensures.new
    c.push.ensures
    c.push_decimal-2.ensures.new
    c.push-2.ensures
    c.push_decimal-3.ensures.new
    c.push-3.ensures
