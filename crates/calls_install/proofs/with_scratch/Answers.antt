-- `calls_install::with_scratch` meets its contract.
use Rattle.std.proofs.lemmas.Result.{err_from_is_err_and}
use Rattle.journal_history.proofs.Laws.Install.{refused_by}
use Rattle.calls_judgement.specs.Judgement.{judgement}
use Rattle.calls_judgement.proofs.Laws.Judgement.{done_fits}
use Rattle.calls_judge.proofs.Laws.Scratch.{lent}
use Rattle.calls_install.proofs.with_scratch.Goals as goal

pub judge_relocations-requires : goal.judge_relocations-requires
judge_relocations-requires g c = (c.requires.0, c.requires.1, c.requires.2, lent c.args.object.now g.row.N c.requires.3 c.requires.4)

pub returns-in_err-placed : goal.returns-in_err-placed
returns-in_err-placed g c =
    let a = c.args in
    let p = err_from_is_err_and c.from_residual.result c.from_residual.ensures.1 in
    rw (p.1, p.2) (refused_by judgement a.object.now a.order.now.bytes.now (record { image = a.image.now; journal = a.journal.now }) c.requires.5 _ c.in_err-placed.ensures)

pub fit-requires : goal.fit-requires
fit-requires g c =
    let a = c.args in
    let done = c.in_ok-placed.ensures in
    (done_fits a.object.now a.order.now.bytes.now _ _ done.0 c.requires.0.named.readable.reading_is, done.1, c.requires.5)
