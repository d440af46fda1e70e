-- `calls_judge::judge_with` meets its contract.
use native.Mathlib.Omega.{arith}
use Rattle.placing_symbols.proofs.Laws.Arrays.{blank}
use Rattle.calls_judge.proofs.judge_with.Goals as goal

pub judge_by_values-requires : goal.judge_by_values-requires
judge_by_values-requires g c =
    let f = c.requires in
    (f.0, f.1, f.2, f.3, blank c.args.object.now g.row.N f.4 (omega (arith, f.3.count, f.6)), f.7)
