-- `placing_symbols::value_at` meets its contract.
use Rattle.std.specs.Prelude.{Ok, Err}
use native.Mathlib.Omega.{arith}
use borrow.Author.Tests.{lt-ltb, le-ltb}
use Rattle.std.proofs.lemmas.List.{get_or_default}
use Rattle.std.proofs.lemmas.Result.{err_from_is_err_and}
use Rattle.placing_symbols.specs.declared.Reason.TheVariants.{PastTable}
use Rattle.placing_symbols.specs.Arrays.{listed}
use Rattle.placing_symbols.proofs.value_at.Goals as goal

pub returns-then-states-at : goal.returns-then-states-at
unfolding listed
returns-then-states-at c = rw (le-ltb _ _ c.if-states-at.true)

pub returns-in_err-states : goal.returns-in_err-states
unfolding listed
returns-in_err-states c =
    let p = err_from_is_err_and c.from_residual.result c.from_residual.ensures.1 in
    rw (p.1, p.2, lt-ltb _ _ c.if-states-at.false, get_or_default c.args.states.now c.args.k (Err PastTable) (Ok tt) (omega arith), c.in_err-states.was)

pub returns : goal.returns
unfolding listed
returns c = rw (lt-ltb _ _ c.if-states-at.false, get_or_default c.args.states.now c.args.k (Err PastTable) (Ok tt) (omega arith), c.in_ok-states.was)
