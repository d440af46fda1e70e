-- `relocations_apply::store_one` meets its contract.
use mathlib.Core.Path.{sym, ap}
use lib.ListN.{get_or}
use lib.Seq.{sets}
use Rattle.numbers_definitions.specs.Bytes.{bytes}
use Rattle.relocations_rela.specs.Sites.{offset}
use Rattle.relocations_apply.proofs.store_one.Goals as goal

pub returns-then-size-eq0 : goal.returns-then-size-eq0
unfolding bytes
returns-then-size-eq0 c =
    let a = c.args in
    sym (ap (λ n. sets a.part.now (offset a.object.now a.site a.j) (bytes n (get_or a.words.now a.k 0))) c.if-size-eq0.true)
