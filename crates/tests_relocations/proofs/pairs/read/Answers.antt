-- `tests_relocations::pairs::read` is safe and ends: an object that passes check 4 has a header.
use Rattle.std.specs.Prelude.{None, MatchOption}
use mathlib.Core.Path.{◌≡◌, ◌∙◌, subst}
use Rattle.elf_read.proofs.Laws.Headers.{header_there}
use Rattle.elf_header.proofs.Laws.Headers.{header_long}
use Rattle.order_format.specs.Orders.{reading}
use Rattle.tests_relocations.proofs.pairs.read.Goals as goal

pub class_of-requires : goal.class_of-requires
class_of-requires g c = header_there _ (header_long _ c.requires)

pub judged-requires : goal.judged-requires
judged-requires g c =
    let told = subst (λ r. MatchOption r (reading c.class_of.result c.args.order.now ≡ None) (λ o. (o.class ≡ c.class_of.result) × (o.bytes.now ≡ c.args.order.now))) c.in-Some.is c.read.ensures in
    (c.requires, told.0 ∙ c.class_of.ensures)
