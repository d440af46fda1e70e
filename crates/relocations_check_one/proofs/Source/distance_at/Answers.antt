-- `relocations_check_one::Source::distance_at` meets its contract.
use mathlib.Core.Path.{◌∙◌}
use Rattle.elf_read.proofs.Laws.Headers.{header_there}
use Rattle.placing_symbols.specs.Arrays.{listed}
use Rattle.relocations_check_one.proofs.Laws.Outcomes.{distance_read}
use Rattle.relocations_check_one.proofs.Source.distance_at.Goals as goal

pub class_of-class-requires : goal.class_of-class-requires
class_of-class-requires c = header_there _ c.requires.site.header

pub returns : goal.returns
returns c =
    let a = c.args in
    rw c.class_of-class.ensures at c.difference.ensures
    ∙ distance_read (listed a.self.now.values.now a.self.now.states.now) a.self.now.object.now a.site a.k _ _ _ _ c.read_relocation-high.ensures c.value_at-value.ensures
    c.symbol_sum-x.ensures c.place_of-p.ensures
