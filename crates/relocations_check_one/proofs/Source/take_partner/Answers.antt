-- `relocations_check_one::Source::take_partner` meets its contract.
use mathlib.Core.Path.{refl, sym, ◌∙◌}
use Rattle.placing_symbols.specs.Arrays.{listed}
use Rattle.relocations_check_one.proofs.Laws.Outcomes.{plain_takes}
use Rattle.relocations_check_one.proofs.Source.take_partner.Goals as goal

pub returns : goal.returns
returns c =
    let a = c.args in
    let f = c.requires in
    (plain_takes (listed a.self.now.values.now a.self.now.states.now) a.self.now.object.now a.site a.j a.rule a.here f.0 f.2 (sym c.takes_pair.ensures ∙ c.if-takes_pair.false) 0, (f.1, refl))
