-- `relocations_check_one::Source::check_store` meets its contract.
use mathlib.Core.Path.{refl, sym, ◌∙◌}
use Rattle.placing_symbols.specs.Arrays.{listed}
use Rattle.relocations_check_one.proofs.Laws.Outcomes.{unresolved_breaks}
use Rattle.relocations_check_one.proofs.Source.check_store.Goals as goal

pub returns-in-Err : goal.returns-in-Err
returns-in-Err c =
    let a = c.args in
    (unresolved_breaks (listed a.self.now.values.now a.self.now.states.now) a.self.now.object.now a.site a.j a.rule a.here c.requires.0 _ (sym c.value_at-value.ensures ∙ c.in-Err.is), (c.requires.1, refl))
