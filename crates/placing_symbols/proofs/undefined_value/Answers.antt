-- `placing_symbols::undefined_value` meets its contract.
use mathlib.Core.Path.{sym, ◌∙◌}
use Rattle.placing_symbols.proofs.Laws.Values.{entry_given, entry_missing, entry_weak}
use Rattle.placing_symbols.proofs.undefined_value.Goals as goal

pub returns-then-symbol-ne-STB_WEAK : goal.returns-then-symbol-ne-STB_WEAK
returns-then-symbol-ne-STB_WEAK c object start e =
    sym (entry_missing object _ start _ e c.if-symbol-ne-STB_WEAK.true c.in-None.is)

pub returns-in-Some : goal.returns-in-Some
returns-in-Some c object start e = c.value_by_type.ensures ∙ sym (entry_given object _ start _ e _ c.in-Some.is)

pub returns-else-symbol-ne-STB_WEAK : goal.returns-else-symbol-ne-STB_WEAK
returns-else-symbol-ne-STB_WEAK c object start e =
    c.value_by_type-in-None.ensures ∙ sym (entry_weak object _ start _ e c.if-symbol-ne-STB_WEAK.false c.in-None.is)
