-- `tests_placings::pairs::passed` is safe and ends.
use native.Mathlib.Omega.{arith}
use Rattle.elf_check.specs.Rules.{max_symbols}
use Rattle.elf_check.proofs.Laws.Bounds.{symbols_few}
use Rattle.placing_symbols.proofs.Laws.Arrays.{blank}
use Rattle.tests_placings.proofs.pairs.passed.Goals as goal

pub symbol_values-known-requires : goal.symbol_values-known-requires
symbol_values-known-requires g c =
    (c.requires.0, c.requires.1, c.symbols_of-symbols.ensures, blank c.args.object.now max_symbols (omega arith) (symbols_few c.args.object.now c.requires.0))

pub addresses-requires : goal.addresses-requires
addresses-requires g c = omega (arith, c.section_count.ensures, c.requires.0.table.few)

pub values-requires : goal.values-requires
values-requires g c =
    (c.symbol_values-known.ensures.1.long.arrays, omega (arith, c.symbols_of-symbols.ensures.count, symbols_few c.args.object.now c.requires.0))
