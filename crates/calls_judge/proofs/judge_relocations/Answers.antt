-- `calls_judge::judge_relocations` meets its contract.
use native.Mathlib.Omega.{arith}
use Rattle.elf_check.proofs.Laws.Objects.{sound_object}
use Rattle.elf_check.proofs.Laws.Bounds.{symbols_few}
use Rattle.calls_judge.proofs.judge_relocations.Goals as goal

pub symbols_of-symbols-requires : goal.symbols_of-symbols-requires
symbols_of-symbols-requires c = let r = c.requires.0.named.readable in sound_object _ r.header r.sections

pub judge_with-requires : goal.judge_with-requires
judge_with-requires c =
    (c.requires.0, c.requires.1, c.requires.2, c.symbols_of-symbols.ensures, omega arith, omega arith, c.if-symbols-le-FEW_SYMBOLS.true, c.requires.3)

pub judge_with-requires-2 : goal.judge_with-requires-2
judge_with-requires-2 c =
    let r = c.requires.0.named.readable in
    (c.requires.0, c.requires.1, c.requires.2, c.symbols_of-symbols.ensures, omega arith, omega arith, omega (arith, c.symbols_of-symbols.ensures.count, symbols_few _ (sound_object _ r.header r.sections)), c.requires.3)
