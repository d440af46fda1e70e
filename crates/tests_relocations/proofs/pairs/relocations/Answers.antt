-- `tests_relocations::pairs::relocations` is safe and ends: an answer that is done stands for a plan, which is given only where every check passes.
use mathlib.Core.Path.{sym}
use Rattle.elf_check.specs.Rules.{max_relocations}
use Rattle.elf_check.proofs.Laws.Objects.{sound_object}
use Rattle.elf_check.proofs.Laws.Bounds.{relocations_few}
use Rattle.calls_judgement.proofs.Laws.Judgement.{done_fits}
use Rattle.calls_judgement.proofs.Laws.Laying.{is_sound, is_placed}
use Rattle.calls_judge.proofs.Laws.Scratch.{lent}
use native.Mathlib.Omega.{arith}
use Rattle.tests_relocations.proofs.pairs.relocations.Goals as goal

pub judge_relocations-requires : goal.judge_relocations-requires
judge_relocations-requires g c =
    let r = c.requires.0.named.readable in
    (c.requires.0, c.requires.1, c.requires.2, lent c.args.object.now max_relocations (relocations_few _ (sound_object _ r.header r.sections)) (omega arith))

pub passed-requires : goal.passed-requires
passed-requires g c =
    let a = c.args in
    let done = c.in-Ok.ensures in
    let f = done_fits a.object.now a.order.now.bytes.now a.len _ done.0 c.requires.0.named.readable.reading_is in
    let same = sym done.1.addresses_are in
    record { sound = is_sound a.object.now a.order.now.bytes.now _ _ f; placed = rw same at (is_placed a.object.now a.order.now.bytes.now _ _ f); passed = rw same at f.relocations; worked = done.1.worked }
