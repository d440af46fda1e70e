-- `tests_relocations::pairs::lay` is safe and ends.
use Prim.Native.Nat.{◌≤◌}
use native.Mathlib.Omega.{arith}
use lib.ListN.{length}
use Rattle.elf_read.specs.Headers.{section_count, max_sections}
use Rattle.relocations_apply.proofs.Laws.Relas.{blank, nothing_at}
use Rattle.tests_relocations.proofs.pairs.lay.Goals as goal

pub index_relas-requires : goal.index_relas-requires
index_relas-requires g c =
    let f = c.requires.0.sound in
    (f, blank c.args.object.now max_sections f.table.few, nothing_at max_sections)

pub lay_section-requires : goal.lay_section-requires
lay_section-requires g c =
    let f = c.requires.0 in
    let few : section_count c.args.object.now ≤ max_sections = f.sound.table.few in
    let long : section_count c.args.object.now ≤ length c.args.array = omega (arith, few) in
    (f.sound, f.placed, f.passed, f.worked, c.requires.1, c.requires.2, c.requires.3, long, c.index_relas.ensures)
