-- `calls_lay::lay` meets its contract.
use Prim.Native.Nat.{◌≤◌}
use native.Mathlib.Omega.{arith}
use Rattle.elf_read.specs.Headers.{section_count, max_sections}
use Rattle.relocations_apply.proofs.Laws.Relas.{blank, nothing_at}
use Rattle.calls_judgement.proofs.Laws.Laying.{is_sound}
use Rattle.calls_lay.proofs.lay.Goals as goal

pub index_relas-requires : goal.index_relas-requires
index_relas-requires c =
    let f = is_sound _ _ _ _ c.requires.0 in
    (f, blank c.args.object.now max_sections f.table.few, nothing_at max_sections)

pub invariant_of-laying : goal.invariant_of-laying
invariant_of-laying c =
    let few : section_count c.args.object.now ≤ max_sections = (is_sound _ _ _ _ c.requires.0).table.few in
    record {
      addresses_are = c.requires.1;
      worked = c.requires.2;
      long = omega (arith, few);
      indexed = c.index_relas.ensures;
    }
