-- `instructions_table::cj_field` meets its contract: the prover computes the test over the whole table.
use mathlib.Core.Path.{refl}
use mathlib.Core.List.{List}
use Prim.Native.Nat.{ℕ}
use Rattle.numbers_definitions.specs.Whole.{residue}
use Rattle.instructions_fields.specs.Layouts.{put}
use Rattle.instructions_table.proofs.Laws.Table.{every}
use Rattle.instructions_table.proofs.Laws.Jumps.{right, entry}
use Rattle.instructions_table.proofs.cj_field.Reads as reads
use Rattle.instructions_table.proofs.cj_field.Lts as lts
use Rattle.instructions_table.proofs.cj_field.Goals as goal

pub returns : goal.returns
unfolding every right residue put
returns c =
    -- the table, as the function has it in its frame
    let table : List ℕ = (lts.m5 reads.Pre reads.Post c.before.before c.result-1.given).1.1.0.now in
    entry table refl c.args.half c.requires
