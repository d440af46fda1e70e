-- `relocations_apply::copy` meets its contract.
use mathlib.Core.Path.{◌∙◌}
use Rattle.numbers_bytes.proofs.Laws.Copies.{copied_whole}
use Rattle.relocations_apply.proofs.copy.Goals as goal

pub returns : goal.returns
returns c =
    c.copy.ensures ∙ copied_whole c.args.part.now c.args.from.now c.requires
