-- `relocations_check_one::found_bytes` meets its contract.
use mathlib.Core.Path.{ap, ◌∙◌}
use Rattle.numbers_definitions.specs.Bytes.{le_at}
use Rattle.relocations_decisions.specs.Decisions.{touched}
use Rattle.relocations_decisions.proofs.Laws.Decisions.{store_width}
use Rattle.relocations_rela.proofs.Laws.Sites.{store_inside}
use Rattle.relocations_rela.proofs.Laws.Shape.{shape_inside}
use Rattle.relocations_check_one.proofs.found_bytes.Goals as goal

pub read_bytes-requires : goal.read_bytes-requires
read_bytes-requires c =
    let a = c.args in
    let f = c.requires in
    let inside = store_inside a.object.now a.site a.j f.there.site (shape_inside _ _ _ f.shape) _ (ap touched f.decided) in
    (rw (c.section_bytes-bytes.ensures, f.read) inside, store_width _ _ _ _ f.decided)

pub returns : goal.returns
returns c =
    c.read_bytes.ensures ∙ ap (λ l. le_at c.args.rule.size l c.args.here.offset.0) c.section_bytes-bytes.ensures
