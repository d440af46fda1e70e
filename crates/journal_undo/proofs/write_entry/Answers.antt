-- `journal_undo::write_entry` meets its contract.
use mathlib.Core.Path.{refl, sym, ap, ◌∙◌}
use Prim.Native.Nat.{ℕ, ◌+◌}
use mathlib.Core.List.{List}
use lib.Seq.{sets}
use Rattle.numbers_definitions.specs.Bytes.{bytes}
use Rattle.numbers_definitions.proofs.Laws.Lists.{sets_append}
use Rattle.numbers_definitions.proofs.Laws.Bytes.{length_bytes}
use Rattle.journal_format.specs.Journals.{number_size, entry_bytes}
use Rattle.journal_undo.proofs.write_entry.Goals as goal

pub returns : goal.returns
returns c =
    let at = c.entry_at-at.result in
    let span = c.args.span in
    let j = c.args.journal.now in
    c.write-2.ensures
    ∙ ap (λ (l : List ℕ). sets l (at + number_size) (bytes number_size span.size)) c.write.ensures
    ∙ sym (sets_append j at (bytes number_size span.start) (bytes number_size span.size) (at + number_size) (rw length_bytes refl))
    ∙ ap (λ (x : ℕ). sets j x (entry_bytes span)) c.entry_at-at.ensures
