-- `elf_check::Sections::is_relocation_well` meets its contract.
use mathlib.Core.Path.{◌≡◌, sym, ap, ◌∙◌}
use mathlib.Core.Bool.{true, false}
use Rattle.elf_read.specs.Sections.{section_at, targets}
use Rattle.elf_read.proofs.Laws.Sections.{allocated_there}
use Rattle.elf_check.proofs.Laws.Tables.{well_untargeted, broken_rel, well_other, well_rela}
use Rattle.elf_check.proofs.Laws.Targets.{rela_counts}
use Rattle.elf_check.proofs.Sections.is_relocation_well.Goals as goal

pub returns-then-not-has_target : goal.returns-then-not-has_target
returns-then-not-has_target c =
    let s = c.args.self.now.object.now in
    let i = c.args.i in
    let t : targets s (section_at s i) ≡ false = sym (ap (targets s) c.read_section-h.ensures) ∙ sym c.has_target.ensures ∙ c.if-not-has_target.true in
    sym (well_untargeted s i t)

pub returns-then-h-eq-REL : goal.returns-then-h-eq-REL
returns-then-h-eq-REL c =
    let s = c.args.self.now.object.now in
    let i = c.args.i in
    let t : targets s (section_at s i) ≡ true = sym (ap (targets s) c.read_section-h.ensures) ∙ sym c.has_target.ensures ∙ c.if-not-has_target.false in
    sym (broken_rel s i t (sym (ap (λ h. h.kind) c.read_section-h.ensures) ∙ c.if-h-eq-REL.true))

pub returns-then-h-ne-RELA : goal.returns-then-h-ne-RELA
returns-then-h-ne-RELA c =
    let s = c.args.self.now.object.now in
    let i = c.args.i in
    sym (well_other s i (λ e. c.if-h-eq-REL.false (ap (λ h. h.kind) c.read_section-h.ensures ∙ e)) (λ e. c.if-h-ne-RELA.true (ap (λ h. h.kind) c.read_section-h.ensures ∙ e)))

pub is_rela_kept-requires : goal.is_rela_kept-requires
is_rela_kept-requires c =
    let s = c.args.self.now.object.now in
    let i = c.args.i in
    let t : targets s (section_at s i) ≡ true = sym (ap (targets s) c.read_section-h.ensures) ∙ sym c.has_target.ensures ∙ c.if-not-has_target.false in
    (record { table = c.args.self.now.inside; there = c.requires; target = allocated_there s (section_at s i).info t }, rela_counts s i (sym (ap (λ h. h.kind) c.read_section-h.ensures) ∙ c.if-h-ne-RELA.false) t)

pub returns : goal.returns
returns c =
    let s = c.args.self.now.object.now in
    let i = c.args.i in
    let t : targets s (section_at s i) ≡ true = sym (ap (targets s) c.read_section-h.ensures) ∙ sym c.has_target.ensures ∙ c.if-not-has_target.false in
    c.is_rela_kept.ensures ∙ sym (well_rela s i t (sym (ap (λ h. h.kind) c.read_section-h.ensures) ∙ c.if-h-ne-RELA.false))
