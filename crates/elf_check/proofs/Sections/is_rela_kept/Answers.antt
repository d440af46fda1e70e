-- `elf_check::Sections::is_rela_kept` meets its contract.
use Rattle.elf_check.specs.Rules.{rela_kept}
use Rattle.elf_check.specs.Requires.{target_new}
use Rattle.elf_check.proofs.Sections.is_rela_kept.Goals as goal

pub returns : goal.returns
unfolding rela_kept target_new
returns c =
    rw (c.is_number_kept.ensures, c.is_target_new.ensures, c.is_loaded.ensures, c.section_count.ensures, c.relocation_size-size.ensures.0, c.class_of.ensures, c.read_section-target.ensures, c.args.self.now.table_is, c.read_section-h.ensures)
