-- `elf_check::Sections::is_plain_well` meets its contract.
use Rattle.elf_check.specs.Rules.{starts_null, inside_file, allocated_well}
use Rattle.elf_check.proofs.Sections.is_plain_well.Goals as goal

pub returns : goal.returns
unfolding starts_null inside_file allocated_well
returns c =
    rw (c.is_allocated.ensures, c.one_bit.ensures, c.ends_within-ends.ensures, c.read_section-h.ensures)
