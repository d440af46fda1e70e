-- `elf_check::check_sections` meets its contract.
use mathlib.Core.Path.{◌≡◌, refl, sym, ap, ◌∙◌}
use mathlib.Core.Bool.{true, not, ◌&&◌}
use native.Mathlib.Omega.{arith}
use lib.Dec.{leb}
use borrow.Author.Count.{below_more}
use Rattle.elf_read.specs.Sections.{relocations_below}
use Rattle.elf_read.specs.Requires.{TableInside}
use Rattle.elf_header.specs.Headers.{table_allowed}
use Rattle.elf_check.specs.Rules.{max_relocations, section_well}
use Rattle.elf_header.proofs.Laws.Headers.{table_inside}
use Rattle.elf_check.proofs.Laws.Tables.{section_well_lem, check_table_broken, check_broken, check_sound}
use Rattle.elf_check.proofs.check_sections.Goals as goal
use Rattle.elf_check.proofs.check_sections.Goals.{After-is_relocation_well, Else-not-check_table}

allowed : (c : Else-not-check_table) → table_allowed c.args.object.now ≡ true
allowed c = sym c.check_table.ensures ∙ c.if-not-check_table.false

inside : (c : Else-not-check_table) → TableInside c.args.object.now
inside c = table_inside _ c.requires (allowed c)

well_is : (c : After-is_relocation_well)
    → section_well c.args.object.now c.loop-i.i
    ≡ (c.is_plain_well.result && c.is_symbol_table_well.result && c.is_relocation_well.result)
well_is c =
    let s = c.args.object.now in
    section_well_lem s c.loop-i.i ∙ rw (← c.is_plain_well.ensures, ← c.is_symbol_table_well.ensures, ← c.is_relocation_well.ensures) refl

pub returns-then-not-check_table : goal.returns-then-not-check_table
returns-then-not-check_table c = sym (check_table_broken _ (sym c.check_table.ensures ∙ c.if-not-check_table.true))

pub symbol_table-requires : goal.symbol_table-requires
symbol_table-requires c = inside (goal.at.symbol_table-requires c).Else-not-check_table

pub relocations_within-requires : goal.relocations_within-requires
relocations_within-requires c = (inside (goal.at.relocations_within-requires c).Else-not-check_table, omega (arith, c.section_count-n.ensures))

pub targets_differ-requires : goal.targets_differ-requires
targets_differ-requires c = inside (goal.at.targets_differ-requires c).Else-not-check_table

pub invariant_of-sections : goal.invariant_of-sections
invariant_of-sections c =
    record {
      inside = inside (goal.at.invariant_of-sections c).Else-not-check_table;
      table_is = c.symbol_table.ensures;
      few_is = c.relocations_within.ensures ∙ ap (λ m. leb (relocations_below c.args.object.now m) max_relocations) c.section_count-n.ensures;
      differ_is = c.targets_differ.ensures;
    }

pub overflow_cast-result : goal.overflow_cast-result
overflow_cast-result c =
    omega (arith, (inside (goal.at.overflow_cast-result c).Else-not-check_table).few, c.section_count-n.ensures)

pub returns-then-not-is_plain_well-is_symbol_table_well : goal.returns-then-not-is_plain_well-is_symbol_table_well
returns-then-not-is_plain_well-is_symbol_table_well c =
    sym (check_broken _ c.loop-i.i (allowed (goal.at.returns-then-not-is_plain_well-is_symbol_table_well c).Else-not-check_table) (omega (arith, c.section_count-n.ensures)) c.loop-i.invariant (well_is (goal.at.returns-then-not-is_plain_well-is_symbol_table_well c).After-is_relocation_well ∙ c.if-not-is_plain_well-is_symbol_table_well.true))

pub loop-i-preserved : goal.loop-i-preserved
loop-i-preserved c =
    below_more _ _ c.loop-i.invariant (ap not (well_is (goal.at.loop-i-preserved c).After-is_relocation_well ∙ c.if-not-is_plain_well-is_symbol_table_well.false))

pub returns : goal.returns
returns c =
    sym (check_sound _ (allowed (goal.at.returns c).Else-not-check_table) (λ j h. c.loop-i.invariant j (omega (arith, c.section_count-n.ensures))))
