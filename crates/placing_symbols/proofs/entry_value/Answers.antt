-- `placing_symbols::entry_value` meets its contract.
use Rattle.std.specs.Prelude.{Ok}
use mathlib.Core.Path.{◌≡◌, sym, ap, ◌∙◌}
use native.Mathlib.Omega.{arith}
use Rattle.numbers_definitions.specs.Classes.{bits}
use Rattle.numbers_definitions.specs.Places.{address}
use Rattle.numbers_definitions.specs.Whole.{plus}
use Rattle.elf_read.specs.Headers.{address_width}
use Rattle.elf_read.specs.Sections.{is_allocated}
use Rattle.elf_read.proofs.Laws.Headers.{header_there}
use Rattle.placing_symbols.specs.declared.Reason.TheVariants.{WrongType}
use Rattle.placing_symbols.specs.Reasons.{because}
use Rattle.placing_symbols.specs.Values.{is_wrong_type}
use Rattle.placing_symbols.proofs.Laws.Values.{entry_unplaced, entry_placed, entry_absolute, entry_common, entry_reserved}
use Rattle.placing_symbols.proofs.entry_value.Goals as goal

pub class_of-requires : goal.class_of-requires
class_of-requires c = header_there _ c.requires.table.header

pub returns-then-section-eq-SHN_UNDEF : goal.returns-then-section-eq-SHN_UNDEF
returns-then-section-eq-SHN_UNDEF c =
    c.undefined_value.ensures c.args.object.now c.args.start c.if-section-eq-SHN_UNDEF.true

pub returns-then-not-is_allocated_section : goal.returns-then-not-is_allocated_section
returns-then-not-is_allocated_section c =
    let a = c.args in
    sym (entry_unplaced a.object.now a.given a.start a.symbol (omega arith) (omega arith) (ap (is_allocated a.object.now) (sym c.from.ensures) ∙ sym c.is_allocated_section.ensures ∙ c.if-not-is_allocated_section.true))

pub returns-then-section-lt-SHN_LORESERVE : goal.returns-then-section-lt-SHN_LORESERVE
returns-then-section-lt-SHN_LORESERVE c =
    let a = c.args in
    let is : c.sum-sum.result ≡ plus (address_width a.object.now) a.start a.symbol.value.0 =
    c.sum-sum.ensures ∙ ap (λ k. plus (bits k) a.start a.symbol.value.0) c.class_of.ensures in
    c.value_by_type.ensures
    ∙ ap (λ n. because WrongType (is_wrong_type a.symbol) (Ok (address n))) is
    ∙ sym (entry_placed a.object.now a.given a.start a.symbol (omega arith) (omega arith) (ap (is_allocated a.object.now) (sym c.from.ensures) ∙ sym c.is_allocated_section.ensures ∙ c.if-not-is_allocated_section.false))

pub returns-then-section : goal.returns-then-section
returns-then-section c =
    let a = c.args in
    c.value_by_type-then-section.ensures ∙ sym (entry_absolute a.object.now a.given a.start a.symbol c.if-section.true)

pub returns-then-section-2 : goal.returns-then-section-2
returns-then-section-2 c =
    let a = c.args in
    sym (entry_common a.object.now a.given a.start a.symbol c.if-section-2.true)

pub returns : goal.returns
returns c =
    let a = c.args in
    sym (entry_reserved a.object.now a.given a.start a.symbol (omega arith) c.if-section.false c.if-section-2.false)
