-- `relocations_check_one::Source::labelled` meets its contract.
use mathlib.Core.Path.{◌≡◌, refl, sym, ap, ◌∙◌}
use mathlib.Core.Bool.{true}
use Prim.Native.Nat.{◌<◌}
use native.Mathlib.Omega.{arith}
use lib.Dec.{eqb}
use borrow.Author.Tests.{eq-eqb, ne_eqb}
use Rattle.placing_symbols.specs.Arrays.{listed}
use Rattle.elf_read.specs.declared.Symbol.{Symbol}
use Rattle.elf_read.specs.Sections.{section_at, symbol_table}
use Rattle.elf_read.specs.Entries.{symbol_count}
use Rattle.elf_check.proofs.Laws.Bounds.{symbol_inside}
use Rattle.relocations_rules.specs.declared.Finding.TheVariants.{BadSymbol}
use Rattle.relocations_values.specs.Pairs.{pair_of}
use Rattle.relocations_values.proofs.Laws.Pairs.{pair_there}
use Rattle.relocations_rules.specs.Rules.{in_target}
use Rattle.relocations_bytes.proofs.Laws.Sections.{symbol_read}
use Rattle.relocations_check_one.proofs.Laws.Outcomes.{none_in_target, in_target_read, elsewhere_breaks, resolved_why, target_takes}
use Rattle.relocations_check_one.proofs.Source.labelled.Goals as goal
use Rattle.relocations_check_one.proofs.Source.labelled.Goals.{After-read_symbol-symbol, Else-k-eq0}

some : (c : Else-k-eq0) → 0 < c.args.here.symbol
some c = omega (arith, c.if-k-eq0.false)

there : (c : Else-k-eq0) → c.args.here.symbol < symbol_count c.args.self.now.object.now
there c = c.args.self.now.lookups.tabled _ c.requires.2 (some c)

table : (c : Else-k-eq0) → c.args.self.now.symbols.table ≡ section_at c.args.self.now.object.now (symbol_table c.args.self.now.object.now)
table c =
    let f = c.args.self.now.lookups.symbols_are in
    f.table (omega (arith, f.count, there c))

-- whether the symbol is in the target
target : (c : After-read_symbol-symbol)
    → eqb c.read_symbol-symbol.result.section c.args.site.index ≡ in_target c.args.self.now.object.now c.args.site c.args.j
target c =
    let a = c.args in
    in_target_read a.self.now.object.now a.site a.j a.here c.requires.0.read _ _ (table (goal.at.After-read_symbol-symbol c).Else-k-eq0) c.read_symbol-symbol.ensures (some (goal.at.After-read_symbol-symbol c).Else-k-eq0)

pub returns-then-k-eq0 : goal.returns-then-k-eq0
returns-then-k-eq0 c =
    let a = c.args in
    let f = c.requires.0 in
    let v = listed a.self.now.values.now a.self.now.states.now in (
      (
        elsewhere_breaks v a.self.now.object.now a.site a.j a.rule a.here f c.requires.2 c.requires.3 (none_in_target a.self.now.object.now a.site a.j a.here f.read (omega (arith, c.if-k-eq0.true))),
        sym (ap BadSymbol (resolved_why v a.self.now.object.now a.site a.j a.rule a.here f c.requires.2 c.requires.3)),
      ),
      (c.requires.1, refl),
    )

pub read_symbol-symbol-requires : goal.read_symbol-symbol-requires
read_symbol-symbol-requires c = rw (table (goal.at.read_symbol-symbol-requires c).Else-k-eq0) (symbol_inside c.args.self.now.object.now c.args.self.now.lookups.sound _ (there (goal.at.read_symbol-symbol-requires c).Else-k-eq0))

pub returns-then-symbol-site : goal.returns-then-symbol-site
returns-then-symbol-site c =
    let a = c.args in
    let f = c.requires.0 in
    let v = listed a.self.now.values.now a.self.now.states.now in (
      (
        elsewhere_breaks v a.self.now.object.now a.site a.j a.rule a.here f c.requires.2 c.requires.3 (sym (target (goal.at.returns-then-symbol-site c).After-read_symbol-symbol) ∙ ne_eqb _ _ c.if-symbol-site.true),
        sym (ap BadSymbol (resolved_why v a.self.now.object.now a.site a.j a.rule a.here f c.requires.2 c.requires.3)),
      ),
      (c.requires.1, refl),
    )

pub high_half-requires : goal.high_half-requires
high_half-requires c =
    (c.requires.0.there.site, λ k e. (pair_there _ _ _ k (sym c.pair_at-pair.ensures ∙ e)).0)

pub returns : goal.returns
returns c =
    let a = c.args in
    let f = c.requires.0 in
    let e = c.listed_highs-m.ensures in
    let here : in_target a.self.now.object.now a.site a.j ≡ true = sym (target (goal.at.returns c).After-read_symbol-symbol) ∙ eq-eqb _ _ c.if-symbol-site.false in
    let label = ap (λ (y : Symbol). y.value) (symbol_read a.self.now.object.now a.site a.j a.here _ _ f.read (table (goal.at.returns c).Else-k-eq0) c.read_symbol-symbol.ensures) in (
      target_takes (listed a.self.now.values.now a.self.now.states.now) a.self.now.object.now a.site a.j a.rule a.here f c.requires.2 c.requires.3
          here _ _ (c.pair_at-pair.ensures ∙ ap (pair_of a.self.now.object.now a.site) label) c.high_half.ensures,
      e.1,
    )
