-- `placing_symbols::symbol_values` meets its contract.
use Rattle.std.specs.Option.{unwrap_or}
use mathlib.Core.Path.{◌≡◌, refl, ap, ◌∙◌}
use Prim.Native.Nat.{◌≤◌, ◌<◌}
use native.Mathlib.Omega.{arith}
use lib.ListN.{length, get_or}
use Rattle.elf_read.specs.Sections.{section_at, symbol_table}
use Rattle.elf_read.specs.Entries.{symbol_at, symbol_count}
use Rattle.elf_check.specs.Rules.{max_symbols}
use Rattle.elf_check.proofs.Laws.Bounds.{symbol_inside, symbols_few}
use Rattle.order_lookup.specs.Values.{external_value}
use Rattle.placing_symbols.specs.Values.{of_entry, symbol_value}
use Rattle.placing_symbols.proofs.Laws.Values.{value_read}
use Rattle.placing_symbols.proofs.Laws.Arrays.{below_one, below_next, below_all}
use Rattle.placing_symbols.proofs.symbol_values.Goals as goal
use Rattle.placing_symbols.proofs.symbol_values.Goals.{In-loop-k, After-unwrap_or-start}

-- the symbol is one of the table, and both arrays have room for it
in_table : (c : In-loop-k) → let h = c.loop-k in let s = c.args.object.now in
    (h.k < symbol_count s) × (h.k < length h.values) × (h.k < length h.states) × (symbol_count s ≤ max_symbols)
in_table c =
    let l = c.loop-k.invariant.0.long in
    let there : c.loop-k.k < symbol_count c.args.object.now = omega (arith, c.requires.2.count) in
    (there, omega (arith, l.all, l.arrays.same_length), omega (arith, l.all), symbols_few c.args.object.now c.requires.0)

pub loop-k-init : goal.loop-k-init
loop-k-init c =
    (below_one _ _ _ _ _ c.requires.3, c.take_external-first.ensures.1)

pub read_symbol-symbol-requires : goal.read_symbol-symbol-requires
read_symbol-symbol-requires c =
    rw (c.requires.2.table (omega arith)) (symbol_inside c.args.object.now c.requires.0 c.loop-k.k (in_table (goal.at.read_symbol-symbol-requires c).In-loop-k).0)

-- the address that is given to `entry_value`
start_is : (c : After-unwrap_or-start) → c.unwrap_or-start.result ≡ get_or c.args.addresses c.read_symbol-symbol.result.section 0
start_is c =
    c.unwrap_or-start.ensures
    ∙ ap (λ v. unwrap_or v 0) c.copied.ensures
    ∙ c.get.ensures.lookup.4 (omega arith) 0
    ∙ ap (λ k. get_or c.args.addresses k 0) c.from-section.ensures

pub loop-k-preserved : goal.loop-k-preserved
loop-k-preserved c =
    let s = c.args.object.now in
    let k = c.loop-k.k in
    let symbol : c.read_symbol-symbol.result ≡ symbol_at s (section_at s (symbol_table s)) k =
    c.read_symbol-symbol.ensures ∙ ap (λ h. symbol_at s h k) (c.requires.2.table (omega arith)) in
    let is : c.entry_value-value.result ≡ symbol_value s c.args.order.now.bytes.now c.args.addresses k =
    c.entry_value-value.ensures
    ∙ ap (λ g. of_entry s g c.unwrap_or-start.result c.read_symbol-symbol.result) (c.take_external-taken.ensures.0 ∙ ap (λ n. external_value n c.args.order.now.bytes.now k) c.requires.1)
    ∙ value_read s c.args.order.now.bytes.now c.args.addresses k (omega arith) (in_table (goal.at.loop-k-preserved c).In-loop-k).0 _ symbol _ (start_is (goal.at.loop-k-preserved c).After-unwrap_or-start) in (
      rw (c.number_of.ensures, c.state_of.ensures) (below_next _ _ _ _ _ _ c.loop-k.invariant.0 (in_table (goal.at.loop-k-preserved c).In-loop-k).2 _ is),
      c.take_external-taken.ensures.1,
    )

pub returns : goal.returns
returns c =
    (refl, below_all _ _ _ _ _ _ c.loop-k.invariant.0 (omega arith) (omega (arith, c.requires.2.count)))

pub overflow_cast-k : goal.overflow_cast-k
overflow_cast-k c = omega (arith, in_table (goal.at.overflow_cast-k c).In-loop-k)
