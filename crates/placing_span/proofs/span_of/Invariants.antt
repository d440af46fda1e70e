-- `placing_span::span_of` meets its contract. The invariant: the two ends of what the sections below `i` lay.
use mathlib.Core.Path.{◌≡◌}
use Rattle.placing_span.specs.Spans.{highest, lowest_byte}
use Rattle.placing_span.proofs.span_of.Given as goal

abbrev pub invariant-loop-i : goal.invariant-loop-i
invariant-loop-i l = (l.lowest ≡ lowest_byte l.object l.addresses l.base.0 18446744073709551615 l.i) × (l.end ≡ highest l.object l.addresses l.base.0 l.i)
