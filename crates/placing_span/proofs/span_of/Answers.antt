-- `placing_span::span_of` meets its contract.
use mathlib.Core.Path.{◌≡◌, refl, sym, ap, ◌∙◌}
use mathlib.Core.Bool.{true}
use Prim.Native.Nat.{min}
use native.Mathlib.Numerals.{add-one}
use native.Mathlib.Omega.{arith}
use Rattle.elf_read.specs.declared.Section.{Section}
use Rattle.elf_read.specs.Headers.{section_count}
use Rattle.elf_read.specs.Sections.{section_at}
use Rattle.placing_check.specs.Placing.{end_of, has_bytes}
use Rattle.placing_span.specs.Spans.{highest, lowest_byte, span_of}
use Rattle.placing_span.proofs.Laws.Bounds.{highest_end, lowest_byte_top}
use Rattle.placing_span.proofs.span_of.Goals as goal
use Rattle.placing_span.proofs.span_of.Goals.{then-has_bytes, else-has_bytes}

pub loop-i-init : goal.loop-i-init
unfolding highest lowest_byte
loop-i-init c = (refl, refl)

pub end_from-requires : goal.end_from-requires
unfolding end_of
end_from-requires c =
    let o = c.args.object.now in
    let here : has_bytes (section_at o c.loop-i.i) ≡ true = sym (ap has_bytes c.read_section-h.ensures) ∙ sym c.has_bytes.ensures ∙ c.if-has_bytes.true in
    omega (arith, ap (λ (h : Section). h.size) c.read_section-h.ensures, highest_end o c.args.addresses c.args.base.0 (section_count o) c.loop-i.i (omega (arith, c.section_count-i-end.ensures)) here, c.requires.1)

pub loop-i-preserved : goal.loop-i-preserved
unfolding highest lowest_byte end_of
loop-i-preserved c =
    let bytes = ap has_bytes (sym c.read_section-h.ensures) ∙ sym c.has_bytes.ensures in
    elim c.if-has_bytes.branch [
      | then-has_bytes w ↦
          let here = bytes ∙ w.if-has_bytes.true in (
            rw (add-one, here, w.lowest-is, w.min-lowest.ensures, w.saturating_sub.ensures) (ap (min _) c.loop-i.invariant.0),
            rw (add-one, here, w.end-is, w.max-end.ensures, w.end_from.ensures, c.read_section-h.ensures, c.loop-i.invariant.1) refl,
          )
      | else-has_bytes w ↦
          let none = bytes ∙ w.if-has_bytes.false in
          (rw (add-one, none, w.lowest-is) c.loop-i.invariant.0, rw (add-one, none, w.end-is) c.loop-i.invariant.1)
    ]

pub returns : goal.returns
unfolding span_of
returns c =
    let o = c.args.object.now in
    let a = c.args.addresses in
    let b = c.args.base.0 in
    let n = section_count o in
    let stop : c.loop-i.i ≡ n = omega (arith, c.section_count-i-end.ensures) in
    let end : c.loop-i.end ≡ highest o a b n = c.loop-i.invariant.1 ∙ ap (highest o a b) stop in
    let lowest : c.loop-i.lowest ≡ lowest_byte o a b 18446744073709551615 n = c.loop-i.invariant.0 ∙ ap (lowest_byte o a b 18446744073709551615) stop in
    let start : c.min-start.result ≡ lowest_byte o a b (highest o a b n) n =
    c.min-start.ensures ∙ rw (lowest, end) (sym (lowest_byte_top o a b 18446744073709551615 (highest o a b n) n (omega (arith, c.requires.1)))) in
    rw (start, end) refl
