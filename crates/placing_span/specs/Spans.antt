-- The span of an install, counted from the image's first byte.
use Rattle.std.specs.Prelude.{ℕ, zero, suc, ◌-◌, min, max, cond, List, get_or}
use Rattle.elf_read.specs.Headers.{section_count}
use Rattle.elf_read.specs.Sections.{section_at}
use Rattle.plan_pieces.specs.declared.Span.{Span}
use Rattle.placing_check.specs.Placing.{end_of, has_bytes}

-- the end of the highest laid byte of the sections below i, or 0 if none is laid
unfoldable pub highest : List ℕ → List ℕ → ℕ → ℕ → ℕ
highest object addresses base zero = 0
highest object addresses base (suc i) =
    cond (has_bytes (section_at object i)) (max (end_of object addresses i - base) (highest object addresses base i)) (highest object addresses base i)

-- the lowest laid byte of the sections below i, or `top` if none is laid
unfoldable pub lowest_byte : List ℕ → List ℕ → ℕ → ℕ → ℕ → ℕ
lowest_byte object addresses base top zero = top
lowest_byte object addresses base top (suc i) =
    cond (has_bytes (section_at object i)) (min (get_or addresses i 0 - base) (lowest_byte object addresses base top i)) (lowest_byte object addresses base top i)

-- "A fit's span runs from the lowest to the end of the highest laid byte; with none laid it is start 0, length 0."
unfoldable pub span_of : List ℕ → List ℕ → ℕ → Span
span_of object addresses base =
    let n = section_count object in
    let end = highest object addresses base n in
    let start = lowest_byte object addresses base end n in
    record { start = start; size = end - start }
