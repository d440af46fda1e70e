-- Check 8 ensures what the rules of relocations need from a placement.
use Rattle.std.specs.Prelude.{Ok}
use mathlib.Core.Path.{◌≡◌}
use mathlib.Core.Bool.{Bool, true, ◌&&◌}
use mathlib.Core.List.{List}
use Prim.Native.Nat.{ℕ}
use borrow.Author.Tests.{leb-true}
use Rattle.numbers_definitions.proofs.Laws.Tests.{and_left, and_right, implies}
use Rattle.elf_read.specs.Headers.{section_count}
use Rattle.elf_read.specs.Sections.{section_at, allocated}
use Rattle.placing_check.specs.Placing.{end_of, aligned, ends_in_memory, in_window, apart, misplaced, placing_check}
use Rattle.placing_match.proofs.Laws.Theorems.{nowhere_holds}
use Rattle.relocations_rela.specs.Requires.{Placed}

pub placed : (object addresses : List ℕ) (base len : ℕ) → placing_check object addresses base len ≡ Ok tt → Placed object addresses
unfolding placing_check misplaced ends_in_memory end_of
placed object addresses base len e =
    record {
      ends = λ i h a.
          let al : Bool = aligned object addresses i in
          let ends : Bool = ends_in_memory object addresses i in
          let window : Bool = in_window object addresses base len i in
          let far : Bool = apart object addresses i in
          let well : al && ends && window && far ≡ true =
          implies (allocated (section_at object i)) _ (nowhere_holds (misplaced object addresses base len) (section_count object) e i h) a in
          leb-true _ _ (and_right al ends (and_left (al && ends) window (and_left (al && ends && window) far well)));
    }
