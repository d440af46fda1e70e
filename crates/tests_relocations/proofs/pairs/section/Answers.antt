-- `tests_relocations::pairs::section` is safe and ends: the bytes of a loaded section lie in the object, which is no longer than the room.
use mathlib.Core.Path.{◌≡◌, sym, ap, ◌∙◌}
use mathlib.Core.Bool.{true}
use mathlib.Core.List.{List}
use Prim.Native.Nat.{ℕ, ◌-◌, ◌≤◌, ◌<◌}
use native.Mathlib.Omega.{arith}
use lib.Seq.{length-take-le}
use Rattle.numbers_definitions.proofs.Laws.Tests.{and_left}
use Rattle.elf_read.specs.Headers.{section_count}
use Rattle.elf_read.specs.Sections.{section_at, loaded}
use Rattle.elf_check.specs.Requires.{SoundObject}
use Rattle.elf_header.specs.Headers.{max_object}
use Rattle.elf_header.proofs.Laws.Headers.{header_short}
use Rattle.elf_check.proofs.Laws.Bounds.{loaded_inside}
use Rattle.tests_relocations.proofs.pairs.section.Given.{Over}
use Rattle.tests_relocations.proofs.pairs.section.Goals as goal
use Rattle.tests_relocations.proofs.pairs.section.Goals.{After-is_loaded, Then-is_loaded-h}

-- a loaded section is no larger than an object may be
size_small : (s : List ℕ) (f : SoundObject s) (t : ℕ) → t < section_count s → loaded (section_at s t) ≡ true → (section_at s t).size ≤ max_object
size_small s f t h e =
    omega (arith, (loaded_inside s f t h e).inside, header_short s f.header)

header_is : (g : Over) (c : After-is_loaded g) → c.read_section-h.result ≡ section_at c.args.object.now c.args.t
header_is g c = c.read_section-h.ensures

laid : (g : Over) (c : Then-is_loaded-h g) → loaded (section_at c.args.object.now c.args.t) ≡ true
laid g c = sym (ap loaded (header_is g (goal.at.Then-is_loaded-h g c).After-is_loaded)) ∙ sym c.is_loaded.ensures ∙ and_left _ _ c.if-is_loaded-h.true

small : (g : Over) (c : Then-is_loaded-h g) → c.read_section-h.result.size ≤ max_object
small g c =
    omega (arith, size_small c.args.object.now c.requires.0.sound c.args.t c.requires.1 (laid g c), ap (λ h. h.size) (header_is g (goal.at.Then-is_loaded-h g c).After-is_loaded))

pub slice_bounds-lay-end : goal.slice_bounds-lay-end
slice_bounds-lay-end g c =
    omega (arith, small g (goal.at.slice_bounds-lay-end g c).Then-is_loaded-h, c.requires.2)

pub lay-requires : goal.lay-requires
lay-requires g c =
    let n = c.read_section-h.result.size in
    let size : n ≡ (section_at c.args.object.now c.args.t).size = ap (λ h. h.size) (header_is g (goal.at.lay-requires g c).After-is_loaded) in
    (c.requires.0, c.requires.1, laid g (goal.at.lay-requires g c).Then-is_loaded-h, length-take-le (n - 0) c.args.room.now (omega (arith, small g (goal.at.lay-requires g c).Then-is_loaded-h, c.requires.2)) ∙ omega arith)
