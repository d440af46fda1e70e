-- `calls_lay::Laying::lay_one` meets its contract.
use mathlib.Core.Path.{◌≡◌, sym, ap, ◌∙◌}
use mathlib.Core.Bool.{true}
use mathlib.Core.List.{List}
use Prim.Native.Nat.{ℕ, ◌+◌, ◌-◌, ◌≤◌}
use native.Mathlib.Omega.{arith}
use lib.ListN.{length, get_or}
use lib.Seq.{sets}
use Rattle.order_lookup.specs.Addresses.{addresses_for, base_for}
use Rattle.order_format.proofs.Laws.Sound.{reading_sound}
use Rattle.elf_read.specs.Headers.{class_of}
use Rattle.elf_read.specs.Sections.{section_at}
use Rattle.placing_check.specs.Placing.{has_bytes}
use Rattle.relocations_bytes.specs.Sections.{relocated}
use Rattle.calls_judgement.proofs.Laws.Laying.{is_sound, bytes_inside, bytes_loaded, with_none, with_some}
use Rattle.calls_lay.proofs.Laying.lay_one.Goals as goal
use Rattle.calls_lay.proofs.Laying.lay_one.Goals.{After-has_bytes, Else-not-has_bytes, Start}

abbrev S : Start → List ℕ
S c = c.args.self.now.object.now

abbrev O : Start → List ℕ
O c = c.args.self.now.order.now.bytes.now

abbrev Len : Start → ℕ
Len c = length c.args.image.now

base_is : (c : Start) → c.args.self.now.order.now.counts.base.0 ≡ base_for (S c) (O c)
base_is c = (reading_sound (class_of (S c)) (O c) c.args.self.now.order.now.counts c.requires.0.placeable.named.readable.reading_is).base_is

address : (c : Start) → get_or c.args.self.now.addresses.now c.args.t 0 ≡ get_or (addresses_for (S c) (O c)) c.args.t 0
address c = ap (λ l. get_or l c.args.t 0) c.args.self.now.addresses_are

has_bytes_is : (c : After-has_bytes) → has_bytes (section_at (S (goal.at.After-has_bytes c).Start) c.args.t) ≡ c.has_bytes.result
has_bytes_is c = ap has_bytes (sym c.read_section-h.ensures) ∙ sym c.has_bytes.ensures

abbrev T : Else-not-has_bytes → ℕ
T c = c.args.t

some : (c : Else-not-has_bytes) → has_bytes (section_at (S (goal.at.Else-not-has_bytes c).Start) (T c)) ≡ true
some c = has_bytes_is (goal.at.Else-not-has_bytes c).After-has_bytes ∙ c.if-not-has_bytes.false

inside : (c : Else-not-has_bytes) → (base_for (S (goal.at.Else-not-has_bytes c).Start) (O (goal.at.Else-not-has_bytes c).Start) ≤ get_or (addresses_for (S (goal.at.Else-not-has_bytes c).Start) (O (goal.at.Else-not-has_bytes c).Start)) (T c) 0) × (get_or (addresses_for (S (goal.at.Else-not-has_bytes c).Start) (O (goal.at.Else-not-has_bytes c).Start)) (T c) 0 - base_for (S (goal.at.Else-not-has_bytes c).Start) (O (goal.at.Else-not-has_bytes c).Start) + (section_at (S (goal.at.Else-not-has_bytes c).Start) (T c)).size ≤ Len (goal.at.Else-not-has_bytes c).Start)
inside c = bytes_inside (S (goal.at.Else-not-has_bytes c).Start) (O (goal.at.Else-not-has_bytes c).Start) c.args.self.now.order.now.counts (Len (goal.at.Else-not-has_bytes c).Start) c.requires.0 (T c) c.requires.1 (some c)

pub read_section-h-requires : goal.read_section-h-requires
read_section-h-requires c =
    ((is_sound _ _ _ _ c.requires.0).table, c.requires.1)

pub returns-then-not-has_bytes : goal.returns-then-not-has_bytes
returns-then-not-has_bytes c =
    sym (with_none (S (goal.at.returns-then-not-has_bytes c).Start) (O (goal.at.returns-then-not-has_bytes c).Start) c.args.image.now c.args.t (has_bytes_is (goal.at.returns-then-not-has_bytes c).After-has_bytes ∙ c.if-not-has_bytes.true))

pub overflow_sub-at : goal.overflow_sub-at
overflow_sub-at c = omega (arith, (inside (goal.at.overflow_sub-at c).Else-not-has_bytes).0, base_is (goal.at.overflow_sub-at c).Start, address (goal.at.overflow_sub-at c).Start)

pub lay_at-requires : goal.lay_at-requires
lay_at-requires c =
    let f = c.requires in
    (f.0, f.1, bytes_loaded (S (goal.at.lay_at-requires c).Start) (O (goal.at.lay_at-requires c).Start) c.args.self.now.order.now.counts (Len (goal.at.lay_at-requires c).Start) f.0 c.args.t (some (goal.at.lay_at-requires c).Else-not-has_bytes), omega (arith, (inside (goal.at.lay_at-requires c).Else-not-has_bytes).0, (inside (goal.at.lay_at-requires c).Else-not-has_bytes).1, base_is (goal.at.lay_at-requires c).Start, address (goal.at.lay_at-requires c).Start))

pub returns : goal.returns
returns c =
    let at : get_or c.args.self.now.addresses.now c.args.t 0 - c.args.self.now.order.now.counts.base.0 ≡ get_or (addresses_for (S (goal.at.returns c).Start) (O (goal.at.returns c).Start)) c.args.t 0 - base_for (S (goal.at.returns c).Start) (O (goal.at.returns c).Start) = omega (arith, base_is (goal.at.returns c).Start, address (goal.at.returns c).Start) in
    c.lay_at.ensures ∙ ap (λ k. sets c.args.image.now k (relocated (S (goal.at.returns c).Start) (O (goal.at.returns c).Start) (addresses_for (S (goal.at.returns c).Start) (O (goal.at.returns c).Start)) c.args.t)) at ∙ sym (with_some (S (goal.at.returns c).Start) (O (goal.at.returns c).Start) c.args.image.now c.args.t (some (goal.at.returns c).Else-not-has_bytes))
