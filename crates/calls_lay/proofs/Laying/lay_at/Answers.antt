-- `calls_lay::Laying::lay_at` meets its contract.
use mathlib.Core.Path.{◌≡◌, sym, ap, ◌∙◌, subst}
use mathlib.Core.List.{List}
use Prim.Native.Nat.{ℕ, ◌+◌, ◌-◌, ◌≤◌}
use native.Mathlib.Omega.{arith}
use lib.ListN.{length, take, drop}
use borrow.Rule.Slice.PartMut.{put_mid, mid_len}
use Rattle.order_lookup.specs.Addresses.{addresses_for}
use Rattle.elf_read.specs.Sections.{section_at}
use Rattle.relocations_rela.specs.Requires.{Placed}
use Rattle.relocations_rules.specs.Search.{relocation_check}
use Rattle.relocations_bytes.specs.Sections.{relocated}
use Rattle.calls_judgement.proofs.Laws.Laying.{is_sound, is_placed, relocated_length, put_part}
use Rattle.calls_lay.proofs.Laying.lay_at.Goals as goal
use Rattle.calls_lay.proofs.Laying.lay_at.Goals.{After-read_section-h, Start}

abbrev S : Start → List ℕ
S c = c.args.self.now.object.now

abbrev O : Start → List ℕ
O c = c.args.self.now.order.now.bytes.now

abbrev Image : Start → List ℕ
Image c = c.args.image.now

size_is : (c : After-read_section-h) → c.read_section-h.result.size ≡ (section_at (S (goal.at.After-read_section-h c).Start) c.args.t).size
size_is c = ap (λ h. h.size) c.read_section-h.ensures

inside : (c : After-read_section-h) → c.args.at + c.read_section-h.result.size ≤ length (Image (goal.at.After-read_section-h c).Start)
inside c = omega (arith, size_is c, c.requires.3)

pub read_section-h-requires : goal.read_section-h-requires
read_section-h-requires c =
    ((is_sound _ _ _ _ c.requires.0).table, c.requires.1)

pub lay_section-requires : goal.lay_section-requires
lay_section-requires c =
    let f = c.requires in
    let g = c.args.self.now in
    let end = c.args.at + c.read_section-h.result.size in
    let whole : length (take (end - c.args.at) (drop c.args.at (Image (goal.at.lay_section-requires c).Start))) ≡ end - c.args.at = mid_len c.args.at end (Image (goal.at.lay_section-requires c).Start) (omega (arith, inside (goal.at.lay_section-requires c).After-read_section-h)) in
    (is_sound _ _ _ _ f.0, subst (Placed (S (goal.at.lay_section-requires c).Start)) (sym g.addresses_are) (is_placed (S (goal.at.lay_section-requires c).Start) (O (goal.at.lay_section-requires c).Start) c.args.self.now.order.now.counts (length (Image (goal.at.lay_section-requires c).Start)) f.0), ap (relocation_check (S (goal.at.lay_section-requires c).Start) (O (goal.at.lay_section-requires c).Start)) g.addresses_are ∙ f.0.relocations, g.worked, f.1, f.2, omega (arith, size_is (goal.at.lay_section-requires c).After-read_section-h), g.long, g.indexed)

pub returns : goal.returns
returns c =
    let f = c.requires in
    let g = c.args.self.now in
    let at = c.args.at in
    let end = at + c.read_section-h.result.size in
    let bytes = relocated (S (goal.at.returns c).Start) (O (goal.at.returns c).Start) (addresses_for (S (goal.at.returns c).Start) (O (goal.at.returns c).Start)) c.args.t in
    let long : length bytes ≡ (section_at (S (goal.at.returns c).Start) c.args.t).size = relocated_length (S (goal.at.returns c).Start) (O (goal.at.returns c).Start) c.args.self.now.order.now.counts (length (Image (goal.at.returns c).Start)) f.0 c.args.t f.1 f.2 in
    ap (λ y. put_mid at (end - at) (Image (goal.at.returns c).Start) y) (c.lay_section.ensures ∙ ap (λ l. relocated (S (goal.at.returns c).Start) (O (goal.at.returns c).Start) l c.args.t) g.addresses_are)
    ∙ put_part at end (Image (goal.at.returns c).Start) bytes (omega arith) (omega (arith, inside (goal.at.returns c).After-read_section-h)) (omega (arith, size_is (goal.at.returns c).After-read_section-h))
