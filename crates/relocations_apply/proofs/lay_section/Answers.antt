-- `relocations_apply::lay_section` meets its contract.
use mathlib.Core.Path.{◌≡◌, sym, ap, ◌∙◌, subst}
use Prim.Native.Nat.{◌+◌, ◌≤◌, ◌<◌}
use native.Mathlib.Omega.{arith}
use lib.ListN.{length}
use Rattle.numbers_definitions.proofs.Laws.Lists.{length_part}
use Rattle.elf_read.specs.Headers.{section_count}
use Rattle.elf_read.specs.Sections.{section_at, relocations_below}
use Rattle.elf_read.specs.Entries.{bytes_of, relocation_count}
use Rattle.elf_check.proofs.Laws.Bounds.{loaded_inside}
use Rattle.relocations_rela.specs.Sites.{site_at, count, found}
use Rattle.relocations_rela.proofs.Laws.Sites.{found_length}
use Rattle.relocations_bytes.specs.Sections.{after, rela_of}
use Rattle.relocations_bytes.specs.Requires.{Checked}
use Rattle.relocations_bytes.proofs.Laws.Sections.{checked, rela_found, found_target, relocated_some, relocated_none}
use Rattle.relocations_check_all.specs.Sites.{Worded}
use Rattle.relocations_check_all.proofs.Laws.Search.{site_room}
use Rattle.relocations_apply.proofs.Laws.Stores.{storable}
use Rattle.relocations_apply.proofs.lay_section.Goals as goal
use Rattle.relocations_apply.proofs.lay_section.Goals.{After-site_at-site, In-Some}

-- the RELA section that is listed
listed : (c : In-Some) → let a = c.args in let i = rela_of a.object.now a.t in
    (c.in-Some.rela.section ≡ i) × (i < section_count a.object.now) × (c.in-Some.rela.first ≡ relocations_below a.object.now i)
listed c = let f = c.requires in f.8.some c.args.t c.in-Some.rela f.4 c.in-Some.is

rela_there : (c : After-site_at-site) → let a = c.args in rela_of a.object.now a.t < section_count a.object.now
rela_there c = (listed (goal.at.After-site_at-site c).In-Some).1

site_is : (c : After-site_at-site) → let a = c.args in c.site_at-site.result ≡ site_at a.object.now a.addresses.now (rela_of a.object.now a.t)
site_is c = let a = c.args in c.site_at-site.ensures ∙ ap (site_at a.object.now a.addresses.now) (listed (goal.at.After-site_at-site c).In-Some).0

pub section_bytes-requires : goal.section_bytes-requires
section_bytes-requires c =
    let a = c.args in
    let f = c.requires in
    rw c.read_section-h.ensures (loaded_inside a.object.now f.0 a.t f.4 f.5)

pub copy-requires : goal.copy-requires
unfolding bytes_of
copy-requires c =
    let a = c.args in
    let s = a.object.now in
    let f = c.requires in
    let inside = loaded_inside s f.0 a.t f.4 f.5 in
    let size : length (bytes_of s (section_at s a.t)) ≡ (section_at s a.t).size = length_part s (section_at s a.t).offset.0 (section_at s a.t).size inside.inside in
    rw (c.section_bytes.ensures, c.read_section-h.ensures) (size ∙ sym f.6)

pub site_at-site-requires : goal.site_at-site-requires
site_at-site-requires c =
    let a = c.args in
    let l = listed (goal.at.site_at-site-requires c).In-Some in
    (c.requires.0, rw l.0 l.1, rw l.0 (rela_found a.object.now a.t l.1).0, c.requires.7)

-- the words of the site's relocations
worded : (c : After-site_at-site) → let a = c.args in
    Worded a.object.now a.order.now a.addresses.now c.site_at-site.result (count a.object.now c.site_at-site.result) a.words.now a.sizes.now c.in-Some.rela.first
worded c =
    let a = c.args in
    let i = rela_of a.object.now a.t in
    let there = c.requires.3.worded i (rela_there c) (rela_found a.object.now a.t (rela_there c)).0 in
    subst (λ x. Worded a.object.now a.order.now a.addresses.now x (count a.object.now x) a.words.now a.sizes.now c.in-Some.rela.first) (sym (site_is c))
    (subst (Worded a.object.now a.order.now a.addresses.now (site_at a.object.now a.addresses.now i) (count a.object.now (site_at a.object.now a.addresses.now i)) a.words.now a.sizes.now) (sym (listed (goal.at.After-site_at-site c).In-Some).2) there)

-- and that there is room for them
room : (c : After-site_at-site) → let a = c.args in c.in-Some.rela.first + count a.object.now c.site_at-site.result ≤ relocation_count a.object.now
room c =
    let a = c.args in
    let i = rela_of a.object.now a.t in
    omega (arith, (listed (goal.at.After-site_at-site c).In-Some).2, ap (count a.object.now) (site_is c), site_room a.object.now a.order.now a.addresses.now c.requires.0 i (rela_there c) (rela_found a.object.now a.t (rela_there c)).0)

pub apply_all-requires : goal.apply_all-requires
apply_all-requires c =
    let a = c.args in
    let f = c.requires in
    let s = a.object.now in
    let i = rela_of s a.t in
    let at = (goal.at.apply_all-requires c).After-site_at-site in
    let counts = rela_found s a.t (rela_there at) in
    let fine : Checked s a.order.now a.addresses.now c.site_at-site.result =
    subst (Checked s a.order.now a.addresses.now) (sym (site_is at)) (checked s a.order.now a.addresses.now f.0 f.1 f.2 i (rela_there at) counts.0) in
    let held = c.copy.ensures ∙ c.section_bytes.ensures ∙ ap (bytes_of s) c.read_section-h.ensures ∙ sym (found_target s a.addresses.now a.t (rela_there at)) ∙ ap (found s) (sym (site_is at)) in
    let size = ap length held ∙ found_length s c.site_at-site.result fine.site in (
      f.0.table.header,
      omega (arith, room at, f.3.words_room.room),
      omega (arith, room at, f.3.sizes_room.room),
      f.3.words_room.short,
      storable s a.order.now a.addresses.now c.site_at-site.result a.words.now a.sizes.now c.in-Some.rela.first _ fine (worded at) (omega (arith, size)),
      held,
    )

pub returns-in-Some : goal.returns-in-Some
returns-in-Some c =
    let a = c.args in
    let s = a.object.now in
    let at = (goal.at.returns-in-Some c).After-site_at-site in
    c.apply_all.ensures.0 a.order.now a.addresses.now (worded at)
    ∙ ap (λ x. after s a.order.now a.addresses.now x (count a.object.now x)) (site_is at)
    ∙ sym (relocated_some s a.order.now a.addresses.now a.t (rela_there at))

pub returns-in_default : goal.returns-in_default
returns-in_default c =
    let a = c.args in
    let s = a.object.now in
    c.copy.ensures ∙ c.section_bytes.ensures ∙ ap (bytes_of s) c.read_section-h.ensures ∙ sym (relocated_none s a.order.now a.addresses.now a.t (c.requires.8.none a.t c.requires.4 c.in_default.is))
