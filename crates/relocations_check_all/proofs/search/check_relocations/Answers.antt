-- `relocations_check_all::search::check_relocations` meets its contract.
use Rattle.std.specs.Prelude.{Err}
use Rattle.std.proofs.lemmas.Result.{err_from_is_err_and}
use mathlib.Core.Path.{◌≡◌, refl, sym, ap, ◌∙◌, subst}
use mathlib.Core.Bool.{true}
use Prim.Native.Nat.{◌+◌, ◌≤◌, ◌<◌}
use native.Mathlib.Numerals.{add-one}
use native.Mathlib.Omega.{arith}
use Rattle.elf_read.specs.Headers.{section_count}
use Rattle.elf_read.specs.Sections.{counting_rela}
use Rattle.elf_read.specs.Entries.{relocation_count}
use Rattle.placing_symbols.proofs.Laws.Arrays.{listed_is}
use Rattle.relocations_rela.specs.declared.sites.Site.{Site}
use Rattle.relocations_rela.specs.Sites.{site_at, count}
use Rattle.relocations_rela.specs.Requires.{SoundSite}
use Rattle.relocations_rela.proofs.Laws.Sites.{sound_site}
use Rattle.relocations_rules.specs.Rules.{is_resolved}
use Rattle.relocations_rules.proofs.Laws.Rules.{resolved_there}
use Rattle.relocations_check_all.proofs.Laws.Search.{Below, below_start, below_skip, site_room, below_site, below_broken, below_all, broken_passed}
use Rattle.relocations_check_all.proofs.search.check_relocations.Goals as goal
use Rattle.relocations_check_all.proofs.search.check_relocations.Goals.{After-is_counting_rela, After-site_at-site}

here : (c : After-is_counting_rela) → c.search.i < section_count c.args.object.now
here c = omega (arith, c.search-test.true, c.section_count-n.ensures)

abbrev site_of : After-site_at-site → Site
site_of c = let at = c.args in site_at at.object.now at.addresses c.search.i

counts : (c : After-site_at-site) → counting_rela c.args.object.now c.search.i ≡ true
counts c =
    sym c.is_counting_rela.ensures ∙ c.if-not-is_counting_rela.false

site_is : (c : After-site_at-site) → c.site_at-site.result ≡ site_of c
site_is c = c.site_at-site.ensures

pub invariant_of-source : goal.invariant_of-source
invariant_of-source c =
    let a = c.args in
    let f = c.requires in
    record {
      lookups = record {
        sound = f.0;
        symbols_are = f.1;
        arrays = f.3.long.arrays;
        tabled = λ k r some. resolved_there a.object.now a.order.now a.addresses k (ap is_resolved (sym (listed_is f.3 k)) ∙ r) some;
      };
    }

pub search-init : goal.search-init
search-init c = (below_start _ _ _ _ _, refl, refl, refl)

pub search-preserved-then-not-is_counting_rela : goal.search-preserved-then-not-is_counting_rela
search-preserved-then-not-is_counting_rela c =
    let inv = c.search.invariant in
    (rw add-one (below_skip _ _ _ _ _ _ _ inv.0 (sym c.is_counting_rela.ensures ∙ c.if-not-is_counting_rela.true)), inv.1, inv.2, inv.3)

site_sound : (c : After-site_at-site) → SoundSite c.args.object.now c.site_at-site.result
site_sound c =
    let a = c.args in
    let f = c.requires in
    subst (SoundSite a.object.now) (sym (site_is c)) (sound_site a.object.now a.addresses f.0 c.search.i (here (goal.at.After-site_at-site c).After-is_counting_rela) (counts c) f.2)

-- the relocations of the site have room in the lists
room : (c : After-site_at-site) → c.search.number + count c.args.object.now c.site_at-site.result ≤ relocation_count c.args.object.now
room c =
    omega (arith, c.search.invariant.0.number_is, ap (count c.args.object.now) (site_is c), site_room c.args.object.now c.args.order.now c.args.addresses c.requires.0 c.search.i (here (goal.at.After-site_at-site c).After-is_counting_rela) (counts c))

pub check_site-requires : goal.check_site-requires
check_site-requires c =
    let a = c.args in
    let f = c.requires in
    let inv = c.search.invariant in (
      site_sound (goal.at.check_site-requires c).After-site_at-site,
      omega (arith, room (goal.at.check_site-requires c).After-site_at-site, inv.1, f.4.room),
      omega (arith, inv.1, f.4.short),
      omega (arith, room (goal.at.check_site-requires c).After-site_at-site, inv.2, f.5.room),
      omega (arith, room (goal.at.check_site-requires c).After-site_at-site, inv.3, f.6.room),
      omega (arith, inv.2, f.5.short),
    )

pub overflow_add-number : goal.overflow_add-number
overflow_add-number c =
    omega (arith, room (goal.at.overflow_add-number c).After-site_at-site, c.relocation_entries-number.ensures, c.requires.5.room, c.requires.5.short)

pub returns-in_err-check_site : goal.returns-in_err-check_site
returns-in_err-check_site c =
    let a = c.args in
    let f = c.requires in
    let inv = c.search.invariant in
    let e = c.check_site.ensures in
    let p = err_from_is_err_and c.from_residual.result c.from_residual.ensures.1 in
    let is =
    below_broken a.object.now a.order.now a.addresses f.0 c.search.i (here (goal.at.returns-in_err-check_site c).After-is_counting_rela) (counts (goal.at.returns-in_err-check_site c).After-site_at-site) _ _ _ _ _ inv.0 _ (site_is (goal.at.returns-in_err-check_site c).After-site_at-site) _
    (e.0 a.order.now a.addresses f.3) c.in_err-check_site.field-0.0 c.in_err-check_site.was in
    (p.1 ∙ ap Err p.2 ∙ sym is, (λ z. broken_passed p.0 (sym p.1 ∙ z)), e.3 ∙ inv.1, e.1 ∙ inv.2, e.2 ∙ inv.3)

pub search-preserved : goal.search-preserved
search-preserved c =
    let a = c.args in
    let f = c.requires in
    let inv = c.search.invariant in
    let e = c.check_site.ensures in
    let next =
    below_site a.object.now a.order.now a.addresses f.0 c.search.i (here (goal.at.search-preserved c).After-is_counting_rela) (counts (goal.at.search-preserved c).After-site_at-site) _ _ _ _ _ inv.0 _ (site_is (goal.at.search-preserved c).After-site_at-site) _
    (e.0 a.order.now a.addresses f.3) c.in_ok-check_site.was in
    (rw (add-one, c.relocation_entries-number.ensures) next, e.3 ∙ inv.1, e.1 ∙ inv.2, e.2 ∙ inv.3)

pub returns : goal.returns
returns c =
    let a = c.args in
    let inv = c.search.invariant in
    let stop : c.search.i ≡ section_count a.object.now = omega (arith, c.search-test.false, c.search.auto.i-end, c.section_count-n.ensures) in
    let all : Below a.object.now a.order.now a.addresses (section_count a.object.now) c.search.number c.search.words c.search.sizes =
    subst (λ i. Below a.object.now a.order.now a.addresses i c.search.number c.search.words c.search.sizes) stop inv.0 in
    (sym (below_all a.object.now a.order.now a.addresses _ _ _ all), (λ _. all.worded), inv.1, inv.2, inv.3)
