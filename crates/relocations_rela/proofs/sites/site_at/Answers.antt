-- `relocations_rela::sites::site_at` meets its contract.
use mathlib.Core.Path.{ap}
use Prim.Native.Nat.{◌<◌}
use native.Mathlib.Omega.{arith}
use Rattle.elf_read.specs.Headers.{section_count}
use Rattle.elf_read.specs.Sections.{section_at}
use Rattle.relocations_rela.specs.Sites.{site_at}
use Rattle.relocations_rela.proofs.sites.site_at.Goals as goal
use Rattle.relocations_rela.proofs.sites.site_at.Goals.{After-read_section-rela}

-- the section that it relocates
target : (c : After-read_section-rela) → c.read_section-rela.result.info < section_count c.args.object.now
target c =
    let f = c.requires in
    let there : (section_at c.args.object.now c.args.i).info < section_count c.args.object.now = ((f.0.sections c.args.i f.1).rela f.2).target_there in
    omega (arith, there, ap (λ h. h.info) c.read_section-rela.ensures)

pub read_section-target-requires : goal.read_section-target-requires
read_section-target-requires c = (c.requires.0.table, target (goal.at.read_section-target-requires c).After-read_section-rela)

pub bounds-addresses-index : goal.bounds-addresses-index
bounds-addresses-index c = omega (arith, target (goal.at.bounds-addresses-index c).After-read_section-rela, c.requires.3)

pub returns : goal.returns
unfolding site_at
returns c =
    rw (c.read_section-target.ensures, c.read_section-rela.ensures, c.has_rvc.ensures)
