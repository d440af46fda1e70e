-- `relocations_check_one::Source::check_one` meets its contract.
use mathlib.Core.Path.{refl, ap}
use Rattle.placing_symbols.specs.Arrays.{listed}
use Rattle.relocations_decisions.specs.Decisions.{is_store}
use Rattle.relocations_rela.specs.Trails.{shape_by}
use Rattle.relocations_check_one.proofs.Laws.Outcomes.{shape_breaks, align_read, marker_read, marker_comes}
use Rattle.relocations_check_one.proofs.Source.check_one.Goals as goal

pub returns-in-Align : goal.returns-in-Align
returns-in-Align c =
    let a = c.args in
    let f = c.requires in
    let v = listed a.self.now.values.now a.self.now.states.now in
    let is = c.in-Align.is in
    (marker_comes a.self.now.object.now a.site a.j a.trail a.decision a.here f.0 v _ a.last _ _ (ap is_store is) (align_read a.self.now.object.now a.site a.j a.trail a.decision a.here f.0 v is) (rw is c.step_align.ensures), (f.1, refl))

pub returns-in-Marker : goal.returns-in-Marker
returns-in-Marker c =
    let a = c.args in
    let f = c.requires in
    let v = listed a.self.now.values.now a.self.now.states.now in
    let is = c.in-Marker.is in
    (marker_comes a.self.now.object.now a.site a.j a.trail a.decision a.here f.0 v _ a.last _ _ (ap is_store is) (marker_read a.self.now.object.now a.site a.j a.trail a.decision a.here f.0 v is) (rw is c.step_marker.ensures), (f.1, refl))

pub returns-in-Refused : goal.returns-in-Refused
unfolding shape_by
returns-in-Refused c =
    let a = c.args in
    let f = c.requires in
    (shape_breaks a.self.now.object.now a.site a.j a.trail a.decision a.here f.0 (listed a.self.now.values.now a.self.now.states.now) (ap (λ d. shape_by a.trail d a.here a.site.target.size) c.in-Refused.is), (f.1, refl))
