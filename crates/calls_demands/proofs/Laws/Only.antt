-- Two pairs of calls that meet the demands are the same on bytes, so the demands leave nothing open.
use mathlib.Core.Logic.{◌⊎◌, inl, inr, ⊎_elim}
use mathlib.Core.Path.{◌≡◌, sym, ap, subst, ◌∙◌}
use mathlib.Core.List.{List}
use Prim.Native.Nat.{ℕ, ◌+◌, ◌-◌, ◌≤◌, ◌<◌}
use native.Mathlib.Omega.{arith}
use native.Mathlib.Decide.{dec_lt}
use lib.ListN.{length, get_or}
use lib.Seq.{ext_get_or}
use Rattle.plan_pieces.specs.declared.Span.{Span}
use Rattle.journal_format.specs.Journals.{max_entries, old_at, count, held, entry, Sound}
use Rattle.journal_history.specs.Writes.{newest, held_below}
use Rattle.plan_pieces.specs.Answers.{Answer}
use Rattle.journal_history.specs.Calls.{Files, Outcome, InstallCall, RollbackCall}
use Rattle.journal_history.specs.Histories.{FilesAre}
use Rattle.journal_history.specs.Records.{Appended, Released}
use Rattle.journal_history.proofs.Laws.Rollback.{undoable}
use Rattle.calls_demands.specs.First.{AllHold, FirstBroken, table}
use Rattle.calls_demands.specs.Demands.{rollback_table, AreBytes, Meets}
use Rattle.calls_demands.proofs.Laws.Told.{told}
use Rattle.calls_demands.proofs.Laws.Lists.{equal, part_same, drop_same}
use Rattle.calls_demands.proofs.Laws.Journals.{same_journal, one_span}
use Rattle.calls_demands.proofs.Laws.Same.{same_image}
use Rattle.calls_demands.proofs.Laws.Demands.{rules_hold, above, rollback_told, rollback_above, wrong_number, done_leaves, demand_2}

-- ---- outcomes

same_outcome : (o p : Outcome Files) → o.answer ≡ p.answer → o.after.image ≡ p.after.image → o.after.journal ≡ p.after.journal → o ≡ p
same_outcome o p e a b = λ i. record { answer = e i; after = record { image = a i; journal = b i } }

-- ---- the journal after a done install

module _ (f g h : Files) (s : Span) (a : Appended f g s) (b : Appended f h s) (long : old_at ≤ length f.journal)
    (bg : FilesAre AreBytes g) (bh : FilesAre AreBytes h) where
  entry_same : (i : ℕ) → i < max_entries → entry g.journal i ≡ entry h.journal i
  entry_same i l = go (equal i (count f.journal))
    where
      go : (i ≡ count f.journal) ⊎ (i ≡ count f.journal → ⊥) → entry g.journal i ≡ entry h.journal i
      go (inl e) = ap (entry g.journal) e ∙ a.entry_is ∙ sym b.entry_is ∙ ap (entry h.journal) (sym e)
      go (inr out) = a.entries_same i l out ∙ sym (b.entries_same i l out)

  rest_same : (i : ℕ) → old_at ≤ i → get_or g.journal i 0 ≡ get_or h.journal i 0
  rest_same i low = go (dec_lt i (old_at + held f.journal)) (dec_lt i (old_at + held f.journal + s.size))
    where
      go : Dec (i < old_at + held f.journal) → Dec (i < old_at + held f.journal + s.size) → get_or g.journal i 0 ≡ get_or h.journal i 0
      go (yes l) d = part_same g.journal h.journal old_at (held f.journal) (a.old_same ∙ sym b.old_same) i low l
      go (no l) (yes m) = part_same g.journal h.journal (old_at + held f.journal) s.size (a.old_are ∙ sym b.old_are) i (omega arith) m
      go (no l) (no m) = drop_same g.journal h.journal (old_at + held f.journal + s.size) (a.past_same ∙ sym b.past_same) i (omega arith)

  appended_same : g.journal ≡ h.journal
  appended_same =
      same_journal g.journal h.journal bg.1 bh.1 (a.same_length ∙ sym b.same_length) (omega (arith, a.same_length))
      (a.count_raised ∙ sym b.count_raised) (a.held_raised ∙ sym b.held_raised) entry_same rest_same

-- ---- image and journal after a done rollback

module _ (f g h : Files) (a : Released f g) (b : Released f h) (long : old_at ≤ length f.journal) (within : (newest f.journal).size ≤ held f.journal)
    (bg : FilesAre AreBytes g) (bh : FilesAre AreBytes h) where
  released_image : g.image ≡ h.image
  released_image = ext_get_or 0 g.image h.image (a.image_length ∙ sym b.image_length) (λ i l. go i (dec_lt i (newest f.journal).start) (dec_lt i ((newest f.journal).start + (newest f.journal).size)))
    where
      go : (i : ℕ) → Dec (i < (newest f.journal).start) → Dec (i < (newest f.journal).start + (newest f.journal).size) → get_or g.image i 0 ≡ get_or h.image i 0
      go i (yes l) d = a.others_same i (λ from to. omega arith) ∙ sym (b.others_same i (λ from to. omega arith))
      go i (no l) (yes m) =
          part_same g.image h.image (newest f.journal).start (newest f.journal).size (a.written_back ∙ sym b.written_back) i (omega arith) m
      go i (no l) (no m) = a.others_same i (λ from to. omega arith) ∙ sym (b.others_same i (λ from to. omega arith))

  entry_left : (i : ℕ) → i < max_entries → entry g.journal i ≡ entry h.journal i
  entry_left i l = go (equal i (count f.journal - 1))
    where
      go : (i ≡ count f.journal - 1) ⊎ (i ≡ count f.journal - 1 → ⊥) → entry g.journal i ≡ entry h.journal i
      go (inl e) = ap (entry g.journal) e ∙ a.entry_zero ∙ sym b.entry_zero ∙ ap (entry h.journal) (sym e)
      go (inr out) = a.entries_same i l out ∙ sym (b.entries_same i l out)

  rest_left : (i : ℕ) → old_at ≤ i → get_or g.journal i 0 ≡ get_or h.journal i 0
  rest_left i low = go (dec_lt i (old_at + held_below f.journal)) (dec_lt i (old_at + held f.journal))
    where
      go : Dec (i < old_at + held_below f.journal) → Dec (i < old_at + held f.journal) → get_or g.journal i 0 ≡ get_or h.journal i 0
      go (yes l) d = part_same g.journal h.journal old_at (held_below f.journal) (a.old_same ∙ sym b.old_same) i low l
      go (no l) (yes m) =
          part_same g.journal h.journal (old_at + held_below f.journal) (newest f.journal).size (a.released_zero ∙ sym b.released_zero) i (omega arith) (omega arith)
      go (no l) (no m) = drop_same g.journal h.journal (old_at + held f.journal) (a.past_same ∙ sym b.past_same) i (omega arith)

  released_journal : g.journal ≡ h.journal
  released_journal =
      same_journal g.journal h.journal bg.1 bh.1 (a.same_length ∙ sym b.same_length) (omega (arith, a.same_length))
      (a.count_lowered ∙ sym b.count_lowered) (a.held_lowered ∙ sym b.held_lowered) entry_left rest_left

-- ---- one fitter

module _ (i k : InstallCall) (r s : RollbackCall) (m : Meets i r) (w : Meets k s) where
  -- an install
  module _ (object order : List ℕ) (f : Files) (object-bytes : AreBytes object) (bytes : FilesAre AreBytes f) where
    done_same : AllHold (table object order f) → i object order f ≡ k object order f
    done_same all =
        let rules = rules_hold object order f all in
        let di = m.demand_2.holds_done object order f rules in
        let dk = w.demand_2.holds_done object order f rules in
        let bi = m.install_bytes object order f object-bytes bytes in
        let bk = w.install_bytes object order f object-bytes bytes in
        let left = done_leaves object order f (demand_2.holds_done object order f rules) in
        let long : old_at ≤ length f.journal = omega (arith, rules.journal_sound.fits) in
        let si = m.journalled.appends object order f di in
        let sk = w.journalled.appends object order f dk in
        let one : sk.0 ≡ si.0 = one_span object order sk.0 si.0 sk.1 si.1 in
        same_outcome (i object order f) (k object order f) (di ∙ sym dk)
        (same_image object order left.fits.counts f.image (i object order f).after.image (k object order f).after.image left.fits.fitting
        (m.demand_2.laid object order f di) (w.demand_2.laid object order f dk) bi.0 bk.0)
        (appended_same f (i object order f).after (k object order f).after si.0 si.2 (subst (Appended f (k object order f).after) one sk.2) long bi bk)

    refused_same : (a : Answer) → FirstBroken (table object order f) a → i object order f ≡ k object order f
    refused_same a broken =
        let ai = m.demand_2.first_refused object order f a broken in
        let ak = w.demand_2.first_refused object order f a broken in
        let some : 0 < a.number = above object order f a broken in
        let ki = m.demand_1.install_kept object order f (λ e. wrong_number a some (sym ai ∙ e)) in
        let kk = w.demand_1.install_kept object order f (λ e. wrong_number a some (sym ak ∙ e)) in
        same_outcome (i object order f) (k object order f) (ai ∙ sym ak) (ap (λ g. g.image) (ki ∙ sym kk)) (ap (λ g. g.journal) (ki ∙ sym kk))

    -- "No public call is left unstated": two fitters that meet the demands give the same answer and leave the same bytes
    pub one_install : i object order f ≡ k object order f
    one_install = ⊎_elim (λ t. done_same t.1) (λ b. refused_same _ b) (told object order f)

  -- a rollback
  module _ (f : Files) (bytes : FilesAre AreBytes f) where
    back_same : AllHold (rollback_table f) → r f ≡ s f
    unfolding rollback_table
    back_same all =
        let dr = m.demand_1.rollback_done f all in
        let ds = w.demand_1.rollback_done f all in
        let sound : Sound f.journal (length f.image) = (all.0 0 (omega arith)).0 in
        let some : 0 < count f.journal = (all.1.1.0 0 (omega arith)).0 in
        let long : old_at ≤ length f.journal = omega (arith, sound.fits) in
        let within = (undoable f.image f.journal sound some).within in
        let a = m.journalled.releases f dr in
        let b = w.journalled.releases f ds in
        let br = m.rollback_bytes f bytes in
        let bs = w.rollback_bytes f bytes in
        same_outcome (r f) (s f) (dr ∙ sym ds) (released_image f (r f).after (s f).after a b long within br bs) (released_journal f (r f).after (s f).after a b long within br bs)

    kept_same : (a : Answer) → FirstBroken (rollback_table f) a → r f ≡ s f
    kept_same a broken =
        let ar = m.demand_1.rollback_first f a broken in
        let az = w.demand_1.rollback_first f a broken in
        let some : 0 < a.number = rollback_above f a broken in
        let kr = m.demand_1.rollback_kept f (λ e. wrong_number a some (sym ar ∙ e)) in
        let ks = w.demand_1.rollback_kept f (λ e. wrong_number a some (sym az ∙ e)) in
        same_outcome (r f) (s f) (ar ∙ sym az) (ap (λ g. g.image) (kr ∙ sym ks)) (ap (λ g. g.journal) (kr ∙ sym ks))

    pub one_rollback : r f ≡ s f
    one_rollback = ⊎_elim (λ t. back_same t.1) (λ b. kept_same _ b) (rollback_told f)
