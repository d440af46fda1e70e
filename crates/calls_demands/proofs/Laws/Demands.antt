-- The demands, proved for document 01's judgement.
use Rattle.std.specs.Prelude.{Err, Ok, Result, ⊤}
use mathlib.Core.Logic.{◌⊎◌, inl, inr}
use mathlib.Core.Path.{◌≡◌, refl, sym, ap, subst, ◌∙◌}
use mathlib.Core.Bool.{Bool, true, false, not, cond}
use mathlib.Core.List.{List, [], ◌∷◌}
use Prim.Native.Nat.{ℕ, ◌≤◌, ◌<◌}
use native.Mathlib.Omega.{arith}
use lib.ListN.{length}
use lib.Dec.{leb, eqb}
use borrow.Author.Tests.{leb-true, le-leb, eqb-true, eqb-false}
use Rattle.numbers_definitions.proofs.Laws.Tests.{clash}
use Rattle.order_format.specs.Orders.{well_formed}
use Rattle.elf_read.specs.Headers.{class_of, address_width}
use Rattle.order_format.specs.Windows.{max_image, length_allowed, window_allowed}
use Rattle.order_lookup.specs.Addresses.{addresses_for, base_for}
use Rattle.elf_header.specs.Headers.{header_allowed}
use Rattle.elf_check.specs.Rules.{section_check}
use Rattle.journal_format.specs.Journals.{count, held, Sound, sound, no_room}
use Rattle.plan_pieces.specs.Plans.{Piece, Verdict, refused, plan, overwritten, span_of}
use Rattle.plan_pieces.specs.Answers.{Answer, says_why, done}
use Rattle.journal_history.specs.Calls.{journal_unsound, window_broken, none_stands, journal_full, Files, refuse, succeed, installed, settle, install, rolled_back, rollback, Install, Rollback, calling}
use Rattle.journal_format.proofs.Laws.Sound.{test_sound, sound_test}
use Rattle.journal_history.specs.Histories.{Standing, begin, laid, history_of, Kind}
use Rattle.journal_history.specs.Records.{Appended, Released}
use Rattle.journal_history.proofs.Laws.Install.{held_small, plan_savable}
use Rattle.journal_history.proofs.Laws.Rollback.{undoable, done_with}
use Rattle.journal_history.proofs.Laws.Records.{installed_appends, releases}
use Rattle.journal_history.proofs.Laws.Corollaries.{refusal_keeps}
use Rattle.journal_history.proofs.Laws.Agree.{Stands, length_laid}
use Rattle.journal_history.proofs.Laws.History.{run_over, agrees_after, history_holds}
use Rattle.placing_match.specs.Placements.{placement_check}
use Rattle.placing_match.specs.Externals.{external_check}
use Rattle.placing_check.specs.Placing.{placing_check}
use Rattle.relocations_rules.specs.declared.Broken.{Broken}
use Rattle.relocations_rules.specs.Search.{number, reason, relocation_check}
use Rattle.placing_match.proofs.Laws.Theorems.{nothing_to_place as «none-placed»}
use Rattle.calls_judgement.specs.Requires.{Fitting}
use Rattle.calls_judgement.specs.Judgement.{after_test, after_sections, after_fault, after_relocations, plan_of, judgement}
use Rattle.calls_judgement.proofs.Laws.Judgement.{some_number, Fits, plan_fits}
use Rattle.calls_judgement.proofs.Laws.Laying.{length_fits, length_short, plan_inside, lays_inside}
use Rattle.calls_demands.specs.Rules.{Rules}
use Rattle.calls_demands.specs.First.{nil, rule, Checks, none, one, HoldBelow, AllHold, FirstBroken, table}
use Rattle.calls_demands.specs.Laid.{IsSpan, Laid}
use Rattle.calls_demands.specs.Demands.{rollback_table, Demand1, Demand2, Journalled, StandAsLaid, Demand3}
use Rattle.calls_demands.specs.Ours.{our_install, our_rollback}
use Rattle.calls_demands.specs.Codes.{CarriesReason}
use Rattle.calls_demands.proofs.Laws.First.{none_broken, one_first, Numbers, named_number, Told, later, at_once, broken_once}
use Rattle.calls_demands.proofs.Laws.Symbols.{later_rules, symbols_hold, symbols_held}
use Rattle.calls_demands.proofs.Laws.Told.{told}
use Rattle.calls_demands.proofs.Laws.Laid.{laid_well}
use Rattle.calls_demands.proofs.Laws.Spans.{is_span}

-- ---- every rule, from the table and back

holds_once : {R : Type 0} (n : ℕ) → HoldBelow (rule n 0 (λ _. R) nil) 1 → R
holds_once n h = (h 0 (omega arith)).0

pub rules_hold : (object order : List ℕ) (f : Files) → AllHold (table object order f) → Rules object order f
unfolding table
rules_hold object order f h1 =
    let h4 = h1.1 in
    let h2 = h4.1 in
    let h3 = h2.1 in
    let h5 = h3.1 in
    let hs = h5.1 in
    let h6 = hs.1 in
    let h7 = h6.1 in
    let h8 = h7.1 in
    let h9 = h8.1 in
    let h15 = h9.1 in
    record {
      journal_sound = holds_once 1 h1.0;
      order_well = holds_once 2 h2.0;
      window_well = holds_once 3 h3.0;
      header_well = holds_once 4 h4.0;
      table_well = holds_once 5 h5.0;
      sections_well = λ i l. (hs.0 i l).0;
      placements_match = λ i l. (h6.0 i l).0;
      externals_match = λ k l. (h7.0 k l).0;
      placed_well = λ i l. (h8.0 i l).0;
      shapes = λ k l. (h9.0 k l).0;
      symbols_resolve = λ k l. (symbols_held object order (later_rules object order) k (h9.0 k l).1).0;
      forms_are = λ k l. (symbols_held object order (later_rules object order) k (h9.0 k l).1).1.0;
      one_pair_each = λ k l. (symbols_held object order (later_rules object order) k (h9.0 k l).1).1.1.0;
      all_reach = λ k l. (symbols_held object order (later_rules object order) k (h9.0 k l).1).1.1.1.0;
      on_boundaries = λ k l. (symbols_held object order (later_rules object order) k (h9.0 k l).1).1.1.1.1.0;
      room = holds_once 15 h15.0;
    }

hold_rules : (object order : List ℕ) (f : Files) → Rules object order f → AllHold (table object order f)
unfolding table
hold_rules object order f r = (
  at_once 1 r.journal_sound,
  (
    at_once 4 r.header_well,
    (
      at_once 2 r.order_well,
      (
        at_once 3 r.window_well,
        (
          at_once 5 r.table_well,
          (
            (λ i l. (r.sections_well i l, tt)),
            (
              (λ i l. (r.placements_match i l, tt)),
              (
                (λ k l. (r.externals_match k l, tt)),
                (
                  (λ i l. (r.placed_well i l, tt)),
                  (
                    (λ k l. (r.shapes k l, symbols_hold object order (later_rules object order) k (r.symbols_resolve k l) (r.forms_are k l, (r.one_pair_each k l, (r.all_reach k l, (r.on_boundaries k l, tt)))))),
                    (at_once 15 r.room, tt),
                  ),
                ),
              ),
            ),
          ),
        ),
      ),
    ),
  ),
)

-- ---- an answer by its number and its reason

-- the numbers of an install, and of a rollback
abbrev pub OfInstall : ℕ → ℕ → Type 0
OfInstall n r = (0 < n) × (n ≤ 15) × CarriesReason n r

abbrev pub OfRollback : ℕ → ℕ → Type 0
OfRollback n r = ((n ≡ 1) ⊎ ((n ≡ 3) ⊎ (n ≡ 16))) × (r ≡ 0)

pub no_reason : (n : ℕ) → (n ≡ 10 → ⊥) → CarriesReason n 0
no_reason n h = record { ten = λ e. absurd (h e); others = λ _. refl }

pub numbers_are : (object order : List ℕ) (f : Files) → Numbers OfInstall (table object order f)
unfolding table
numbers_are object order f =
    let up : (n : ℕ) → 0 < n → n ≤ 15 → (n ≡ 10 → ⊥) → OfInstall n 0 = λ n l h t. (l, h, no_reason n t) in
    let one : (n : ℕ) → 0 < n → n ≤ 15 → (n ≡ 10 → ⊥) → OfInstall n 0 × Unit {0} = λ n l h t. (up n l h t, tt) in
    let ten : (r : ℕ) → 1 ≤ r → r ≤ 7 → OfInstall 10 r = λ r l h. (omega arith, omega arith, record { ten = λ _. (l, h); others = λ t. absurd (t refl) }) in (
      one 1 (omega arith) (omega arith) (λ e. omega arith),
      (
        one 4 (omega arith) (omega arith) (λ e. omega arith),
        (
          one 2 (omega arith) (omega arith) (λ e. omega arith),
          (
            one 3 (omega arith) (omega arith) (λ e. omega arith),
            (
              one 5 (omega arith) (omega arith) (λ e. omega arith),
              (
                one 5 (omega arith) (omega arith) (λ e. omega arith),
                (
                  one 6 (omega arith) (omega arith) (λ e. omega arith),
                  (
                    one 7 (omega arith) (omega arith) (λ e. omega arith),
                    (
                      one 8 (omega arith) (omega arith) (λ e. omega arith),
                      (
                        (
                          up 9 (omega arith) (omega arith) (λ e. omega arith),
                          (
                            ten 1 (omega arith) (omega arith),
                            (
                              ten 2 (omega arith) (omega arith),
                              (
                                ten 3 (omega arith) (omega arith),
                                (
                                  ten 4 (omega arith) (omega arith),
                                  (
                                    ten 5 (omega arith) (omega arith),
                                    (
                                      ten 6 (omega arith) (omega arith),
                                      (
                                        ten 7 (omega arith) (omega arith),
                                        (
                                          up 11 (omega arith) (omega arith) (λ e. omega arith),
                                          (
                                            up 12 (omega arith) (omega arith) (λ e. omega arith),
                                            (up 13 (omega arith) (omega arith) (λ e. omega arith), one 14 (omega arith) (omega arith) (λ e. omega arith)),
                                          ),
                                        ),
                                      ),
                                    ),
                                  ),
                                ),
                              ),
                            ),
                          ),
                        ),
                        (one 15 (omega arith) (omega arith) (λ e. omega arith), tt),
                      ),
                    ),
                  ),
                ),
              ),
            ),
          ),
        ),
      ),
    )

pub above : (object order : List ℕ) (f : Files) (a : Answer) → FirstBroken (table object order f) a → 0 < a.number
above object order f a b = (named_number OfInstall (table object order f) a (numbers_are object order f) b).0

pub rollback_numbers : (f : Files) → Numbers OfRollback (rollback_table f)
unfolding rollback_table
rollback_numbers f = (((inl refl, refl), tt), (((inr (inl refl), refl), tt), (((inr (inr refl), refl), tt), tt)))

pub rollback_above : (f : Files) (a : Answer) → FirstBroken (rollback_table f) a → 0 < a.number
rollback_above f a b = go (named_number OfRollback (rollback_table f) a (rollback_numbers f) b).0
  where
    go : (a.number ≡ 1) ⊎ ((a.number ≡ 3) ⊎ (a.number ≡ 16)) → 0 < a.number
    go (inl e) = omega arith
    go (inr (inl e)) = omega arith
    go (inr (inr e)) = omega arith

-- by `Told`, an answer that is not done has a number above 0
not_zero : (c : Checks) (a : Answer) → (FirstBroken c a → 0 < a.number) → Told c a → (a ≡ done → ⊥) → a.number ≡ 0 → ⊥
not_zero c a up (inl t) not_done e = not_done t.0
not_zero c a up (inr b) not_done e = omega (arith, up b)

first_of : (c : Checks) (a : Answer) → Told c a → (a ≡ done → ⊥) → FirstBroken c a
first_of c a (inl t) not_done = absurd (not_done t.0)
first_of c a (inr b) not_done = b

done_all : (c : Checks) (a : Answer) → (FirstBroken c a → 0 < a.number) → Told c a → a ≡ done → AllHold c
done_all c a up (inl t) e = t.1
done_all c a up (inr b) e = absurd (omega (arith, up b, ap (λ x. x.number) e))

all_done : (c : Checks) (a : Answer) → Told c a → AllHold c → a ≡ done
all_done c a (inl t) h = t.0
all_done c a (inr b) h = absurd (none_broken c a h b)

named : (c : Checks) (a : Answer) → Told c a → (b : Answer) → FirstBroken c b → a ≡ b
named c a (inl t) b broken = absurd (none_broken c b t.1 broken)
named c a (inr first) b broken = one_first c a b first broken

-- ---- what a done install leaves

-- the judgement refuses with a number above 0
refused_above : (object order : List ℕ) (len : ℕ) (a : Answer) → judgement object order len ≡ refused a → 0 < a.number
unfolding judgement
refused_above object order len answer h =
    go (header_allowed object) (well_formed (class_of object) order) (window_allowed (address_width object) (base_for object order) len) (section_check object) (placement_check object order)
    (external_check object order) (placing_check object (addresses_for object order) (base_for object order) len) (relocation_check object order (addresses_for object order)) refl h
  where
    by : (m q r : ℕ) → 0 < m → refused (says_why m q r) ≡ refused answer → 0 < answer.number
    by m q r l e = let same : says_why m q r ≡ answer = cc in omega (arith, ap (λ x. x.number) same)

    go : (t a b : Bool) (c : Result ⊤ ℕ) (d e f : Result ⊤ ℕ) (g : Result ⊤ Broken) → relocation_check object order (addresses_for object order) ≡ g
        → after_test 4 t (after_test 2 a (after_test 3 b (after_sections c (after_fault 6 d (after_fault 7 e (after_fault 8 f (after_relocations g (plan (plan_of object order))))))))) ≡ refused answer
        → 0 < answer.number
    go false a b c d e f g q h = by 4 0 0 (omega arith) h
    go true false b c d e f g q h = by 2 0 0 (omega arith) h
    go true true false c d e f g q h = by 3 0 0 (omega arith) h
    go true true true (Err i) d e f g q h = by 5 i 0 (omega arith) h
    go true true true (Ok _) (Err i) e f g q h = by 6 i 0 (omega arith) h
    go true true true (Ok _) (Ok _) (Err i) f g q h = by 7 i 0 (omega arith) h
    go true true true (Ok _) (Ok _) (Ok _) (Err i) g q h = by 8 i 0 (omega arith) h
    go true true true (Ok _) (Ok _) (Ok _) (Ok _) (Err b) q h =
        let some : number b.finding ≡ 0 → ⊥ = eqb-false (number b.finding) 0 (some_number b.finding) in
        by (number b.finding) b.relocation (reason b.finding) (omega arith) h
    go true true true (Ok _) (Ok _) (Ok _) (Ok _) (Ok _) q h =
        let z : ◌≡◌ {A = ℕ} 0 1 = cc in
        absurd (omega arith)

pub record Done (object order : List ℕ) (f : Files) : Type 0 where
  pub fits : Fits object order (length f.image) (plan_of object order)
  pub verdict_is : judgement object order (length f.image) ≡ plan (plan_of object order)
  pub room_is : no_room (count f.journal) (held f.journal) (span_of (plan_of object order)).size (length f.journal) ≡ false
  pub after_is : (install judgement object order f).after ≡ installed (plan_of object order) f

pub wrong_number : {A : Type 0} (a : Answer) → 0 < a.number → a ≡ done → A
wrong_number a l e = absurd (omega (arith, ap (λ x. x.number) e))

pub done_leaves : (object order : List ℕ) (f : Files) → (install judgement object order f).answer ≡ done → Done object order f
unfolding install settle
done_leaves object order f e = go (sound f.journal (length f.image)) refl (judgement object order (length f.image)) refl e
  where
    len : ℕ
    len = length f.image

    room : List Piece → Bool
    room ps = no_room (count f.journal) (held f.journal) (span_of ps).size (length f.journal)

    -- what is left is what the plan lays
    left : (ps : List Piece) → Fits object order len ps → sound f.journal len ≡ true → judgement object order len ≡ plan ps → room ps ≡ false → Done object order f
    left ps fits s v r =
        let same : ps ≡ plan_of object order = sym fits.plan_is in
        record {
          fits = subst (Fits object order len) same fits;
          verdict_is = v ∙ ap plan same;
          room_is = ap room (sym same) ∙ r;
          after_is = rw (s, v, r, same);
        }

    go : (b : Bool) → sound f.journal len ≡ b → (v : Verdict) → judgement object order len ≡ v
        → (cond (not b) (refuse journal_unsound f) (settle f v)).answer ≡ done → Done object order f
    go false s v q h = wrong_number journal_unsound (omega arith) h
    go true s (refused a) q h = wrong_number a (refused_above object order len a q) h
    go true s (plan ps) q h = within (room ps) refl h
      where
        within : (r : Bool) → room ps ≡ r → (cond r (refuse journal_full f) (succeed (installed ps f))).answer ≡ done → Done object order f
        within true r h = wrong_number journal_full (omega arith) h
        within false r h = left ps (plan_fits object order len ps q) s q r

-- ---- a rollback

pub rollback_told : (f : Files) → Told (rollback_table f) (rollback f).answer
unfolding rollback_table rollback length_allowed
rollback_told f = go (sound f.journal len) refl (leb len max_image) refl (eqb (count f.journal) 0) refl
  where
    len : ℕ
    len = length f.image

    last : Checks
    last = one 16 (0 < count f.journal) none

    rest : Checks
    rest = one 3 (len ≤ max_image) last

    go : (a : Bool) → sound f.journal len ≡ a → (b : Bool) → leb len max_image ≡ b → (c : Bool) → eqb (count f.journal) 0 ≡ c
        → Told (one 1 (Sound f.journal len) rest)
        (cond (not a) (refuse journal_unsound f) (cond (not b) (refuse window_broken f) (cond c (refuse none_stands f) (succeed (rolled_back f))))).answer
    go false p b q c r = broken_once 1 rest (λ s. clash (sound f.journal len) p (sound_test f.journal len s))
    go true p false q c r =
        later 1 (rule 1 0 (λ _. Sound f.journal len) nil) rest window_broken (at_once 1 (test_sound f.journal len p))
        (broken_once 3 last (λ s. clash (leb len max_image) q (le-leb len max_image s)))
    go true p true q true r =
        later 1 (rule 1 0 (λ _. Sound f.journal len) nil) rest none_stands (at_once 1 (test_sound f.journal len p))
        (later 1 (rule 3 0 (λ _. len ≤ max_image) nil) last none_stands (at_once 3 (leb-true len max_image q))
        (broken_once 16 none (λ s. absurd (omega (arith, eqb-true (count f.journal) 0 r)))))
    go true p true q false r =
        let some : count f.journal ≡ 0 → ⊥ = eqb-false (count f.journal) 0 r in
        inl (refl, (at_once 1 (test_sound f.journal len p), (at_once 3 (leb-true len max_image q), (at_once 16 (omega arith), tt))))

-- ---- demand 1

pub demand_1 : Demand1 our_install our_rollback
unfolding calling
demand_1 =
    record {
      install_refused = λ object order f r. first_of (table object order f) (our_install object order f).answer (told object order f) r;
      rollback_refused = λ f r. first_of (rollback_table f) (our_rollback f).answer (rollback_told f) r;
      rollback_holds = λ f e. done_all (rollback_table f) (our_rollback f).answer (rollback_above f _) (rollback_told f) e;
      rollback_done = λ f h. all_done (rollback_table f) (our_rollback f).answer (rollback_told f) h;
      rollback_first = λ f a b. named (rollback_table f) (our_rollback f).answer (rollback_told f) a b;
      install_kept = λ object order f r.
          refusal_keeps judgement f (Install object order)
          (not_zero (table object order f) (our_install object order f).answer (above object order f _) (told object order f) r);
      rollback_kept = λ f r. refusal_keeps judgement f Rollback (not_zero (rollback_table f) (our_rollback f).answer (rollback_above f _) (rollback_told f) r);
    }

-- ---- demand 2

rules_of : (object order : List ℕ) (f : Files) → (our_install object order f).answer ≡ done → Rules object order f
rules_of object order f e = rules_hold object order f (done_all (table object order f) (our_install object order f).answer (above object order f _) (told object order f) e)

laid_of : (object order : List ℕ) (f : Files) → Done object order f → Laid object order f.image (our_install object order f).after.image
unfolding installed
laid_of object order f d =
    subst (Laid object order f.image) (sym (ap (λ g. g.image) d.after_is)) (laid_well object order d.fits.counts f.image d.fits.fitting)

pub demand_2 : Demand2 our_install
demand_2 =
    record {
      done_holds = rules_of;
      holds_done = λ object order f r. all_done (table object order f) (our_install object order f).answer (told object order f) (hold_rules object order f r);
      refused_first = λ object order f r. first_of (table object order f) (our_install object order f).answer (told object order f) r;
      first_refused = λ object order f a b. named (table object order f) (our_install object order f).answer (told object order f) a b;
      laid = λ object order f e. laid_of object order f (done_leaves object order f e);
      nothing_to_place = λ object order f e z t h.
          «none-placed» object order (done_leaves object order f e).fits.fitting.placeable.named.placements z (omega (arith, (rules_of object order f e).table_well.few)) t h;
    }

-- ---- what a done call leaves in the journal

appends_of : (object order : List ℕ) (f : Files) → (our_install object order f).answer ≡ done → Appended f (our_install object order f).after (span_of (plan_of object order))
appends_of object order f e =
    let d = done_leaves object order f e in
    let len = length f.image in
    let fitting = d.fits.fitting in
    subst (λ g. Appended f g (span_of (plan_of object order))) (sym d.after_is)
    (installed_appends (plan_of object order) f
    (plan_savable f.image f.journal (plan_of object order) (sound_test f.journal len (rules_of object order f e).journal_sound)
    (length_fits object order d.fits.counts len fitting) d.room_is (plan_inside object order d.fits.counts len fitting))
    (length_short object order d.fits.counts len fitting))

releases_of : (f : Files) → AllHold (rollback_table f) → Released f (our_rollback f).after
unfolding rollback_table length_allowed
releases_of f h1 =
    let h3 = h1.1 in
    let h16 = h3.1 in
    let len = length f.image in
    let s : Sound f.journal len = holds_once 1 h1.0 in
    let short : len ≤ max_image = holds_once 3 h3.0 in
    let some : 0 < count f.journal = holds_once 16 h16.0 in
    let after_is : succeed (rolled_back f) ≡ rollback f =
    done_with f (sound_test f.journal len s) (le-leb len max_image short) (rolled_back f) (λ z. omega arith) refl in
    subst (Released f) (ap (λ o. o.after) after_is)
    (releases f.image f.journal (undoable f.image f.journal s some) (omega (arith, held_small f.journal len s short)))

pub journalled : Journalled our_install our_rollback
journalled =
    record {
      appends = λ object order f e.
          let fits = (done_leaves object order f e).fits in
          (span_of (plan_of object order), is_span object order fits.counts (length f.image) fits.fitting, appends_of object order f e);
      releases = λ f e. releases_of f (demand_1.rollback_holds f e);
    }

-- ---- demand 3, whole: every start, every list of calls

-- each fit that stands is laid as demand 2 says, over what those before it left
stand_as_laid : (start : List ℕ) (room : ℕ) (xs : List Standing) → Stands judgement start room xs → StandAsLaid start xs
unfolding laid
stand_as_laid start room [] t = tt
stand_as_laid start room (x ∷ xs) t =
    let fits = plan_fits x.object x.order (length start) x.pieces t.0 in
    let here : Fitting x.object x.order fits.counts (length (laid start xs)) =
    subst (Fitting x.object x.order fits.counts) (sym (length_laid start xs)) fits.fitting in (
      subst (λ ps. Laid x.object x.order (laid start xs) (overwritten (laid start xs) ps)) fits.plan_is (laid_well x.object x.order fits.counts (laid start xs) here),
      subst (λ ps. IsSpan x.object x.order (span_of ps)) fits.plan_is (is_span x.object x.order fits.counts (length start) fits.fitting),
      stand_as_laid start room xs t.2,
    )

pub demand_3 : (K : Kind) → Demand3 K our_install our_rollback
demand_3 K start b s calls k =
    let h = history_of judgement start calls in
    record {
      holds = history_holds judgement lays_inside K start s calls;
      stand_as_laid = subst (λ l. StandAsLaid l h.standing) (run_over judgement calls (begin start)).0
          (stand_as_laid h.start h.room h.standing (agrees_after judgement lays_inside start s calls).shape.stands);
    }
