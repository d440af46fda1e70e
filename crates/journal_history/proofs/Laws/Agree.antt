-- The invariant: the files are those of a history, and each call keeps it so, with the history's answer.
use mathlib.Core.Path.{◌≡◌, refl, sym, ap, ◌∙◌}
use Prim.Native.Nat.{ℕ, zero, suc, ◌+◌, ◌≤◌}
use native.Mathlib.Omega.{arith}
use mathlib.Core.Bool.{Bool, true, false, cond}
use mathlib.Core.List.{List, [], ◌∷◌, ◌++◌}
use lib.ListN.{length, take, drop, length-append, length-drop, replicate, take-append-drop, length-replicate}
use lib.Seq.{take_at, length-take-le}
use lib.Dec.{eqb-suc-zero}
use borrow.Author.Tests.{le-leb}
use Rattle.numbers_definitions.specs.Bytes.{part}
use Rattle.numbers_definitions.proofs.Laws.Lists.{length_part}
use Rattle.order_format.specs.Windows.{max_image, length_allowed}
use Rattle.plan_pieces.specs.Plans.{Piece, Verdict, refused, plan, Judge, LaysInside, Inside, span_of}
use Rattle.journal_format.specs.Journals.{max_entries, old_at, count, held, entries, blank, total, Sound, sound, no_room}
use Rattle.journal_history.specs.Calls.{journal_full, Files, Outcome, refuse, succeed, installed, settle, install, rolled_back, rollback, Call, Install, Rollback, calling, call}
use Rattle.journal_history.specs.Histories.{Standing, History, spans, laid, olds, stand, fall, told, AsTold}
use Rattle.journal_format.proofs.Laws.Sound.{total_append, sound_test}
use Rattle.journal_history.proofs.Laws.Install.{room_left}
use Rattle.plan_pieces.proofs.Laws.Span.{length_overwritten, span_inside, undone}
use Rattle.journal_history.proofs.Laws.Stack.{AllIn, all_in_append, journal_of, length_journal, count_journal, held_journal, entries_journal, sound_journal}
use Rattle.journal_history.proofs.Laws.Moves.{old_bytes, pushed, popped}

-- ---- the invariant

-- each standing install was planned by the judgement, and had room when it was asked for
abbrev pub Stands : Judge → List ℕ → ℕ → List Standing → Type 0
Stands judge base room [] = Unit {0}
Stands judge base room (x ∷ xs) =
    (judge x.object x.order (length base) ≡ plan x.pieces)
    × (no_room (length xs) (total (spans xs)) (span_of x.pieces).size room ≡ false)
    × Stands judge base room xs

-- the files that a history determines, up to the number of free entries and the bytes that nothing reads
abbrev pub files_of : List ℕ → List Standing → ℕ → List ℕ → Files
files_of base xs free rest = record { image = laid base xs; journal = journal_of (spans xs) free (olds base xs ++ rest) }

-- `free` and `rest` are what they should be, for standing installs that the judgement planned
pub record Shape (judge : Judge) (base : List ℕ) (room : ℕ) (xs : List Standing) (free : ℕ) (rest : List ℕ) : Type 0 where
  pub short : length base ≤ max_image
  pub slots : length (spans xs) + free ≡ max_entries
  pub space : old_at + total (spans xs) + length rest ≡ room
  pub stands : Stands judge base room xs

-- the files are those of the history
pub record Agrees (judge : Judge) (h : History) (f : Files) : Type 0 where
  pub free : ℕ
  pub rest : List ℕ
  pub shape : Shape judge h.start h.room h.standing free rest
  pub files : f ≡ files_of h.start h.standing free rest

-- an answer that is the history's, and files that agree with it
abbrev pub Agreed : Judge → Outcome History → Outcome Files → Type 0
Agreed judge t o = (o.answer ≡ t.answer) × Agrees judge t.after o.after

-- ---- lengths

pub length_laid : (base : List ℕ) (xs : List Standing) → length (laid base xs) ≡ length base
unfolding laid
length_laid base [] = refl
length_laid base (x ∷ xs) = length_overwritten (laid base xs) x.pieces ∙ length_laid base xs

length_spans : (xs : List Standing) → length (spans xs) ≡ length xs
unfolding spans
length_spans [] = refl
length_spans (x ∷ xs) = simp length-append (omega (arith, length_spans xs))

module _ (judge : Judge) (lays : LaysInside judge) (base : List ℕ) (room : ℕ) where
  -- the history over this start
  abbrev pub over : List Standing → History
  over xs = record { start = base; room = room; standing = xs }

  in_spans : (xs : List Standing) → Stands judge base room xs → AllIn (length base) (spans xs)
  unfolding spans
  in_spans [] t = tt
  in_spans (x ∷ xs) t =
      all_in_append (length base) (spans xs) (span_of x.pieces ∷ []) (in_spans xs t.2)
      (span_inside (length base) x.pieces (lays x.object x.order (length base) x.pieces t.0), tt)

  -- a plan's span lies inside the image as it is
  plan_inside : (xs : List Standing) (object order : List ℕ) (ps : List Piece) → judge object order (length base) ≡ plan ps
      → (span_of ps).start + (span_of ps).size ≤ length (laid base xs)
  plan_inside xs object order ps e = rw (length_laid base xs) (span_inside (length base) ps (lays object order (length base) ps e))

  length_olds : (xs : List Standing) → Stands judge base room xs → length (olds base xs) ≡ total (spans xs)
  unfolding spans olds total
  length_olds [] t = refl
  length_olds (x ∷ xs) t =
      let s = span_of x.pieces in
      simp (length-append, total_append, length_part (laid base xs) s.start s.size (plan_inside xs x.object x.order x.pieces t.0))
      (omega (arith, length_olds xs t.2))

  -- ---- the two calls that are done

  stood : (xs : List Standing) (free : ℕ) (rest : List ℕ) → Shape judge base room xs free rest
      → (object order : List ℕ) (ps : List Piece) → judge object order (length base) ≡ plan ps
      → no_room (length xs) (total (spans xs)) (span_of ps).size room ≡ false
      → Agrees judge (over (record { object = object; order = order; pieces = ps } ∷ xs)) (installed ps (files_of base xs free rest))
  unfolding spans laid olds total
  stood xs zero rest w object order ps e ok =
      let all : length xs ≡ max_entries = omega (arith, length_spans xs, w.slots) in
      absurd ((room_left (length xs) (total (spans xs)) (span_of ps).size room ok).0 all)
  stood xs (suc free) rest w object order ps e ok =
      let n = (span_of ps).size in
      let fits : old_at + total (spans xs) + n ≤ room = (room_left (length xs) (total (spans xs)) n room ok).1 in
      record {
        free = free;
        rest = drop n rest;
        shape = record {
          short = w.short;
          slots = simp length-append (omega arith);
          space = simp (total_append, length-drop) (omega arith);
          stands = (e, ok, w.stands);
        };
        files = ap (λ (l : List ℕ). installed ps (files_of base xs (suc free) l)) (sym (take-append-drop n rest))
            ∙ pushed (laid base xs) (spans xs) free (olds base xs) (take n rest) (drop n rest) (length base) w.slots w.short
            (length_olds xs w.stands) ps (in_spans xs w.stands) (plan_inside xs object order ps e)
            (length-take-le n rest (omega arith));
      }

  fallen : (x : Standing) (xs : List Standing) (free : ℕ) (rest : List ℕ) → Shape judge base room (x ∷ xs) free rest
      → Agrees judge (over xs) (rolled_back (files_of base (x ∷ xs) free rest))
  unfolding spans laid olds total
  fallen x xs free rest w =
      let t = w.stands in
      let s = span_of x.pieces in
      let old = part (laid base xs) s.start s.size in
      let inside : Inside (length (laid base xs)) x.pieces =
      rw (length_laid base xs) (lays x.object x.order (length base) x.pieces t.0) in
      let slots : length (spans xs) + suc free ≡ max_entries = omega (arith, simp length-append at w.slots) in
      record {
        free = suc free;
        rest = replicate s.size 0 ++ rest;
        shape = record {
          short = w.short;
          slots = slots;
          space = simp (length-append, length-replicate) (omega (arith, simp total_append at w.space));
          stands = t.2;
        };
        files = popped (laid base (x ∷ xs)) (spans xs) free (olds base xs) old rest (length base) slots w.short (length_olds xs t.2) s
            (in_spans (x ∷ xs) t)
            (length_part (laid base xs) s.start s.size (plan_inside xs x.object x.order x.pieces t.0))
            ∙ ap (λ (l : List ℕ). record { image = l; journal = journal_of (spans xs) (suc free) (olds base xs ++ (replicate s.size 0 ++ rest)) })
            (undone (laid base xs) x.pieces inside);
      }

  -- ---- what is read of the files, and each call

  module _ (xs : List Standing) (free : ℕ) (rest : List ℕ) (w : Shape judge base room xs free rest) where
    count_files : count (files_of base xs free rest).journal ≡ length xs
    count_files = count_journal (spans xs) free (olds base xs ++ rest) w.slots ∙ length_spans xs

    held_files : held (files_of base xs free rest).journal ≡ total (spans xs)
    held_files = held_journal (spans xs) free (olds base xs ++ rest) w.slots (length base) w.short (in_spans xs w.stands)

    length_files : length (files_of base xs free rest).journal ≡ room
    length_files =
        length_journal (spans xs) free (olds base xs ++ rest) w.slots ∙ simp (length-append, length_olds xs w.stands) (omega arith)

    sound_files : Sound (files_of base xs free rest).journal (length (laid base xs))
    sound_files =
        rw (length_laid base xs)
        (sound_journal (spans xs) free (olds base xs ++ rest) w.slots (length base) w.short (in_spans xs w.stands)
        (simp length-append (omega (arith, length_olds xs w.stands))))

    test_files : sound (files_of base xs free rest).journal (length (laid base xs)) ≡ true
    test_files = sound_test _ _ sound_files

    entries_files : take (length xs) (entries (files_of base xs free rest).journal) ≡ spans xs
    entries_files =
        rw (entries_journal (spans xs) free (olds base xs ++ rest) w.slots (length base) w.short (in_spans xs w.stands))
        (take_at (spans xs) (replicate free blank) (length xs) (length_spans xs))

    files_told : AsTold (over xs) (files_of base xs free rest)
    files_told =
        record {
          image_is = refl;
          count_is = count_files;
          held_is = held_files;
          entries_are = rw count_files entries_files;
          old_are = old_bytes (spans xs) free [] (olds base xs) rest old_at (total (spans xs)) w.slots refl (length_olds xs w.stands);
          room_is = length_files;
          still_sound = sound_files;
        }

    here : Agrees judge (over xs) (files_of base xs free rest)
    here = record { free = free; rest = rest; shape = w; files = refl }

    module _ (object order : List ℕ) where
      roomed : (ps : List Piece) → judge object order (length base) ≡ plan ps
          → (b : Bool) → no_room (length xs) (total (spans xs)) (span_of ps).size room ≡ b
          → Agreed judge
          (cond b (refuse journal_full (over xs)) (succeed (over (record { object = object; order = order; pieces = ps } ∷ xs))))
          (cond b (refuse journal_full (files_of base xs free rest)) (succeed (installed ps (files_of base xs free rest))))
      roomed ps e true full = (refl, here)
      roomed ps e false ok = (refl, stood xs free rest w object order ps e ok)

      settled : (v : Verdict) → judge object order (length base) ≡ v
          → Agreed judge (stand (over xs) object order v) (settle (files_of base xs free rest) v)
      unfolding settle stand
      settled (refused a) e = (refl, here)
      settled (plan ps) e =
          rw (count_files, held_files, length_files) (roomed ps e (no_room (length xs) (total (spans xs)) (span_of ps).size room) refl)

      install_agrees : Agreed judge (told judge (over xs) (Install object order)) (call judge (files_of base xs free rest) (Install object order))
      unfolding told calling install
      install_agrees = rw (test_files, length_laid base xs) (settled (judge object order (length base)) refl)

  allowed : length base ≤ max_image → length_allowed (length base) ≡ true
  unfolding length_allowed
  allowed h = le-leb (length base) max_image h

  rollback_agrees : (xs : List Standing) (free : ℕ) (rest : List ℕ) → Shape judge base room xs free rest
      → Agreed judge (told judge (over xs) Rollback) (call judge (files_of base xs free rest) Rollback)
  unfolding told calling rollback fall
  rollback_agrees [] free rest w =
      rw (test_files [] free rest w, length_laid base [], allowed w.short, count_files [] free rest w) (refl, here [] free rest w)
  rollback_agrees (x ∷ xs) free rest w =
      rw (test_files (x ∷ xs) free rest w, length_laid base (x ∷ xs), allowed w.short, count_files (x ∷ xs) free rest w, eqb-suc-zero (length xs))
      (refl, fallen x xs free rest w)

-- ---- the invariant is kept, and says what demand 3 says

module _ (judge : Judge) (lays : LaysInside judge) (h : History) (f : Files) (a : Agrees judge h f) where
  pub agrees : (c : Call) → Agreed judge (told judge h c) (call judge f c)
  agrees (Install object order) =
      rw a.files (install_agrees judge lays h.start h.room h.standing a.free a.rest a.shape object order)
  agrees Rollback = rw a.files (rollback_agrees judge lays h.start h.room h.standing a.free a.rest a.shape)

  pub agrees_told : AsTold h f
  agrees_told = rw a.files (files_told judge lays h.start h.room h.standing a.free a.rest a.shape)
