-- Document 01's bench ledger: "after laying four bytes there over AA BB CC DD: 01000000, 08000000 04000000, 120 zero bytes, 04000000
-- AABBCCDD".
use mathlib.Core.Path.{◌≡◌, refl}
use Prim.Native.Nat.{ℕ}
use mathlib.Core.List.{List, [], ◌∷◌, ◌++◌}
use lib.ListN.{replicate}
use Rattle.numbers_definitions.specs.Bytes.{le, le_at, bytes, part}
use Rattle.numbers_definitions.specs.First.{first, everywhere, tabulate}
use Rattle.order_format.specs.Windows.{length_allowed}
use Rattle.plan_pieces.specs.Plans.{piece, Judge, plan, overwritten, end, lowest, span_of}
use Rattle.journal_format.specs.Journals.{entry, entries, total, is_blank, ends_within, sound, no_room}
use Rattle.journal_history.specs.Writes.{saving, saved, restoring, releasing}
use Rattle.plan_pieces.specs.Answers.{done}
use Rattle.journal_history.specs.Calls.{journal_full, none_stands, Files, installed, settle, install, rolled_back, rollback, Install, Rollback, calling, call, answers, run}

-- an empty journal of 140 bytes, and the bytes of the bench
abbrev pub empty : List ℕ
empty = replicate 140 0

abbrev pub said : List ℕ
said =
    0x01 ∷ 0x00 ∷ 0x00 ∷ 0x00
    ∷ 0x08 ∷ 0x00 ∷ 0x00 ∷ 0x00 ∷ 0x04 ∷ 0x00 ∷ 0x00 ∷ 0x00
    ∷ replicate 120 0
    ++ 0x04 ∷ 0x00 ∷ 0x00 ∷ 0x00 ∷ 0xAA ∷ 0xBB ∷ 0xCC ∷ 0xDD ∷ []

-- saving the span at 8 of any image that holds these four bytes there
pub saved_bench : (image : List ℕ) → part image 8 4 ≡ 0xAA ∷ 0xBB ∷ 0xCC ∷ 0xDD ∷ [] → saved image empty (record { start = 8; size = 4 }) ≡ said
unfolding saved saving overwritten le_at le bytes
saved_bench image e = rw e

-- ---- there and back

-- a judgement that always lays four bytes at 8
abbrev pub four : Judge
four object order len = plan (piece 8 (1 ∷ 2 ∷ 3 ∷ 4 ∷ []) ∷ [])

abbrev pub before : Files
before = record { image = replicate 8 0 ++ 0xAA ∷ 0xBB ∷ 0xCC ∷ 0xDD ∷ 7 ∷ []; journal = empty }

abbrev pub after : Files
after = record { image = replicate 8 0 ++ 1 ∷ 2 ∷ 3 ∷ 4 ∷ 7 ∷ []; journal = said }

pub install_bench : run (call four) before (Install [] [] ∷ []) ≡ after
unfolding le le_at bytes part first everywhere tabulate overwritten end lowest span_of entry entries total is_blank ends_within sound no_room saving saved installed settle install calling run
install_bench = refl

-- with a second install that finds no room, and a rollback of nothing
pub answers_bench : answers (call four) before (Install [] [] ∷ Install [] [] ∷ Rollback ∷ Rollback ∷ []) ≡ done ∷ journal_full ∷ done ∷ none_stands ∷ []
unfolding le le_at bytes part first everywhere tabulate length_allowed overwritten end lowest span_of entry entries total is_blank ends_within sound no_room saving saved restoring releasing installed settle install rolled_back rollback calling answers
answers_bench = refl

pub rollback_bench : run (call four) before (Install [] [] ∷ Install [] [] ∷ Rollback ∷ Rollback ∷ []) ≡ before
unfolding le le_at bytes part first everywhere tabulate length_allowed overwritten end lowest span_of entry entries total is_blank ends_within sound no_room saving saved restoring releasing installed settle install rolled_back rollback calling run
rollback_bench = refl
