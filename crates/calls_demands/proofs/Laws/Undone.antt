-- A done install that is rolled back is as if it had never been asked for: the history's laws at our judgement.
use mathlib.Core.Path.{◌≡◌, ap, ◌∙◌}
use mathlib.Core.List.{List, [], ◌∷◌, ◌++◌}
use Prim.Native.Nat.{ℕ}
use lib.ListN.{length}
use Rattle.plan_pieces.specs.Answers.{done}
use Rattle.plan_pieces.specs.Plans.{plan}
use Rattle.journal_history.specs.Calls.{Files, Outcome, Call, Install, Rollback, calling, answers, run}
use Rattle.journal_history.specs.Histories.{begin, history_of, Start, Alike}
use Rattle.journal_history.proofs.Laws.Agree.{length_laid}
use Rattle.journal_history.proofs.Laws.History.{run_over, history_holds}
use Rattle.journal_history.proofs.Laws.Corollaries.{rollback_undoes_install as undoes, room_serves_again as serves-again, install_done_again as done-again}
use Rattle.calls_judgement.specs.Judgement.{plan_of, judgement}
use Rattle.calls_judgement.proofs.Laws.Laying.{lays_inside}
use Rattle.calls_demands.specs.Demands.{AnyList}
use Rattle.calls_demands.specs.Ours.{our_install, our_rollback}
use Rattle.calls_demands.proofs.Laws.Demands.{done_leaves}

abbrev our : Files → Call → Outcome Files
our = calling our_install our_rollback

module _ (start : Files) (s : Start start) (calls : List Call) (object order : List ℕ) (is_done : (our_install object order (run our start calls)).answer ≡ done) where
  -- the image keeps its length, so that the judgement gave a plan at the start too
  same_length : length (run our start calls).image ≡ length start.image
  same_length =
      ap length (history_holds judgement lays_inside AnyList start s calls).as_told.image_is
      ∙ length_laid (history_of judgement start calls).start (history_of judgement start calls).standing
      ∙ ap length (run_over judgement calls (begin start)).0

  planned : judgement object order (length start.image) ≡ plan (plan_of object order)
  planned = rw same_length at (done_leaves object order (run our start calls) is_done).verdict_is

  -- image, n, k, the first n entries, the old bytes and the length are those from before the install
  pub rollback_undoes_install : Alike (run our start (calls ++ Install object order ∷ Rollback ∷ [])) (run our start calls)
  unfolding calling
  rollback_undoes_install = undoes judgement lays_inside start s calls object order (plan_of object order) planned is_done

  -- "so the room of a fit taken back serves again": any further calls get the answers that they would have had before the install
  pub room_serves_again : (more : List Call) → answers our (run our start (calls ++ Install object order ∷ Rollback ∷ [])) more ≡ answers our (run our start calls) more
  unfolding calling
  room_serves_again more = serves-again judgement lays_inside start s calls object order (plan_of object order) planned is_done more

  -- and so the same install is done again
  pub install_done_again : (our_install object order (run our start (calls ++ Install object order ∷ Rollback ∷ []))).answer ≡ done
  unfolding calling
  install_done_again = done-again judgement lays_inside start s calls object order (plan_of object order) planned is_done
