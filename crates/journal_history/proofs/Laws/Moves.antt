-- What an install that is done and a rollback that is done make of a stack.
use mathlib.Core.Path.{◌≡◌, refl, sym, ◌∙◌}
use Prim.Native.Nat.{ℕ, suc, ◌+◌, ◌-◌, ◌≤◌}
use native.Mathlib.Omega.{arith}
use mathlib.Core.List.{List, [], ◌∷◌, ◌++◌, append_assoc}
use lib.ListN.{length, length-append, replicate, length-replicate}
use lib.Seq.{sets, take_at, drop_at}
use Rattle.numbers_definitions.specs.Bytes.{part}
use Rattle.numbers_definitions.proofs.Laws.Lists.{length_part}
use Rattle.order_format.specs.Windows.{max_image}
use Rattle.plan_pieces.specs.declared.Span.{Span}
use Rattle.plan_pieces.specs.Plans.{Piece, overwritten, span_of}
use Rattle.journal_format.specs.Journals.{max_entries, old_at, count, held, entry, total}
use Rattle.journal_history.specs.Writes.{saving, saved, restoring, releasing}
use Rattle.journal_history.specs.Calls.{installed, rolled_back}
use Rattle.journal_format.proofs.Laws.Sound.{total_append}
use Rattle.journal_format.proofs.Laws.Format.{spelt}
use Rattle.journal_history.proofs.Laws.Stack.{AllIn, journal_of, count_journal, held_journal, entry_journal, length_journal, save_journal, release_journal, newest_at}

-- the bytes that the newest span of a stack holds
pub old_bytes : (ss : List Span) (free : ℕ) (o p r : List ℕ) (at n : ℕ) → length ss + free ≡ max_entries → old_at + length o ≡ at → length p ≡ n
    → part (journal_of ss free (o ++ p ++ r)) at n ≡ p
unfolding part journal_of spelt
old_bytes ss free o p r at n slots ea en =
    let front = journal_of ss free o in
    let whole : journal_of ss free (o ++ p ++ r) ≡ front ++ (p ++ r) = simp append_assoc in
    rw (whole, drop_at front (p ++ r) at (length_journal ss free o slots ∙ ea)) (take_at p r n en)

module _ (image : List ℕ) (ss : List Span) (free : ℕ) (o p r : List ℕ) (len : ℕ) (slots : length ss + suc free ≡ max_entries) (short : len ≤ max_image)
    (holds : length o ≡ total ss) where
  -- an install onto the stack ss; p are the bytes of the journal that the old bytes replace
  pub pushed : (ps : List Piece) → AllIn len ss → (span_of ps).start + (span_of ps).size ≤ length image → length p ≡ (span_of ps).size
      → installed ps (record { image = image; journal = journal_of ss (suc free) (o ++ (p ++ r)) })
      ≡ record {
        image = overwritten image ps;
        journal = journal_of (ss ++ span_of ps ∷ []) free (o ++ part image (span_of ps).start (span_of ps).size ++ r);
      }
  unfolding installed saved saving
  pushed ps ins inside e =
      let tail = o ++ (p ++ r) in
      rw (
        count_journal ss (suc free) tail slots,
        held_journal ss (suc free) tail slots len short ins,
        save_journal ss free (span_of ps) o p (part image (span_of ps).start (span_of ps).size) r slots holds
            (e ∙ sym (length_part image (span_of ps).start (span_of ps).size inside)),
      )

  -- a rollback of the span s, whose old bytes are p
  pub popped : (s : Span) → AllIn len (ss ++ s ∷ []) → length p ≡ s.size
      → rolled_back (record { image = image; journal = journal_of (ss ++ s ∷ []) free (o ++ p ++ r) })
      ≡ record { image = sets image s.start p; journal = journal_of ss (suc free) (o ++ (replicate s.size 0 ++ r)) }
  unfolding rolled_back restoring releasing
  popped s ins e =
      let stack = ss ++ s ∷ [] in
      let tail = o ++ p ++ r in
      let j = journal_of stack free tail in
      let slots' : length stack + free ≡ max_entries = simp length-append (omega arith) in
      let ec : count j - 1 ≡ length ss = rw (count_journal stack free tail slots', length-append) (omega arith) in
      let es : entry j (length ss) ≡ s = entry_journal stack free tail slots' len short ins (length ss) (omega arith) ∙ newest_at ss s free in
      let ek : held j - s.size ≡ total ss = rw (held_journal stack free tail slots' len short ins, total_append) (unfold total in omega arith) in
      rw (
        ec,
        es,
        ek,
        old_bytes stack free o p r (old_at + total ss) s.size slots' (omega arith) e,
        release_journal ss free s o p (replicate s.size 0) r slots holds (e ∙ sym (length-replicate s.size 0)),
      )
      (unfold overwritten in refl)
