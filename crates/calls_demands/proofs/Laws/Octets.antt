-- Calls on bytes leave bytes. So our two calls meet all that is said of each call by itself.
use mathlib.Core.Path.{◌≡◌, refl, subst}
use mathlib.Core.Bool.{Bool, true, false, not, cond}
use mathlib.Core.List.{List, [], ◌∷◌, ◌++◌}
use Prim.Native.Nat.{ℕ, zero, suc, ◌+◌, ◌-◌, ◌/◌, ◌<◌}
use native.Mathlib.Nat.{mod-lt}
use native.Mathlib.Omega.{arith}
use lib.ListN.{length, get_or, set, replicate}
use lib.Seq.{sets}
use lib.IntN.{ℤ}
use lib.Dec.{ltb, eqb}
use Rattle.numbers_definitions.specs.Bytes.{le_at, bytes}
use Rattle.numbers_definitions.proofs.Laws.Bytes.{Bytes}
use Rattle.elf_read.specs.Headers.{address_width, section_count}
use Rattle.elf_read.specs.Sections.{section_at}
use Rattle.elf_read.specs.Entries.{bytes_of}
use Rattle.order_format.specs.Windows.{length_allowed}
use Rattle.order_lookup.specs.Addresses.{addresses_for, base_for}
use Rattle.plan_pieces.specs.declared.Span.{Span}
use Rattle.journal_format.specs.Journals.{old_at, blank, entry_bytes, count, held, sound, no_room}
use Rattle.plan_pieces.specs.Plans.{Piece, piece, Verdict, refused, plan, overwritten, span_of}
use Rattle.journal_history.specs.Writes.{saving, saved, restoring, releasing, newest, held_below}
use Rattle.journal_history.specs.Calls.{Files, Outcome, installed, settle, install, rolled_back, rollback}
use Rattle.journal_history.specs.Histories.{FilesAre}
use Rattle.journal_history.proofs.Laws.Corollaries.{either}
use Rattle.placing_check.specs.Placing.{has_bytes}
use Rattle.placing_span.specs.Pieces.{pieces}
use Rattle.relocations_types.specs.declared.Decision.{Decision}
use Rattle.relocations_types.specs.declared.Decision.TheVariants.{Marker, Align, Store, Refused}
use Rattle.relocations_rela.specs.declared.sites.Site.{Site}
use Rattle.relocations_rela.specs.Sites.{site_at, count as count_of, decision_at, offset, P}
use Rattle.relocations_bytes.specs.Patches.{patched}
use Rattle.relocations_bytes.specs.Sections.{stored, sum_at, pair_distance, applied, after, rela_of, relocated}
use Rattle.calls_judgement.specs.Judgement.{plan_of, judgement}
use Rattle.calls_judgement.proofs.Laws.Judgement.{plan_fits}
use Rattle.calls_demands.specs.Demands.{AreBytes, Meets}
use Rattle.calls_demands.specs.Ours.{our_install, our_rollback}
use Rattle.calls_demands.proofs.Laws.Lists.{bytes_part}
use Rattle.calls_demands.proofs.Laws.Demands.{demand_1, demand_2, journalled}

-- ---- lists of bytes

bytes_none : Bytes []
bytes_none k = omega arith

bytes_set : (s : List ℕ) (i a : ℕ) → Bytes s → a < 256 → Bytes (set s i a)
bytes_set [] i a b h k = b k
bytes_set (x ∷ s) zero a b h zero = h
bytes_set (x ∷ s) zero a b h (suc k) = b (suc k)
bytes_set (x ∷ s) (suc i) a b h zero = b zero
bytes_set (x ∷ s) (suc i) a b h (suc k) = bytes_set s i a (λ m. b (suc m)) h k

bytes_sets : (s : List ℕ) (i : ℕ) (v : List ℕ) → Bytes s → Bytes v → Bytes (sets s i v)
bytes_sets s i [] b c = b
bytes_sets s i (x ∷ v) b c = bytes_sets (set s i x) (suc i) v (bytes_set s i x b (c zero)) (λ m. c (suc m))

bytes_bytes : (n x : ℕ) → Bytes (bytes n x)
unfolding bytes
bytes_bytes zero x k = omega arith
bytes_bytes (suc n) x zero = mod-lt x (omega arith)
bytes_bytes (suc n) x (suc k) = bytes_bytes n (x / 256) k

bytes_append : (s t : List ℕ) → Bytes s → Bytes t → Bytes (s ++ t)
bytes_append [] t b c k = c k
bytes_append (x ∷ s) t b c zero = b zero
bytes_append (x ∷ s) t b c (suc k) = bytes_append s t (λ m. b (suc m)) c k

bytes_zeros : (n : ℕ) → Bytes (replicate n 0)
bytes_zeros zero k = omega arith
bytes_zeros (suc n) zero = omega arith
bytes_zeros (suc n) (suc k) = bytes_zeros n k

bytes_entry : (e : Span) → Bytes (entry_bytes e)
bytes_entry e = bytes_append (bytes 4 e.start) (bytes 4 e.size) (bytes_bytes 4 e.start) (bytes_bytes 4 e.size)

-- ---- pieces of bytes

abbrev AllBytes : List Piece → Type 0
AllBytes [] = Unit {0}
AllBytes (piece at b ∷ ps) = Bytes b × AllBytes ps

bytes_over : (s : List ℕ) (ps : List Piece) → Bytes s → AllBytes ps → Bytes (overwritten s ps)
unfolding overwritten
bytes_over s [] b c = b
bytes_over s (piece at v ∷ ps) b c = bytes_over (sets s at v) ps (bytes_sets s at v b c.0) c.1

all_snoc : (ps : List Piece) (at : ℕ) (v : List ℕ) → AllBytes ps → Bytes v → AllBytes (ps ++ piece at v ∷ [])
all_snoc [] at v c b = (b, tt)
all_snoc (piece a u ∷ ps) at v c b = (c.0, all_snoc ps at v c.1 b)

-- ---- what an install lays

bytes_stored : (w : ℕ) (d : Decision) (at : ℕ) (x : ℤ) (p e : ℕ) (s : List ℕ) → Bytes s → Bytes (stored w d at x p e s)
bytes_stored w (Store r) at x p e s b =
    let u : ℕ = patched w r.calculation r.field (le_at r.size s at) x p e in
    bytes_sets s at (bytes r.size u) b (bytes_bytes r.size u)
bytes_stored w Marker at x p e s b = b
bytes_stored w Align at x p e s b = b
bytes_stored w Refused at x p e s b = b

bytes_own : (object : List ℕ) (t : ℕ) → Bytes object → Bytes (bytes_of object (section_at object t))
unfolding bytes_of
bytes_own object t b = bytes_part object (section_at object t).offset.0 (section_at object t).size b

bytes_after : (object order a : List ℕ) (x : Site) → Bytes object → (j : ℕ) → Bytes (after object order a x j)
unfolding after applied bytes_of
bytes_after object order a x b zero = bytes_part object x.target.offset.0 x.target.size b
bytes_after object order a x b (suc j) =
    bytes_stored (address_width object) (decision_at object x j) (offset object x j) (sum_at object order a x j) (P object x j) (pair_distance object order a x j) (after object order a x j)
    (bytes_after object order a x b j)

bytes_relocated : (object order a : List ℕ) (t : ℕ) → Bytes object → Bytes (relocated object order a t)
unfolding relocated
bytes_relocated object order a t b = go (ltb (rela_of object t) (section_count object))
  where
    go : (c : Bool)
        → Bytes (cond c (after object order a (site_at object a (rela_of object t)) (count_of object (site_at object a (rela_of object t)))) (bytes_of object (section_at object t)))
    go true = bytes_after object order a (site_at object a (rela_of object t)) b (count_of object (site_at object a (rela_of object t)))
    go false = bytes_own object t b

bytes_pieces : (object order : List ℕ) → Bytes object → (n : ℕ) → AllBytes (pieces (relocated object order (addresses_for object order)) object (addresses_for object order) (base_for object order) n)
unfolding pieces
bytes_pieces object order b zero = tt
bytes_pieces object order b (suc t) = go (has_bytes (section_at object t)) (bytes_pieces object order b t)
  where
    below : List Piece
    below = pieces (relocated object order (addresses_for object order)) object (addresses_for object order) (base_for object order) t

    go : (c : Bool) → AllBytes below → AllBytes (cond c (below ++ piece (get_or (addresses_for object order) t 0 - base_for object order) (relocated object order (addresses_for object order) t) ∷ []) below)
    go true i = all_snoc below (get_or (addresses_for object order) t 0 - base_for object order) (relocated object order (addresses_for object order) t) i (bytes_relocated object order (addresses_for object order) t b)
    go false i = i

bytes_plan : (object order : List ℕ) → Bytes object → AllBytes (plan_of object order)
unfolding plan_of
bytes_plan object order b = bytes_pieces object order b (section_count object)

-- ---- the two calls

bytes_saved : (image j : List ℕ) (s : Span) → Bytes image → Bytes j → Bytes (saved image j s)
unfolding saved saving
bytes_saved image j s bi bj =
    bytes_over j (saving image j s) bj
    (bytes_part image s.start s.size bi, (bytes_entry s, (bytes_bytes 4 (held j + s.size), (bytes_bytes 4 (count j + 1), tt))))

bytes_installed : (ps : List Piece) (f : Files) → AllBytes ps → FilesAre AreBytes f → FilesAre AreBytes (installed ps f)
unfolding installed
bytes_installed ps f all b = (bytes_over f.image ps b.0 all, bytes_saved f.image f.journal (span_of ps) b.0 b.1)

bytes_rolled_back : (f : Files) → FilesAre AreBytes f → FilesAre AreBytes (rolled_back f)
unfolding rolled_back restoring releasing
bytes_rolled_back f b =
    let j = f.journal in (
      bytes_over f.image (restoring j) b.0 (bytes_part j (old_at + held_below j) (newest j).size b.1, tt),
      bytes_over j (releasing j) b.1
          (bytes_bytes 4 (count j - 1), (bytes_bytes 4 (held_below j), (bytes_entry blank, (bytes_zeros (newest j).size, tt)))),
    )

abbrev LeavesBytes : Outcome Files → Type 0
LeavesBytes o = FilesAre AreBytes o.after

install_bytes : (object order : List ℕ) (f : Files) → AreBytes object → FilesAre AreBytes f → FilesAre AreBytes (our_install object order f).after
unfolding install settle
install_bytes object order f bo b = either LeavesBytes (not (sound f.journal (length f.image))) _ _ b (go (judgement object order (length f.image)) refl)
  where
    go : (v : Verdict) → judgement object order (length f.image) ≡ v → FilesAre AreBytes (settle f v).after
    go (refused a) e = b
    go (plan ps) e =
        let same : plan_of object order ≡ ps = (plan_fits object order (length f.image) ps e).plan_is in
        either LeavesBytes (no_room (count f.journal) (held f.journal) (span_of ps).size (length f.journal)) _ _ b
        (bytes_installed ps f (subst AllBytes same (bytes_plan object order bo)) b)

rollback_bytes : (f : Files) → FilesAre AreBytes f → FilesAre AreBytes (our_rollback f).after
unfolding rollback
rollback_bytes f b =
    either LeavesBytes (not (sound f.journal (length f.image))) _ _ b
    (either LeavesBytes (not (length_allowed (length f.image))) _ _ b (either LeavesBytes (eqb (count f.journal) 0) _ _ b (bytes_rolled_back f b)))

-- so there is a fitter that meets this and, by `Only`, no other
pub ours_meets : Meets our_install our_rollback
ours_meets =
    record {
      demand_1 = demand_1;
      demand_2 = demand_2;
      journalled = journalled;
      install_bytes = install_bytes;
      rollback_bytes = rollback_bytes;
    }
