-- The list of a site's high halves, as it is gathered and when it is done.
use mathlib.Core.Logic.{⊎_elim}
use mathlib.Core.Path.{◌≡◌, sym, ap, ◌∙◌, subst}
use mathlib.Core.Bool.{Bool, true, false, ◌||◌}
use mathlib.Core.List.{List}
use Prim.Native.Nat.{ℕ, ◌+◌, ◌≤◌, ◌<◌}
use native.Mathlib.Nat.{eq-or-lt_of_le}
use native.Mathlib.Omega.{arith}
use native.Mathlib.Decide.{dec_lt}
use lib.Dec.{ltb}
use lib.ListN.{length, get_or, set}
use lib.Seq.{get_or-set_same, get_or-set_other}
use borrow.Author.Tests.{ltb-false}
use borrow.Author.Count.{below_more}
use Rattle.numbers_definitions.proofs.Laws.Tests.{clash, neither_left, neither_right}
use Rattle.numbers_definitions.specs.declared.SectionOffset.{SectionOffset}
use Rattle.elf_read.specs.Headers.{class_of, has_rvc}
use Rattle.relocations_types.specs.Types.{decision}
use Rattle.relocations_decisions.specs.Decisions.{gives_pair}
use Rattle.relocations_rela.specs.declared.sites.Site.{Site}
use Rattle.relocations_rela.specs.Sites.{count, entry, offset}
use Rattle.relocations_values.specs.Highs.{is_high, Listed}
use Rattle.relocations_values.specs.Sorting.{keys, Ordered}
use Rattle.relocations_values.specs.Gathered.{Lists, High, Gathers}

module _ (object : List ℕ) (x : Site) where
  -- ---- gathering

  -- l begins with the numbers of the high halves below k, m of them, and they rise; `last` is the last one's offset
  pub record Gathering (l : List ℕ) (m last : ℕ) (falls : Bool) (k : ℕ) : Type 0 where
    pub fits : m ≤ k
    pub each : (i : ℕ) → i < m → (get_or l i 0 < k) × (is_high object x (get_or l i 0) ≡ true)
    pub all : (n : ℕ) → n < k → is_high object x n ≡ true → (i : ℕ) × (i < m) × (get_or l i 0 ≡ n)
    pub rising : (i j : ℕ) → i < j → j < m → get_or l i 0 < get_or l j 0
    pub ordered : falls ≡ false → Ordered (keys object x l) m
    pub most : falls ≡ false → (i : ℕ) → i < m → keys object x l i ≤ last

  pub gathering_start : (l : List ℕ) (last : ℕ) (falls : Bool) → Gathering l 0 last falls 0
  gathering_start l last falls =
      record {
        fits = omega arith;
        each = λ i h. absurd (omega arith);
        all = λ n h. absurd (omega arith);
        rising = λ i j a b. absurd (omega arith);
        ordered = λ e i j a b. absurd (omega arith);
        most = λ e i h. absurd (omega arith);
      }

  -- a relocation that is no high half is passed by
  pub gathering_passed : (l : List ℕ) (m last : ℕ) (falls : Bool) (k : ℕ) → Gathering l m last falls k → is_high object x k ≡ false → Gathering l m last falls (k + 1)
  gathering_passed l m last falls k g e =
      record {
        fits = omega (arith, g.fits);
        each = λ i h. (omega (arith, (g.each i h).0), (g.each i h).1);
        all = below_more (λ n. is_high object x n ≡ true → (i : ℕ) × (i < m) × (get_or l i 0 ≡ n)) k g.all (λ high. clash _ e high);
        rising = g.rising;
        ordered = g.ordered;
        most = g.most;
      }

  -- a high half is appended
  module _ (l : List ℕ) (m last : ℕ) (falls : Bool) (k : ℕ) (g : Gathering l m last falls k) (high : is_high object x k ≡ true) (room : m < length l) where
    before : (i : ℕ) → i < m → get_or (set l m k) i 0 ≡ get_or l i 0
    before i h = get_or-set_other l m i k 0 (λ z. omega arith)

    here : get_or (set l m k) m 0 ≡ k
    here = get_or-set_same l m k 0 room

    -- what holds of the numbers before, and of this one, holds of all
    every : (P : ℕ → Type 0) → ((i : ℕ) → i < m → P (get_or l i 0)) → P k → (i : ℕ) → i < m + 1 → P (get_or (set l m k) i 0)
    every P low new =
        below_more (λ i. P (get_or (set l m k) i 0)) m (λ i h. subst P (sym (before i h)) (low i h)) (subst P (sym here) new)

    -- the same of two of them, the second of which is this one or not
    pairs : (R : ℕ → ℕ → Type 0) → ((i j : ℕ) → i < j → j < m → R (get_or l i 0) (get_or l j 0)) → ((i : ℕ) → i < m → R (get_or l i 0) k)
        → (i j : ℕ) → i < j → j < m + 1 → R (get_or (set l m k) i 0) (get_or (set l m k) j 0)
    pairs R low new i j a b = ⊎_elim last_one earlier (eq-or-lt_of_le near)
      where
        near : j ≤ m
        near = omega arith

        last_one : j ≡ m → R (get_or (set l m k) i 0) (get_or (set l m k) j 0)
        last_one e = rw (e, here, before i (omega arith)) (new i (omega arith))

        earlier : j < m → R (get_or (set l m k) i 0) (get_or (set l m k) j 0)
        earlier h = rw (before j h, before i (omega arith)) (low i j a h)

    found : (n : ℕ) → (i : ℕ) × (i < m) × (get_or l i 0 ≡ n) → (i : ℕ) × (i < m + 1) × (get_or (set l m k) i 0 ≡ n)
    found n (i, h, e) = (i, omega arith, before i h ∙ e)

    pub gathering_more : Gathering (set l m k) (m + 1) (offset object x k) (falls || ltb (offset object x k) last) (k + 1)
    gathering_more =
        record {
          fits = omega (arith, g.fits);
          each = every (λ n. (n < k + 1) × (is_high object x n ≡ true)) (λ i h. (omega (arith, (g.each i h).0), (g.each i h).1)) (omega arith, high);
          all = below_more (λ n. is_high object x n ≡ true → (i : ℕ) × (i < m + 1) × (get_or (set l m k) i 0 ≡ n)) k (λ n h e. found n (g.all n h e)) (λ e. (m, omega arith, here));
          rising = pairs ◌<◌ g.rising (λ i h. (g.each i h).0);
          ordered = in_order;
          most = λ e. every (λ n. offset object x n ≤ offset object x k) (λ i h. risen e i h) (omega arith);
        }
      where
        -- the offset is not below the last one's, and so not below any
        risen : (falls || ltb (offset object x k) last) ≡ false → (i : ℕ) → i < m → offset object x (get_or l i 0) ≤ offset object x k
        risen e i h =
            omega (arith, g.most (neither_left falls (ltb (offset object x k) last) e) i h, ltb-false (offset object x k) last (neither_right falls (ltb (offset object x k) last) e))

        in_order : (falls || ltb (offset object x k) last) ≡ false → Ordered (keys object x (set l m k)) (m + 1)
        in_order e i j a b =
            ⊎_elim (λ one. omega (arith, ap (keys object x (set l m k)) one))
            (λ less.
            pairs (λ n o. offset object x n ≤ offset object x o) (λ i j a b. g.ordered (neither_left falls (ltb (offset object x k) last) e) i j (omega arith) b) (risen e) i j less b)
            (eq-or-lt_of_le a)

  -- the same by what was read
  module _ (l : List ℕ) (m last : ℕ) (falls : Bool) (k : ℕ) (g : Gathering l m last falls k) (kind : ℕ) (read : kind ≡ (entry object x k).kind) (b : Bool) (test : b ≡ gives_pair (decision (class_of object) (has_rvc object) kind)) where
    is : b ≡ is_high object x k
    is = test ∙ ap (λ n. gives_pair (decision (class_of object) (has_rvc object) n)) read

    pub read_passed : b ≡ false → Gathering l m last falls (k + 1)
    read_passed e = gathering_passed l m last falls k g (sym is ∙ e)

    pub read_more : b ≡ true → m < length l → (at : SectionOffset) → at ≡ (entry object x k).offset
        → Gathering (set l m k) (m + 1) at.0 (falls || ltb at.0 last) (k + 1)
    read_more e room at is_at = rw is_at (gathering_more l m last falls k g (sym is ∙ e) room)

  -- ---- all of them

  pub gathered : (l : List ℕ) (m last : ℕ) (falls : Bool) → m ≤ length l → Gathering l m last falls (count object x) → Gathers object x l m falls
  gathered l m last falls room g =
      record {
        lists = record { fits = room; each = g.each; all = λ k h. g.all k h.0 h.1; once = λ i j a b e. once i j a b e (dec_lt i j) (dec_lt j i) };
        ordered = g.ordered;
      }
    where
      once : (i j : ℕ) → i < m → j < m → get_or l i 0 ≡ get_or l j 0 → Dec (i < j) → Dec (j < i) → i ≡ j
      once i j a b e (yes h) k = absurd (omega (arith, g.rising i j h b))
      once i j a b e (no h) (yes k) = absurd (omega (arith, g.rising j i k a))
      once i j a b e (no h) (no k) = omega arith

  pub listed : (l : List ℕ) (m : ℕ) → Lists (High object x) l m → Ordered (keys object x l) m → Listed object x l m
  listed l m k o =
      record {
        fits = k.fits;
        each = k.each;
        all = λ n h e. k.all n (h, e);
        once = λ i j a b e. omega (arith, k.once i j (omega arith) b e);
        ordered = o;
      }
