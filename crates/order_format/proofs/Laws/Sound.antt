-- What is known of bytes that are an order.
use Rattle.std.specs.Prelude.{None, Some}
use mathlib.Core.Path.{◌≡◌, refl, sym, subst}
use mathlib.Core.Bool.{Bool, true, false, cond, ◌&&◌}
use mathlib.Core.List.{List}
use Prim.Native.Nat.{ℕ, ◌+◌, ◌*◌, ◌≤◌}
use native.Mathlib.Omega.{arith}
use lib.ListN.{length}
use lib.Dec.{leb, eqb}
use borrow.Author.Tests.{leb-true, eqb-true, le-leb, eq-eqb}
use Rattle.numbers_definitions.specs.Bytes.{le_at}
use Rattle.numbers_definitions.specs.Places.{address}
use Rattle.numbers_definitions.specs.declared.Class.{Class}
use Rattle.numbers_definitions.proofs.Laws.Tests.{and_left, and_right}
use Rattle.order_format.specs.declared.OrderHeader.{OrderHeader}
use Rattle.order_format.specs.Orders.{entry_size, empty_size, placements_start, external_count_at, externals_at, max_placements, max_externals, base, placement_count, external_count, entry_at, ascending, well_formed, reading}

-- the parts of a reading, by its counts
pub record Sound (c : Class) (s : List ℕ) (h : OrderHeader) : Type 0 where
  pub base_is : h.base.0 ≡ base c s
  pub placements_are : h.placements ≡ placement_count c s
  pub externals_are : h.externals ≡ le_at 4 s (external_count_at c h.placements)
  pub long : empty_size c ≤ length s
  pub one : le_at 4 s 0 ≡ 1
  pub few : h.placements ≤ max_placements
  pub room : externals_at c h.placements ≤ length s
  pub some : h.externals ≤ max_externals
  pub whole : length s ≡ externals_at c h.placements + entry_size c * h.externals
  pub placed : ascending (λ i. (entry_at c s (placements_start c) i).index) h.placements ≡ true
  pub given : ascending (λ i. (entry_at c s (externals_at c h.placements) i).index) h.externals ≡ true

abbrev pub order_header_of : Class → List ℕ → OrderHeader
order_header_of c s = record { base = address (base c s); placements = placement_count c s; externals = external_count c s }

module _ (c : Class) (s : List ℕ) where
  -- ---- well-formed bytes

  pub well_formed_sound : well_formed c s ≡ true → Sound c s (order_header_of c s)
  unfolding well_formed
  well_formed_sound w =
      let head : leb (empty_size c) (length s) && eqb (le_at 4 s 0) 1 && leb (placement_count c s) max_placements ≡ true =
      and_left _ _ (and_left _ _ (and_left _ _ (and_left _ _ (and_left _ _ w)))) in
      record {
        base_is = refl;
        placements_are = refl;
        externals_are = refl;
        long = leb-true _ _ (search (and_left, and_right));
        one = eqb-true _ _ (search (and_left, and_right));
        few = leb-true _ _ (search (and_left, and_right));
        room = leb-true _ _ (search (and_left, and_right));
        some = leb-true _ _ (search (and_left, and_right));
        whole = eqb-true _ _ (search (and_left, and_right));
        placed = search (and_left, and_right);
        given = search (and_left, and_right);
      }

  pub sound_well_formed : Sound c s (order_header_of c s) → well_formed c s ≡ true
  unfolding well_formed
  sound_well_formed k =
      rw (le-leb _ _ k.long, eq-eqb _ _ k.one, le-leb _ _ k.few, le-leb _ _ k.room, le-leb _ _ k.some, eq-eqb _ _ k.whole, k.placed)
      k.given

  -- ---- readings

  -- sound counts are those of the bytes
  pub sound_counts : (h : OrderHeader) → Sound c s h → h ≡ order_header_of c s
  sound_counts h k =
      let fields : ◌≡◌ {A = OrderHeader} (record { base = address h.base.0; placements = h.placements; externals = h.externals }) (order_header_of c s) = cc in
      fields

  pub reading_sound : (h : OrderHeader) → reading c s ≡ Some h → Sound c s h
  unfolding reading
  reading_sound h = go (well_formed c s) refl
    where
      go : (b : Bool) → well_formed c s ≡ b → cond b (Some (order_header_of c s)) None ≡ Some h → Sound c s h
      go true w e = let same : order_header_of c s ≡ h = cc in subst (Sound c s) same (well_formed_sound w)
      go false w e = let z : ◌≡◌ {A = ℕ} 0 1 = cc in absurd (omega arith)

  pub sound_reading : (h : OrderHeader) → Sound c s h → reading c s ≡ Some h
  unfolding reading
  sound_reading h k =
      let same : h ≡ order_header_of c s = sound_counts h k in
      rw (sound_well_formed (subst (Sound c s) same k), same)

  -- if the counts of the bytes are not sound, the bytes are malformed
  pub unsound_reading : (Sound c s (order_header_of c s) → ⊥) → None ≡ reading c s
  unfolding reading
  unsound_reading unsound = go (well_formed c s) refl
    where
      go : (b : Bool) → well_formed c s ≡ b → None ≡ cond b (Some (order_header_of c s)) None
      go true w = absurd (unsound (well_formed_sound w))
      go false w = refl

  -- the same for counts that were read
  pub unsound_read : (p e : ℕ) → p ≡ placement_count c s → e ≡ le_at 4 s (external_count_at c p)
      → (Sound c s (record { base = address (base c s); placements = p; externals = e }) → ⊥)
      → None ≡ reading c s
  unsound_read p e ep ee unsound =
      let same : ◌≡◌ {A = OrderHeader} (record { base = address (base c s); placements = p; externals = e }) (order_header_of c s) = cc in
      unsound_reading (λ k. unsound (subst (Sound c s) (sym same) k))
