-- An order's bytes and what is read from them are inverse to each other.
use mathlib.Core.Path.{◌≡◌, refl, sym, ap, ap₂, ◌∙◌}
use mathlib.Core.Bool.{true}
use mathlib.Core.List.{List, [], ◌∷◌, ◌++◌, append_assoc, append-nil}
use Prim.Native.Nat.{ℕ, zero, suc, ◌+◌, ◌*◌, ◌^◌, ◌≤◌, ◌<◌}
use native.Mathlib.Omega.{arith}
use lib.ListN.{length, get_or, length-append}
use Rattle.numbers_definitions.specs.Bytes.{le_at, bytes, part}
use Rattle.numbers_definitions.specs.Classes.{address_bytes, bits}
use Rattle.numbers_definitions.specs.First.{tabulate}
use Rattle.numbers_definitions.specs.Places.{address}
use Rattle.numbers_definitions.specs.declared.Class.{Class}
use Rattle.numbers_definitions.proofs.Laws.Bytes.{Bytes, length_bytes, bytes_le_at, le_at_bytes}
use Rattle.numbers_definitions.proofs.Laws.Lists.{part_append, part_whole}
use Rattle.numbers_definitions.proofs.Laws.First.{tabulate_same, length_tabulate, get_d_tabulate}
use Rattle.order_format.specs.declared.Entry.{Entry}
use Rattle.order_format.specs.Orders.{Order, entry_size, placements_start, external_count_at, externals_at, max_placements, max_externals, encode_entries, encode, entry_at, base, placement_count, placement, external_count, external, ascending, well_formed, order_of}
use Rattle.order_format.proofs.Laws.Ascending.{ascending_is}
use Rattle.order_format.proofs.Laws.Sizes.{address_bytes_bits}
use Rattle.order_format.proofs.Laws.Sound.{Sound, order_header_of, well_formed_sound, sound_well_formed}

-- the entries after the first are those of a list that starts one entry on
entry_at_shift : (c : Class) (s : List ℕ) (at j : ℕ) → entry_at c s at (suc j) ≡ entry_at c s (at + entry_size c) j
unfolding entry_at
entry_at_shift c s at j =
    let on : at + entry_size c * suc j ≡ at + entry_size c + entry_size c * j = omega arith in
    rw on

-- ---- bytes that are read, and written again

module _ (c : Class) (s : List ℕ) (b : Bytes s) where
  entry_bytes_lem : (at : ℕ) → at + entry_size c ≤ length s
      → bytes 4 (entry_at c s at 0).index ++ bytes (address_bytes c) (entry_at c s at 0).value.0 ≡ part s at (entry_size c)
  unfolding entry_at
  entry_bytes_lem at h =
      let none : at + entry_size c * 0 ≡ at = omega arith in
      rw (none, bytes_le_at 4 s at b (omega arith), bytes_le_at (address_bytes c) s (at + 4) b (omega arith)) (part_append s at 4 (at + 4) (address_bytes c) refl)

  encode_entries_lem : (n at : ℕ) → at + entry_size c * n ≤ length s → encode_entries c (tabulate (entry_at c s at) n) ≡ part s at (entry_size c * n)
  unfolding encode_entries tabulate part
  encode_entries_lem zero at h = let nothing : entry_size c * 0 ≡ 0 = omega arith in rw nothing
  encode_entries_lem (suc n) at h =
      let shift : tabulate (λ j. entry_at c s at (suc j)) n ≡ tabulate (entry_at c s (at + entry_size c)) n = tabulate_same _ _ n (λ j l. entry_at_shift c s at j) in
      let all : entry_size c + entry_size c * n ≡ entry_size c * suc n = omega arith in
      ap₂ ◌++◌ (entry_bytes_lem at (omega arith)) (ap (encode_entries c) shift ∙ encode_entries_lem n (at + entry_size c) (omega arith))
      ∙ part_append s at (entry_size c) (at + entry_size c) (entry_size c * n) refl
      ∙ ap (part s at) all

  pub encode_order_of : well_formed c s ≡ true → encode c (order_of c s) ≡ s
  unfolding encode order_of
  encode_order_of w =
      let k : Sound c s (order_header_of c s) = well_formed_sound c s w in
      let p : ℕ = placement_count c s in
      let e : ℕ = external_count c s in
      let counted : ℕ = 4 + address_bytes c in
      let one : bytes 4 1 ≡ part s 0 4 = ap (bytes 4) (sym k.one) ∙ bytes_le_at 4 s 0 b (omega arith) in
      rw (
        one,
        length_tabulate (placement c s) p,
        length_tabulate (external c s) e,
        bytes_le_at (address_bytes c) s 4 b (omega arith),
        bytes_le_at 4 s counted b (omega arith),
        bytes_le_at 4 s (external_count_at c p) b (omega arith),
        encode_entries_lem p (placements_start c) (omega arith),
        encode_entries_lem e (externals_at c p) (omega arith),
        part_append s 0 4 4 (address_bytes c) refl,
        part_append s 0 counted counted 4 (omega arith),
        part_append s 0 (counted + 4) (placements_start c) (entry_size c * p) (omega arith),
        part_append s 0 (counted + 4 + entry_size c * p) (external_count_at c p) 4 (omega arith),
        part_append s 0 (counted + 4 + entry_size c * p + 4) (externals_at c p) (entry_size c * e) (omega arith),
      )
      (part_whole s (counted + 4 + entry_size c * p + 4 + entry_size c * e) (omega arith))

-- ---- an order that is written, and read again

abbrev pub none : Entry
none = record { index = 0; value = address 0 }

-- a list of at most n entries that ascends, of indices of 32 bits and values of an address's bits
pub record Spelt (c : Class) (n : ℕ) (es : List Entry) : Type 0 where
  pub few : length es ≤ n
  pub indices : (i : ℕ) → i < length es → (get_or es i none).index < 2 ^ 32
  pub values : (i : ℕ) → i < length es → (get_or es i none).value.0 < 2 ^ bits c
  pub ascend : (i : ℕ) → suc i < length es → (get_or es i none).index < (get_or es (suc i) none).index

-- an order that bytes can spell
pub record Spellable (c : Class) (o : Order) : Type 0 where
  pub base : o.base.0 < 2 ^ bits c
  pub placements : Spelt c max_placements o.placements
  pub externals : Spelt c max_externals o.externals

module _ (c : Class) where
  length_entries : (es : List Entry) → length (encode_entries c es) ≡ entry_size c * length es
  unfolding encode_entries
  length_entries [] = omega arith
  length_entries (e ∷ es) = simp (length-append, length_bytes) (omega (arith, length_entries es))

  -- an address that stands after a stretch of bytes
  le_at_address : (x : ℕ) (s a t : List ℕ) (at : ℕ) → s ≡ a ++ (bytes (address_bytes c) x ++ t) → length a ≡ at → x < 2 ^ bits c → le_at (address_bytes c) s at ≡ x
  le_at_address x s a t at e l h = le_at_bytes (address_bytes c) x s a t at e l (rw (address_bytes_bits c) h)

  -- an entry that stands after a stretch of bytes
  entry_at_bytes : (x : Entry) (s a t : List ℕ) (at : ℕ) → s ≡ a ++ (bytes 4 x.index ++ (bytes (address_bytes c) x.value.0 ++ t)) → length a ≡ at
      → x.index < 2 ^ 32 → x.value.0 < 2 ^ bits c → entry_at c s at 0 ≡ x
  unfolding entry_at
  entry_at_bytes x s a t at e l hi hv =
      let i : List ℕ = bytes 4 x.index in
      let v : List ℕ = bytes (address_bytes c) x.value.0 in
      let on : s ≡ (a ++ i) ++ (v ++ t) = e ∙ simp append_assoc in
      let index : le_at 4 s (at + entry_size c * 0) ≡ x.index = le_at_bytes 4 x.index s a (v ++ t) (at + entry_size c * 0) e (omega arith) hi in
      let value : le_at (address_bytes c) s (at + entry_size c * 0 + 4) ≡ x.value.0 =
      le_at_address x.value.0 s (a ++ i) t (at + entry_size c * 0 + 4) on (simp (length-append, length_bytes) (omega arith)) hv in
      let fields : ◌≡◌ {A = Entry} (entry_at c s at 0) (record { index = x.index; value = address x.value.0 }) = rw (index, value) in
      fields

  -- entries that stand after a stretch of bytes
  tabulate_entries : (es : List Entry) (s a t : List ℕ) (at : ℕ) → s ≡ a ++ (encode_entries c es ++ t) → length a ≡ at
      → ((i : ℕ) → i < length es → (get_or es i none).index < 2 ^ 32)
      → ((i : ℕ) → i < length es → (get_or es i none).value.0 < 2 ^ bits c)
      → tabulate (entry_at c s at) (length es) ≡ es
  unfolding tabulate encode_entries
  tabulate_entries [] s a t at e l is vs = refl
  tabulate_entries (x ∷ es) s a t at e l is vs =
      let i : List ℕ = bytes 4 x.index in
      let v : List ℕ = bytes (address_bytes c) x.value.0 in
      let E : List ℕ = encode_entries c es in
      let here : s ≡ a ++ (i ++ (v ++ (E ++ t))) = e ∙ simp append_assoc in
      let on : s ≡ ((a ++ i) ++ v) ++ (E ++ t) = e ∙ simp append_assoc in
      let shift : tabulate (λ j. entry_at c s at (suc j)) (length es) ≡ tabulate (entry_at c s (at + entry_size c)) (length es) =
      tabulate_same _ _ (length es) (λ j h. entry_at_shift c s at j) in
      let rest : tabulate (entry_at c s (at + entry_size c)) (length es) ≡ es =
      tabulate_entries es s ((a ++ i) ++ v) t (at + entry_size c) on (simp (length-append, length_bytes) (omega arith))
      (λ j h. is (suc j) (omega arith)) (λ j h. vs (suc j) (omega arith)) in
      ap₂ ◌∷◌ (entry_at_bytes x s a (E ++ t) at here l (is 0 (omega arith)) (vs 0 (omega arith))) (shift ∙ rest)

  -- a list that is read back as entries ascends as they do
  ascending_entries : (es : List Entry) (m at : ℕ) (s : List ℕ) → Spelt c m es → tabulate (entry_at c s at) (length es) ≡ es
      → ascending (λ i. (entry_at c s at i).index) (length es) ≡ true
  ascending_entries es m at s k read =
      let same : (i : ℕ) → i < length es → entry_at c s at i ≡ get_or es i none =
      λ i h. sym (get_d_tabulate (entry_at c s at) (length es) i none h) ∙ ap (λ (l : List Entry). get_or l i none) read in
      ascending_is _ _ (λ i h. rw (same i (omega arith), same (suc i) h) (k.ascend i h))

  -- the parts of an order's bytes
  module _ (o : Order) where
    abbrev B : List ℕ
    B = bytes (address_bytes c) o.base.0

    abbrev P : List ℕ
    P = bytes 4 (length o.placements)

    abbrev E : List ℕ
    E = bytes 4 (length o.externals)

    abbrev Ps : List ℕ
    Ps = encode_entries c o.placements

    abbrev Es : List ℕ
    Es = encode_entries c o.externals

    length_encode : length (encode c o) ≡ externals_at c (length o.placements) + entry_size c * length o.externals
    unfolding encode
    length_encode = simp (length-append, length_bytes, length_entries) (omega arith)

    one_encode : le_at 4 (encode c o) 0 ≡ 1
    unfolding encode
    one_encode = le_at_bytes 4 1 _ [] (B ++ (P ++ (Ps ++ (E ++ Es)))) 0 (simp append_assoc) refl (omega arith)

    module _ (k : Spellable c o) where
      base_encode : base c (encode c o) ≡ o.base.0
      unfolding encode
      base_encode = le_at_address o.base.0 _ (bytes 4 1) (P ++ (Ps ++ (E ++ Es))) 4 (simp append_assoc) (length_bytes 4 1) k.base

      placement_count_encode : placement_count c (encode c o) ≡ length o.placements
      unfolding encode
      placement_count_encode =
          le_at_bytes 4 (length o.placements) _ (bytes 4 1 ++ B) (Ps ++ (E ++ Es)) (4 + address_bytes c) (simp append_assoc)
          (simp (length-append, length_bytes)) (omega (arith, k.placements.few))

      count_encode : le_at 4 (encode c o) (external_count_at c (length o.placements)) ≡ length o.externals
      unfolding encode
      count_encode =
          le_at_bytes 4 (length o.externals) _ (((bytes 4 1 ++ B) ++ P) ++ Ps) Es _ (simp append_assoc)
          (simp (length-append, length_bytes, length_entries) (omega arith)) (omega (arith, k.externals.few))

      external_count_encode : external_count c (encode c o) ≡ length o.externals
      external_count_encode = rw placement_count_encode count_encode

      placements_encode : tabulate (entry_at c (encode c o) (placements_start c)) (length o.placements) ≡ o.placements
      unfolding encode
      placements_encode =
          tabulate_entries o.placements _ ((bytes 4 1 ++ B) ++ P) (E ++ Es) (placements_start c) (simp append_assoc) (simp (length-append, length_bytes) (omega arith))
          k.placements.indices k.placements.values

      externals_encode : tabulate (entry_at c (encode c o) (externals_at c (length o.placements))) (length o.externals) ≡ o.externals
      unfolding encode
      externals_encode =
          tabulate_entries o.externals _ ((((bytes 4 1 ++ B) ++ P) ++ Ps) ++ E) [] _ (simp (append_assoc, append-nil))
          (simp (length-append, length_bytes, length_entries) (omega arith))
          k.externals.indices k.externals.values

      pub well_formed_encode : well_formed c (encode c o) ≡ true
      well_formed_encode =
          sound_well_formed c (encode c o)
          (record {
            base_is = refl;
            placements_are = refl;
            externals_are = refl;
            long = omega (arith, length_encode);
            one = one_encode;
            few = omega (arith, placement_count_encode, k.placements.few);
            room = rw placement_count_encode (omega (arith, length_encode));
            some = omega (arith, external_count_encode, k.externals.few);
            whole = rw (external_count_encode, placement_count_encode) length_encode;
            placed = rw placement_count_encode (ascending_entries o.placements max_placements (placements_start c) (encode c o) k.placements placements_encode);
            given =
                rw (external_count_encode, placement_count_encode)
                (ascending_entries o.externals max_externals _ (encode c o) k.externals externals_encode);
          })

      pub order_of_encode : order_of c (encode c o) ≡ o
      unfolding order_of
      order_of_encode =
          let externals : tabulate (external c (encode c o)) (length o.externals) ≡ o.externals =
          ap (λ n. tabulate (entry_at c (encode c o) (externals_at c n)) (length o.externals)) placement_count_encode ∙ externals_encode in
          let fields : ◌≡◌ {A = Order} (order_of c (encode c o)) (record { base = address o.base.0; placements = o.placements; externals = o.externals }) =
          rw (external_count_encode, placement_count_encode, base_encode, placements_encode, externals) in
          fields

  -- orders with the same bytes are equal
  pub encode_injective : (o q : Order) → Spellable c o → Spellable c q → encode c o ≡ encode c q → o ≡ q
  encode_injective o q ko kq e = sym (order_of_encode o ko) ∙ ap (order_of c) e ∙ order_of_encode q kq
