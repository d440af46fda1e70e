-- Bytes that are copied.
use mathlib.Core.Path.{◌≡◌, refl, sym, ap, ◌∙◌}
use mathlib.Core.List.{List, ◌++◌, append_assoc}
use Prim.Native.Nat.{ℕ, ◌+◌, ◌≤◌}
use native.Mathlib.Omega.{arith}
use lib.ListN.{length, take, drop}
use lib.Seq.{sets, sets-eq, length-sets, drop-drop}
use borrow.Rule.Slice.PartMut.{put_mid}
use Rattle.numbers_definitions.specs.Bytes.{part}
use Rattle.numbers_definitions.proofs.Laws.Lists.{part_whole, part_stored}

-- a whole list, copied over a list of the same length
pub copied_whole : (l v : List ℕ) → length v ≡ length l → sets l 0 (part v 0 (length v)) ≡ v
copied_whole l v e =
    ap (sets l 0) (part_whole v (length v) refl)
    ∙ sym (part_whole (sets l 0 v) (length v) (length-sets l 0 v ∙ sym e))
    ∙ part_stored l 0 v (length v) refl (omega arith)

-- a part of a slice that is written whole
pub put_there : (i n : ℕ) (l v : List ℕ) → length v ≡ n → i + n ≤ length l → put_mid i n l v ≡ sets l i v
put_there i n l v e h =
    ap (λ r. take i l ++ (v ++ r)) (drop-drop n i l ∙ ap (λ m. drop (i + m) l) (sym e))
    ∙ sym (append_assoc (take i l) v (drop (i + length v) l))
    ∙ sym (sets-eq v l i (omega arith))
