-- `numbers_arithmetic::addend` meets its contract.
use Rattle.std.proofs.Common.{◌≡◌, ℕ, suc, ◌+◌, ◌-◌, ◌^◌, ◌<◌, w32, w64, to_z, of_z, sym, refl, ap, ◌∙◌, arith}
use Rattle.std.proofs.lemmas.Int.{of_z-to_z}
use native.Mathlib.Decide.{dec_lt}
use borrow.Author.Tests.{lt-ltb, le-ltb}
use Rattle.numbers_definitions.specs.Whole.{residue, signed}
use Rattle.numbers_definitions.proofs.Laws.Whole.{residue_lt, extend_low, extend_high}
use Rattle.numbers_arithmetic.proofs.addend.Goals as goal

-- a word that is read as signed at 32 bits and written at 64
spelled : (w : ℕ) → w < 2 ^ 32 → of_z w64 (to_z w32 w) ≡ residue 64 (signed 32 w)
spelled w h = go (dec_lt w 0x8000_0000)
  where
    go : Dec (w < 0x8000_0000) → of_z w64 (to_z w32 w) ≡ residue 64 (signed 32 w)
    go (yes l) = rw (lt-ltb w 0x8000_0000 l) (sym (extend_low 64 32 w (omega arith) (omega arith)))
    go (no l) =
        let same : 2 ^ 64 - suc (2 ^ 32 - suc w) ≡ w + 0xffff_ffff_0000_0000 = omega arith in
        rw (le-ltb w 0x8000_0000 (omega arith)) (same ∙ sym (extend_high 64 32 w 0xffff_ffff_0000_0000 (omega arith) (omega arith) refl))

pub returns : goal.returns
returns c =
    let w : ℕ = c.args.word in
    c.cast_unsigned.ensures
    ∙ ap (λ z. of_z w64 (to_z w64 (of_z w64 z))) (c.from.ensures ∙ ap (λ z. to_z w32 (of_z w32 z)) c.cast_signed.ensures)
    ∙ ap (λ n. of_z w64 (to_z w64 (of_z w64 (to_z w32 n)))) (of_z-to_z w32 w (omega arith))
    ∙ ap (λ n. of_z w64 (to_z w64 n)) (spelled w (omega arith))
    ∙ of_z-to_z w64 (residue 64 (signed 32 w)) (residue_lt 64 (signed 32 w))
