-- The answer of an exported function can be read: number, place and reason stand where the header says, for all inputs.
use mathlib.Core.Logic.{◌⊎◌, inl, inr, ⊎_elim}
use mathlib.Core.Path.{◌≡◌, refl, sym, ap, subst}
use mathlib.Core.Bool.{Bool, true, false}
use mathlib.Core.List.{List}
use Prim.Native.Nat.{ℕ, ◌^◌, ◌≤◌, ◌<◌}
use native.Mathlib.Omega.{arith}
use lib.Dec.{eqb}
use borrow.Author.Tests.{eqb-true, eqb-false}
use Rattle.plan_pieces.proofs.Laws.Answers.{unpacked}
use Rattle.plan_pieces.specs.Answers.{Answer, done, packed, Reads}
use Rattle.elf_read.specs.Headers.{section_count}
use Rattle.elf_read.specs.Entries.{relocation_count}
use Rattle.elf_check.specs.Requires.{SoundObject}
use Rattle.elf_check.specs.Sound.{SoundSection}
use Rattle.elf_check.proofs.Laws.Bounds.{relocations_few}
use Rattle.journal_history.specs.Calls.{Files}
use Rattle.calls_demands.specs.Rules.{HeaderWell, TableWell}
use Rattle.calls_demands.specs.First.{Checks, table}
use Rattle.calls_demands.specs.Demands.{rollback_table}
use Rattle.calls_demands.specs.Ours.{our_install, our_rollback}
use Rattle.calls_demands.specs.Codes.{FitGives, TakeBackGives, CarriesReason}
use Rattle.calls_demands.proofs.Laws.First.{Told, PlacesBelow, named_number, named_place}
use Rattle.calls_demands.proofs.Laws.Rules.{well_header}
use Rattle.calls_demands.proofs.Laws.Told.{told}
use Rattle.calls_demands.proofs.Laws.Demands.{OfInstall, OfRollback, no_reason, numbers_are, rollback_numbers, rollback_told}

-- ---- places are numbers of 32 bits

few_relocations : (object : List ℕ) → HeaderWell object → TableWell object → ((i : ℕ) → i < section_count object → SoundSection object i) → relocation_count object ≤ 2 ^ 32
few_relocations object h t s =
    let sound : SoundObject object =
    record {
      header = well_header object h;
      table = record { header = h.long; few = t.few; inside = t.inside };
      entries = t.entries_sized;
      some = t.some;
      sections = s;
    } in
    omega (arith, relocations_few object sound)

places : (object order : List ℕ) (f : Files) → PlacesBelow (2 ^ 32) (table object order f)
unfolding table
places object order f = (
  omega arith,
  λ h1. (
    omega arith,
    λ h4. (
      omega arith,
      λ h2. (
        omega arith,
        λ h3. (
          omega arith,
          λ h5.
              let t : TableWell object = (h5 0 (omega arith)).0 in
              let few : section_count object ≤ 2 ^ 32 = omega (arith, t.few) in (
                few,
                λ hs. (
                  omega arith,
                  λ h6. (
                    omega arith,
                    λ h7. (
                      few,
                      λ h8. (few_relocations object (h4 0 (omega arith)).0 t (λ i l. (hs i l).0), λ h9. (omega arith, λ h15. tt)),
                    ),
                  ),
                ),
              ),
        ),
      ),
    ),
  ),
)

rollback_places : (f : Files) → PlacesBelow (2 ^ 32) (rollback_table f)
unfolding rollback_table
rollback_places f = (omega arith, λ h1. (omega arith, λ h3. (omega arith, λ h16. tt)))

place_of : (c : Checks) (a : Answer) → PlacesBelow (2 ^ 32) c → Told c a → a.place < 2 ^ 32
place_of c a b (inl t) = omega (arith, ap (λ x. x.place) t.0)
place_of c a b (inr w) = named_place (2 ^ 32) c a b w

-- ---- reasons are small

small_reason : {n r : ℕ} → CarriesReason n r → r < 256
small_reason {n} {r} c = go (eqb n 10) refl
  where
    go : (b : Bool) → eqb n 10 ≡ b → r < 256
    go true e = omega (arith, (c.ten (eqb-true n 10 e)).1)
    go false e = omega (arith, c.others (eqb-false n 10 e))

-- ---- the two calls

module _ (object order : List ℕ) (f : Files) where
  -- what every rule of the table has, an answer that is done has too
  fit_of : OfInstall (our_install object order f).answer.number (our_install object order f).answer.reason ⊎ ((our_install object order f).answer ≡ done)
  fit_of = go (told object order f)
    where
      go : Told (table object order f) (our_install object order f).answer
          → OfInstall (our_install object order f).answer.number (our_install object order f).answer.reason ⊎ ((our_install object order f).answer ≡ done)
      go (inl t) = inr t.0
      go (inr b) = inl (named_number OfInstall (table object order f) _ (numbers_are object order f) b)

  pub fit_gives : FitGives (our_install object order f).answer.number
  fit_gives = ⊎_elim (λ o. o.1) (λ d. omega (arith, ap (λ x. x.number) d)) fit_of

  pub fit_carries : CarriesReason (our_install object order f).answer.number (our_install object order f).answer.reason
  fit_carries = ⊎_elim (λ o. o.2) (λ d. subst (λ (x : Answer). CarriesReason x.number x.reason) (sym d) (no_reason 0 (λ e. omega arith))) fit_of

  pub fit_reads : Reads (packed (our_install object order f).answer) (our_install object order f).answer
  fit_reads =
      unpacked (our_install object order f).answer (omega (arith, fit_gives)) (small_reason fit_carries) (place_of (table object order f) _ (places object order f) (told object order f))

module _ (f : Files) where
  rollback_of : OfRollback (our_rollback f).answer.number (our_rollback f).answer.reason ⊎ ((our_rollback f).answer ≡ done)
  rollback_of = go (rollback_told f)
    where
      go : Told (rollback_table f) (our_rollback f).answer → OfRollback (our_rollback f).answer.number (our_rollback f).answer.reason ⊎ ((our_rollback f).answer ≡ done)
      go (inl t) = inr t.0
      go (inr b) = inl (named_number OfRollback (rollback_table f) _ (rollback_numbers f) b)

  pub take_back_gives : TakeBackGives (our_rollback f).answer.number
  take_back_gives = ⊎_elim (λ o. inr o.0) (λ d. inl (ap (λ x. x.number) d)) rollback_of

  -- a taking-back looks up no symbol
  pub take_back_carries : (our_rollback f).answer.reason ≡ 0
  take_back_carries = ⊎_elim (λ o. o.1) (λ d. ap (λ x. x.reason) d) rollback_of

  small : TakeBackGives (our_rollback f).answer.number → (our_rollback f).answer.number < 256
  small (inl e) = omega arith
  small (inr (inl e)) = omega arith
  small (inr (inr (inl e))) = omega arith
  small (inr (inr (inr e))) = omega arith

  pub take_back_reads : Reads (packed (our_rollback f).answer) (our_rollback f).answer
  take_back_reads =
      unpacked (our_rollback f).answer (small take_back_gives) (omega (arith, take_back_carries)) (place_of (rollback_table f) _ (rollback_places f) (rollback_told f))
