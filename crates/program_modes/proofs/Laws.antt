-- What `==` says of two times and of two states of a file.
use mathlib.Core.Path.{◌≡◌, refl, ap}
use Rattle.std.proofs.Common.{Bool, true, false, ◌&&◌, Decides, nat_eq, int_eq}
use Rattle.std.proofs.lemmas.Bool.{false≢true}
use Rattle.std.proofs.lemmas.Bool.Decides.{Decides-eqb, Decides-int_eq}
use Rattle.program_modes.specs.declared.Time.{Time}
use Rattle.program_modes.specs.declared.State.{State}

-- a test of two tests
pub both : {b c : Bool} {P Q : Type 0} → Decides b P → Decides c Q → Decides (b && c) (P × Q)
both {b = true} p q = (λ e. (p.0 refl, q.0 e), λ h. q.1 h.1)
both {b = false} p q = (λ e. absurd (false≢true e), λ h. p.1 h.0)

pub same_time : (a b : Time) → Decides (int_eq a.seconds b.seconds && int_eq a.nanoseconds b.nanoseconds) (a ≡ b)
same_time a b =
    let h = both (Decides-int_eq a.seconds b.seconds) (Decides-int_eq a.nanoseconds b.nanoseconds) in (
      (λ e. λ i. record { seconds = (h.0 e).0 i; nanoseconds = (h.0 e).1 i }),
      (λ e. h.1 (ap (λ (t : Time). t.seconds) e, ap (λ (t : Time). t.nanoseconds) e)),
    )

pub same_state : (a b : State) (r : Bool)
    → r ≡ (nat_eq a.device b.device && (nat_eq a.number b.number && (nat_eq a.size b.size
    && ((int_eq a.modified.seconds b.modified.seconds && int_eq a.modified.nanoseconds b.modified.nanoseconds)
    && (int_eq a.changed.seconds b.changed.seconds && int_eq a.changed.nanoseconds b.changed.nanoseconds)))))
    → Decides r (a ≡ b)
same_state a b r is =
    let h =
    both (Decides-eqb a.device b.device)
    (both (Decides-eqb a.number b.number)
    (both (Decides-eqb a.size b.size)
    (both (same_time a.modified b.modified) (same_time a.changed b.changed)))) in
    rw is (
      (λ e. let k = h.0 e in λ i. record { device = k.0 i; number = k.1.0 i; size = k.1.1.0 i; modified = k.1.1.1.0 i; changed = k.1.1.1.1 i }),
      (λ e. h.1 (
        ap (λ (s : State). s.device) e,
        (
          ap (λ (s : State). s.number) e,
          (
            ap (λ (s : State). s.size) e,
            (
              ap (λ (s : State). s.modified) e,
              ap (λ (s : State). s.changed) e,
            ),
          ),
        ),
      )),
    )
