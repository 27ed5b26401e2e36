-- What the reads and stores of one exchange say of the columns, slot by slot. Assumes nothing.
use Prim.Native.Nat.{ℕ, ◌-◌}
use mathlib.Core.Path.{◌≡◌, refl}
use mathlib.Core.List.{List}
use native.Mathlib.Omega.{arith}
use lib.ListN.{get_or, set}
use borrow.Author.Tests.{eq-eqb, ne_eqb}
use Rattle.definitions.specs.Columns.{at, put}
use Rattle.definitions.specs.Compress.{exchange_words}
use Rattle.definitions.proofs.Columns.{at_place, put_place}
use Rattle.canonical_exchange.specs.Exchange.{Inside, held_only}

-- the words at the code's places i - 1 and t - 1 are those of slots i and t, and exchanged they are the definition's exchange
pub traded : {xs : List ℕ} {i t : ℕ} → Inside xs i t → set (set xs (i - 1) (get_or xs (t - 1) 0)) (t - 1) (get_or xs (i - 1) 0) ≡ exchange_words i t xs
unfolding exchange_words
traded {xs} {i} {t} inside =
    let i-is : i ≡ 0 → ⊥ = omega (arith, inside.i_some) in
    let t-is : t ≡ 0 → ⊥ = omega (arith, inside.t_some) in
    rw (at_place xs i i-is, at_place xs t t-is, put_place xs i (at xs t) i-is, put_place (put xs i (at xs t)) t (at xs i) t-is) refl

-- nobody is in a slot, or somebody
pub held_none : {who : ℕ} (name : ℕ) → who ≡ 0 → held_only who name ≡ 0
unfolding held_only
held_none {who} name e = rw (eq-eqb who 0 e) refl

pub held_some : {who : ℕ} (name : ℕ) → (who ≡ 0 → ⊥) → held_only who name ≡ name
unfolding held_only
held_some {who} name d = rw (ne_eqb who 0 d) refl
