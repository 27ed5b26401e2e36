-- Laws of columns by slot: reading, writing, and both together. Assumes nothing.
use Prim.Native.Nat.{ℕ, zero, suc, ◌-◌, ◌≤◌}
use mathlib.Core.Path.{◌≡◌, refl, ap}
use mathlib.Core.List.{List}
use native.Mathlib.Numerals.{sub-one}
use lib.ListN.{length, get_or, set, length-set}
use lib.Seq.{get_or-set_same, get_or-set_other}
use Rattle.definitions.specs.Columns.{at, put}

pub at_zero : (xs : List ℕ) → at xs 0 ≡ 0
unfolding at
at_zero xs = refl

pub at_suc : (xs : List ℕ) (i : ℕ) → at xs (suc i) ≡ get_or xs i 0
unfolding at
at_suc xs i = refl

-- the code's place s - 1 is slot s
pub at_place : (xs : List ℕ) (s : ℕ) → (s ≡ 0 → ⊥) → get_or xs (s - 1) 0 ≡ at xs s
unfolding at
at_place xs zero h = absurd (h refl)
at_place xs (suc i) h = rw (sub-one (suc i)) refl

pub put_zero : (xs : List ℕ) (v : ℕ) → put xs 0 v ≡ xs
unfolding put
put_zero xs v = refl

pub put_place : (xs : List ℕ) (s v : ℕ) → (s ≡ 0 → ⊥) → set xs (s - 1) v ≡ put xs s v
unfolding put
put_place xs zero v h = absurd (h refl)
put_place xs (suc i) v h = rw (sub-one (suc i)) refl

pub length_put : (xs : List ℕ) (s v : ℕ) → length (put xs s v) ≡ length xs
unfolding put
length_put xs zero v = refl
length_put xs (suc i) v = length-set xs i v

pub at_put_same : (xs : List ℕ) (s v : ℕ) → (s ≡ 0 → ⊥) → s ≤ length xs → at (put xs s v) s ≡ v
unfolding at put
at_put_same xs zero v h l = absurd (h refl)
at_put_same xs (suc i) v h l = get_or-set_same xs i v 0 l

pub at_put_other : (xs : List ℕ) (s t v : ℕ) → (t ≡ s → ⊥) → at (put xs s v) t ≡ at xs t
unfolding at put
at_put_other xs zero t v h = refl
at_put_other xs (suc i) zero v h = refl
at_put_other xs (suc i) (suc j) v h = get_or-set_other xs i j v 0 (λ e. h (ap suc e))
