-- Rule 11 at a slot, as the code reads the columns: the word of slot s at place s - 1. Assumes nothing.
use Prim.Native.Nat.{ℕ, ◌-◌, ◌≤◌, ◌<◌}
use mathlib.Core.Path.{◌≡◌, refl}
use mathlib.Core.Bool.{true, false}
use mathlib.Core.List.{List}
use native.Mathlib.Omega.{arith}
use lib.ListN.{get_or}
use lib.Dec.{eqb}
use borrow.Author.Tests.{eq-eqb, ne_eqb}
use Rattle.definitions.specs.Check.{names_back, side_at}
use Rattle.definitions.proofs.Columns.{at_place}
use Rattle.definitions.proofs.Slots.{allocated_yes, allocated_free, allocated_past}

-- no neighbour, a slot past the stack, a free slot, then the slot that it names
module _ (back gs : List ℕ) (n x s : ℕ) where
  pub names_none : s ≡ 0 → true ≡ names_back back gs n x s
  unfolding names_back
  names_none z = rw (eq-eqb s 0 z) refl

  module _ (some : s ≡ 0 → ⊥) where
    pub names_past : n < s → false ≡ names_back back gs n x s
    unfolding names_back
    names_past h = rw (ne_eqb s 0 some, allocated_past gs n s h) refl

    pub names_free : get_or gs (s - 1) 0 ≡ 0 → false ≡ names_back back gs n x s
    unfolding names_back
    names_free g = rw (ne_eqb s 0 some, allocated_free gs n s (rw (← at_place gs s some) g)) refl

    pub names_read : s ≤ n → (get_or gs (s - 1) 0 ≡ 0 → ⊥) → eqb (get_or back (s - 1) 0) x ≡ names_back back gs n x s
    unfolding names_back
    names_read h g = rw (ne_eqb s 0 some, allocated_yes gs n s h (rw (← at_place gs s some) g), at_place back s some) refl

pub ruleset naming = (names_none, names_past, names_free, names_read)

-- on which side: next where prev names x back, else prev
module _ (ps ns gs : List ℕ) (n x : ℕ) (some : 0 < x) where
  pub side_next : true ≡ names_back ns gs n x (get_or ps (x - 1) 0) → 2 ≡ side_at ps ns gs n x
  unfolding side_at
  side_next e = rw (← at_place ps x (λ z. omega arith), ← e) refl

  pub side_prev : false ≡ names_back ns gs n x (get_or ps (x - 1) 0) → 1 ≡ side_at ps ns gs n x
  unfolding side_at
  side_prev e = rw (← at_place ps x (λ z. omega arith), ← e) refl

pub ruleset siding = (side_next, side_prev)
