-- One step of a walk, branch by branch. Assumes nothing.
use Prim.Native.Nat.{ℕ, ◌-◌, ◌≤◌, ◌<◌}
use mathlib.Core.Path.{◌≡◌, refl}
use mathlib.Core.Bool.{true, false}
use mathlib.Core.List.{List}
use borrow.Author.Tests.{eq-eqb, ne_eqb}
use Rattle.definitions.specs.Columns.{at}
use Rattle.definitions.specs.Arena.{Arena, allocated, is_link}
use Rattle.definitions.specs.Read.{pointer}
use Rattle.definitions.specs.Walk.{Walk, walk, none, onward, step}
use Rattle.definitions.proofs.Slots.{allocated_some, allocated_within}

-- a link has a slot within the stack
pub link_slot : (gs : List ℕ) (n s : ℕ) → allocated gs n s ≡ true → (0 < s) × (s ≤ n)
link_slot gs n s e = (allocated_some gs n s e, allocated_within gs n s e)

-- the generation g and the state v that the code answers are what the definitions read
module _ (a : Arena) (w : Walk) where
  -- no advance is left: nothing changes
  pub step_spent : w.left ≡ 0 → none w ≡ step a w
  unfolding step
  step_spent e = rw (eq-eqb _ _ e) refl

  -- the position is no link: the walk ends
  pub step_ends : (w.left ≡ 0 → ⊥) → is_link a w.position ≡ false → none (walk w.start 0 w.direction (w.left - 1)) ≡ step a w
  unfolding step
  step_ends d e = rw (ne_eqb _ _ d, e) refl

  -- the position is a link: it is answered, and the walk goes on
  pub step_answers : (g : ℕ) (v : Walk) → (w.left ≡ 0 → ⊥) → is_link a w.position ≡ true → g ≡ at a.generation w.position → v ≡ onward a w → record { answer = pointer w.position g; state = v } ≡ step a w
  unfolding step
  step_answers g v d e f h = rw (ne_eqb _ _ d, e, f, h) refl
