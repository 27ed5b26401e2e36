-- What the rest of a walk answers.
use Rattle.std.specs.Prelude.{ℕ, List}
use mathlib.Core.Path.{ap}
use mathlib.Core.Logic.{inl, inr}
use mathlib.Core.Bool.{Bool-set}
use native.Mathlib.Nat.{ℕ_set}
use native.Mathlib.Omega.{arith}
use Rattle.definitions.specs.Arena.{Arena, stack_length}
use Rattle.definitions.specs.Walk.{Walk, walked}
use Rattle.definitions.proofs.Slots.{allocated_some}
use Rattle.chain_iterators.specs.Walk.{OnChain}

-- the slots that the rest of a walk answers
abbrev pub slots_ahead : Arena → Walk → List ℕ
slots_ahead a w = walked a w.left w

-- slot 0 is no link, so that a slot is on a chain in one way at most
pub OnChain-prop : (a : Arena) (s : ℕ) → IsProp (OnChain a s)
OnChain-prop a s (inl x) (inl y) = ap inl (ℕ_set _ _ x y)
OnChain-prop a s (inl x) (inr l) = let some = allocated_some a.generation (stack_length a) s l in absurd (omega arith)
OnChain-prop a s (inr k) (inl y) = let some = allocated_some a.generation (stack_length a) s k in absurd (omega arith)
OnChain-prop a s (inr k) (inr l) = ap inr (Bool-set _ _ k l)
