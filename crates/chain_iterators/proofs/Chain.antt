-- A walk in an arena that passed the check stays on its chain: each step leads to a link or to no slot. Assumes nothing.
use Prim.Native.Nat.{ℕ}
use mathlib.Core.Path.{◌≡◌, refl}
use mathlib.Core.Logic.{◌⊎◌, inl, inr}
use mathlib.Core.Bool.{true, not}
use mathlib.Core.List.{List}
use native.Mathlib.Decide.{ℕ_discrete}
use native.Mathlib.Omega.{arith}
use lib.Dec.{eqb}
use borrow.Author.Tests.{ne_eqb}
use Rattle.definitions.specs.Columns.{at}
use Rattle.definitions.specs.Arena.{Arena, allocated, is_link}
use Rattle.definitions.specs.Check.{Neighbour, WellFormed}
use Rattle.definitions.specs.Walk.{Walk, Stepped, onward, step}
use Rattle.definitions.proofs.Columns.{at_zero}
use Rattle.definitions.proofs.Slots.{allocated_some, allocated_free}
use Rattle.definitions.proofs.Tests.{by_test}
use Rattle.chain_iterators.specs.Walk.{OnChain}

-- on a chain a position is a link exactly if it is not 0: gs is the generation column, n the stack length
pub on_chain_link : (gs : List ℕ) (n s : ℕ) → (s ≡ 0) ⊎ (allocated gs n s ≡ true) → not (eqb s 0) ≡ allocated gs n s
on_chain_link gs n s (inl z) = rw (z, allocated_free gs n 0 (at_zero gs)) refl
on_chain_link gs n s (inr l) = let some = allocated_some gs n s l in rw (l, ne_eqb s 0 (omega arith)) refl

module _ {limit : ℕ} {a : Arena} (ok : WellFormed limit a) where
  neighbour_on_chain : (back : List ℕ) (x s : ℕ) → Neighbour a back x s → OnChain a s
  neighbour_on_chain back x s h = elim (ℕ_discrete s 0) [ yes z ↦ inl z | no d ↦ inr (h d).0 ]

  prev_on_chain : (x : ℕ) → is_link a x ≡ true → OnChain a (at a.prev x)
  prev_on_chain x l = neighbour_on_chain a.next x _ (ok.prev x l)

  next_on_chain : (x : ℕ) → is_link a x ≡ true → OnChain a (at a.next x)
  next_on_chain x l = neighbour_on_chain a.prev x _ (ok.next x l)

  onward_on_chain : (w : Walk) → is_link a w.position ≡ true → OnChain a (onward a w).position
  unfolding onward
  onward_on_chain w l =
      by_test (eqb w.direction 0)
      (λ e. rw e (by_test (eqb (at a.next w.position) 0)
      (λ f. rw f (by_test (is_link a w.start) (λ g. rw g (prev_on_chain w.start g)) (λ g. rw g (inl refl))))
      (λ f. rw f (by_test (eqb (at a.next w.position) w.start) (λ g. rw g (inl refl)) (λ g. rw g (next_on_chain w.position l))))))
      (λ e. rw e (prev_on_chain w.position l))

  -- a step from a place on the chain
  stays_on_chain : (w : Walk) → OnChain a w.position → OnChain a (step a w).state.position
  unfolding step
  stays_on_chain w on =
      by_test (eqb w.left 0)
      (λ e. rw e on)
      (λ e. rw e (by_test (is_link a w.position) (λ l. rw l (onward_on_chain w l)) (λ l. rw l (inl refl))))

  pub step_on_chain : (w : Walk) {r : Stepped} → r ≡ step a w → OnChain a w.position → OnChain a r.state.position
  step_on_chain w e on = rw e (stays_on_chain w on)
