-- The order of a walk: for each field of `WalkOrder` and `Walks` a list that it alone refuses. And a walk that turns, step by step.
use Prim.Native.Nat.{ℕ, zero, suc, ◌≤◌}
use mathlib.Core.Path.{◌≡◌, refl, sym, ap}
use mathlib.Core.Logic.{inl, inr}
use mathlib.Core.Bool.{true, true≢false}
use mathlib.Core.List.{List, [], ◌∷◌, ◌++◌, reverse, reverse_aux}
use native.Mathlib.Omega.{arith}
use lib.ListN.{length, length-append, get_or}
use Rattle.definitions.specs.Columns.{at, first_or, Linked}
use Rattle.definitions.specs.Arena.{Arena, arena, is_link, allocated}
use Rattle.statements.specs.Chains.{Kind, opened, closed, IsOpen, IsChain}
use Rattle.definitions.specs.Walk.{start_at, onward, step, walked}
use Rattle.statements.specs.WalkOrder.{WalkOrder, Walks}
use Rattle.statements.specs.Answers.{answers}
use Rattle.definitions.proofs.Slots.{count_here, allocated_within}
use Rattle.definitions.proofs.Count.{in_here, in_only, in_cases}
use Rattle.statements.proofs.Refused.Chains.{one, ring, pair, kind_number}

-- ---- the order: a walk from the second link of two that leaves out the first one

turned_some : (xs r : List ℕ) → 1 ≤ length r → 1 ≤ length (reverse_aux xs r)
turned_some [] r h = h
turned_some (x ∷ xs) r h = turned_some xs (x ∷ r) (omega arith)

pub walk_order_chain_and_order_refused : WalkOrder pair 2 (2 ∷ []) → ⊥
unfolding IsChain Linked first_or at
walk_order_chain_and_order_refused w = go w.kind w.before w.after w.chain (ap length w.order)
  where
    go : (k : Kind) (u v : List ℕ) → IsChain pair k (u ++ 2 ∷ v) → 1 ≡ length (2 ∷ v ++ reverse u) → ⊥
    go k (x ∷ u) v c e = omega (arith, e, length-append v (reverse (x ∷ u)), turned_some u (x ∷ []) (omega arith))
    go k [] (x ∷ v) c e = omega (arith, e)
    go opened [] [] c e = omega (arith, c.starts)
    go closed [] [] c e = omega (arith, c.linked.0)

-- a walk goes back towards the chain's start: from the last of three links, 3, 2 and 1
abbrev three : Arena
three = arena (0 ∷ 1 ∷ 2 ∷ []) (2 ∷ 3 ∷ 0 ∷ []) (5 ∷ 5 ∷ 5 ∷ []) (7 ∷ 8 ∷ 9 ∷ []) (3 ∷ 3 ∷ 0 ∷ 5 ∷ [])

three_is_open : IsOpen three (1 ∷ 2 ∷ 3 ∷ [])
unfolding Linked first_or at allocated
three_is_open = record {
  some = λ e. omega (arith, ap length e);
  links = λ s i. elim (in_cases s 1 (2 ∷ 3 ∷ []) i) [ inl e ↦ rw e refl | inr j ↦ elim (in_cases s 2 (3 ∷ []) j) [ inl e ↦ rw e refl | inr k ↦ rw (in_only s 3 k) refl ] ];
  starts = refl;
  linked = (refl, (refl, (refl, tt)));
}

pub walk_order_back : WalkOrder three 3 (3 ∷ 2 ∷ 1 ∷ [])
unfolding IsChain kind_number
walk_order_back = record { kind = opened; before = 1 ∷ 2 ∷ []; after = []; chain = three_is_open; round = λ e. absurd (omega (arith, ap kind_number e)); order = refl }

-- a closed chain of three is gone round along next, not along prev
abbrev round : Arena
round = arena (3 ∷ 1 ∷ 2 ∷ []) (2 ∷ 3 ∷ 1 ∷ []) (5 ∷ 5 ∷ 5 ∷ []) (7 ∷ 8 ∷ 9 ∷ []) (3 ∷ 3 ∷ 0 ∷ 5 ∷ [])

pub walk_order_round_refused : WalkOrder round 2 (2 ∷ 1 ∷ 3 ∷ []) → ⊥
unfolding IsChain Linked first_or at allocated
walk_order_round_refused w = go w.kind w.before w.after w.chain w.round w.order
  where
    has_prev : (s : ℕ) → is_link round s ≡ true → at round.prev s ≡ 0 → ⊥
    has_prev zero h e = true≢false (sym h)
    has_prev (suc zero) h e = omega (arith, e)
    has_prev (suc (suc zero)) h e = omega (arith, e)
    has_prev (suc (suc (suc zero))) h e = omega (arith, e)
    has_prev (suc (suc (suc (suc s)))) h e = omega (arith, allocated_within (5 ∷ 5 ∷ 5 ∷ []) 3 (suc (suc (suc (suc s)))) h)

    go : (k : Kind) (u v : List ℕ) → IsChain round k (u ++ 2 ∷ v) → (k ≡ closed → u ≡ []) → 2 ∷ 1 ∷ 3 ∷ [] ≡ 2 ∷ v ++ reverse u → ⊥
    go opened [] v c r e = has_prev 2 refl c.starts
    go opened (x ∷ u) v c r e = has_prev x (c.links x (in_here x (u ++ 2 ∷ v))) c.starts
    go closed (x ∷ u) v c r e = omega (arith, ap length (r refl))
    go closed [] [] c r e = omega (arith, ap length e)
    go closed [] (x ∷ v) c r e = omega (arith, ap (λ (l : List ℕ). get_or l 1 0) e, c.linked.0)

-- ---- a whole walk

-- a link that is its own prev and has no next is on no chain, although a walk from it answers it and then none
pub walks_order_refused : Walks (one 1 0 5 7) 1 (1 ∷ []) → ⊥
unfolding IsChain Linked first_or at
walks_order_refused w = go w.order.kind w.order.before w.order.after w.order.chain (ap length w.order.order)
  where
    go : (k : Kind) (u v : List ℕ) → IsChain (one 1 0 5 7) k (u ++ 1 ∷ v) → 1 ≡ length (1 ∷ v ++ reverse u) → ⊥
    go k (x ∷ u) v c e = omega (arith, e, length-append v (reverse (x ∷ u)), turned_some u (x ∷ []) (omega arith))
    go k [] (x ∷ v) c e = omega (arith, e)
    go opened [] [] c e = omega (arith, c.starts)
    go closed [] [] c e = omega (arith, c.linked.0)

-- a free slot is answered, and a link twice
pub walks_links_refused : Walks (one 0 0 0 0) 1 (1 ∷ []) → ⊥
unfolding allocated at
walks_links_refused w = true≢false (sym (w.links 1 (in_here 1 [])))

pub walks_once_refused : Walks ring 1 (1 ∷ 1 ∷ []) → ⊥
walks_once_refused w = omega (arith, w.once 1, count_here 1 (1 ∷ []), count_here 1 [])

-- a link count that is too small ends the walk before the second link
pub walks_then_none_refused : Walks (arena (0 ∷ 1 ∷ []) (2 ∷ 0 ∷ []) (5 ∷ 5 ∷ []) (7 ∷ 8 ∷ []) (2 ∷ 1 ∷ 0 ∷ 5 ∷ [])) 1 (1 ∷ 2 ∷ []) → ⊥
unfolding at allocated onward step walked
walks_then_none_refused w = omega (arith, ap length (w.then_none 2 (omega arith)))

-- ---- step by step, from the second of three links: the second, the third, the first, and none

pub answers_computed : answers three 5 (start_at three 2) ≡ 2 ∷ 3 ∷ 1 ∷ 0 ∷ 0 ∷ []
unfolding at allocated onward step answers
answers_computed = refl
