-- A link of a well formed arena can be taken out: its neighbours are in the stack, and there is a link to count off. Assumes nothing.
use Prim.Native.Nat.{ℕ, ◌≤◌, ◌<◌}
use mathlib.Core.Path.{◌≡◌}
use mathlib.Core.Bool.{true}
use mathlib.Core.List.{List, [], ◌∷◌}
use native.Mathlib.Omega.{arith}
use native.Mathlib.Decide.{ℕ_discrete}
use lib.ListN.{length}
use Rattle.definitions.specs.Arena.{Arena, capacity_limit, stack_length, link_slots, is_link}
use Rattle.definitions.specs.Check.{WellFormed, Neighbour}
use Rattle.definitions.proofs.Slots.{allocated_some, allocated_within}
use Rattle.definitions.proofs.Count.{In, not_in_nil, count_links}
use Rattle.base_slots.specs.Removal.{Removable}

-- a neighbour is none, or is in the stack
pub neighbour_within : (a : Arena) (back : List ℕ) (x s : ℕ) → Neighbour a back x s → s ≤ stack_length a
neighbour_within a back x s h = go (ℕ_discrete s 0)
  where
    go : Dec (s ≡ 0) → s ≤ stack_length a
    go (yes z) = omega arith
    go (no d) = allocated_within a.generation (stack_length a) s (h d).0

some_member : (x : ℕ) (xs : List ℕ) → In x xs → 0 < length xs
some_member x [] i = absurd (not_in_nil x i)
some_member x (y ∷ ys) i = omega arith

pub removable : (a : Arena) (s : ℕ) → WellFormed capacity_limit a → is_link a s ≡ true → Removable a s
removable a s ok l =
    let some = allocated_some a.generation (stack_length a) s l in
    let within = allocated_within a.generation (stack_length a) s l in
    let before = neighbour_within a a.next s _ (ok.prev s l) in
    let after = neighbour_within a a.prev s _ (ok.next s l) in
    let listed = some_member s (link_slots a.generation (stack_length a)) (omega (arith, count_links a.generation (stack_length a) s l)) in
    let counts = ok.links in
    record {
      header = ok.header;
      stands = omega arith;
      joinable = omega arith;
      counted = omega arith;
    }
