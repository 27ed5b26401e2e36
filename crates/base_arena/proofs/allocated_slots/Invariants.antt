-- `base_arena::allocated_slots` meets its contract. The loop's invariant: the count is that of the links among the slots so far. Assumes nothing.
use Prim.Native.Nat.{◌≤◌}
use mathlib.Core.Path.{◌≡◌}
use lib.ListN.{length}
use Rattle.base_arena.proofs.Counting.{links_to}
use Rattle.base_arena.proofs.allocated_slots.Given as goal

abbrev pub invariant-loop-g : goal.invariant-loop-g
invariant-loop-g l = (l.allocated ≤ l.g-index) × (l.allocated ≡ links_to l.generation (length l.generation) l.g-index)
