-- `base_arena::freelist` meets its contract. The loop's invariant: the walk that is left, at this slot after so many visits, answers what the
-- whole walk answers. A turn is one visit of the definition. Assumes nothing.
use mathlib.Core.Bool.{not}
use lib.Dec.{eqb}
use Rattle.base_arena.proofs.Walk.{Left}
use Rattle.base_arena.proofs.freelist.Given as goal

abbrev pub invariant-loop-visited : goal.invariant-loop-visited
invariant-loop-visited g l = Left (not (eqb g.row.ALL_FREE 0)) l.next l.generation l.root l.visited l.slot
