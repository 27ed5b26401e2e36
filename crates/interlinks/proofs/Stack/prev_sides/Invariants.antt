-- `interlinks::Stack::prev_sides` meets its contract. The loop's invariant: of the first i slots so many are links with a next and so many links with a prev, and the prev
-- side of each is fine. Assumes nothing.
use lib.ListN.{length}
use Rattle.interlinks.proofs.Passes.{Going}
use Rattle.interlinks.proofs.Stack.prev_sides.Given as goal

abbrev pub invariant-loop-i : goal.invariant-loop-i
invariant-loop-i g l = Going l.prev l.next l.generation (length l.generation) l.nexts l.prevs l.i
