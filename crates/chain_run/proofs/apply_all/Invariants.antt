-- `chain_run::apply_all` meets its contract. The loop's invariant: after i commands the arena and the answers are those of the first i. Each arena on the way is well formed, since
-- commands keep that. Assumes nothing.
use Rattle.definitions.specs.Arena.{largest_generation}
use Rattle.lent.specs.Arenas.{held_in, SameBuffers}
use Rattle.chain_run.proofs.Going.{Going}
use Rattle.chain_run.proofs.apply_all.Given as goal

abbrev pub invariant-loop-i : goal.invariant-loop-i
invariant-loop-i l = Going largest_generation (held_in l.initial.arena) l.commands l.initial.answer-items l.i (held_in l.arena) l.answer-items × SameBuffers l.initial.arena l.arena
