-- `chain_due::list_due` meets its contract. The loop's invariant: the due links reported and those still ahead are all that were ahead, and the words
-- past them are the old ones. The measure is how many links are ahead. Assumes nothing.
use Rattle.std.specs.Prelude.{length}
use Rattle.chain_ahead.specs.Rest.{rest_of}
use Rattle.chain_due.proofs.Passing.{Listed}
use Rattle.chain_due.proofs.list_due.Given as goal

abbrev pub invariant-loop-p : goal.invariant-loop-p
invariant-loop-p l = Listed l.window l.initial.walk l.walk l.initial.report l.report l.reported

abbrev pub decreases-loop-p : goal.decreases-loop-p
decreases-loop-p l = length (rest_of l.walk)
