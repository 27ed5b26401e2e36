-- `chain_due::due_ahead` meets its contract. The loop's invariant: the due links counted and those still ahead are all that were ahead. The measure is how
-- many links are ahead. Assumes nothing.
use Rattle.std.specs.Prelude.{◌≡◌, ◌+◌, length}
use Rattle.chain_ahead.specs.Rest.{rest_of}
use Rattle.chain_due.specs.Due.{due_ahead}
use Rattle.chain_due.proofs.due_ahead.Given as goal

abbrev pub invariant-loop-p : goal.invariant-loop-p
invariant-loop-p l = l.count + length (due_ahead l.window l.walk) ≡ length (due_ahead l.window l.initial.walk)

abbrev pub decreases-loop-p : goal.decreases-loop-p
decreases-loop-p l = length (rest_of l.walk)
