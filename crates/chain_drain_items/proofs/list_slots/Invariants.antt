-- `chain_drain_items::list_slots` meets its contract. The loop's invariant: the slots listed and those still ahead are all that were ahead, and the words
-- past the listed items are the old ones. The measure is how many slots are ahead. Assumes nothing.
use Rattle.std.specs.Prelude.{length}
use Rattle.chain_ahead.specs.Rest.{rest_of}
use Rattle.chain_drain_items.proofs.Listing.{Listing}
use Rattle.chain_drain_items.proofs.list_slots.Given as goal

abbrev pub invariant-loop-p : goal.invariant-loop-p
invariant-loop-p l = Listing (rest_of l.initial.walk) (rest_of l.walk) l.initial.report l.report l.items

abbrev pub decreases-loop-p : goal.decreases-loop-p
decreases-loop-p l = length (rest_of l.walk)
