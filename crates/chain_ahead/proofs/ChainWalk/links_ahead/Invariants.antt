-- `chain_ahead::ChainWalk::links_ahead` meets its contract. The loop's invariant: the links counted and those still ahead are all that were ahead. The measure
-- is how many are ahead. Assumes nothing.
use Rattle.std.specs.Prelude.{◌≡◌, ◌+◌, length}
use Rattle.chain_ahead.specs.Rest.{rest_of}
use Rattle.chain_ahead.proofs.ChainWalk.links_ahead.Given as goal

abbrev pub invariant-loop-self : goal.invariant-loop-self
invariant-loop-self l = l.links + length (rest_of l.self) ≡ length (rest_of l.initial.self)

abbrev pub decreases-loop-self : goal.decreases-loop-self
decreases-loop-self l = length (rest_of l.self)
