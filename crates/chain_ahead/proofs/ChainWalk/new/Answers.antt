-- `chain_ahead::ChainWalk::new` meets its contract: where the pointer is not stale, it names a link. Assumes nothing.
use Rattle.ptr.specs.Pointers.{pointer_of}
use Rattle.chain_ahead.proofs.Started.{started_on_chain}
use Rattle.chain_ahead.proofs.ChainWalk.new.Goals as goal

pub invariant_of-result : goal.invariant_of-result
invariant_of-result c = record { on_chain = started_on_chain _ (pointer_of c.args.p) c.in_ok-walk.walk (rw c.arena.ensures at c.in_ok-walk.ensures) }
