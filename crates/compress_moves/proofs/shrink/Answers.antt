-- `compress_moves::shrink` meets its contract: a column filled and popped is the settled one (Shrinks). Assumes nothing.
use Rattle.compress_moves.proofs.Shrinks.{shrinks}
use Rattle.compress_moves.proofs.shrink.Goals as goal

pub returns-clause-shrunk : goal.returns-clause-shrunk
returns-clause-shrunk c = shrinks c.requires c.fill_generation.ensures c.pop_slots.ensures.popped
