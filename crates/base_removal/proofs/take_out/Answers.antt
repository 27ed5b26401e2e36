-- `base_removal::take_out` meets its contract. Joining leaves the columns' lengths, and counting leaves stack length and root, so the slot is then popped or freed as
-- the definition says. Assumes nothing.
use Rattle.base_slots.proofs.Removed.{poppable, last_out, other_out}
use Rattle.base_removal.proofs.take_out.Goals as goal

pub pop-requires-clause-header_len : goal.pop-requires-clause-header_len
pop-requires-clause-header_len c = poppable c.requires c.count_removal-overflow.ensures c.count_removal-overflow.auto.header c.if-s-n.true

pub returns-then-s-n-clause-taken_out : goal.returns-then-s-n-clause-taken_out
returns-then-s-n-clause-taken_out c = last_out (c.join.ensures _ _ _) c.count_removal-overflow.ensures c.if-s-n.true c.pop.ensures.popped

pub returns-else-s-n-clause-taken_out : goal.returns-else-s-n-clause-taken_out
returns-else-s-n-clause-taken_out c = other_out (c.join.ensures _ _ _) c.count_removal-overflow.ensures c.if-s-n.false c.free.ensures.freed
