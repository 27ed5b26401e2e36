use borrow.Author.Rules.{rules}
use Rattle.base_slots.proofs.Removable.{removable}
use Rattle.chain_drain_items.proofs.Draining.{draining_ends, next_link, draining_goes_on, counted_from_1}
use Rattle.chain_drain_items.proofs.drain_items.Goals as goal

pub drain_item-overflow-requires-clause-removable : goal.drain_item-overflow-requires-clause-removable
drain_item-overflow-requires-clause-removable c = let d = c.loop-item.invariant.0 in removable _ _ d.rest.arena (next_link d c.loop-item-test.true)

pub loop-item-preserved : goal.loop-item-preserved
loop-item-preserved c = (rw (c.or-overflowed.ensures, c.then_some.ensures) (draining_goes_on c.loop-item.invariant.0 c.loop-item-test.true c.drain_item-overflow.ensures.drained), search rules, rw (c.or-overflowed.ensures, c.then_some.ensures) (counted_from_1 _ _ _ c.loop-item.invariant.2))

pub returns-clause-drained : goal.returns-clause-drained
returns-clause-drained c = draining_ends c.loop-item.invariant.0 c.loop-item-test.false

pub returns-clause-some : goal.returns-clause-some
returns-clause-some c = c.loop-item.invariant.2
