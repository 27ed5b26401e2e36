use native.Mathlib.Omega.{arith}
use Rattle.chain_ahead.proofs.Ahead.{rest_short}
use Rattle.chain_drain_items.proofs.Listing.{listing_starts, listing_ends, listing_small, listing_room, listing_goes_on}
use Rattle.chain_drain_items.proofs.list_slots.Goals as goal

pub loop-p-init : goal.loop-p-init
loop-p-init c = listing_starts _ _

pub bounds-report-items : goal.bounds-report-items
bounds-report-items c = listing_room c.loop-p.invariant c.in-Some.ensures.ahead c.requires

-- the item's number is small
pub overflow_add-items : goal.overflow_add-items
overflow_add-items c = omega (arith, listing_small c.loop-p.invariant c.in-Some.ensures.ahead, rest_short c.args.walk)

pub loop-p-preserved : goal.loop-p-preserved
loop-p-preserved c = listing_goes_on c.loop-p.invariant c.in-Some.ensures.ahead c.requires

pub returns : goal.returns
returns c = listing_ends c.loop-p.invariant c.in_default.ensures.ahead
