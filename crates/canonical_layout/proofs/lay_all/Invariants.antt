-- `canonical_layout::lay_all` meets its contract. The loop's invariant: for whatever arena is being laid out, the definition is between two chains at the
-- state that the columns hold, and no link waits in the slots passed (ChainsInPlace). The measure is the number of slots that are left. Assumes nothing.
use Prim.Native.Nat.{◌-◌, ◌≤◌}
use lib.ListN.{length}
use Rattle.canonical_exchange.specs.Layout.{columns_of, SameColumns}
use Rattle.canonical_layout.proofs.ChainsInPlace.{LayingOut}
use Rattle.canonical_layout.proofs.lay_all.Given as goal

abbrev pub invariant-loop-found : goal.invariant-loop-found
invariant-loop-found l = record {
  laying : LayingOut (columns_of l.initial.layout) (columns_of l.layout) l.laid l.passed;
  within : l.passed ≤ length l.layout.where_from.now;
  lent : SameColumns l.initial.layout l.layout;
}

abbrev pub decreases-loop-found : goal.decreases-loop-found
decreases-loop-found l = length l.initial.layout.where_from.now - l.laid
