-- `canonical_layout::lay_chain` meets its contract. The loop's invariant: for whatever arena is being laid out, the definition is on its way at the state that
-- the columns hold (ChainInPlace). The measure is the number of slots that are left. Assumes nothing.
use Prim.Native.Nat.{◌-◌}
use lib.ListN.{length}
use Rattle.canonical_exchange.specs.Layout.{columns_of, SameColumns}
use Rattle.canonical_layout.proofs.ChainInPlace.{Going}
use Rattle.canonical_layout.proofs.lay_chain.Given as goal

abbrev pub invariant-loop-first : goal.invariant-loop-first
invariant-loop-first l = record { going : Going (columns_of l.initial.layout) l.laid l.initial.t.0 (columns_of l.layout) l.count l.t.0; lent : SameColumns l.initial.layout l.layout }

abbrev pub decreases-loop-first : goal.decreases-loop-first
decreases-loop-first l = length l.initial.layout.where_from.now - l.count
