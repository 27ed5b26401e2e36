-- `base_freelist::canonicalize_freelist` meets its contract: the stack ends with the highest link, the free slots below it are listed, and the
-- slots above it are popped. The check's shape gives every bound. Assumes nothing.
use native.Mathlib.Omega.{arith}
use lib.ListN.{length-set}
use lib.Seq.{length-take-le}
use mathlib.Core.Path.{sym}
use Rattle.definitions.proofs.Shaped.{shaped}
use Rattle.base_freelist.proofs.Rising.{highest_in_stack}
use Rattle.base_freelist.proofs.Canonicalized.{canonicalized}
use Rattle.base_freelist.proofs.canonicalize_freelist.Goals as goal

pub slice_bounds-highest_link-end-2 : goal.slice_bounds-highest_link-end-2
slice_bounds-highest_link-end-2 c = sym (length-take-le _ _ (omega (arith, shaped _ _ c.requires)))

pub bounds-arena-0-2 : goal.bounds-arena-0-2
bounds-arena-0-2 c = simp length-set (omega (arith, shaped _ _ c.requires))

pub returns-clause-canonicalized : goal.returns-clause-canonicalized
returns-clause-canonicalized c = rw c.pop_slots.ensures.popped (canonicalized _ _ _ _ (highest_in_stack _ _ _ (omega (arith, shaped _ _ c.requires)) c.highest_link-m.ensures) c.relist-root.ensures.0 c.relist-root.ensures.1)
