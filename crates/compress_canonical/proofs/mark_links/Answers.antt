use native.Mathlib.Omega.{arith}
use Rattle.compress_canonical.proofs.Marks.{marking_starts, marking_goes_on}
use Rattle.compress_canonical.proofs.mark_links.Goals as goal

pub loop-s-init : goal.loop-s-init
loop-s-init c = marking_starts _ _

pub loop-s-preserved : goal.loop-s-preserved
loop-s-preserved c = marking_goes_on c.loop-s.invariant (omega arith) c.occupant.ensures
