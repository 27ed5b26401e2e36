-- `compress_canonical::mark_links` meets its contract. The loop's invariant: the slots passed are marked (Marks). Assumes nothing.
use Rattle.canonical_layout.specs.Held.{Marked}
use Rattle.compress_canonical.proofs.mark_links.Given as goal

abbrev pub invariant-loop-s : goal.invariant-loop-s
invariant-loop-s l = Marked l.generation l.s l.where_from
