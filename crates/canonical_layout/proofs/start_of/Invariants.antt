-- `canonical_layout::start_of` meets its contract. The loop's invariant: the definition's walk back from slot s, with as many steps left, ends where the whole
-- walk does (Search). Assumes nothing.
use Rattle.canonical_layout.proofs.Search.{Back}
use Rattle.canonical_layout.proofs.start_of.Given as goal

abbrev pub invariant-loop-step : goal.invariant-loop-step
invariant-loop-step l = Back l.prev l.o.0 l.s.0 l._step
