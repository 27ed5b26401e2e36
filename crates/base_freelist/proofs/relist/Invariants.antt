-- `base_freelist::relist` meets its contract. The loop's invariant: the free slots above slot i are listed in rising order, and the root is the
-- first of them, 0 where there is none. Assumes nothing.
use Rattle.base_freelist.proofs.Threaded.{Relisting}
use Rattle.base_freelist.proofs.relist.Given as goal

abbrev pub invariant-loop-i : goal.invariant-loop-i
invariant-loop-i l = Relisting l.generation l.initial.next l.m l.i l.next l.root.0
