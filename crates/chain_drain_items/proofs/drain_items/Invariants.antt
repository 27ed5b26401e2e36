-- `chain_drain_items::drain_items` meets its contract. The loop's invariant: what the drained items left, and draining the others from there, make the
-- whole; and an item that made the generation overflow is known by its number, counted from 1. Assumes nothing.
use Rattle.std.specs.Prelude.{◌<◌, IfSome}
use Rattle.definitions.specs.Arena.{capacity_limit, largest_generation}
use Rattle.lent.specs.Arenas.{held_in, SameBuffers}
use Rattle.chain_drain_items.proofs.Draining.{Draining}
use Rattle.chain_drain_items.proofs.drain_items.Given as goal

abbrev pub invariant-loop-item : goal.invariant-loop-item
invariant-loop-item l = Draining capacity_limit largest_generation (held_in l.initial.arena) l.initial.report l.items (held_in l.arena) l.report l.item l.overflowed × SameBuffers l.initial.arena l.arena × IfSome l.overflowed (λ i. 0 < i)
