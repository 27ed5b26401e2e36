-- Laws of stale pointers, and of links that are named. Assumes nothing.
use mathlib.Core.Path.{◌≡◌}
use mathlib.Core.Bool.{true, false}
use borrow.Author.Tests.{eqb-false, ltb-false, not-true}
use Rattle.definitions.specs.Arena.{Arena, is_link}
use Rattle.definitions.specs.Read.{Pointer, stale}
use Rattle.definitions.specs.Insert.{Named, by_pointer, by_slot, slot_of, is_there}
use Rattle.definitions.proofs.Tests.{neither_first, neither_second}
use Rattle.definitions.proofs.Slots.{allocated_yes}

-- a pointer that is not stale points to a link
pub fresh_link : (a : Arena) (p : Pointer) → stale a p ≡ false → is_link a p.slot ≡ true
unfolding stale
fresh_link a p e = search (allocated_yes, ltb-false, eqb-false, neither_first, neither_second)

-- and what an insertion names and finds is a link
pub there_link : (a : Arena) (p : Named) → is_there a p ≡ true → is_link a (slot_of p) ≡ true
unfolding is_there slot_of
there_link a (by_pointer p) e = fresh_link a p (not-true _ e)
there_link a (by_slot s) e = e
