-- Where a pointer that is not stale points in a well formed arena, and what stands around it. Assumes nothing.
use Prim.Native.Nat.{ℕ, ◌≤◌, ◌<◌}
use mathlib.Core.Bool.{false}
use mathlib.Core.List.{List}
use mathlib.Core.Logic.{◌≢◌}
use mathlib.Core.Path.{◌≡◌}
use native.Mathlib.Nat.{pos_of_ne-zero}
use lib.ListN.{length}
use Rattle.definitions.specs.Arena.{Arena, capacity_limit}
use Rattle.definitions.specs.Check.{WellFormed}
use Rattle.definitions.specs.Columns.{at}
use Rattle.definitions.specs.Read.{Pointer, stale}
use Rattle.base_slots.proofs.Removable.{removable}
use Rattle.base_slots.specs.Removal.{Joinable}
use Rattle.chain_traits.proofs.Fresh.{fresh_link}

-- its slot stands in both link columns, and so does each neighbour that it has
pub around : {a : Arena} (p : Pointer) → WellFormed capacity_limit a → stale a p ≡ false → Joinable a.prev a.next p.slot
around {a} p ok fresh = (removable a p.slot ok (fresh_link a p fresh)).joinable

-- a next k of slot s that is there stands in the prev column
pub next_stands : {ps ns : List ℕ} {s k : ℕ} → Joinable ps ns s → k ≡ at ns s → k ≢ 0 → (0 < k) × (k ≤ length ps)
next_stands here e some = (pos_of_ne-zero some, rw e here.after)
