-- A wider capacity limit changes nothing for arenas that were within the narrower one: `below_65536` for every call, `calls_below_65536` for any list of calls, `small_below_65536`
-- for the call that gives small arenas. The limit is read by the first rule of the check alone, as a bound of the capacity, and no call changes the capacity. Above the narrower limit
-- `one_above_the_limit` says that every call is refused with 1, and `one_slot_more` that from there on the wider limit passes arenas; `one_slot_more_at_65535`
-- is the case of the two limits of `below_65536`. Assumes nothing.
use Prim.Native.Nat.{ℕ, ◌+◌, ◌≤◌, ◌<◌}
use mathlib.Core.Path.{◌≡◌, refl}
use mathlib.Core.List.{List, [], ◌∷◌}
use native.Mathlib.Omega.{arith}
use lib.ListN.{replicate, length-replicate}
use borrow.Author.Tests.{le-ltb, lt-ltb, eq-eqb}
use Rattle.definitions.specs.Arena.{Arena, arena, capacity, capacity_limit}
use Rattle.definitions.specs.Check.{misshapen, verdict, broken_slot, broken_side}
use Rattle.definitions.specs.Calls.{Call, Check, accepted, reply_to, Made, replies_to, arena_after}
use Rattle.definitions.proofs.Tests.{tests}
use Rattle.insertion.proofs.Empty.{empty_passes}
use Rattle.all_small.specs.SmallArena.{small_arena}
use Rattle.every_call.proofs.CapacityStays.{capacity_stays}

-- ---- two limits, and an arena within both

module _ (limit wider : ℕ) (a : Arena) (within : capacity a ≤ limit) (wide : limit ≤ wider) where
  same_shape : misshapen limit a ≡ misshapen wider a
  unfolding misshapen
  same_shape = rw (le-ltb limit (capacity a) within, le-ltb wider (capacity a) (omega arith)) refl

  same_verdict : verdict limit a ≡ verdict wider a
  unfolding verdict
  same_verdict = rw same_shape refl

  same_slot : broken_slot limit a ≡ broken_slot wider a
  unfolding broken_slot
  same_slot = rw same_verdict refl

  same_side : broken_side limit a ≡ broken_side wider a
  unfolding broken_side
  same_side = rw (same_verdict, same_slot) refl

  -- every call
  pub same_within : (top : ℕ) (c : Call) (l : List ℕ) → reply_to limit top c a l ≡ reply_to wider top c a l
  unfolding reply_to
  same_within top c l = rw (same_verdict, same_slot, same_side) refl

  small_within : (index : ℕ) → small_arena limit a index ≡ small_arena wider a index
  unfolding small_arena
  small_within index = rw same_shape refl

-- any list of calls, made one after the other: their replies and the arena in the end
pub calls_within : (limit wider top : ℕ) → limit ≤ wider → (ms : List Made) (a : Arena) → capacity a ≤ limit →
    (replies_to limit top ms a ≡ replies_to wider top ms a) × (arena_after limit top ms a ≡ arena_after wider top ms a)
unfolding replies_to arena_after
calls_within limit wider top wide [] a within = (refl, refl)
calls_within limit wider top wide (m ∷ ms) a within =
    let same = same_within limit wider a within wide top m.call m.hands in
    let rest = calls_within limit wider top wide ms (reply_to limit top m.call a m.hands).arena (omega (arith, capacity_stays limit top m.call a m.hands)) in
    (rw (← same, rest.0) refl, rw (← same) rest.1)

-- above a limit every call is refused with 1
pub one_above_the_limit : (limit top : ℕ) (c : Call) (a : Arena) (l : List ℕ) → limit < capacity a → (reply_to limit top c a l).number ≡ 1
unfolding reply_to verdict misshapen
one_above_the_limit limit top c a l over = rw (lt-ltb limit (capacity a) over) (search tests depth 20)

-- and where the capacity is one more than the narrower limit there are arenas that the two limits part: the empty one of so many slots
pub one_slot_more : (limit wider top : ℕ) → limit < wider → (a : Arena) × (capacity a ≡ limit + 1) × ((reply_to limit top Check a []).number ≡ 1) × ((reply_to wider top Check a []).number ≡ 0)
unfolding reply_to accepted
one_slot_more limit wider top wide =
    let column = replicate {A = ℕ} (limit + 1) 0 in
    let long = length-replicate {A = ℕ} (limit + 1) 0 in
    let a = arena column column column column (0 ∷ 0 ∷ 0 ∷ 2 ∷ []) in
    let passes = empty_passes wider (limit + 1) 2 column column column column long long long long (omega arith) (omega arith) in
    (a, long, one_above_the_limit limit top Check a [] (omega (arith, long)), rw (eq-eqb (verdict wider a) 0 passes) refl)

-- ---- the limit of 65,535 slots within that of the port

pub below_65536 : (top : ℕ) (c : Call) (a : Arena) (l : List ℕ) → capacity a ≤ 65535 → reply_to 65535 top c a l ≡ reply_to capacity_limit top c a l
below_65536 top c a l within = same_within 65535 capacity_limit a within (omega arith) top c l

pub calls_below_65536 : (top : ℕ) (ms : List Made) (a : Arena) → capacity a ≤ 65535 →
    (replies_to 65535 top ms a ≡ replies_to capacity_limit top ms a) × (arena_after 65535 top ms a ≡ arena_after capacity_limit top ms a)
calls_below_65536 top ms a within = calls_within 65535 capacity_limit top (omega arith) ms a within

pub small_below_65536 : (a : Arena) (index : ℕ) → capacity a ≤ 65535 → small_arena 65535 a index ≡ small_arena capacity_limit a index
small_below_65536 a index within = small_within 65535 capacity_limit a within (omega arith) index

-- and the capacity may not be larger there: of the empty arena of 65,536 slots the two limits answer differently
pub one_slot_more_at_65535 : (top : ℕ) → (a : Arena) × (capacity a ≡ 65536) × ((reply_to 65535 top Check a []).number ≡ 1) × ((reply_to capacity_limit top Check a []).number ≡ 0)
one_slot_more_at_65535 top = one_slot_more 65535 capacity_limit top (omega arith)
