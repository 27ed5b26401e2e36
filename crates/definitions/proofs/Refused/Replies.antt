-- What every call promises, the reply `reply_to`: each part of it has a wrong reply that this part alone refuses. And the slots of a drain's report, computed.
use Prim.Native.Nat.{ℕ}
use mathlib.Core.Path.{◌≡◌, refl, ap}
use mathlib.Core.List.{[], ◌∷◌}
use native.Mathlib.Omega.{arith}
use lib.ListN.{get_or}
use Rattle.definitions.specs.Columns.{at, first_or, last_or, slots_from, keep}
use Rattle.definitions.specs.Arena.{Arena, arena, allocated, link_slots, free_slots}
use Rattle.definitions.specs.Check.{misshapen, freelist_walk, names_back, neighbours_fine, all_fine, counts_of, verdict, broken_slots, side_at, broken_slot, broken_side}
use Rattle.definitions.specs.Reply.{Reply, reply}
use Rattle.definitions.specs.Walk.{onward, step, walk_step}
use Rattle.definitions.specs.Report.{item_slots}
use Rattle.definitions.specs.Calls.{Check, WalkStep, accepted, reply_to}

-- a lone link, and a link closed alone
abbrev lone : Arena
lone = arena (0 ∷ []) (0 ∷ []) (5 ∷ []) (7 ∷ []) (1 ∷ 1 ∷ 0 ∷ 5 ∷ [])

abbrev ring : Arena
ring = arena (1 ∷ []) (1 ∷ []) (5 ∷ []) (7 ∷ []) (1 ∷ 1 ∷ 0 ∷ 5 ∷ [])

-- two links, each with a next above the stack
abbrev two_broken : Arena
two_broken = arena (0 ∷ 0 ∷ []) (9 ∷ 9 ∷ []) (5 ∷ 5 ∷ []) (7 ∷ 8 ∷ []) (2 ∷ 2 ∷ 0 ∷ 5 ∷ [])

-- ---- a reply to the check, or to a step, with one part wrong; the limits are 5 slots and generation 9

pub reply_to_number_refused : reply 1 [] lone [] ≡ reply_to 5 9 Check lone [] → ⊥
unfolding at slots_from keep allocated link_slots free_slots misshapen freelist_walk names_back neighbours_fine all_fine counts_of verdict accepted reply_to
reply_to_number_refused e = omega (arith, ap (λ (s : Reply). s.number) e)

-- a step that answers a link although no advance is left
pub reply_to_fields_refused : reply 0 (1 ∷ 5 ∷ []) lone (1 ∷ 1 ∷ 0 ∷ 0 ∷ []) ≡ reply_to 5 9 WalkStep lone (1 ∷ 1 ∷ 0 ∷ 0 ∷ []) → ⊥
unfolding at slots_from keep allocated link_slots free_slots misshapen freelist_walk names_back neighbours_fine all_fine counts_of verdict onward step walk_step accepted reply_to
reply_to_fields_refused e = omega (arith, ap (λ (s : Reply). get_or s.fields 0 0) e)

pub reply_to_arena_refused : reply 0 [] ring [] ≡ reply_to 5 9 Check lone [] → ⊥
unfolding at slots_from keep allocated link_slots free_slots misshapen freelist_walk names_back neighbours_fine all_fine counts_of verdict accepted reply_to
reply_to_arena_refused e = omega (arith, ap (λ (s : Reply). get_or s.arena.next 0 0) e)

pub reply_to_back_refused : reply 0 [] lone (4 ∷ []) ≡ reply_to 5 9 Check lone (3 ∷ []) → ⊥
unfolding at slots_from keep allocated link_slots free_slots misshapen freelist_walk names_back neighbours_fine all_fine counts_of verdict accepted reply_to
reply_to_back_refused e = omega (arith, ap (λ (s : Reply). get_or s.back 0 0) e)

-- a slot or a side is named although nothing is refused
abbrev naming : ℕ → ℕ → ℕ → Arena → Reply
naming number broken side a = record { number = number; broken = broken; side = side; fields = []; arena = a; back = [] }

pub reply_to_broken_refused : naming 0 1 0 lone ≡ reply_to 5 9 Check lone [] → ⊥
unfolding at slots_from keep allocated link_slots free_slots misshapen freelist_walk names_back neighbours_fine all_fine counts_of verdict accepted reply_to
reply_to_broken_refused e = omega (arith, ap (λ (s : Reply). s.broken) e)

pub reply_to_side_refused : naming 0 0 2 lone ≡ reply_to 5 9 Check lone [] → ⊥
unfolding at slots_from keep allocated link_slots free_slots misshapen freelist_walk names_back neighbours_fine all_fine counts_of verdict accepted reply_to
reply_to_side_refused e = omega (arith, ap (λ (s : Reply). s.side) e)

-- with 11, any slot but the lowest, and any side but its own
pub reply_to_another_slot_refused : (s : ℕ) → (s ≡ 1 → ⊥) → naming 11 s 2 two_broken ≡ reply_to 5 9 Check two_broken [] → ⊥
unfolding at first_or last_or slots_from keep allocated link_slots free_slots misshapen freelist_walk names_back neighbours_fine all_fine counts_of verdict broken_slots side_at broken_slot broken_side accepted reply_to
reply_to_another_slot_refused s d e = d (ap (λ (r : Reply). r.broken) e)

pub reply_to_another_side_refused : (d : ℕ) → (d ≡ 2 → ⊥) → naming 11 1 d two_broken ≡ reply_to 5 9 Check two_broken [] → ⊥
unfolding at first_or slots_from keep allocated link_slots free_slots misshapen freelist_walk names_back neighbours_fine all_fine counts_of verdict broken_slots side_at broken_slot broken_side accepted reply_to
reply_to_another_side_refused d n e = n (ap (λ (r : Reply). r.side) e)

-- and every call hands on the check's slot and side, as a step does, whose state is as it was
pub reply_to_handed_on : reply_to 5 9 WalkStep two_broken (3 ∷ 4 ∷ 0 ∷ 7 ∷ []) ≡ record { number = 11; broken = 1; side = 2; fields = 0 ∷ 0 ∷ []; arena = two_broken; back = 3 ∷ 4 ∷ 0 ∷ 7 ∷ [] }
unfolding at first_or slots_from keep allocated link_slots free_slots misshapen freelist_walk names_back neighbours_fine all_fine counts_of verdict broken_slots side_at broken_slot broken_side onward step walk_step accepted reply_to
reply_to_handed_on = refl

-- ---- the slots of a report of two items

pub item_slots_computed : item_slots 2 (3 ∷ 5 ∷ 0 ∷ 1 ∷ 7 ∷ 1 ∷ 6 ∷ 0 ∷ 0 ∷ 8 ∷ 9 ∷ []) ≡ 3 ∷ 1 ∷ []
unfolding item_slots
item_slots_computed = refl
