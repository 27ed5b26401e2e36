-- Both compressions computed at the largest generation, with the port's limits: without reset they are done and answer 100. And demand 3 is not met
-- by a compression that moves nothing. Assumes nothing.
use Prim.Native.Nat.{ℕ}
use mathlib.Core.Path.{◌≡◌, refl}
use mathlib.Core.Bool.{true, false}
use mathlib.Core.List.{[], ◌∷◌, map}
use native.Mathlib.Omega.{arith}
use Rattle.definitions.specs.Columns.{at, put, first_or, last_or, slots_from, keep, written, settled, Linked}
use Rattle.definitions.specs.Arena.{Arena, arena, capacity_limit, largest_generation, allocated, link_slots, free_slots}
use Rattle.definitions.specs.Reply.{reply}
use Rattle.definitions.specs.Check.{misshapen, freelist_walk, names_back, neighbours_fine, all_fine, counts_of, verdict}
use Rattle.definitions.specs.Edit.{next_generation, overflows}
use Rattle.statements.specs.Chains.{IsChain, Listing, nth, extended, cut, marked, pieces, replaced}
use Rattle.definitions.specs.Compress.{raises, compress_generation, compress_number, place, relocate, moves_of, compress_with, exchanged, exchange_words, exchange_links, exchange_slots, put_at_i, lowest_from, start_of, lay_chain, lay_chains, laid_out, canonical_arena, compress_canonical}
use Rattle.definitions.specs.Calls.{CompressWith, CompressCanonical, accepted, reply_to}

-- slot 1 is free, 2 and 4 are an open chain, 3 is a closed one, in a stack of 4 of capacity 5, at the largest generation
abbrev at_the_largest : Arena
at_the_largest = arena (0 ∷ 0 ∷ 3 ∷ 2 ∷ 7 ∷ []) (1 ∷ 4 ∷ 3 ∷ 0 ∷ 7 ∷ []) (0 ∷ 5 ∷ 5 ∷ 5 ∷ 7 ∷ []) (8 ∷ 12 ∷ 13 ∷ 14 ∷ 7 ∷ []) (4 ∷ 3 ∷ 1 ∷ 4294967295 ∷ [])

pub canonical_overflows : reply_to capacity_limit largest_generation (CompressCanonical false) at_the_largest (9 ∷ 9 ∷ 9 ∷ 9 ∷ 9 ∷ []) ≡
    reply 100 []
    (arena (0 ∷ 1 ∷ 3 ∷ 0 ∷ 7 ∷ []) (2 ∷ 0 ∷ 3 ∷ 0 ∷ 7 ∷ []) (2 ∷ 2 ∷ 2 ∷ 0 ∷ 7 ∷ []) (12 ∷ 14 ∷ 13 ∷ 0 ∷ 7 ∷ []) (3 ∷ 3 ∷ 0 ∷ 2 ∷ []))
    (2 ∷ 4 ∷ 3 ∷ 0 ∷ 9 ∷ [])
unfolding at put first_or slots_from keep settled allocated link_slots free_slots misshapen freelist_walk names_back neighbours_fine all_fine counts_of verdict next_generation overflows raises compress_generation compress_number exchanged exchange_words exchange_links exchange_slots put_at_i lowest_from start_of lay_chain lay_chains laid_out canonical_arena compress_canonical accepted reply_to
canonical_overflows = refl

-- with reset the generation is 2 too, and that is no overflow
pub canonical_resets : reply_to capacity_limit largest_generation (CompressCanonical true) at_the_largest (9 ∷ 9 ∷ 9 ∷ 9 ∷ 9 ∷ []) ≡
    reply 0 []
    (arena (0 ∷ 1 ∷ 3 ∷ 0 ∷ 7 ∷ []) (2 ∷ 0 ∷ 3 ∷ 0 ∷ 7 ∷ []) (2 ∷ 2 ∷ 2 ∷ 0 ∷ 7 ∷ []) (12 ∷ 14 ∷ 13 ∷ 0 ∷ 7 ∷ []) (3 ∷ 3 ∷ 0 ∷ 2 ∷ []))
    (2 ∷ 4 ∷ 3 ∷ 0 ∷ 9 ∷ [])
unfolding at put first_or slots_from keep settled allocated link_slots free_slots misshapen freelist_walk names_back neighbours_fine all_fine counts_of verdict next_generation overflows raises compress_generation compress_number exchanged exchange_words exchange_links exchange_slots put_at_i lowest_from start_of lay_chain lay_chains laid_out canonical_arena compress_canonical accepted reply_to
canonical_resets = refl

pub order_preserving_overflows : reply_to capacity_limit largest_generation (CompressWith false) at_the_largest (9 ∷ 9 ∷ 9 ∷ 9 ∷ 9 ∷ 9 ∷ 9 ∷ 9 ∷ 9 ∷ 9 ∷ 9 ∷ 9 ∷ 9 ∷ []) ≡
    reply 100 []
    (arena (0 ∷ 2 ∷ 1 ∷ 0 ∷ 7 ∷ []) (3 ∷ 2 ∷ 0 ∷ 0 ∷ 7 ∷ []) (2 ∷ 2 ∷ 2 ∷ 0 ∷ 7 ∷ []) (12 ∷ 13 ∷ 14 ∷ 0 ∷ 7 ∷ []) (3 ∷ 3 ∷ 0 ∷ 2 ∷ []))
    (2 ∷ 5 ∷ 1 ∷ 2 ∷ 3 ∷ 5 ∷ 2 ∷ 2 ∷ 4 ∷ 5 ∷ 3 ∷ 2 ∷ 9 ∷ [])
unfolding at put slots_from keep written settled allocated link_slots free_slots misshapen freelist_walk names_back neighbours_fine all_fine counts_of verdict next_generation overflows raises compress_generation compress_number place relocate moves_of compress_with accepted reply_to
order_preserving_overflows = refl

-- K11, whose compression is a row of the table of marked cases: a chain of slots 1 and 5, the others lone
abbrev k11 : Arena
k11 = arena (0 ∷ 0 ∷ 0 ∷ 0 ∷ 1 ∷ []) (5 ∷ 0 ∷ 0 ∷ 0 ∷ 0 ∷ []) (5 ∷ 5 ∷ 5 ∷ 5 ∷ 5 ∷ []) (11 ∷ 12 ∷ 13 ∷ 14 ∷ 15 ∷ []) (5 ∷ 5 ∷ 0 ∷ 5 ∷ [])

-- K11 left as it is, with where-from 1 to 5, is refused by `one.chains`: its first piece, slot 1 alone, came from no chain
pub moving_nothing_is_refused : Listing k11 (map (replaced (at (1 ∷ 2 ∷ 3 ∷ 4 ∷ 5 ∷ []))) (pieces (at k11.next) 5)) → ⊥
unfolding pieces cut extended marked replaced nth at slots_from first_or last_or IsChain Linked
moving_nothing_is_refused l = let z : ◌≡◌ {A = ℕ} 5 0 = (l.are 0 (omega arith)).linked.0 in omega arith
