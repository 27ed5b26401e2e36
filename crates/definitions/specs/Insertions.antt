-- Insertion in small arenas, as a table of the same form as the marked cases: each kind where it is done, each condition where it fails, the choice of the
-- slot, and the order of the refusals (REFERENCE, Insert).
use Rattle.std.specs.Prelude.{ℕ, ◌≡◌, refl, List, [], ◌∷◌, map}
use Rattle.definitions.specs.Columns.{at, put, first_or, last_or, slots_from, keep, written}
use Rattle.definitions.specs.Arena.{Arena, arena, allocated, link_slots, free_slots}
use Rattle.definitions.specs.Check.{misshapen, freelist_walk, names_back, neighbours_fine, all_fine, counts_of, verdict}
use Rattle.definitions.specs.Read.{Pointer, pointer, stale}
use Rattle.definitions.specs.Edit.{connect, break_prev, break_next, exchange_next, next_generation, overflows}
use Rattle.definitions.specs.Remove.{joined, vacated, removed, remove}
use Rattle.definitions.specs.Insert.{slot_of, is_there, kind_of, place_if, place_of, new_slot, is_full, root_after, header_after, inserted, insert_at, insert, insert_coded}
use Rattle.definitions.specs.Run.{apply, applied, answers_of, run}
use Rattle.definitions.specs.Calls.{Made, Insert, Remove, Run, Check, replies_to, arena_after, accepted, reply_to}
use Rattle.definitions.specs.Cases.{Row, computed, expected, with, plain, row}

-- an insertion of payload 70: no pointer matters, one does, or two do
abbrev alone : ℕ → Made
alone code = plain (Insert code (pointer 0 0) (pointer 0 0) 70)

abbrev to : ℕ → Pointer → Made
to code p = plain (Insert code p (pointer 0 0) 70)

abbrev among : ℕ → Pointer → Pointer → Made
among code p q = plain (Insert code p q 70)

-- what is answered: the pointer of the new link, or a refusal
abbrev at_two : List (List ℕ)
at_two = (0 ∷ 2 ∷ 6 ∷ []) ∷ []

abbrev refused : ℕ → List (List ℕ)
refused k = (k ∷ 0 ∷ 0 ∷ []) ∷ []

-- a lone link of generation 5 in the current generation 6, with a slot after the stack whose words do not matter; the same link closed alone
abbrev lone : Arena
lone = arena (0 ∷ 9 ∷ []) (0 ∷ 9 ∷ []) (5 ∷ 9 ∷ []) (11 ∷ 9 ∷ []) (1 ∷ 1 ∷ 0 ∷ 6 ∷ [])

abbrev ring : Arena
ring = arena (1 ∷ 9 ∷ []) (1 ∷ 9 ∷ []) (5 ∷ 9 ∷ []) (11 ∷ 9 ∷ []) (1 ∷ 1 ∷ 0 ∷ 6 ∷ [])

-- the lone link with the new link: behind it, before it, and as a closed pair; each fills its columns
abbrev behind : Arena
behind = arena (0 ∷ 1 ∷ []) (2 ∷ 0 ∷ []) (5 ∷ 6 ∷ []) (11 ∷ 70 ∷ []) (2 ∷ 2 ∷ 0 ∷ 6 ∷ [])

abbrev before : Arena
before = arena (2 ∷ 0 ∷ []) (0 ∷ 1 ∷ []) (5 ∷ 6 ∷ []) (11 ∷ 70 ∷ []) (2 ∷ 2 ∷ 0 ∷ 6 ∷ [])

abbrev pair : Arena
pair = arena (2 ∷ 1 ∷ []) (2 ∷ 1 ∷ []) (5 ∷ 6 ∷ []) (11 ∷ 70 ∷ []) (2 ∷ 2 ∷ 0 ∷ 6 ∷ [])

-- the open chain 1→3 with the free slot 2, which points at itself; and 1→2→3 with the new link in it
abbrev gapped : Arena
gapped = arena (0 ∷ 9 ∷ 1 ∷ []) (3 ∷ 2 ∷ 0 ∷ []) (5 ∷ 0 ∷ 5 ∷ []) (11 ∷ 9 ∷ 13 ∷ []) (3 ∷ 2 ∷ 2 ∷ 6 ∷ [])

abbrev filled : Arena
filled = arena (0 ∷ 1 ∷ 2 ∷ []) (2 ∷ 3 ∷ 0 ∷ []) (5 ∷ 6 ∷ 5 ∷ []) (11 ∷ 70 ∷ 13 ∷ []) (3 ∷ 3 ∷ 0 ∷ 6 ∷ [])

-- the lone links 1 and 3, and the free slots 2 and 4, of which 4 leads on to 2
abbrev apart : Arena
apart = arena (0 ∷ 9 ∷ 0 ∷ 9 ∷ []) (0 ∷ 2 ∷ 0 ∷ 2 ∷ []) (5 ∷ 0 ∷ 5 ∷ 0 ∷ []) (11 ∷ 9 ∷ 13 ∷ 9 ∷ []) (4 ∷ 2 ∷ 4 ∷ 6 ∷ [])

-- the open chain 1→3 with the free slot 2, and two slots after the stack
abbrev roomy : Arena
roomy = arena (0 ∷ 9 ∷ 1 ∷ 9 ∷ 9 ∷ []) (3 ∷ 2 ∷ 0 ∷ 9 ∷ 9 ∷ []) (5 ∷ 0 ∷ 5 ∷ 9 ∷ 9 ∷ []) (11 ∷ 9 ∷ 13 ∷ 9 ∷ 9 ∷ []) (3 ∷ 2 ∷ 2 ∷ 6 ∷ [])

-- the table
unfoldable pub rows : List Row
rows =
    -- each kind, by pointer and by slot, where a slot is taken after the stack; a kind by slot is given a wrong generation
    row lone (alone 6 ∷ []) at_two (arena (0 ∷ 0 ∷ []) (0 ∷ 0 ∷ []) (5 ∷ 6 ∷ []) (11 ∷ 70 ∷ []) (2 ∷ 2 ∷ 0 ∷ 6 ∷ [])) ∷
    row lone (alone 7 ∷ []) at_two (arena (0 ∷ 2 ∷ []) (0 ∷ 2 ∷ []) (5 ∷ 6 ∷ []) (11 ∷ 70 ∷ []) (2 ∷ 2 ∷ 0 ∷ 6 ∷ [])) ∷
    row lone (to 8 (pointer 1 5) ∷ []) at_two behind ∷
    row lone (to 9 (pointer 1 7) ∷ []) at_two behind ∷
    row lone (to 10 (pointer 1 5) ∷ []) at_two before ∷
    row lone (to 11 (pointer 1 7) ∷ []) at_two before ∷
    row lone (to 12 (pointer 1 5) ∷ []) at_two behind ∷
    row lone (to 13 (pointer 1 7) ∷ []) at_two behind ∷
    row lone (to 14 (pointer 1 5) ∷ []) at_two before ∷
    row lone (to 15 (pointer 1 7) ∷ []) at_two before ∷
    -- next to and prev to a link closed alone, between it and itself, and a bridge of a lone link to itself: a closed pair
    row ring (to 12 (pointer 1 5) ∷ []) at_two pair ∷
    row ring (to 15 (pointer 1 7) ∷ []) at_two pair ∷
    row ring (among 16 (pointer 1 5) (pointer 1 5) ∷ []) at_two pair ∷
    row ring (among 17 (pointer 1 7) (pointer 1 7) ∷ []) at_two pair ∷
    row lone (among 18 (pointer 1 5) (pointer 1 5) ∷ []) at_two pair ∷
    row lone (among 19 (pointer 1 7) (pointer 1 7) ∷ []) at_two pair ∷
    -- inside a chain: three ways to name the place. The root is taken, and as it pointed at itself there is none afterwards
    row gapped (to 12 (pointer 1 5) ∷ []) at_two filled ∷
    row gapped (to 15 (pointer 3 7) ∷ []) at_two filled ∷
    row gapped (among 16 (pointer 1 5) (pointer 3 5) ∷ []) at_two filled ∷
    -- two lone links are joined around the root, which leads on to the next free slot
    row apart (among 18 (pointer 3 5) (pointer 1 5) ∷ []) ((0 ∷ 4 ∷ 6 ∷ []) ∷ []) (arena (4 ∷ 9 ∷ 0 ∷ 3 ∷ []) (0 ∷ 2 ∷ 4 ∷ 1 ∷ []) (5 ∷ 0 ∷ 5 ∷ 6 ∷ []) (11 ∷ 9 ∷ 13 ∷ 70 ∷ []) (4 ∷ 3 ∷ 2 ∷ 6 ∷ [])) ∷
    -- the root is taken although there is room after the stack, and then one slot of that room, whose other slot is not written
    row roomy (to 12 (pointer 1 5) ∷ alone 6 ∷ []) (((0 ∷ 2 ∷ 6 ∷ []) ∷ (0 ∷ 4 ∷ 6 ∷ []) ∷ [])) (arena (0 ∷ 1 ∷ 2 ∷ 0 ∷ 9 ∷ []) (2 ∷ 3 ∷ 0 ∷ 0 ∷ 9 ∷ []) (5 ∷ 6 ∷ 5 ∷ 6 ∷ 9 ∷ []) (11 ∷ 70 ∷ 13 ∷ 70 ∷ 9 ∷ []) (4 ∷ 4 ∷ 0 ∷ 6 ∷ [])) ∷
    -- 17: a pointer of another generation, slot 0, a slot above the stack, a free slot
    row gapped (to 12 (pointer 1 6) ∷ []) (refused 17) gapped ∷
    row gapped (to 14 (pointer 0 0) ∷ []) (refused 17) gapped ∷
    row gapped (to 15 (pointer 0 5) ∷ []) (refused 17) gapped ∷
    row lone (to 13 (pointer 2 9) ∷ []) (refused 17) lone ∷
    row lone (to 14 (pointer 2 9) ∷ []) (refused 17) lone ∷
    row gapped (to 13 (pointer 2 0) ∷ []) (refused 17) gapped ∷
    -- 17: an end that has a next, a start that has a prev, an interlink the wrong way round, a bridge from a link with a next, and to one with a prev
    row gapped (to 9 (pointer 1 5) ∷ []) (refused 17) gapped ∷
    row gapped (to 10 (pointer 3 5) ∷ []) (refused 17) gapped ∷
    row gapped (among 16 (pointer 3 5) (pointer 1 5) ∷ []) (refused 17) gapped ∷
    row gapped (among 16 (pointer 1 5) (pointer 3 6) ∷ []) (refused 17) gapped ∷
    row lone (among 17 (pointer 1 5) (pointer 0 5) ∷ []) (refused 17) lone ∷
    row gapped (among 18 (pointer 1 5) (pointer 1 5) ∷ []) (refused 17) gapped ∷
    row gapped (among 19 (pointer 3 5) (pointer 3 5) ∷ []) (refused 17) gapped ∷
    -- 16 for what is no kind; 17 comes before 18, and 18 where no slot is free and the stack fills the columns, which may have no slot at all
    row lone (to 5 (pointer 1 5) ∷ alone 20 ∷ []) ((16 ∷ 0 ∷ 0 ∷ []) ∷ (16 ∷ 0 ∷ 0 ∷ []) ∷ []) lone ∷
    row pair (to 8 (pointer 1 5) ∷ []) (refused 17) pair ∷
    row pair (to 12 (pointer 1 5) ∷ []) (refused 18) pair ∷
    row pair (alone 7 ∷ []) (refused 18) pair ∷
    row (arena [] [] [] [] (0 ∷ 0 ∷ 0 ∷ 6 ∷ [])) (alone 6 ∷ []) (refused 18) (arena [] [] [] [] (0 ∷ 0 ∷ 0 ∷ 6 ∷ [])) ∷
    -- where a slot is free there is room although the stack fills the columns; and what was freed last is taken first
    row filled (plain (Remove (pointer 1 5)) ∷ plain (Remove (pointer 2 6)) ∷ to 10 (pointer 3 5) ∷ []) ((0 ∷ 0 ∷ 2 ∷ 11 ∷ []) ∷ (0 ∷ 0 ∷ 3 ∷ 70 ∷ []) ∷ (0 ∷ 2 ∷ 8 ∷ []) ∷ []) (arena (0 ∷ 0 ∷ 2 ∷ []) (1 ∷ 3 ∷ 0 ∷ []) (0 ∷ 8 ∷ 5 ∷ []) (0 ∷ 70 ∷ 13 ∷ []) (3 ∷ 2 ∷ 1 ∷ 8 ∷ [])) ∷
    -- at the largest generation nothing overflows
    row (arena (0 ∷ []) (0 ∷ []) (0 ∷ []) (0 ∷ []) (0 ∷ 0 ∷ 0 ∷ 4294967295 ∷ [])) (alone 6 ∷ plain Check ∷ []) ((0 ∷ 1 ∷ 4294967295 ∷ []) ∷ (0 ∷ []) ∷ []) (arena (0 ∷ []) (0 ∷ []) (4294967295 ∷ []) (70 ∷ []) (1 ∷ 1 ∷ 0 ∷ 4294967295 ∷ [])) ∷
    -- in a run: an insertion, 17 for a slot over the capacity, and 18
    row lone (with (Run (8 ∷ 1 ∷ 5 ∷ 0 ∷ 0 ∷ 70 ∷ 13 ∷ 70000 ∷ 0 ∷ 0 ∷ 0 ∷ 71 ∷ 6 ∷ 0 ∷ 0 ∷ 0 ∷ 0 ∷ 72 ∷ [])) (9 ∷ 9 ∷ 9 ∷ 9 ∷ []) ∷ []) ((0 ∷ 0 ∷ 17 ∷ 18 ∷ 9 ∷ []) ∷ []) behind ∷
    -- in a run: a bridge by pointers, and then one between the link that it made and its second one, by slots
    row apart (with (Run (18 ∷ 3 ∷ 5 ∷ 1 ∷ 5 ∷ 70 ∷ 17 ∷ 4 ∷ 0 ∷ 1 ∷ 0 ∷ 71 ∷ [])) (9 ∷ 9 ∷ []) ∷ []) ((0 ∷ 0 ∷ 0 ∷ []) ∷ []) (arena (2 ∷ 4 ∷ 0 ∷ 3 ∷ []) (0 ∷ 1 ∷ 4 ∷ 2 ∷ []) (5 ∷ 6 ∷ 5 ∷ 6 ∷ []) (11 ∷ 71 ∷ 13 ∷ 70 ∷ []) (4 ∷ 4 ∷ 0 ∷ 6 ∷ [])) ∷
    []

pub insertions_hold : map computed rows ≡ map expected rows
unfolding rows at put first_or last_or slots_from keep written allocated link_slots free_slots misshapen freelist_walk names_back neighbours_fine all_fine counts_of verdict stale connect break_prev break_next exchange_next next_generation overflows joined vacated removed remove slot_of is_there kind_of place_if place_of new_slot is_full root_after header_after inserted insert_at insert insert_coded apply applied answers_of run accepted reply_to replies_to arena_after
insertions_hold = refl
