-- The marked cases K1 to K12 as one table over the definitions: an arena, a list of calls, their answers and the arena left
-- (REFERENCE, Marked cases).
use Rattle.std.specs.Prelude.{ℕ, ◌≡◌, refl, true, false, List, [], ◌∷◌, ◌++◌, map}
use Rattle.definitions.specs.Arena.{Arena, arena, capacity_limit, largest_generation, allocated, link_slots, free_slots}
use Rattle.definitions.specs.Reply.{Reply}
use Rattle.definitions.specs.Read.{pointer, stale, get_link, get_link_no_gen, neighbors, are_neighbors}
use Rattle.definitions.specs.Walk.{walk_start, onward, step, walk_step, walked}
use Rattle.definitions.specs.Calls.{Call, Made, GetLink, GetLinkNoGen, AreNeighbors, BreakPrev, BreakNext, SetGeneration, IncGeneration, CanonicalizeFreelist, Run, CompressWith, Check, WalkStart, WalkStep, DueCount, DueEvents, Connect, ExchangeNext, Remove, Drain, CompressCanonical, replies_to, arena_after, accepted, reply_to}
use Rattle.definitions.specs.Columns.{at, put, first_or, last_or, slots_from, keep, written, settled}
use Rattle.definitions.specs.Check.{misshapen, freelist_walk, names_back, neighbours_fine, all_fine, counts_of, verdict}
use Rattle.definitions.specs.Edit.{connect, break_prev, break_next, exchange_next, next_generation, overflows, set_generation, inc_generation}
use Rattle.definitions.specs.Remove.{joined, vacated, removed, remove, removed_all, drain_items, overflow_item, drain, threaded, canonicalize_freelist}
use Rattle.definitions.specs.Insert.{kind_of, insert_coded}
use Rattle.definitions.specs.Run.{apply, applied, answers_of, run}
use Rattle.definitions.specs.Clock.{is_window, due, due_slots, due_count, due_events}
use Rattle.definitions.specs.Compress.{raises, compress_generation, compress_number, place, relocate, moves_of, compress_with, exchanged, exchange_words, exchange_links, exchange_slots, put_at_i, lowest_from, start_of, lay_chain, lay_chains, laid_out, canonical_arena, compress_canonical}

pub record Row : Type 0 where
  pub start : Arena
  pub calls : List Made
  pub answers : List (List ℕ)
  pub left : Arena

pub record Answer : Type 0 where
  pub answers : List (List ℕ)
  pub left : Arena

-- number, further fields, and what is handed back
abbrev pub words : Reply → List ℕ
words r = r.number ∷ r.fields ++ r.back

-- what the definitions answer and leave, with the port's limits
abbrev pub computed : Row → Answer
computed row = record { answers = map words (replies_to capacity_limit largest_generation row.calls row.start); left = arena_after capacity_limit largest_generation row.calls row.start }

abbrev pub expected : Row → Answer
expected row = record { answers = row.answers; left = row.left }

-- a call that hands in a slice or a walk's state, and one that hands in nothing
abbrev pub with : Call → List ℕ → Made
with c l = record { call = c; hands = l }

abbrev pub plain : Call → Made
plain c = with c []

abbrev pub row : Arena → List Made → List (List ℕ) → Arena → Row
row start calls answers left = record { start = start; calls = calls; answers = answers; left = left }

-- three links in one open chain, and two links in a closed one; every generation is 5
abbrev three : Arena
three = arena (0 ∷ 1 ∷ 2 ∷ []) (2 ∷ 3 ∷ 0 ∷ []) (5 ∷ 5 ∷ 5 ∷ []) (11 ∷ 12 ∷ 13 ∷ []) (3 ∷ 3 ∷ 0 ∷ 5 ∷ [])

abbrev closed_pair : Arena
closed_pair = arena (2 ∷ 1 ∷ []) (2 ∷ 1 ∷ []) (5 ∷ 5 ∷ []) (11 ∷ 12 ∷ []) (2 ∷ 2 ∷ 0 ∷ 5 ∷ [])

-- five links in one open chain. Their payloads: the first dot of the frame, the last dot of line 0, the first dot of line 1, the last dot of the frame, and one past it
abbrev frame : Arena
frame = arena (0 ∷ 1 ∷ 2 ∷ 3 ∷ 4 ∷ []) (2 ∷ 3 ∷ 4 ∷ 5 ∷ 0 ∷ []) (5 ∷ 5 ∷ 5 ∷ 5 ∷ 5 ∷ []) (0 ∷ 340 ∷ 341 ∷ 89341 ∷ 89342 ∷ []) (5 ∷ 5 ∷ 0 ∷ 5 ∷ [])

-- the table
unfoldable pub rows : List Row
rows =
    -- K1 an arena without slots passes, and its canonical compression without reset keeps the generation
    row (arena [] [] [] [] (0 ∷ 0 ∷ 0 ∷ 5 ∷ [])) (plain Check ∷ with (CompressCanonical false) [] ∷ []) ((0 ∷ []) ∷ (0 ∷ []) ∷ []) (arena [] [] [] [] (0 ∷ 0 ∷ 0 ∷ 5 ∷ [])) ∷
    -- K2 a lone link connected to itself becomes a closed chain of one
    row (arena (0 ∷ []) (0 ∷ []) (5 ∷ []) (11 ∷ []) (1 ∷ 1 ∷ 0 ∷ 5 ∷ [])) (plain (Connect (pointer 1 5) (pointer 1 5)) ∷ []) ((0 ∷ []) ∷ []) (arena (1 ∷ []) (1 ∷ []) (5 ∷ []) (11 ∷ []) (1 ∷ 1 ∷ 0 ∷ 5 ∷ [])) ∷
    -- K3 the second link of a pair cannot be connected to itself: 13, since it has a prev
    row (arena (0 ∷ 1 ∷ []) (2 ∷ 0 ∷ []) (5 ∷ 5 ∷ []) (11 ∷ 12 ∷ []) (2 ∷ 2 ∷ 0 ∷ 5 ∷ [])) (plain (Connect (pointer 2 5) (pointer 2 5)) ∷ []) ((13 ∷ []) ∷ []) (arena (0 ∷ 1 ∷ []) (2 ∷ 0 ∷ []) (5 ∷ 5 ∷ []) (11 ∷ 12 ∷ []) (2 ∷ 2 ∷ 0 ∷ 5 ∷ [])) ∷
    -- K4 in a chain of three the nexts of 1 and 2 are exchanged: 3 now follows 1, and 2 is a closed chain of one
    row three (plain (ExchangeNext (pointer 1 5) (pointer 2 5)) ∷ []) ((0 ∷ []) ∷ []) (arena (0 ∷ 2 ∷ 1 ∷ []) (3 ∷ 2 ∷ 0 ∷ []) (5 ∷ 5 ∷ 5 ∷ []) (11 ∷ 12 ∷ 13 ∷ []) (3 ∷ 3 ∷ 0 ∷ 5 ∷ [])) ∷
    -- K5 in the same chain the next of 1 is exchanged with itself, and nothing changes
    row three (plain (ExchangeNext (pointer 1 5) (pointer 1 5)) ∷ []) ((0 ∷ []) ∷ []) three ∷
    -- K6 the third of three is removed: it is popped, two slots are left, and there is no root
    row three (plain (Remove (pointer 3 5)) ∷ []) ((0 ∷ 2 ∷ 0 ∷ 13 ∷ []) ∷ []) (arena (0 ∷ 1 ∷ 0 ∷ []) (2 ∷ 0 ∷ 0 ∷ []) (5 ∷ 5 ∷ 0 ∷ []) (11 ∷ 12 ∷ 0 ∷ []) (2 ∷ 2 ∷ 0 ∷ 6 ∷ [])) ∷
    -- K7 the first and then the second of three are removed: the root is 2, it leads on to 1, and 1 ends the freelist
    row three (plain (Remove (pointer 1 5)) ∷ plain (Remove (pointer 2 5)) ∷ []) ((0 ∷ 0 ∷ 2 ∷ 11 ∷ []) ∷ (0 ∷ 0 ∷ 3 ∷ 12 ∷ []) ∷ []) (arena (0 ∷ 0 ∷ 0 ∷ []) (1 ∷ 1 ∷ 0 ∷ []) (0 ∷ 0 ∷ 5 ∷ []) (0 ∷ 0 ∷ 13 ∷ []) (3 ∷ 1 ∷ 2 ∷ 7 ∷ [])) ∷
    -- K8 one link of a closed pair is removed: the other one becomes a closed chain of one
    row closed_pair (plain (Remove (pointer 1 5)) ∷ []) ((0 ∷ 2 ∷ 2 ∷ 11 ∷ []) ∷ []) (arena (0 ∷ 2 ∷ []) (1 ∷ 2 ∷ []) (0 ∷ 5 ∷ []) (0 ∷ 12 ∷ []) (2 ∷ 1 ∷ 1 ∷ 6 ∷ [])) ∷
    -- K9 a drain that begins in the middle of three. Each item has the neighbours that are left when its turn comes; slots 1 and 2 stay, free
    row three (with (Drain (pointer 2 5)) (9 ∷ 9 ∷ 9 ∷ 9 ∷ 9 ∷ 9 ∷ 9 ∷ 9 ∷ 9 ∷ 9 ∷ 9 ∷ 9 ∷ 9 ∷ 9 ∷ 9 ∷ 9 ∷ []) ∷ []) ((0 ∷ 3 ∷ 0 ∷ 2 ∷ 5 ∷ 1 ∷ 3 ∷ 12 ∷ 3 ∷ 5 ∷ 1 ∷ 0 ∷ 13 ∷ 1 ∷ 5 ∷ 0 ∷ 0 ∷ 11 ∷ 9 ∷ []) ∷ []) (arena (0 ∷ 0 ∷ 0 ∷ []) (2 ∷ 2 ∷ 0 ∷ []) (0 ∷ 0 ∷ 0 ∷ []) (0 ∷ 0 ∷ 0 ∷ []) (2 ∷ 0 ∷ 1 ∷ 8 ∷ [])) ∷
    -- K10 the walk round a closed pair answers each link once, then none
    row closed_pair (plain (WalkStart (pointer 2 5)) ∷ with WalkStep (2 ∷ 2 ∷ 0 ∷ 2 ∷ []) ∷ with WalkStep (2 ∷ 1 ∷ 0 ∷ 1 ∷ []) ∷ with WalkStep (2 ∷ 0 ∷ 0 ∷ 0 ∷ []) ∷ []) ((0 ∷ 2 ∷ 2 ∷ 0 ∷ 2 ∷ []) ∷ (0 ∷ 2 ∷ 5 ∷ 2 ∷ 1 ∷ 0 ∷ 1 ∷ []) ∷ (0 ∷ 1 ∷ 5 ∷ 2 ∷ 0 ∷ 0 ∷ 0 ∷ []) ∷ (0 ∷ 0 ∷ 0 ∷ 2 ∷ 0 ∷ 0 ∷ 0 ∷ []) ∷ []) closed_pair ∷
    -- K11 chain 1→5, the others lone: slots 1 to 5 came from 1, 5, 3, 4 and 2, so the chains are not in the order of their old lowest slots
    row (arena (0 ∷ 0 ∷ 0 ∷ 0 ∷ 1 ∷ []) (5 ∷ 0 ∷ 0 ∷ 0 ∷ 0 ∷ []) (5 ∷ 5 ∷ 5 ∷ 5 ∷ 5 ∷ []) (11 ∷ 12 ∷ 13 ∷ 14 ∷ 15 ∷ []) (5 ∷ 5 ∷ 0 ∷ 5 ∷ [])) (with (CompressCanonical false) (9 ∷ 9 ∷ 9 ∷ 9 ∷ 9 ∷ []) ∷ []) ((0 ∷ 1 ∷ 5 ∷ 3 ∷ 4 ∷ 2 ∷ []) ∷ []) (arena (0 ∷ 1 ∷ 0 ∷ 0 ∷ 0 ∷ []) (2 ∷ 0 ∷ 0 ∷ 0 ∷ 0 ∷ []) (6 ∷ 6 ∷ 6 ∷ 6 ∷ 6 ∷ []) (11 ∷ 15 ∷ 13 ∷ 14 ∷ 12 ∷ []) (5 ∷ 5 ∷ 0 ∷ 6 ∷ [])) ∷
    -- K12 a freelist of two slots that lead to each other has no end: 9
    row (arena (0 ∷ 0 ∷ []) (2 ∷ 1 ∷ []) (0 ∷ 0 ∷ []) (0 ∷ 0 ∷ []) (2 ∷ 0 ∷ 1 ∷ 5 ∷ [])) (plain Check ∷ []) ((9 ∷ []) ∷ []) (arena (0 ∷ 0 ∷ []) (2 ∷ 1 ∷ []) (0 ∷ 0 ∷ []) (0 ∷ 0 ∷ []) (2 ∷ 0 ∷ 1 ∷ 5 ∷ [])) ∷
    []

-- every row holds: what the definitions compute is what is expected
pub marked_cases : map computed rows ≡ map expected rows
unfolding rows at put first_or last_or slots_from keep written settled allocated link_slots free_slots misshapen freelist_walk names_back neighbours_fine all_fine counts_of verdict stale get_link get_link_no_gen neighbors are_neighbors walk_start onward step walk_step walked connect break_prev break_next exchange_next next_generation overflows set_generation inc_generation joined vacated removed remove removed_all drain_items overflow_item drain threaded canonicalize_freelist kind_of insert_coded apply applied answers_of run raises compress_generation compress_number place relocate moves_of compress_with exchanged exchange_words exchange_links exchange_slots put_at_i lowest_from start_of lay_chain lay_chains laid_out canonical_arena compress_canonical accepted reply_to replies_to arena_after
marked_cases = refl

-- Corners in the same form: the limits, the refusals of the calls, and what docs/DECISIONS.md has decided
unfoldable pub corners : List Row
corners =
    -- a removal at the largest generation overflows, and the work is done
    row (arena (0 ∷ []) (0 ∷ []) (5 ∷ []) (11 ∷ []) (1 ∷ 1 ∷ 0 ∷ 4294967295 ∷ [])) (plain (Remove (pointer 1 5)) ∷ []) ((100 ∷ 0 ∷ 0 ∷ 11 ∷ []) ∷ []) (arena (0 ∷ []) (0 ∷ []) (0 ∷ []) (0 ∷ []) (0 ∷ 0 ∷ 0 ∷ 2 ∷ [])) ∷
    -- inc_generation overflows too; set_generation refuses 1 and takes 2
    row (arena (0 ∷ []) (0 ∷ []) (5 ∷ []) (11 ∷ []) (1 ∷ 1 ∷ 0 ∷ 4294967295 ∷ [])) (plain IncGeneration ∷ plain (SetGeneration 1) ∷ plain (SetGeneration 2) ∷ []) ((100 ∷ []) ∷ (15 ∷ []) ∷ (0 ∷ []) ∷ []) (arena (0 ∷ []) (0 ∷ []) (5 ∷ []) (11 ∷ []) (1 ∷ 1 ∷ 0 ∷ 2 ∷ [])) ∷
    -- a link without a next, exchanged with itself: 13
    row three (plain (ExchangeNext (pointer 3 5) (pointer 3 5)) ∷ []) ((13 ∷ []) ∷ []) three ∷
    -- break prev, then next of what is left; then a lone link and a stale pointer are refused
    row three (plain (BreakPrev (pointer 2 5)) ∷ plain (BreakNext (pointer 2 5)) ∷ plain (BreakNext (pointer 2 5)) ∷ plain (BreakPrev (pointer 2 6)) ∷ []) ((0 ∷ []) ∷ (0 ∷ []) ∷ (13 ∷ []) ∷ (12 ∷ []) ∷ []) (arena (0 ∷ 0 ∷ 0 ∷ []) (0 ∷ 0 ∷ 0 ∷ []) (5 ∷ 5 ∷ 5 ∷ []) (11 ∷ 12 ∷ 13 ∷ []) (3 ∷ 3 ∷ 0 ∷ 5 ∷ [])) ∷
    -- reading the middle, the first and the last link of a chain, a stale pointer, and neighbours
    row three (plain (GetLink (pointer 2 5)) ∷ plain (GetLink (pointer 1 5)) ∷ plain (GetLinkNoGen (pointer 3 5)) ∷ plain (GetLink (pointer 4 5)) ∷ plain (AreNeighbors (pointer 1 5) (pointer 2 5)) ∷ plain (AreNeighbors (pointer 2 5) (pointer 1 5)) ∷ plain (AreNeighbors (pointer 1 5) (pointer 2 6)) ∷ []) ((0 ∷ 1 ∷ 5 ∷ 3 ∷ 5 ∷ 12 ∷ []) ∷ (0 ∷ 0 ∷ 0 ∷ 2 ∷ 5 ∷ 11 ∷ []) ∷ (0 ∷ 2 ∷ 0 ∷ 13 ∷ []) ∷ (12 ∷ 0 ∷ 0 ∷ 0 ∷ 0 ∷ 0 ∷ []) ∷ (0 ∷ 1 ∷ []) ∷ (0 ∷ 0 ∷ []) ∷ (0 ∷ 0 ∷ []) ∷ []) three ∷
    -- a walk from the middle turns at the end of the chain, and ends with its first link
    row three (plain (WalkStart (pointer 2 5)) ∷ with WalkStep (2 ∷ 2 ∷ 0 ∷ 3 ∷ []) ∷ with WalkStep (2 ∷ 3 ∷ 0 ∷ 2 ∷ []) ∷ with WalkStep (2 ∷ 1 ∷ 1 ∷ 1 ∷ []) ∷ with WalkStep (2 ∷ 0 ∷ 1 ∷ 0 ∷ []) ∷ []) ((0 ∷ 2 ∷ 2 ∷ 0 ∷ 3 ∷ []) ∷ (0 ∷ 2 ∷ 5 ∷ 2 ∷ 3 ∷ 0 ∷ 2 ∷ []) ∷ (0 ∷ 3 ∷ 5 ∷ 2 ∷ 1 ∷ 1 ∷ 1 ∷ []) ∷ (0 ∷ 1 ∷ 5 ∷ 2 ∷ 0 ∷ 1 ∷ 0 ∷ []) ∷ (0 ∷ 0 ∷ 0 ∷ 2 ∷ 0 ∷ 1 ∷ 0 ∷ []) ∷ []) three ∷
    -- a position above the stack: none, and the walk is over. With no advance left a step changes nothing
    row (arena (0 ∷ []) (0 ∷ []) (5 ∷ []) (11 ∷ []) (1 ∷ 1 ∷ 0 ∷ 5 ∷ [])) (with WalkStep (7 ∷ 70000 ∷ 3 ∷ 9 ∷ []) ∷ with WalkStep (1 ∷ 1 ∷ 0 ∷ 0 ∷ []) ∷ []) ((0 ∷ 0 ∷ 0 ∷ 7 ∷ 0 ∷ 3 ∷ 8 ∷ []) ∷ (0 ∷ 0 ∷ 0 ∷ 1 ∷ 1 ∷ 0 ∷ 0 ∷ []) ∷ []) (arena (0 ∷ []) (0 ∷ []) (5 ∷ []) (11 ∷ []) (1 ∷ 1 ∷ 0 ∷ 5 ∷ [])) ∷
    -- a link whose next does not name it in turn: every call is refused with 11, and a walk step hands its state back
    row (arena (0 ∷ 0 ∷ []) (2 ∷ 0 ∷ []) (5 ∷ 5 ∷ []) (11 ∷ 12 ∷ []) (2 ∷ 2 ∷ 0 ∷ 5 ∷ [])) (plain Check ∷ with WalkStep (1 ∷ 1 ∷ 0 ∷ 2 ∷ []) ∷ plain (GetLinkNoGen (pointer 1 5)) ∷ []) ((11 ∷ []) ∷ (11 ∷ 0 ∷ 0 ∷ 1 ∷ 1 ∷ 0 ∷ 2 ∷ []) ∷ (11 ∷ 0 ∷ 0 ∷ 0 ∷ []) ∷ []) (arena (0 ∷ 0 ∷ []) (2 ∷ 0 ∷ []) (5 ∷ 5 ∷ []) (11 ∷ 12 ∷ []) (2 ∷ 2 ∷ 0 ∷ 5 ∷ [])) ∷
    -- the freelist in order: slots 4 and 5 are popped, of the free slots 1 and 2 only the next words are written
    row (arena (7 ∷ 8 ∷ 0 ∷ 9 ∷ 6 ∷ []) (5 ∷ 2 ∷ 0 ∷ 1 ∷ 2 ∷ []) (0 ∷ 0 ∷ 5 ∷ 0 ∷ 0 ∷ []) (21 ∷ 22 ∷ 13 ∷ 24 ∷ 25 ∷ []) (5 ∷ 1 ∷ 4 ∷ 5 ∷ [])) (plain Check ∷ plain CanonicalizeFreelist ∷ plain Check ∷ []) ((0 ∷ []) ∷ (0 ∷ []) ∷ (0 ∷ []) ∷ []) (arena (7 ∷ 8 ∷ 0 ∷ 0 ∷ 0 ∷ []) (2 ∷ 2 ∷ 0 ∷ 0 ∷ 0 ∷ []) (0 ∷ 0 ∷ 5 ∷ 0 ∷ 0 ∷ []) (21 ∷ 22 ∷ 13 ∷ 0 ∷ 0 ∷ []) (3 ∷ 1 ∷ 1 ∷ 5 ∷ [])) ∷
    -- a run: 16 for words that are no whole commands, five where six make one; 14 for too few answer words
    row three (with (Run (4 ∷ 1 ∷ 5 ∷ 2 ∷ 5 ∷ [])) (9 ∷ []) ∷ with (Run (20 ∷ 0 ∷ 0 ∷ 0 ∷ 0 ∷ 0 ∷ 20 ∷ 0 ∷ 0 ∷ 0 ∷ 0 ∷ 0 ∷ [])) (9 ∷ []) ∷ []) ((16 ∷ 9 ∷ []) ∷ (14 ∷ 9 ∷ []) ∷ []) three ∷
    -- a run: an exchange, an unknown code, a stale connect, a connect with a next in the way, a removal that overflows
    row (arena (0 ∷ 1 ∷ 2 ∷ []) (2 ∷ 3 ∷ 0 ∷ []) (5 ∷ 5 ∷ 5 ∷ []) (11 ∷ 12 ∷ 13 ∷ []) (3 ∷ 3 ∷ 0 ∷ 4294967295 ∷ [])) (with (Run (4 ∷ 1 ∷ 5 ∷ 2 ∷ 5 ∷ 0 ∷ 20 ∷ 0 ∷ 0 ∷ 0 ∷ 0 ∷ 0 ∷ 1 ∷ 70000 ∷ 5 ∷ 1 ∷ 5 ∷ 0 ∷ 1 ∷ 2 ∷ 5 ∷ 2 ∷ 5 ∷ 0 ∷ 5 ∷ 3 ∷ 5 ∷ 0 ∷ 0 ∷ 0 ∷ [])) (9 ∷ 9 ∷ 9 ∷ 9 ∷ 9 ∷ 9 ∷ []) ∷ []) ((0 ∷ 0 ∷ 16 ∷ 12 ∷ 13 ∷ 100 ∷ 9 ∷ []) ∷ []) (arena (0 ∷ 2 ∷ 0 ∷ []) (0 ∷ 2 ∷ 0 ∷ []) (5 ∷ 5 ∷ 0 ∷ []) (11 ∷ 12 ∷ 0 ∷ []) (2 ∷ 2 ∷ 0 ∷ 2 ∷ [])) ∷
    -- a drain that overflows at its second item
    row (arena (0 ∷ 1 ∷ 2 ∷ []) (2 ∷ 3 ∷ 0 ∷ []) (5 ∷ 5 ∷ 5 ∷ []) (11 ∷ 12 ∷ 13 ∷ []) (3 ∷ 3 ∷ 0 ∷ 4294967294 ∷ [])) (with (Drain (pointer 1 5)) (9 ∷ 9 ∷ 9 ∷ 9 ∷ 9 ∷ 9 ∷ 9 ∷ 9 ∷ 9 ∷ 9 ∷ 9 ∷ 9 ∷ 9 ∷ 9 ∷ 9 ∷ []) ∷ []) ((0 ∷ 3 ∷ 2 ∷ 1 ∷ 5 ∷ 0 ∷ 2 ∷ 11 ∷ 2 ∷ 5 ∷ 0 ∷ 3 ∷ 12 ∷ 3 ∷ 5 ∷ 0 ∷ 0 ∷ 13 ∷ []) ∷ []) (arena (0 ∷ 0 ∷ 0 ∷ []) (1 ∷ 1 ∷ 0 ∷ []) (0 ∷ 0 ∷ 0 ∷ []) (0 ∷ 0 ∷ 0 ∷ []) (2 ∷ 0 ∷ 2 ∷ 3 ∷ [])) ∷
    -- compress_with: a report that is too short; then the closed pair in slots 2 and 4 goes to slots 1 and 2
    row (arena (0 ∷ 4 ∷ 0 ∷ 2 ∷ []) (3 ∷ 4 ∷ 3 ∷ 2 ∷ []) (0 ∷ 5 ∷ 0 ∷ 6 ∷ []) (0 ∷ 12 ∷ 0 ∷ 14 ∷ []) (4 ∷ 2 ∷ 1 ∷ 5 ∷ [])) (with (CompressWith false) (9 ∷ 9 ∷ 9 ∷ 9 ∷ 9 ∷ 9 ∷ 9 ∷ []) ∷ with (CompressWith false) (9 ∷ 9 ∷ 9 ∷ 9 ∷ 9 ∷ 9 ∷ 9 ∷ 9 ∷ 9 ∷ []) ∷ []) ((14 ∷ 9 ∷ 9 ∷ 9 ∷ 9 ∷ 9 ∷ 9 ∷ 9 ∷ []) ∷ (0 ∷ 2 ∷ 5 ∷ 1 ∷ 6 ∷ 4 ∷ 6 ∷ 2 ∷ 6 ∷ 9 ∷ []) ∷ []) (arena (2 ∷ 1 ∷ 0 ∷ 0 ∷ []) (2 ∷ 1 ∷ 0 ∷ 0 ∷ []) (6 ∷ 6 ∷ 0 ∷ 0 ∷ []) (12 ∷ 14 ∷ 0 ∷ 0 ∷ []) (2 ∷ 2 ∷ 0 ∷ 6 ∷ [])) ∷
    -- canonical compression: a where-from column that is too short is refused; at the largest generation it overflows; a reset is no overflow
    row (arena (0 ∷ 4 ∷ 0 ∷ 2 ∷ []) (3 ∷ 4 ∷ 3 ∷ 2 ∷ []) (0 ∷ 5 ∷ 0 ∷ 6 ∷ []) (0 ∷ 12 ∷ 0 ∷ 14 ∷ []) (4 ∷ 2 ∷ 1 ∷ 4294967295 ∷ [])) (with (CompressCanonical false) (9 ∷ 9 ∷ 9 ∷ []) ∷ with (CompressCanonical false) (9 ∷ 9 ∷ 9 ∷ 9 ∷ []) ∷ with (CompressCanonical true) (9 ∷ 9 ∷ 9 ∷ 9 ∷ []) ∷ []) ((14 ∷ 9 ∷ 9 ∷ 9 ∷ []) ∷ (100 ∷ 2 ∷ 4 ∷ 0 ∷ 0 ∷ []) ∷ (0 ∷ 1 ∷ 2 ∷ 9 ∷ 9 ∷ []) ∷ []) (arena (2 ∷ 1 ∷ 0 ∷ 0 ∷ []) (2 ∷ 1 ∷ 0 ∷ 0 ∷ []) (2 ∷ 2 ∷ 0 ∷ 0 ∷ []) (12 ∷ 14 ∷ 0 ∷ 0 ∷ []) (2 ∷ 2 ∷ 0 ∷ 2 ∷ [])) ∷
    -- words above the old stack stay, in the columns and in the where-from column, and so do the words of a report that are not needed
    row (arena (3 ∷ 0 ∷ 7 ∷ []) (1 ∷ 0 ∷ 8 ∷ []) (0 ∷ 5 ∷ 9 ∷ []) (4 ∷ 12 ∷ 6 ∷ []) (2 ∷ 1 ∷ 1 ∷ 5 ∷ [])) (with (CompressCanonical false) (9 ∷ 9 ∷ 9 ∷ []) ∷ []) ((0 ∷ 2 ∷ 0 ∷ 9 ∷ []) ∷ []) (arena (0 ∷ 0 ∷ 7 ∷ []) (0 ∷ 0 ∷ 8 ∷ []) (6 ∷ 0 ∷ 9 ∷ []) (12 ∷ 0 ∷ 6 ∷ []) (1 ∷ 1 ∷ 0 ∷ 6 ∷ [])) ∷
    row (arena (3 ∷ 0 ∷ 7 ∷ []) (1 ∷ 0 ∷ 8 ∷ []) (0 ∷ 5 ∷ 9 ∷ []) (4 ∷ 12 ∷ 6 ∷ []) (2 ∷ 1 ∷ 1 ∷ 5 ∷ [])) (with (CompressWith true) (9 ∷ 9 ∷ 9 ∷ 9 ∷ 9 ∷ []) ∷ []) ((0 ∷ 2 ∷ 5 ∷ 1 ∷ 2 ∷ 9 ∷ []) ∷ []) (arena (0 ∷ 0 ∷ 7 ∷ []) (0 ∷ 0 ∷ 8 ∷ []) (2 ∷ 0 ∷ 9 ∷ []) (12 ∷ 0 ∷ 6 ∷ []) (1 ∷ 1 ∷ 0 ∷ 2 ∷ [])) ∷
    -- no links: the generation stays without reset and becomes 2 with it, and the free slots go
    row (arena (4 ∷ []) (1 ∷ []) (0 ∷ []) (6 ∷ []) (1 ∷ 0 ∷ 1 ∷ 5 ∷ [])) (with (CompressCanonical false) (9 ∷ []) ∷ []) ((0 ∷ 0 ∷ []) ∷ []) (arena (0 ∷ []) (0 ∷ []) (0 ∷ []) (0 ∷ []) (0 ∷ 0 ∷ 0 ∷ 5 ∷ [])) ∷
    row (arena (4 ∷ []) (1 ∷ []) (0 ∷ []) (6 ∷ []) (1 ∷ 0 ∷ 1 ∷ 5 ∷ [])) (with (CompressWith true) [] ∷ []) ((0 ∷ []) ∷ []) (arena (0 ∷ []) (0 ∷ []) (0 ∷ []) (0 ∷ []) (0 ∷ 0 ∷ 0 ∷ 2 ∷ [])) ∷
    -- a reset at the largest generation is no overflow
    row (arena (0 ∷ 1 ∷ []) (2 ∷ 0 ∷ []) (5 ∷ 5 ∷ []) (11 ∷ 12 ∷ []) (2 ∷ 2 ∷ 0 ∷ 4294967295 ∷ [])) (with (CompressCanonical true) (9 ∷ 9 ∷ []) ∷ []) ((0 ∷ 1 ∷ 2 ∷ []) ∷ []) (arena (0 ∷ 1 ∷ []) (2 ∷ 0 ∷ []) (2 ∷ 2 ∷ []) (11 ∷ 12 ∷ []) (2 ∷ 2 ∷ 0 ∷ 2 ∷ [])) ∷
    -- a slot number that differs from a link's by 65,536 is not that link's: stale in a call and in a run, and a walk is over there
    row three (plain (GetLink (pointer 65538 5)) ∷ plain (ExchangeNext (pointer 1 5) (pointer 65538 5)) ∷ with WalkStep (2 ∷ 65538 ∷ 0 ∷ 3 ∷ []) ∷ with (Run (2 ∷ 65538 ∷ 5 ∷ 0 ∷ 0 ∷ 0 ∷ 5 ∷ 65539 ∷ 5 ∷ 0 ∷ 0 ∷ 0 ∷ [])) (9 ∷ 9 ∷ []) ∷ []) ((12 ∷ 0 ∷ 0 ∷ 0 ∷ 0 ∷ 0 ∷ []) ∷ (12 ∷ []) ∷ (0 ∷ 0 ∷ 0 ∷ 2 ∷ 0 ∷ 0 ∷ 2 ∷ []) ∷ (0 ∷ 12 ∷ 12 ∷ []) ∷ []) three ∷
    -- due in a window that goes straight: its first dot is in it and its end is not, which may be the end of the frame
    row frame (plain (DueCount (pointer 1 5) 0 341) ∷ plain (DueCount (pointer 1 5) 0 340) ∷ plain (DueCount (pointer 1 5) 340 342) ∷ plain (DueCount (pointer 1 5) 341 89341) ∷ plain (DueCount (pointer 1 5) 341 89342) ∷ plain (DueCount (pointer 1 5) 0 89342) ∷ []) ((0 ∷ 2 ∷ []) ∷ (0 ∷ 1 ∷ []) ∷ (0 ∷ 2 ∷ []) ∷ (0 ∷ 1 ∷ []) ∷ (0 ∷ 2 ∷ []) ∷ (0 ∷ 4 ∷ []) ∷ []) frame ∷
    -- equal ends: nothing
    row frame (plain (DueCount (pointer 1 5) 0 0) ∷ plain (DueCount (pointer 1 5) 340 340) ∷ plain (DueCount (pointer 1 5) 89341 89341) ∷ []) ((0 ∷ 0 ∷ []) ∷ (0 ∷ 0 ∷ []) ∷ (0 ∷ 0 ∷ []) ∷ []) frame ∷
    -- across the end of the frame: on either side of it, and never a payload past the frame
    row frame (plain (DueCount (pointer 1 5) 341 340) ∷ plain (DueCount (pointer 1 5) 89341 0) ∷ plain (DueCount (pointer 1 5) 89341 1) ∷ plain (DueCount (pointer 1 5) 340 0) ∷ []) ((0 ∷ 3 ∷ []) ∷ (0 ∷ 1 ∷ []) ∷ (0 ∷ 2 ∷ []) ∷ (0 ∷ 3 ∷ []) ∷ []) frame ∷
    -- no window: one that begins at 89,342, and one that ends behind it; a stale pointer comes before
    row frame (plain (DueCount (pointer 1 5) 89342 0) ∷ plain (DueCount (pointer 1 5) 89342 89342) ∷ plain (DueCount (pointer 1 5) 0 89343) ∷ plain (DueCount (pointer 1 6) 89342 89343) ∷ plain (DueCount (pointer 6 5) 0 341) ∷ []) ((19 ∷ 0 ∷ []) ∷ (19 ∷ 0 ∷ []) ∷ (19 ∷ 0 ∷ []) ∷ (12 ∷ 0 ∷ []) ∷ (12 ∷ 0 ∷ []) ∷ []) frame ∷
    -- the slots of those that are due, in the order of a walk from the middle, and from the first link across the end of the frame; the other words of the report stay
    row frame (with (DueEvents (pointer 3 5) 0 89342) (9 ∷ 9 ∷ 9 ∷ 9 ∷ 9 ∷ 9 ∷ []) ∷ with (DueEvents (pointer 1 5) 341 340) (9 ∷ 9 ∷ 9 ∷ 9 ∷ 9 ∷ []) ∷ with (DueEvents (pointer 5 5) 89341 89341) (9 ∷ 9 ∷ 9 ∷ 9 ∷ 9 ∷ []) ∷ []) ((0 ∷ 4 ∷ 3 ∷ 4 ∷ 2 ∷ 1 ∷ 9 ∷ 9 ∷ []) ∷ (0 ∷ 3 ∷ 1 ∷ 3 ∷ 4 ∷ 9 ∷ 9 ∷ []) ∷ (0 ∷ 0 ∷ 9 ∷ 9 ∷ 9 ∷ 9 ∷ 9 ∷ []) ∷ []) frame ∷
    -- a report that is shorter than the chain: 14, although it has room for those that are due; no window comes before, and a stale pointer first
    row frame (with (DueEvents (pointer 1 5) 0 341) (9 ∷ 9 ∷ 9 ∷ 9 ∷ []) ∷ with (DueEvents (pointer 1 5) 0 89343) (9 ∷ 9 ∷ 9 ∷ 9 ∷ []) ∷ with (DueEvents (pointer 1 6) 89342 0) (9 ∷ 9 ∷ 9 ∷ 9 ∷ []) ∷ []) ((14 ∷ 0 ∷ 9 ∷ 9 ∷ 9 ∷ 9 ∷ []) ∷ (19 ∷ 0 ∷ 9 ∷ 9 ∷ 9 ∷ 9 ∷ []) ∷ (12 ∷ 0 ∷ 9 ∷ 9 ∷ 9 ∷ 9 ∷ []) ∷ []) frame ∷
    -- a closed chain, once round from the second link
    row closed_pair (plain (DueCount (pointer 2 5) 11 13) ∷ plain (DueCount (pointer 2 5) 12 11) ∷ with (DueEvents (pointer 2 5) 11 13) (9 ∷ 9 ∷ 9 ∷ []) ∷ with (DueEvents (pointer 2 5) 13 12) (9 ∷ 9 ∷ []) ∷ []) ((0 ∷ 2 ∷ []) ∷ (0 ∷ 1 ∷ []) ∷ (0 ∷ 2 ∷ 2 ∷ 1 ∷ 9 ∷ []) ∷ (0 ∷ 1 ∷ 1 ∷ 9 ∷ []) ∷ []) closed_pair ∷
    -- another chain is left out, and its links need no room in the report
    row (arena (0 ∷ 0 ∷ 1 ∷ []) (3 ∷ 0 ∷ 0 ∷ []) (5 ∷ 5 ∷ 5 ∷ []) (11 ∷ 12 ∷ 13 ∷ []) (3 ∷ 3 ∷ 0 ∷ 5 ∷ [])) (plain (DueCount (pointer 1 5) 0 89342) ∷ with (DueEvents (pointer 3 5) 0 89342) (9 ∷ 9 ∷ []) ∷ with (DueEvents (pointer 2 5) 12 13) (9 ∷ []) ∷ []) ((0 ∷ 2 ∷ []) ∷ (0 ∷ 2 ∷ 3 ∷ 1 ∷ []) ∷ (0 ∷ 1 ∷ 2 ∷ []) ∷ []) (arena (0 ∷ 0 ∷ 1 ∷ []) (3 ∷ 0 ∷ 0 ∷ []) (5 ∷ 5 ∷ 5 ∷ []) (11 ∷ 12 ∷ 13 ∷ []) (3 ∷ 3 ∷ 0 ∷ 5 ∷ [])) ∷
    []

pub corners_hold : map computed corners ≡ map expected corners
unfolding corners at put first_or last_or slots_from keep written settled allocated link_slots free_slots misshapen freelist_walk names_back neighbours_fine all_fine counts_of verdict stale get_link get_link_no_gen neighbors are_neighbors walk_start onward step walk_step walked connect break_prev break_next exchange_next next_generation overflows set_generation inc_generation joined vacated removed remove removed_all drain_items overflow_item drain threaded canonicalize_freelist kind_of insert_coded apply applied answers_of run raises compress_generation compress_number place relocate moves_of compress_with exchanged exchange_words exchange_links exchange_slots put_at_i lowest_from start_of lay_chain lay_chains laid_out canonical_arena compress_canonical is_window due due_slots due_count due_events accepted reply_to replies_to arena_after
corners_hold = refl
