-- Each rule of the check in the smallest arenas that fail it, which number comes first where two rules fail, and which slot and side go with 11, as one
-- table (REFERENCE, Check). The limit is two slots here, so that the smallest arena over it is short.
use Rattle.std.specs.Prelude.{ℕ, ◌≡◌, refl, List, [], ◌∷◌, map}
use Rattle.definitions.specs.Columns.{at, first_or, slots_from, keep}
use Rattle.definitions.specs.Arena.{Arena, arena, allocated, link_slots, free_slots}
use Rattle.definitions.specs.Check.{misshapen, freelist_walk, names_back, neighbours_fine, all_fine, counts_of, verdict, broken_slots, side_at, broken_slot, broken_side}

pub record Row : Type 0 where
  pub number : ℕ
  pub broken : ℕ
  pub side : ℕ
  pub of : Arena

-- the columns prev, next and generation, and the header; the payload column is as long as prev, and the check reads no word of it
abbrev lent : List ℕ → List ℕ → List ℕ → List ℕ → Arena
lent ps ns gs h = arena ps ns gs (map (λ s. 7) ps) h

abbrev row : ℕ → List ℕ → List ℕ → List ℕ → List ℕ → Row
row k ps ns gs h = record { number = k; broken = 0; side = 0; of = lent ps ns gs h }

-- 11 at a slot, because of its prev or because of its next
abbrev prev_of : ℕ → List ℕ → List ℕ → List ℕ → List ℕ → Row
prev_of s ps ns gs h = record { number = 11; broken = s; side = 1; of = lent ps ns gs h }

abbrev next_of : ℕ → List ℕ → List ℕ → List ℕ → List ℕ → Row
next_of s ps ns gs h = record { number = 11; broken = s; side = 2; of = lent ps ns gs h }

-- the table
unfoldable pub rows : List Row
rows =
    -- 1: a header of three words and of five, a next, generation or payload column longer than prev, and three slots where two are the limit
    row 1 [] [] [] (0 ∷ 0 ∷ 0 ∷ []) ∷
    row 1 [] [] [] (0 ∷ 0 ∷ 0 ∷ 5 ∷ 0 ∷ []) ∷
    row 1 [] (0 ∷ []) [] (0 ∷ 0 ∷ 0 ∷ 5 ∷ []) ∷
    row 1 [] [] (0 ∷ []) (0 ∷ 0 ∷ 0 ∷ 5 ∷ []) ∷
    record { number = 1; broken = 0; side = 0; of = arena [] [] [] (0 ∷ []) (0 ∷ 0 ∷ 0 ∷ 5 ∷ []) } ∷
    row 1 (0 ∷ 0 ∷ 0 ∷ []) (0 ∷ 0 ∷ 0 ∷ []) (0 ∷ 0 ∷ 0 ∷ []) (0 ∷ 0 ∷ 0 ∷ 5 ∷ []) ∷
    -- 2: generation 1; generation 2 passes
    row 2 [] [] [] (0 ∷ 0 ∷ 0 ∷ 1 ∷ []) ∷
    row 0 [] [] [] (0 ∷ 0 ∷ 0 ∷ 2 ∷ []) ∷
    -- 3: more links than the columns have slots, and a longer stack
    row 3 [] [] [] (0 ∷ 1 ∷ 0 ∷ 5 ∷ []) ∷
    row 3 [] [] [] (1 ∷ 0 ∷ 0 ∷ 5 ∷ []) ∷
    -- 4: a link that is not counted, and one counted that is not there
    row 4 (0 ∷ []) (0 ∷ []) (5 ∷ []) (1 ∷ 0 ∷ 0 ∷ 5 ∷ []) ∷
    row 4 (0 ∷ []) (0 ∷ []) (5 ∷ []) (0 ∷ 1 ∷ 0 ∷ 5 ∷ []) ∷
    -- 5: a root without a free slot, and a free slot without a root
    row 5 (0 ∷ []) (0 ∷ []) (5 ∷ []) (1 ∷ 1 ∷ 1 ∷ 5 ∷ []) ∷
    row 5 (0 ∷ []) (1 ∷ []) (0 ∷ []) (1 ∷ 0 ∷ 0 ∷ 5 ∷ []) ∷
    -- 6: a free slot that leads on to 0
    row 6 (0 ∷ []) (0 ∷ []) (0 ∷ []) (1 ∷ 0 ∷ 1 ∷ 5 ∷ []) ∷
    -- 7: the last slot of the stack leads above it, which is seen at visit stack length + 1; and a root above the stack
    row 7 (0 ∷ []) (2 ∷ []) (0 ∷ []) (1 ∷ 0 ∷ 1 ∷ 5 ∷ []) ∷
    row 7 (0 ∷ []) (1 ∷ []) (0 ∷ []) (1 ∷ 0 ∷ 70000 ∷ 5 ∷ []) ∷
    -- 8: a free slot that leads on to a link
    row 8 (0 ∷ 0 ∷ []) (0 ∷ 1 ∷ []) (5 ∷ 0 ∷ []) (2 ∷ 1 ∷ 2 ∷ 5 ∷ []) ∷
    -- 9: two free slots that lead to each other
    row 9 (0 ∷ 0 ∷ []) (2 ∷ 1 ∷ []) (0 ∷ 0 ∷ []) (2 ∷ 0 ∷ 1 ∷ 5 ∷ []) ∷
    -- 10: the freelist ends at slot 1, and slot 2 is free too
    row 10 (0 ∷ 0 ∷ []) (1 ∷ 2 ∷ []) (0 ∷ 0 ∷ []) (2 ∷ 0 ∷ 1 ∷ 5 ∷ []) ∷
    -- 11, at prev and at next: it is above the stack, or free
    prev_of 1 (2 ∷ []) (0 ∷ []) (5 ∷ []) (1 ∷ 1 ∷ 0 ∷ 5 ∷ []) ∷
    next_of 1 (0 ∷ []) (2 ∷ []) (5 ∷ []) (1 ∷ 1 ∷ 0 ∷ 5 ∷ []) ∷
    prev_of 1 (2 ∷ 0 ∷ []) (0 ∷ 2 ∷ []) (5 ∷ 0 ∷ []) (2 ∷ 1 ∷ 2 ∷ 5 ∷ []) ∷
    next_of 1 (0 ∷ 0 ∷ []) (2 ∷ 2 ∷ []) (5 ∷ 0 ∷ []) (2 ∷ 1 ∷ 2 ∷ 5 ∷ []) ∷
    -- above the stack or free, although it names this one
    prev_of 1 (2 ∷ 0 ∷ []) (0 ∷ 1 ∷ []) (5 ∷ 5 ∷ []) (1 ∷ 1 ∷ 0 ∷ 5 ∷ []) ∷
    next_of 1 (0 ∷ 1 ∷ []) (2 ∷ 0 ∷ []) (5 ∷ 5 ∷ []) (1 ∷ 1 ∷ 0 ∷ 5 ∷ []) ∷
    prev_of 2 (1 ∷ 1 ∷ []) (1 ∷ 0 ∷ []) (0 ∷ 5 ∷ []) (2 ∷ 1 ∷ 1 ∷ 5 ∷ []) ∷
    next_of 2 (2 ∷ 0 ∷ []) (1 ∷ 1 ∷ []) (0 ∷ 5 ∷ []) (2 ∷ 1 ∷ 1 ∷ 5 ∷ []) ∷
    -- a link that names none, and a link that names another, which here is itself
    prev_of 1 (2 ∷ 0 ∷ []) (0 ∷ 0 ∷ []) (5 ∷ 5 ∷ []) (2 ∷ 2 ∷ 0 ∷ 5 ∷ []) ∷
    next_of 1 (0 ∷ 0 ∷ []) (2 ∷ 0 ∷ []) (5 ∷ 5 ∷ []) (2 ∷ 2 ∷ 0 ∷ 5 ∷ []) ∷
    prev_of 1 (2 ∷ 2 ∷ []) (0 ∷ 2 ∷ []) (5 ∷ 5 ∷ []) (2 ∷ 2 ∷ 0 ∷ 5 ∷ []) ∷
    next_of 1 (0 ∷ 2 ∷ []) (2 ∷ 2 ∷ []) (5 ∷ 5 ∷ []) (2 ∷ 2 ∷ 0 ∷ 5 ∷ []) ∷
    -- a link that names itself on one side alone
    prev_of 1 (1 ∷ []) (0 ∷ []) (5 ∷ []) (1 ∷ 1 ∷ 0 ∷ 5 ∷ []) ∷
    next_of 1 (0 ∷ []) (1 ∷ []) (5 ∷ []) (1 ∷ 1 ∷ 0 ∷ 5 ∷ []) ∷
    -- only the second slot: the first is a link that is fine, or free, whose prev and next are not looked at
    prev_of 2 (0 ∷ 1 ∷ []) (0 ∷ 0 ∷ []) (5 ∷ 5 ∷ []) (2 ∷ 2 ∷ 0 ∷ 5 ∷ []) ∷
    next_of 2 (0 ∷ 0 ∷ []) (0 ∷ 1 ∷ []) (5 ∷ 5 ∷ []) (2 ∷ 2 ∷ 0 ∷ 5 ∷ []) ∷
    prev_of 2 (9 ∷ 9 ∷ []) (1 ∷ 0 ∷ []) (0 ∷ 5 ∷ []) (2 ∷ 1 ∷ 1 ∷ 5 ∷ []) ∷
    next_of 2 (9 ∷ 0 ∷ []) (1 ∷ 9 ∷ []) (0 ∷ 5 ∷ []) (2 ∷ 1 ∷ 1 ∷ 5 ∷ []) ∷
    -- one side is broken, and the neighbour on the other names it back
    prev_of 1 (9 ∷ 1 ∷ []) (2 ∷ 0 ∷ []) (5 ∷ 5 ∷ []) (2 ∷ 2 ∷ 0 ∷ 5 ∷ []) ∷
    next_of 1 (2 ∷ 0 ∷ []) (9 ∷ 1 ∷ []) (5 ∷ 5 ∷ []) (2 ∷ 2 ∷ 0 ∷ 5 ∷ []) ∷
    -- a slot with both sides broken: its prev
    prev_of 1 (9 ∷ []) (9 ∷ []) (5 ∷ []) (1 ∷ 1 ∷ 0 ∷ 5 ∷ []) ∷
    prev_of 2 (0 ∷ 9 ∷ []) (0 ∷ 9 ∷ []) (5 ∷ 5 ∷ []) (2 ∷ 2 ∷ 0 ∷ 5 ∷ []) ∷
    -- two broken slots: the lower one, also where its next is broken and the other's prev
    prev_of 1 (9 ∷ 9 ∷ []) (0 ∷ 0 ∷ []) (5 ∷ 5 ∷ []) (2 ∷ 2 ∷ 0 ∷ 5 ∷ []) ∷
    next_of 1 (0 ∷ 0 ∷ []) (9 ∷ 9 ∷ []) (5 ∷ 5 ∷ []) (2 ∷ 2 ∷ 0 ∷ 5 ∷ []) ∷
    prev_of 1 (9 ∷ 0 ∷ []) (0 ∷ 9 ∷ []) (5 ∷ 5 ∷ []) (2 ∷ 2 ∷ 0 ∷ 5 ∷ []) ∷
    next_of 1 (0 ∷ 9 ∷ []) (9 ∷ 0 ∷ []) (5 ∷ 5 ∷ []) (2 ∷ 2 ∷ 0 ∷ 5 ∷ []) ∷
    -- 0: no slots, a closed chain of one, an open pair, a freelist of two; any words above the stack, and any prev word of a free slot
    row 0 [] [] [] (0 ∷ 0 ∷ 0 ∷ 5 ∷ []) ∷
    row 0 (1 ∷ []) (1 ∷ []) (5 ∷ []) (1 ∷ 1 ∷ 0 ∷ 5 ∷ []) ∷
    row 0 (0 ∷ 1 ∷ []) (2 ∷ 0 ∷ []) (5 ∷ 5 ∷ []) (2 ∷ 2 ∷ 0 ∷ 5 ∷ []) ∷
    row 0 (0 ∷ 0 ∷ []) (1 ∷ 1 ∷ []) (0 ∷ 0 ∷ []) (2 ∷ 0 ∷ 2 ∷ 5 ∷ []) ∷
    row 0 (9 ∷ 9 ∷ []) (9 ∷ 9 ∷ []) (9 ∷ 9 ∷ []) (0 ∷ 0 ∷ 0 ∷ 5 ∷ []) ∷
    row 0 (9 ∷ 0 ∷ []) (1 ∷ 0 ∷ []) (0 ∷ 5 ∷ []) (2 ∷ 1 ∷ 1 ∷ 5 ∷ []) ∷
    -- two faults: the lower number comes first, and no slot is named but with 11
    row 1 [] [] [] (0 ∷ 0 ∷ 0 ∷ 1 ∷ 0 ∷ []) ∷
    row 2 [] [] [] (0 ∷ 1 ∷ 0 ∷ 1 ∷ []) ∷
    row 3 (0 ∷ []) (0 ∷ []) (5 ∷ []) (1 ∷ 2 ∷ 0 ∷ 5 ∷ []) ∷
    row 4 (0 ∷ []) (0 ∷ []) (5 ∷ []) (1 ∷ 0 ∷ 1 ∷ 5 ∷ []) ∷
    row 5 (2 ∷ []) (0 ∷ []) (5 ∷ []) (1 ∷ 1 ∷ 1 ∷ 5 ∷ []) ∷
    row 8 (2 ∷ 0 ∷ []) (0 ∷ 1 ∷ []) (5 ∷ 0 ∷ []) (2 ∷ 1 ∷ 2 ∷ 5 ∷ []) ∷
    []

pub each_refusal : map (λ r. verdict 2 r.of ∷ broken_slot 2 r.of ∷ broken_side 2 r.of ∷ []) rows ≡ map (λ r. r.number ∷ r.broken ∷ r.side ∷ []) rows
unfolding rows at first_or slots_from keep allocated link_slots free_slots misshapen freelist_walk names_back neighbours_fine all_fine counts_of verdict broken_slots side_at broken_slot broken_side
each_refusal = refl
