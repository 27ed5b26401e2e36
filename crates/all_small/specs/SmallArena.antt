-- The call that gives the small arenas one by one: what it replies (REFERENCE, Small arenas).
use Rattle.std.specs.Prelude.{ℕ, cond, [], ◌∷◌, length, ltb}
use Rattle.definitions.specs.Columns.{written}
use Rattle.definitions.specs.Arena.{Arena, arena, capacity, stack_length}
use Rattle.definitions.specs.Check.{misshapen}
use Rattle.definitions.specs.Reply.{Reply, reply, refusal}
use Rattle.statements.specs.SmallArenas.{entry}
use Rattle.all_small.specs.SmallArenas.{small_arenas}

-- columns that get the words of e at their front, with the header of e; their further words stay
unfoldable pub laid_in : Arena → Arena → Arena
laid_in e a =
    arena (written e.prev a.prev) (written e.next a.next) (written e.generation a.generation) (written e.payload a.payload) e.header

-- 1, by the lengths of columns and header alone; then, if the list has an entry of this index, 14 for columns that are shorter than its stack. Fields: 1 and the
-- stack length where there is such an entry, and it is laid into the columns; past the end of the list 0 and 0, and nothing is written
-- (REFERENCE, Small arenas)
unfoldable pub small_arena : ℕ → Arena → ℕ → Reply
small_arena limit a index =
    let e = entry small_arenas index in
    cond (misshapen limit a) (refusal 1 2 a [])
    (cond (ltb index (length small_arenas))
    (cond (ltb (capacity a) (stack_length e)) (refusal 14 2 a []) (reply 0 (1 ∷ stack_length e ∷ []) (laid_in e a) []))
    (reply 0 (0 ∷ 0 ∷ []) a []))
