-- Refusals 1 to 3, the first tests of the verdict (REFERENCE, Check).
use Rattle.std.specs.Prelude.{ℕ, ◌≡◌, cond, ◌||◌, ltb, Result, Ok, Err}
use Rattle.definitions.specs.Arena.{Arena, capacity_limit, capacity, stack_length, link_count, current}
use Rattle.definitions.specs.Check.{misshapen}
use Rattle.lent.specs.declared.ArenaRef.{ArenaRef}
use Rattle.lent.specs.Arenas.{arena_of}
use Rattle.refusals.specs.declared.Refusal.{Refusal}
use Rattle.refusals.specs.Refusal.{refusal_number}

-- 1, 2 or 3, or 0 where none of them refuses
unfoldable pub shape_of : ℕ → Arena → ℕ
shape_of limit a =
    cond (misshapen limit a) 1
    (cond (ltb (current a) 2) 2
    (cond (ltb (capacity a) (link_count a) || ltb (capacity a) (stack_length a)) 3 0))

-- the answer to the arena a: none of them refuses it, and it is handed on; or the one that does
abbrev pub Shapes : Arena → Result ArenaRef Refusal → Type 0
Shapes a (Ok s) = (shape_of capacity_limit a ≡ 0) × (arena_of s ≡ a)
Shapes a (Err r) = refusal_number r ≡ shape_of capacity_limit a
