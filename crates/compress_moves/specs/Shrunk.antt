-- What is left once the links of an arena stand in its first slots.
use Rattle.std.specs.Prelude.{◌≤◌, ◌≡◌, length, replicate}
use Rattle.definitions.specs.Columns.{settled}
use Rattle.definitions.specs.Arena.{Arena, arena, header_words, stack_length, link_count, current, with_stack_length, with_root}
use Rattle.base_freelist.specs.Popped.{popped}
use Rattle.demand3.proofs.Carried.{Room}

-- as many slots as there are links stay, in the current generation, and the others are popped; no slot is free then, so there is no root
unfoldable pub shrunk : Arena → Arena
shrunk a =
    let m = link_count a in
    let n = stack_length a in
    arena (popped m n a.prev) (popped m n a.next) (settled n (replicate m (current a)) a.generation) (popped m n a.payload) (with_stack_length m (with_root 0 a.header))

pub record Shrinkable (a : Arena) : Type 0 where
  pub header : length a.header ≡ header_words
  pub room : Room a
  pub links : link_count a ≤ stack_length a
