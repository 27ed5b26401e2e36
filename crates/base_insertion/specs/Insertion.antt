-- What the parts of an insertion ask of an arena, and the slot that they choose.
use Rattle.std.specs.Prelude.{ℕ, ◌+◌, ◌≤◌, ◌<◌, ◌≡◌, cond, List, length, get_or, eqb}
use Rattle.definitions.specs.Arena.{Arena, capacity_limit, header_words}
use Rattle.definitions.specs.Insert.{new_slot}

-- the slot after the stack is at most the limit, as the capacity is
pub record Roomy (h : List ℕ) (capacity : ℕ) : Type 0 where
  pub header : length h ≡ header_words
  pub stack : get_or h 0 0 ≤ capacity
  pub small : capacity ≤ capacity_limit

-- the slot of a new link, 0 where there is no room
abbrev pub slot_for : List ℕ → ℕ → ℕ
slot_for h capacity = cond (eqb (get_or h 2 0) 0) (cond (eqb (get_or h 0 0) capacity) 0 (get_or h 0 0 + 1)) (get_or h 2 0)

-- one link more can be counted, and the root stands in the next column
pub record Countable (ns h : List ℕ) : Type 0 where
  pub header : length h ≡ header_words
  pub stack : get_or h 0 0 ≤ capacity_limit
  pub links : get_or h 1 0 ≤ capacity_limit
  pub rooted : get_or h 2 0 ≤ length ns

-- what a link in slot t between u and v needs: t is the new slot, and t, u and v stand in the columns that they are written to
pub record Insertable (a : Arena) (t u v : ℕ) : Type 0 where
  pub countable : Countable a.next a.header
  pub slot : t ≡ new_slot a
  pub some : 0 < t
  pub in_prev : t ≤ length a.prev
  pub in_next : t ≤ length a.next
  pub in_generation : t ≤ length a.generation
  pub in_payload : t ≤ length a.payload
  pub before : u ≤ length a.next
  pub after : v ≤ length a.prev
