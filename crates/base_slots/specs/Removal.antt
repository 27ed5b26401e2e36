-- What removal of a slot asks of an arena, and what it leaves.
use Rattle.std.specs.Prelude.{ℕ, ◌-◌, ◌≤◌, ◌<◌, ◌≡◌, Bool, List, length, get_or}
use Rattle.definitions.specs.Columns.{at}
use Rattle.definitions.specs.Arena.{
  Arena,
  header_words,
  link_count,
  current,
  with_link_count,
  with_current,
}
use Rattle.definitions.specs.Edit.{next_generation, overflows}
use Rattle.definitions.specs.Remove.{removed}

-- slot s stands in both link columns, and what its words name does too
pub record Joinable (ps ns : List ℕ) (s : ℕ) : Type 0 where
  pub some : 0 < s
  pub in_prev : s ≤ length ps
  pub in_next : s ≤ length ns
  pub before : at ps s ≤ length ns
  pub after : at ns s ≤ length ps

-- slot s stands in all four columns
pub record Stands (ps ns gs vs : List ℕ) (s : ℕ) : Type 0 where
  pub some : 0 < s
  pub in_prev : s ≤ length ps
  pub in_next : s ≤ length ns
  pub in_generation : s ≤ length gs
  pub in_payload : s ≤ length vs

-- the header after a removal, but for its stack length and its root: one link fewer, in the next generation
unfoldable pub fewer : ℕ → List ℕ → List ℕ
fewer top h = with_link_count (get_or h 1 0 - 1) (with_current (next_generation top (get_or h 3 0)) h)

-- what counting a removal leaves of the header, and whether the generation overflowed
pub record Counted (top : ℕ) (h left : List ℕ) (overflow : Bool) : Type 0 where
  pub header : left ≡ fewer top h
  pub overflowed : overflow ≡ overflows top (get_or h 3 0)

-- what taking slot s out needs: it stands in all columns, so do the neighbours that it names, and there is a link to count off
pub record Removable (a : Arena) (s : ℕ) : Type 0 where
  pub header : length a.header ≡ header_words
  pub stands : Stands a.prev a.next a.generation a.payload s
  pub joinable : Joinable a.prev a.next s
  pub counted : 0 < link_count a

-- the arena that taking slot s out leaves, and whether the generation overflowed
pub record TakenOut (top : ℕ) (a : Arena) (s : ℕ) (left : Arena) (overflow : Bool) : Type 0 where
  pub arena : left ≡ removed top a s
  pub overflowed : overflow ≡ overflows top (current a)
