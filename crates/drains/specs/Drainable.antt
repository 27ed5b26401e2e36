-- What draining slots one after the other needs.
use Rattle.std.specs.Prelude.{ℕ, ◌≤◌, ◌≡◌, true, List}
use Rattle.definitions.specs.Columns.{count}
use Rattle.definitions.specs.Arena.{Arena, is_link}
use Rattle.definitions.specs.Check.{WellFormed}

-- different links of a well formed arena
pub record Drainable (limit : ℕ) (a : Arena) (ss : List ℕ) : Type 0 where
  pub arena : WellFormed limit a
  pub links : (s : ℕ) → 1 ≤ count s ss → is_link a s ≡ true
  pub once : (s : ℕ) → count s ss ≤ 1
