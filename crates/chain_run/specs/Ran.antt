-- What the commands of a whole run answer and leave (REFERENCE, Run).
use Rattle.std.specs.Prelude.{ℕ, ◌≡◌, List}
use Rattle.definitions.specs.Columns.{written}
use Rattle.definitions.specs.Arena.{Arena}
use Rattle.definitions.specs.Run.{applied, answers_of, commands_of}

-- the arena and the answers that the commands of the words ws leave
pub record AllApplied (top : ℕ) (a : Arena) (ws old : List ℕ) (left : Arena) (told : List ℕ) : Type 0 where
  pub arena : left ≡ applied top a (commands_of ws)
  pub answers : told ≡ written (answers_of top a (commands_of ws)) old
