-- What the theorems about every public call say.
use Rattle.std.specs.Prelude.{ℕ, ◌≡◌, List}
use Rattle.definitions.specs.Arena.{Arena}
use Rattle.definitions.specs.Reply.{Reply}
use Rattle.statements.specs.Demand3.{Accepted}

-- a reply r to a call on the arena a that was handed l: where it is a refusal, a and l are as they were
pub record Unchanged (a : Arena) (l : List ℕ) (r : Reply) : Type 0 where
  pub arena : (Accepted r → ⊥) → r.arena ≡ a
  pub back : (Accepted r → ⊥) → r.back ≡ l

-- the numbers that a command can answer (REFERENCE, Run)
pub data AnswerWord : ℕ → Type 0 where
  done : AnswerWord 0
  done_with_overflow : AnswerWord 100
  stale : AnswerWord 12
  neighbour : AnswerWord 13
  no_code : AnswerWord 16
  no_place : AnswerWord 17
  no_room : AnswerWord 18

-- the reply r to one command on the arena a: one of these numbers, and a is left as it was where the command is refused
pub record OneCommand (a : Arena) (r : Reply) : Type 0 where
  pub answer : AnswerWord r.number
  pub refused : (Accepted r → ⊥) → r.arena ≡ a
