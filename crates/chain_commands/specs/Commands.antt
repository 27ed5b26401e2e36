-- A command of a run as the code has it, and what it answers and leaves (REFERENCE, Run).
use Rattle.std.specs.Prelude.{ℕ, ◌≡◌, Result, Ok, Err}
use Rattle.definitions.specs.Arena.{Arena}
use Rattle.definitions.specs.Run.{Command as Command₁, apply}
use Rattle.ptr.specs.Extra.{invalidation_number}
use Rattle.ptr.specs.Pointers.{pointer_of}
use Rattle.ptr.specs.declared.InvalidationOption.{InvalidationOption}
use Rattle.refusals.specs.Refusal.{refusal_number}
use Rattle.refusals.specs.declared.Refusal.{Refusal}
use Rattle.chain_commands.specs.declared.Command.{Command}

-- a command as the definitions have it
abbrev pub command_of : Command → Command₁
command_of c = record { code = c.code; first = pointer_of c.first; second = pointer_of c.second; payload = c.payload }

-- the answer word of a command: 0 where it was done, 100 where the generation overflowed with it, else the number of its refusal
abbrev pub command_number : Result InvalidationOption Refusal → ℕ
command_number (Ok o) = invalidation_number o
command_number (Err r) = refusal_number r

-- a command's answer word, and the arena that it leaves
pub record Applied (top : ℕ) (a : Arena) (c : Command₁) (r : ℕ) (left : Arena) : Type 0 where
  pub answer : r ≡ (apply top a c).number
  pub arena : left ≡ (apply top a c).arena
