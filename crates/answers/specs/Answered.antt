-- What the answer of an exported call says (REFERENCE, Replies).
use Rattle.std.specs.Prelude.{ℕ, ◌≡◌, List}
use Rattle.definitions.specs.Arena.{Arena, capacity_limit, largest_generation}
use Rattle.definitions.specs.Check.{verdict, broken_slot, broken_side}
use Rattle.definitions.specs.Reply.{Reply}
use Rattle.definitions.specs.Calls.{Call, reply_to}
use Rattle.answers.specs.declared.Answer.{Answer}

-- the check's answer r to the arena a: its number is the verdict, and slot and side are those that go with it
pub record Verdict (a : Arena) (r : Answer) : Type 0 where
  pub number : r.number ≡ verdict capacity_limit a
  pub broken : r.broken ≡ broken_slot capacity_limit a
  pub side : r.side ≡ broken_side capacity_limit a

-- the reply that an exported call gave: the words of its answer r, these further fields, the arena that is left and what is handed back
abbrev pub replied : Answer → List ℕ → Arena → List ℕ → Reply
replied r fields left back = record { number = r.number; broken = r.broken; side = r.side; fields = fields; arena = left; back = back }

-- the promise of every exported call on an arena at the port's own limits: to the call c on the arena a, with l handed in, it replied what is defined
abbrev pub Answered : Call → Arena → List ℕ → Answer → List ℕ → Arena → List ℕ → Type 0
Answered c a l r fields left back = replied r fields left back ≡ reply_to capacity_limit largest_generation c a l
