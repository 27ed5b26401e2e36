-- What the check's answer says of the arena (REFERENCE, Check).
use Rattle.std.specs.Prelude.{◌≡◌, Result, Ok, Err}
use Rattle.definitions.specs.Arena.{Arena, capacity_limit}
use Rattle.definitions.specs.Check.{verdict, broken_slot, broken_side}
use Rattle.lent.specs.declared.CheckedArena.{CheckedArena}
use Rattle.lent.specs.Arenas.{checked_of}
use Rattle.refusals.specs.declared.Refusal.{Refusal}
use Rattle.refusals.specs.Refusal.{refusal_number, refusal_slot, refusal_side}

-- r is why every call on the arena a is refused: it has the definition's number, slot and side
pub record Refuses (a : Arena) (r : Refusal) : Type 0 where
  pub number : refusal_number r ≡ verdict capacity_limit a
  pub broken : refusal_slot r ≡ broken_slot capacity_limit a
  pub side : refusal_side r ≡ broken_side capacity_limit a

-- the answer to an arena a that has the shape of one: it passed; or why it is refused
abbrev pub Passes : Arena → Result (Unit {0}) Refusal → Type 0
Passes a (Ok u) = verdict capacity_limit a ≡ 0
Passes a (Err r) = Refuses a r

-- the answer to the arena a: it passed, and is handed on; or why it is refused
abbrev pub Checks : Arena → Result CheckedArena Refusal → Type 0
Checks a (Ok c) = checked_of c ≡ a
Checks a (Err r) = Refuses a r
