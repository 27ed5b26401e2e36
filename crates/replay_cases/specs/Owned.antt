-- The arena of a case (REFERENCE, Arena).
use Rattle.std.specs.Prelude.{◌≤◌, length}
use Rattle.definitions.specs.Arena.{Arena, arena}
use Rattle.replay_cases.specs.declared.cases.Case.{Case}
use Rattle.replay_cases.specs.declared.cases.OwnedArena.{OwnedArena}

-- the arena that a case holds
abbrev pub owned_in : OwnedArena → Arena
owned_in a = arena a.prev.items a.next.items a.generation.items a.payload.items a.header.items

-- no part of a case has more than 64 words
pub record Fits (c : Case) : Type 0 where
  pub prev : length c.arena.prev.items ≤ 64
  pub next : length c.arena.next.items ≤ 64
  pub generation : length c.arena.generation.items ≤ 64
  pub payload : length c.arena.payload.items ≤ 64
  pub header : length c.arena.header.items ≤ 64
  pub commands : length c.commands.items ≤ 64
  pub lent : length c.lent.items ≤ 64
