-- What is due of a chain, as the code lists and answers it (REFERENCE, Frame clock).
use Rattle.std.specs.Prelude.{ℕ, Bool, List, [], ◌∷◌}
use Rattle.definitions.specs.Columns.{at, keep}
use Rattle.definitions.specs.Clock.{due}
use Rattle.lent.specs.Arenas.{checked_of}
use Rattle.chain_ahead.specs.Rest.{rest_of}
use Rattle.chain_ahead.specs.declared.ChainWalk.{ChainWalk}
use Rattle.frame_clock.specs.declared.Window.{Window}

-- the payload of slot s is due in the window
abbrev pub is_due : List ℕ → Window → ℕ → Bool
is_due vs w s = due w.from w.to (at vs s)

-- the slots that the rest of a walk answers and whose payloads are due
abbrev pub due_ahead : Window → ChainWalk → List ℕ
due_ahead w k = keep (is_due (checked_of k.arena).payload w) (rest_of k)

-- how many are due, as the words of an answer
abbrev pub count_words : ℕ → List ℕ
count_words count = count ∷ []
