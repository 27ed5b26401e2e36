-- The rest of a walk, as the code holds it.
use Rattle.std.specs.Prelude.{ℕ, List}
use Rattle.lent.specs.Arenas.{checked_of}
use Rattle.chain_iterators.specs.Walk.{walk_of, walk_words}
use Rattle.chain_ahead.specs.Ahead.{slots_ahead}
use Rattle.chain_ahead.specs.declared.ChainWalk.{ChainWalk}

-- the slots that it answers
abbrev pub rest_of : ChainWalk → List ℕ
rest_of w = slots_ahead (checked_of w.arena) (walk_of w.walk)

-- the words of its state
abbrev pub rest_words : ChainWalk → List ℕ
rest_words w = walk_words w.walk
