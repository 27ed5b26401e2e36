-- The walk's state and answers as the definitions have them, and as words (REFERENCE, Walk).
use Rattle.std.specs.Prelude.{ℕ, ◌≡◌, ◌⊎◌, true, List, Option, Some, None}
use Rattle.definitions.specs.Arena.{Arena, is_link}
use Rattle.definitions.specs.Walk.{Walk, walk, state_words, Stepped, none}
use Rattle.ptr.specs.declared.Ptr.{Ptr}
use Rattle.ptr.specs.Pointers.{pointer_of}
use Rattle.chain_iterators.specs.declared.ChainPtrAdvancer.{ChainPtrAdvancer}

-- the code's state: where it began, its position, its direction and how many steps may advance
abbrev pub walk_of : ChainPtrAdvancer → Walk
walk_of w = walk w.init.0 w.ptr.0 w.switch w.max_advances

-- what a step answered, and the next state
abbrev pub stepped_of : Option Ptr → ChainPtrAdvancer → Stepped
stepped_of (Some p) w = record { answer = pointer_of p; state = walk_of w }
stepped_of None w = none (walk_of w)

-- s is no slot, or a link of a: where a walk along one chain of an arena that passed the check is
abbrev pub OnChain : Arena → ℕ → Type 0
OnChain a s = (s ≡ 0) ⊎ (is_link a s ≡ true)

-- the words of the code's state
abbrev pub walk_words : ChainPtrAdvancer → List ℕ
walk_words w = state_words (walk_of w)
