-- The order of a walk: from its start to the end of the chain, then from the link before the start back to the chain's beginning; a closed chain is
-- gone round once (REFERENCE, Walk).
use Rattle.std.specs.Prelude.{ℕ, ◌≤◌, ◌≡◌, true, List, [], ◌∷◌, ◌++◌, reverse, length}
use Rattle.definitions.specs.Columns.{count}
use Rattle.definitions.specs.Arena.{Arena, is_link}
use Rattle.statements.specs.Chains.{Kind, closed, IsChain}
use Rattle.definitions.specs.Walk.{start_at, walked}

-- ss is the chain that link o is on, in the order of a walk from o: o and what is after it, then what is before it, backwards
pub record WalkOrder (a : Arena) (o : ℕ) (ss : List ℕ) : Type 0 where
  pub kind : Kind
  pub before : List ℕ
  pub after : List ℕ
  pub chain : IsChain a kind (before ++ o ∷ after)
  pub round : kind ≡ closed → before ≡ []
  pub order : ss ≡ o ∷ after ++ reverse before

-- what a walk from link o answers: its chain in that order, each link once, and then none, however many steps more are made
pub record Walks (a : Arena) (o : ℕ) (ss : List ℕ) : Type 0 where
  pub order : WalkOrder a o ss
  pub links : (s : ℕ) → 1 ≤ count s ss → is_link a s ≡ true
  pub once : (s : ℕ) → count s ss ≤ 1
  pub then_none : (steps : ℕ) → length ss ≤ steps → walked a steps (start_at a o) ≡ ss
