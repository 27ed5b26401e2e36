-- A walk step by step.
use Rattle.std.specs.Prelude.{ℕ, zero, suc, List, [], ◌∷◌}
use Rattle.definitions.specs.Arena.{Arena}
use Rattle.definitions.specs.Walk.{Walk, step}

-- the slots that the first k steps answer, 0 for none
unfoldable pub answers : Arena → ℕ → Walk → List ℕ
answers a zero w = []
answers a (suc k) w = (step a w).answer.slot ∷ answers a k (step a w).state
