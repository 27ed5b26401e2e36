-- The report of a drain: five words for each link that is removed (REFERENCE, Drain).
use Rattle.std.specs.Prelude.{ℕ, zero, suc, List, [], ◌∷◌, get_or, drop}

-- the slots that the first items of a report name: of each five words the first
unfoldable pub item_slots : ℕ → List ℕ → List ℕ
item_slots zero report = []
item_slots (suc items) report = get_or report 0 0 ∷ item_slots items (drop 5 report)
