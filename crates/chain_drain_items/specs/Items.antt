-- What the steps of a drain ask and leave.
use Rattle.std.specs.Prelude.{ℕ, ◌+◌, ◌*◌, ◌≡◌, Bool, List, [], ◌∷◌, ◌++◌, Option, length, take, drop}
use Rattle.std.specs.Option.{unwrap_or}
use Rattle.definitions.specs.Columns.{at, written}
use Rattle.definitions.specs.Arena.{Arena}
use Rattle.definitions.specs.Remove.{removed_all, drain_items, overflow_item}
use Rattle.base_slots.specs.Removal.{TakenOut}
use Rattle.definitions.specs.Report.{item_slots}

-- the slots ss stand in a report, each as the first word of its item, and the words past the items are the old ones
pub record Listed (ss old new : List ℕ) (items : ℕ) : Type 0 where
  pub slots : item_slots items new ≡ ss
  pub rest : drop (5 * items) new ≡ drop (5 * items) old

-- the words of the item that link s becomes
abbrev pub item_words : Arena → ℕ → List ℕ
item_words a s = s ∷ at a.generation s ∷ at a.prev s ∷ at a.next s ∷ at a.payload s ∷ []

-- a report with these words from word i on
abbrev pub overwritten : ℕ → List ℕ → List ℕ → List ℕ
overwritten i ws old = (take i old ++ ws) ++ drop (i + length ws) old

-- link s became the item at word i of the report
pub record ItemDrained (top : ℕ) (a : Arena) (s i : ℕ) (old : List ℕ) (left : Arena) (new : List ℕ) (overflow : Bool) : Type 0 where
  pub taken : TakenOut top a s left overflow
  pub report : new ≡ overwritten i (item_words a s) old

-- the slots ss became the items of the report, and item tells which one made the generation overflow, if one did
pub record ItemsDrained (top : ℕ) (a : Arena) (ss old : List ℕ) (left : Arena) (new : List ℕ) (item : Option ℕ) : Type 0 where
  pub arena : left ≡ removed_all top a ss
  pub report : new ≡ written (drain_items top a ss) old
  pub overflowed : unwrap_or item 0 ≡ overflow_item top a ss 1
