-- What the slot and the side that go with 11 tell of an arena.
use Rattle.std.specs.Prelude.{ℕ, ◌<◌, ◌≡◌, ◌⊎◌, true}
use Rattle.definitions.specs.Columns.{at}
use Rattle.definitions.specs.Arena.{Arena, is_link}
use Rattle.definitions.specs.Check.{Neighbour}
use Rattle.definitions.specs.Reply.{Reply}

-- the prev of slot x is none, or a link whose next is x; and the next of slot x is none, or a link whose prev is x
abbrev pub PrevFine : Arena → ℕ → Type 0
PrevFine a x = Neighbour a a.next x (at a.prev x)

abbrev pub NextFine : Arena → ℕ → Type 0
NextFine a x = Neighbour a a.prev x (at a.next x)

-- slot is the lowest link of a at which rule 11 fails: on side 1 its prev does, on side 2 its prev is fine and its next does
pub record LowestBroken (a : Arena) (slot side : ℕ) : Type 0 where
  pub link : is_link a slot ≡ true
  pub sides : (side ≡ 1) ⊎ (side ≡ 2)
  pub prev : side ≡ 1 → PrevFine a slot → ⊥
  pub next : side ≡ 2 → PrevFine a slot × (NextFine a slot → ⊥)
  pub lower : (x : ℕ) → x < slot → is_link a x ≡ true → PrevFine a x × NextFine a x

-- a reply r to a call on the arena a: 11 comes with the lowest broken slot and its side, every other number with 0 and 0
pub record NamesLowest (a : Arena) (r : Reply) : Type 0 where
  pub eleven : r.number ≡ 11 → LowestBroken a r.broken r.side
  pub other : (r.number ≡ 11 → ⊥) → (r.broken ≡ 0) × (r.side ≡ 0)
