-- What the steps of canonical compression need and leave: one link put in its place, a chain laid out, all chains laid out. The arena a that is laid out and
-- the definition's state l are not the code's: whatever they are, if the columns hold l's links before a step, they hold the next state's links after it.
use Rattle.std.specs.Prelude.{ℕ, suc, ◌≤◌, ◌<◌, ◌≡◌, ◌⊎◌, List, length, Option, Some, None}
use Rattle.definitions.specs.Columns.{at, slots_from}
use Rattle.definitions.specs.Arena.{Arena, capacity_limit, stack_length}
use Rattle.definitions.specs.Compress.{Laying, put_at_i, lowest_from, laid_out}
use Rattle.chains.proofs.Links.{DoublyLinked}
use Rattle.demand3.proofs.Carried.{Room}
use Rattle.demand3.proofs.Loops.{Between, Within}
use Rattle.demand3.proofs.Search.{FreeBetween}
use Rattle.ptr.specs.declared.Slot.{Slot}
use Rattle.canonical_exchange.specs.Lent.{Lent, lent, front, SamePast}
use Rattle.canonical_layout.specs.Held.{Held}

-- the word of a slot, if there is one
abbrev pub slot_or_0 : Option Slot → ℕ
slot_or_0 (Some s) = s.0
slot_or_0 None = 0

-- what laying out needs of an arena that passed the check
pub record Layable (a : Arena) : Type 0 where
  pub linked : DoublyLinked a
  pub room : Room a
  pub small : stack_length a ≤ capacity_limit

-- a is being laid out, and so many links are in place; the link in slot t is next, of a chain whose first link is in slot first or goes there
pub record InChain (a : Arena) (l : Laying) (first t : ℕ) (c : Lent) (laid : ℕ) : Type 0 where
  pub layable : Layable a
  pub within : Within a l first t
  pub i : l.i ≡ suc laid
  pub held : Held l.slots l.from c

-- the link in slot t is in place, and ahead is the slot of its next
pub record LinkLaid (l : Laying) (t : ℕ) (c : Lent) (ahead : ℕ) : Type 0 where
  pub held : Held (put_at_i t l).slots (put_at_i t l).from c
  pub next : ahead ≡ at (put_at_i t l).slots.next l.i

-- a chain is laid out, from the state l to the state after, and now so many links are in place. Slots that were free from i up to j are free still
pub record ChainLaid (a : Arena) (l after : Laying) (laid : ℕ) (c : Lent) (now : ℕ) : Type 0 where
  pub between : Between a after
  pub i : after.i ≡ suc now
  pub held : Held after.slots after.from c
  pub more : laid < now
  pub free : (j : ℕ) → FreeBetween l.slots l.i j → FreeBetween after.slots after.i j

-- a can be laid out, and the columns hold it as it is: every link is in its own slot
pub record Ready (a : Arena) (c : Lent) : Type 0 where
  pub layable : Layable a
  pub held : Held a (slots_from 1 (stack_length a)) c

-- all chains are laid out, in the state l, and no link waits
pub record AllLaid (a : Arena) (l : Laying) (c : Lent) : Type 0 where
  pub between : Between a l
  pub none : lowest_from l.slots l.i ≡ 0
  pub held : Held l.slots l.from c

-- r is the larger of two numbers. `lay_all` takes it by `max`: of the number of links in place and of that of the slots below the one found
pub record Larger (x y r : ℕ) : Type 0 where
  pub left : x ≤ r
  pub right : y ≤ r
  pub one : (r ≡ x) ⊎ (r ≡ y)

-- the columns of the arena a can be laid out together with a where-from column
pub record Stacked (a : Arena) (where_from : List ℕ) : Type 0 where
  pub header : 0 < length a.header
  pub layable : Layable a
  pub room : stack_length a ≤ length where_from

-- the links of a stand laid out in the columns, and words past the stack are the old ones
pub record LaidIn (a : Arena) (where_from : List ℕ) (c : Lent) : Type 0 where
  pub laid : AllLaid a (laid_out a) (front (stack_length a) c)
  pub rest : SamePast (stack_length a) c (lent a.prev a.next a.payload where_from)
