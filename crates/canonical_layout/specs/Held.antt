-- The columns as the code has them, against the slots as the definition has them.
use Rattle.std.specs.Prelude.{ℕ, ◌≤◌, ◌≡◌, ◌≢◌, true, false, List, length}
use Rattle.definitions.specs.Columns.{at}
use Rattle.definitions.specs.Arena.{Arena, stack_length, is_link}
use Rattle.chains.proofs.Links.{DoublyLinked}
use Rattle.canonical_exchange.specs.Lent.{Lent}

-- the columns hold the links that are in the slots b now: their words are those of b, and the where-from column says who is in a slot, as from does,
-- and 0 where nobody is. Words of free slots are not the code's business
pub record Held (b : Arena) (from : List ℕ) (c : Lent) : Type 0 where
  pub prev_long : length c.prev ≡ stack_length b
  pub next_long : length c.next ≡ stack_length b
  pub payload_long : length c.payload ≡ stack_length b
  pub from_long : length c.where_from ≡ stack_length b
  pub prev : (s : ℕ) → is_link b s ≡ true → at c.prev s ≡ at b.prev s
  pub next : (s : ℕ) → is_link b s ≡ true → at c.next s ≡ at b.next s
  pub payload : (s : ℕ) → is_link b s ≡ true → at c.payload s ≡ at b.payload s
  pub who : (s : ℕ) → is_link b s ≡ true → at c.where_from s ≡ at from s
  pub nobody : (s : ℕ) → is_link b s ≡ false → at c.where_from s ≡ 0

-- up to slot k each link's own slot stands in the column, and 0 for a free slot
pub record Marked (gs : List ℕ) (k : ℕ) (ws : List ℕ) : Type 0 where
  pub link : (s : ℕ) → s ≤ k → at gs s ≢ 0 → at ws s ≡ s
  pub free : (s : ℕ) → s ≤ k → at gs s ≡ 0 → at ws s ≡ 0

-- the column, as long as the stack, has a word exactly where a link is
pub record Occupied (b : Arena) (ws : List ℕ) : Type 0 where
  pub long : length ws ≡ stack_length b
  pub somebody : (s : ℕ) → is_link b s ≡ true → at ws s ≢ 0
  pub nobody : (s : ℕ) → is_link b s ≡ false → at ws s ≡ 0

-- from the link in slot o the column leads back along prev
pub record Rooted (b : Arena) (ps : List ℕ) (o : ℕ) : Type 0 where
  pub long : length ps ≡ stack_length b
  pub linked : DoublyLinked b
  pub same : (s : ℕ) → is_link b s ≡ true → at ps s ≡ at b.prev s
  pub link : is_link b o ≡ true
