-- The columns that are written while an arena is laid out, lent up to the stack length: what is above it is not the code's business.
use Rattle.std.specs.Prelude.{ℕ, ◌≡◌, List, take, drop}

pub record Lent : Type 0 where
  pub prev : List ℕ
  pub next : List ℕ
  pub payload : List ℕ
  pub where_from : List ℕ

abbrev pub lent : List ℕ → List ℕ → List ℕ → List ℕ → Lent
lent ps ns vs ws = record { prev = ps; next = ns; payload = vs; where_from = ws }

-- the columns up to slot n
abbrev pub front : ℕ → Lent → Lent
front n c = lent (take n c.prev) (take n c.next) (take n c.payload) (take n c.where_from)

-- columns whose words past slot n are the old ones
pub record SamePast (n : ℕ) (c old : Lent) : Type 0 where
  pub prev : drop n c.prev ≡ drop n old.prev
  pub next : drop n c.next ≡ drop n old.next
  pub payload : drop n c.payload ≡ drop n old.payload
  pub where_from : drop n c.where_from ≡ drop n old.where_from
