-- The exchange of two slots in place: the link in slot t goes to slot i, and what is there, a link or nothing, to slot t
-- (REFERENCE, Canonical compression).
use Rattle.std.specs.Prelude.{ℕ, ◌≤◌, ◌<◌, ◌≡◌, cond, List, length, eqb}
use Rattle.definitions.specs.Columns.{at, put}
use Rattle.definitions.specs.Compress.{exchange_words}
use Rattle.canonical_exchange.specs.declared.Named.{Named}
use Rattle.canonical_exchange.specs.Lent.{Lent}

-- slots i and t stand in the column
pub record Inside (xs : List ℕ) (i t : ℕ) : Type 0 where
  pub i_some : 0 < i
  pub t_some : 0 < t
  pub i_within : i ≤ length xs
  pub t_within : t ≤ length xs

-- what a slot names, none where nobody is in the slot; who says who is in it
unfoldable pub held_only : ℕ → ℕ → ℕ
held_only who name = cond (eqb who 0) 0 name

-- what the link in slot t names in the column xs, and what who is in slot i names; ws says who is in a slot
pub record NamedIn (xs ws : List ℕ) (i t : ℕ) (r : Named) : Type 0 where
  pub moved : r.moved.0 ≡ at xs t
  pub other : r.other.0 ≡ held_only (at ws i) (at xs i)

-- slots i and t stand in the columns of neighbours, and so do the neighbours that are renamed
pub record LinksInReach (ps ns ws : List ℕ) (i t : ℕ) : Type 0 where
  pub in_prev : Inside ps i t
  pub in_next : Inside ns i t
  pub in_from : Inside ws i t
  pub prev0 : at ps t ≤ length ns
  pub next0 : at ns t ≤ length ps
  pub prev1 : held_only (at ws i) (at ps i) ≤ length ns
  pub next1 : held_only (at ws i) (at ns i) ≤ length ps

-- and they stand in the other columns
pub record InReach (c : Lent) (i t : ℕ) : Type 0 where
  pub links : LinksInReach c.prev c.next c.where_from i t
  pub in_payload : Inside c.payload i t

-- a column of neighbours in which slots i and t are renamed where their neighbours in the column back name them, and then exchanged
unfoldable pub renamed_words : List ℕ → List ℕ → List ℕ → ℕ → ℕ → List ℕ
renamed_words xs back ws i t = exchange_words i t (put (put xs (at back t) i) (held_only (at ws i) (at back i)) t)

-- the words that the exchange leaves
pub record Exchanged (c left : Lent) (i t : ℕ) : Type 0 where
  pub prev : left.prev ≡ renamed_words c.prev c.next c.where_from i t
  pub next : left.next ≡ renamed_words c.next c.prev c.where_from i t
  pub payload : left.payload ≡ exchange_words i t c.payload
  pub from : left.where_from ≡ exchange_words i t c.where_from
