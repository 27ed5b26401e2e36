-- The columns that an arena is laid out in, as the code has them.
use Rattle.std.specs.Prelude.{◌≡◌}
use Rattle.canonical_exchange.specs.Lent.{Lent, lent}
use Rattle.canonical_exchange.specs.declared.Layout.{Layout}

-- the words that the columns hold
abbrev pub columns_of : Layout → Lent
columns_of c = lent c.prev.now c.next.now c.payload.now c.where_from.now

-- d has the columns that c has, whatever words are in them
abbrev pub SameColumns : Layout → Layout → Type 0
SameColumns c d =
    (d.prev.ghost_name ≡ c.prev.ghost_name)
    × (d.next.ghost_name ≡ c.next.ghost_name)
    × (d.payload.ghost_name ≡ c.payload.ghost_name)
    × (d.where_from.ghost_name ≡ c.where_from.ghost_name)
