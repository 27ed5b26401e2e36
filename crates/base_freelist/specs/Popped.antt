-- What popping leaves of a column.
use Rattle.std.specs.Prelude.{ℕ, List, take}
use Rattle.definitions.specs.Columns.{settled}
use Rattle.definitions.specs.Arena.{Arena, arena}

-- column xs after the slots past m, up to n, were popped
abbrev pub popped : ℕ → ℕ → List ℕ → List ℕ
popped m n xs = settled n (take m xs) xs

-- arena a after these slots were popped: of all columns, while the header is as it was
abbrev pub all_popped : ℕ → ℕ → Arena → Arena
all_popped m n a = arena (popped m n a.prev) (popped m n a.next) (popped m n a.generation) (popped m n a.payload) a.header
