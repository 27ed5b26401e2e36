-- The arena that a function is lent as four columns and a header, for contracts: in a `requires` as it is, in an `ensures` as it was at entry and as
-- it is at exit. A column that is lent for reading alone is at exit what it was at entry (REFERENCE, Arena).
use Rattle.std.specs.Prelude.{ℕ, List}
use Rattle.std.specs.Borrow.{Bor}
use denote.Triple.Both.{Both}
use Rattle.definitions.specs.Arena.{Arena, arena}

-- a lent column, or header
abbrev pub Column : Type 0
Column = Bor (List ℕ)

abbrev pub lent : Column → Column → Column → Column → Column → Arena
lent ps ns gs vs h = arena ps.now ns.now gs.now vs.now h.now

abbrev pub at_entry : {A B C D E : Type 0} → Both Column A → Both Column B → Both Column C → Both Column D → Both Column E → Arena
at_entry ps ns gs vs h = lent ps.entry ns.entry gs.entry vs.entry h.entry

abbrev pub at_exit : {A B C D E : Type 0} → Both A Column → Both B Column → Both C Column → Both D Column → Both E Column → Arena
at_exit ps ns gs vs h = lent ps.exit ns.exit gs.exit vs.exit h.exit
