-- What a case's arena is once what it lent to be written is given back.
use Rattle.std.specs.Prelude.{ℕ, List}
use Rattle.std.specs.Borrow.{follows, MutBor, Fml, Array, u32}
use Rattle.std.specs.Vec.{with_items}
use Rattle.lent.specs.declared.HeaderMut.{HeaderMut}
use Rattle.replay_cases.specs.declared.cases.OwnedArena.{OwnedArena}
use Rattle.replay_cases.specs.contracts.cases.OwnedArena.{the_row}

-- a with these words in its header
abbrev pub with_header : OwnedArena → List ℕ → OwnedArena
with_header a words = record a { header = with_items a.header words }

-- a ends with the header that is left behind h, and with its columns as they are
abbrev pub LendsHeader : MutBor OwnedArena → HeaderMut → Fml
LendsHeader a h = follows the_row (Array u32 0) a.ghost_name h.header.ghost_name (with_header a.now)
