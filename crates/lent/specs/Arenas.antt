-- The arenas that lent buffers hold (REFERENCE, Arena).
use Rattle.std.specs.Prelude.{◌≡◌}
use Rattle.definitions.specs.Arena.{Arena, arena}
use Rattle.definitions.specs.Lent.{lent}
use Rattle.lent.specs.declared.LentArena.{LentArena}
use Rattle.lent.specs.declared.ArenaRef.{ArenaRef}
use Rattle.lent.specs.declared.CheckedArena.{CheckedArena}
use Rattle.lent.specs.declared.ArenaMut.{ArenaMut}
use Rattle.lent.specs.declared.LinksMut.{LinksMut}
use Rattle.lent.specs.declared.HeaderMut.{HeaderMut}

-- the arena in buffers that are lent to be read
abbrev pub lent_of : LentArena → Arena
lent_of a = lent a.prev a.next a.generation a.payload a.header

abbrev pub arena_of : ArenaRef → Arena
arena_of a = lent a.prev a.next a.generation a.payload a.header

abbrev pub checked_of : CheckedArena → Arena
checked_of a = lent a.prev a.next a.generation a.payload a.header

-- the arena in buffers that are lent to be written
abbrev pub held_in : ArenaMut → Arena
held_in a = arena a.prev.now a.next.now a.generation.now a.payload.now a.header.now

-- b holds the buffers that a holds, whatever words are in them
abbrev pub SameBuffers : ArenaMut → ArenaMut → Type 0
SameBuffers a b =
    (b.prev.ghost_name ≡ a.prev.ghost_name)
    × (b.next.ghost_name ≡ a.next.ghost_name)
    × (b.generation.ghost_name ≡ a.generation.ghost_name)
    × (b.payload.ghost_name ≡ a.payload.ghost_name)
    × (b.header.ghost_name ≡ a.header.ghost_name)

-- the arena of which only the link columns are lent to be written
abbrev pub links_of : LinksMut → Arena
links_of a = arena a.prev.now a.next.now a.generation.now a.payload.now a.header.now

-- b holds the link columns that a holds, whatever words are in them, and the rest of a as it is
abbrev pub SameLinks : LinksMut → LinksMut → Type 0
SameLinks a b =
    (b.prev.ghost_name ≡ a.prev.ghost_name)
    × (b.next.ghost_name ≡ a.next.ghost_name)
    × (b.generation ≡ a.generation)
    × (b.payload ≡ a.payload)
    × (b.header ≡ a.header)

-- the arena of which only the header is lent to be written
abbrev pub header_of : HeaderMut → Arena
header_of a = arena a.prev.now a.next.now a.generation.now a.payload.now a.header.now

-- b holds the header that a holds, whatever words are in it, and the rest of a as it is
abbrev pub SameHeader : HeaderMut → HeaderMut → Type 0
SameHeader a b =
    (b.prev ≡ a.prev)
    × (b.next ≡ a.next)
    × (b.generation ≡ a.generation)
    × (b.payload ≡ a.payload)
    × (b.header.ghost_name ≡ a.header.ghost_name)
