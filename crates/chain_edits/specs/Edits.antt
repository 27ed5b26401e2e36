-- The break on a side (REFERENCE, Break).
use Rattle.std.specs.Prelude.{Bool, cond, []}
use Rattle.definitions.specs.Arena.{Arena}
use Rattle.definitions.specs.Edit.{break_prev, break_next}
use Rattle.definitions.specs.Read.{Pointer}
use Rattle.definitions.specs.Reply.{Reply}

-- the break on one side of the link at p: break next if after, else break prev
abbrev pub break_side : Arena → Pointer → Bool → Reply
break_side a p after = cond after (break_next a p []) (break_prev a p [])
