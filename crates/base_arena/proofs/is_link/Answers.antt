-- `base_arena::is_link` meets its contract where no generation is read. Assumes nothing.
use Rattle.definitions.proofs.Tests.{not_ne}
use Rattle.base_arena.proofs.Walk.{none_read}
use Rattle.base_arena.proofs.is_link.Goals as goal

pub returns-else-not-this : goal.returns-else-not-this
returns-else-not-this g c = none_read _ _ _ c.requires.some (not_ne g.row.ALL_FREE 0 c.if-not-this.false)
