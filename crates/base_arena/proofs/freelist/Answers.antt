use Rattle.base_arena.proofs.Walk.{visit_whole}
use Rattle.base_arena.proofs.freelist.Goals as goal

pub returns-then-to-slot : goal.returns-then-to-slot
returns-then-to-slot g c = search visit_whole
