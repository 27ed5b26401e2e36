-- `found` of a pointer meets its contract: where it is not stale, there is its link. Assumes nothing.
use Rattle.insert_places.proofs.Parts.{pointer_found}
use Rattle.insert_places.proofs.PtrLinkName.found.Goals as goal

pub returns : goal.returns
returns c = pointer_found c.args.arena.shaped _ c.stack_length.ensures c.stale.ensures c.if-stale.false
