-- `found` of a slot meets its contract. Assumes nothing.
use Rattle.insert_places.proofs.Parts.{slot_found}
use Rattle.insert_places.proofs.SlotLinkName.found.Goals as goal

pub returns : goal.returns
returns c = slot_found c.args.arena.shaped _ c.stack_length.ensures c.is_link.ensures c.if-not-is_link.false
