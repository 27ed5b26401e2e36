-- `chain_removal::remove` meets its contract. What was read before is what the link was; a link of a well formed arena can be taken out. Assumes nothing.
use mathlib.Core.Path.{◌∙◌}
use Rattle.base_slots.proofs.Removable.{removable}
use Rattle.chain_removal.proofs.Removal.{remove_none, remove_found, found_there}
use Rattle.chain_traits.proofs.Fresh.{fresh_link}
use Rattle.ptr.specs.Pointers.{pointer_of}
use Rattle.well_formed.proofs.WellFormed.{shape_if_well_formed}
use Rattle.chain_removal.proofs.remove.Goals as goal

pub shaped-requires : goal.shaped-requires
shaped-requires c = rw c.lent.ensures (shape_if_well_formed _ _ c.requires)

pub returns-in_default-clause-removed : goal.returns-in_default-clause-removed
returns-in_default-clause-removed c = remove_none (c.shaped.ensures ∙ c.lent.ensures) _ _ (rw c.in_default.is at c.get_link_no_gen.ensures)

pub take_out-requires : goal.take_out-requires
take_out-requires c = removable _ _ c.requires (fresh_link _ _ (found_there (c.shaped.ensures ∙ c.lent.ensures) (pointer_of c.args.p) c.in-Some.link c.in-Some.ensures).fresh)

pub returns-then-take_out-clause-removed : goal.returns-then-take_out-clause-removed
returns-then-take_out-clause-removed c = rw c.if-take_out.true at (remove_found (found_there (c.shaped.ensures ∙ c.lent.ensures) (pointer_of c.args.p) c.in-Some.link c.in-Some.ensures) c.take_out.ensures.taken_out)

pub returns-else-take_out-clause-removed : goal.returns-else-take_out-clause-removed
returns-else-take_out-clause-removed c = rw c.if-take_out.false at (remove_found (found_there (c.shaped.ensures ∙ c.lent.ensures) (pointer_of c.args.p) c.in-Some.link c.in-Some.ensures) c.take_out.ensures.taken_out)
