-- `chain_traits::get_link` meets its contract. What get_link_no_gen found is the link at p, and in an arena that passed the check its neighbours
-- are within the stack, where their generations are read. Assumes nothing.
use Rattle.lent.specs.Arenas.{checked_of}
use Rattle.ptr.specs.Pointers.{pointer_of}
use Rattle.chain_traits.proofs.Found.{FoundAt, found, found_within, found_link, none_found}
use Rattle.chain_traits.proofs.get_link.Goals as goal
use Rattle.chain_traits.proofs.get_link.Goals.{In_ok-l}

link_there : (c : In_ok-l) → FoundAt (checked_of c.args.arena) (pointer_of c.args.p) c.in_ok-l.l
link_there c = found _ _ _ (rw c.arena.ensures at c.in_ok-l.ensures)

pub pointer_to-requires : goal.pointer_to-requires
pointer_to-requires c = (found_within _ _ _ _ c.args.arena.passed (link_there (goal.at.pointer_to-requires c).In_ok-l)).0

pub pointer_to-requires-2 : goal.pointer_to-requires-2
pointer_to-requires-2 c = (found_within _ _ _ _ c.args.arena.passed (link_there (goal.at.pointer_to-requires-2 c).In_ok-l)).1

pub returns-in_err-l : goal.returns-in_err-l
returns-in_err-l c = rw c.from_residual.ensures (none_found _ _ (rw c.arena.ensures at c.in_err-l.ensures))

pub returns : goal.returns
returns c = found_link _ _ _ _ _ (link_there (goal.at.returns c).In_ok-l) c.pointer_to.ensures c.pointer_to-2.ensures
