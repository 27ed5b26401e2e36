-- `compress_canonical::lay_out` meets its contract: the marked columns hold the arena as it is, up to the stack length, and what is above that is not
-- lent (Stack). Assumes nothing.
use Rattle.compress_canonical.proofs.Stack.{is_ready, is_laid_in}
use Rattle.compress_canonical.proofs.lay_out.Goals as goal

pub lay_chains-requires : goal.lay_chains-requires
lay_chains-requires c = (_, is_ready c.requires c.mark_links.auto.where_from c.mark_links.ensures)

pub returns-clause-laid : goal.returns-clause-laid
returns-clause-laid c =
    let long = c.mark_links.auto.where_from in
    is_laid_in c.requires long c.mark_links.ensures (c.lay_chains.ensures _ (is_ready c.requires long c.mark_links.ensures))
