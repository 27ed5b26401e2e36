-- `chain_arena::check_stack` meets its contract. Each return is an end of the verdict: 4 to 10, then the lowest slot at which rule 11 fails with its side, then
-- none. Assumes nothing.
use Rattle.std.proofs.lemmas.Result.{err_from_is_err_and}
use Rattle.chain_arena.proofs.Verdict.{refuses_counts, stack_stays_free, refuses_broken, passes_check}
use Rattle.chain_arena.proofs.check_stack.Goals as goal

pub returns-in_err-counts : goal.returns-in_err-counts
returns-in_err-counts c =
    let p = err_from_is_err_and c.from_residual.result c.from_residual.ensures.1 in
    rw (p.1, p.2) (refuses_counts _ c.args.arena.shaped _ _ _ c.stack_length-n.ensures c.link_count.ensures c.root.ensures _ c.in_err-counts.ensures)

pub interlinks-requires : goal.interlinks-requires
interlinks-requires c = record { stays_free = λ t. stack_stays_free _ c.args.arena.shaped _ _ _ c.stack_length-n.ensures c.link_count.ensures c.root.ensures c.in_ok-counts.ensures }

pub returns-in-Some : goal.returns-in-Some
returns-in-Some c = refuses_broken _ c.args.arena.shaped _ _ _ c.stack_length-n.ensures c.link_count.ensures c.root.ensures c.in_ok-counts.ensures _ _ c.in-Some.ensures c.broken_side-side.ensures

pub returns-in-None : goal.returns-in-None
returns-in-None c = passes_check _ c.args.arena.shaped _ _ _ c.stack_length-n.ensures c.link_count.ensures c.root.ensures c.in_ok-counts.ensures c.in-None.ensures
