-- `small_printer::SmallArena::new`: the stack that is told fits into the columns. Assumes nothing.
use Rattle.all_small.proofs.SmallCall.{told_within}
use Rattle.small_printer.proofs.SmallArena.new.Goals as goal

pub invariant_of-result : goal.invariant_of-result
invariant_of-result c = record { within = told_within _ _ _ c.chain_arena_small_arena-given.ensures.answered }
