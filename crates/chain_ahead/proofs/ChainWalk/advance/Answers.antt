-- `chain_ahead::ChainWalk::advance` meets its contract: the step stays on the chain, and what it answers is the first of the links that were ahead. Assumes
-- nothing.
use Rattle.chain_iterators.specs.Walk.{walk_of}
use Rattle.chain_ahead.proofs.Ahead.{advanced_on_chain, advanced, answers_link}
use Rattle.chain_ahead.proofs.ChainWalk.advance.Goals as goal

pub invariant_of-self : goal.invariant_of-self
invariant_of-self c =
    let now = c.args.self.now in
    record { on_chain = advanced_on_chain _ (walk_of now.walk) c.advance_on_chain.new.self now.arena.passed c.advance_on_chain.result (rw c.arena.ensures at c.advance_on_chain.ensures.step) now.on_chain }

pub returns-clause-ahead : goal.returns-clause-ahead
returns-clause-ahead c = advanced _ _ _ _ (rw c.arena.ensures at c.advance_on_chain.ensures.step) c.advance_on_chain.ensures.some

pub returns-clause-link : goal.returns-clause-link
returns-clause-link c = answers_link _ (walk_of c.args.self.now.walk) _ _ (rw c.arena.ensures at c.advance_on_chain.ensures.step) c.advance_on_chain.ensures.some
