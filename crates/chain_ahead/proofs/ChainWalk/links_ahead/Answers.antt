use native.Mathlib.Omega.{arith}
use Rattle.chain_ahead.proofs.Ahead.{rest_short, one_less}
use Rattle.chain_ahead.proofs.ChainWalk.links_ahead.Goals as goal

pub overflow_add-links : goal.overflow_add-links
overflow_add-links c = omega (arith, c.loop-self.invariant, rest_short c.args.self, one_less c.loop-self.self c.advance.new.self _ c.advance.ensures.ahead c.loop-self-test.ensures)
