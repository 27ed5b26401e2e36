-- `compress_moves::move_down` meets its contract. Where no slot is free all words are in place. Else the loop's invariant: the words of the first k
-- links are at the front, and the words behind them are the old ones, since every link is past its place. Assumes nothing.
use Rattle.compress_moves.proofs.Moving.{Moving}
use Rattle.compress_moves.proofs.move_down.Given as goal

abbrev pub invariant-loop-k : goal.invariant-loop-k
invariant-loop-k l = Moving l.initial.prev l.initial.next l.initial.payload l.numbers l.n l.links l.k l.prev l.next l.payload
