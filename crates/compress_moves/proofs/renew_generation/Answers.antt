-- `compress_moves::renew_generation` meets its contract, in each of its three ways. Assumes nothing.
use Rattle.compress_moves.proofs.Renewing.{renewed_by_reset, renewed_by_raise, not_renewed}
use Rattle.compress_moves.proofs.renew_generation.Goals as goal

pub returns-then-reset : goal.returns-then-reset
returns-then-reset c ps ns gs vs = rw c.if-reset.true (renewed_by_reset _ _)

pub returns-then-header-ne0 : goal.returns-then-header-ne0
returns-then-header-ne0 c ps ns gs vs = rw c.if-reset.false (renewed_by_raise _ _ c.if-header-ne0.true (c.inc_generation.ensures ps ns gs vs))

pub returns : goal.returns
returns c ps ns gs vs = rw c.if-reset.false (not_renewed _ _ c.if-header-ne0.false)
