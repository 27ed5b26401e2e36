use Rattle.base_freelist.proofs.Threaded.{relisting_starts, relisting_passes, relisting_lists, relisted}
use Rattle.base_freelist.proofs.relist.Goals as goal

pub loop-i-init : goal.loop-i-init
loop-i-init c = relisting_starts _ _ _

pub loop-i-preserved-then-generation-i-eq0 : goal.loop-i-preserved-then-generation-i-eq0
loop-i-preserved-then-generation-i-eq0 c = relisting_lists c.loop-i.invariant c.loop-i-test.true c.if-generation-i-eq0.true c.freelist_pointer.ensures

pub loop-i-preserved : goal.loop-i-preserved
loop-i-preserved c = relisting_passes c.loop-i.invariant c.loop-i-test.true c.if-generation-i-eq0.false

pub returns : goal.returns
returns c = relisted c.loop-i.invariant c.loop-i-test.false
