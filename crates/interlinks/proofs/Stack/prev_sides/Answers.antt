use Rattle.definitions.proofs.Tests.{said_true}
use Rattle.interlinks.proofs.Passes.{going_free, going_start, going_alone, going_middle, going_end, prev_passed_alone}
use Rattle.interlinks.proofs.Stack.prev_sides.Goals as goal
use Rattle.interlinks.proofs.Stack.prev_sides.Goals.{then-generation-i-ne0+then-prev-i-ne0+else-not-leads_back, then-next-i-ne0, else-next-i-ne0, then-generation-i-ne0+else-prev-i-ne0, else-generation-i-ne0}

pub loop-i-preserved : goal.loop-i-preserved
loop-i-preserved g c =
    let going = c.loop-i.invariant in
    let more = c.loop-i-test.true in
    elim c.if-generation-i-ne0.branch [
      | then-generation-i-ne0+then-prev-i-ne0+else-not-leads_back w ↦
          let named = said_true _ _ w.leads_back.ensures w.if-not-leads_back.false in
          rw (w.nexts-is, w.prevs-is) (elim w.if-next-i-ne0.branch [
            | then-next-i-ne0 v ↦ rw v.nexts-is (going_middle going more w.if-generation-i-ne0.true w.if-prev-i-ne0.true named v.if-next-i-ne0.true)
            | else-next-i-ne0 v ↦ rw v.nexts-is (going_end going more w.if-generation-i-ne0.true w.if-prev-i-ne0.true named v.if-next-i-ne0.false)
          ])
      | then-generation-i-ne0+else-prev-i-ne0 w ↦
          rw (w.nexts-is, w.prevs-is) (elim w.if-next-i-ne0.branch [
            | then-next-i-ne0 v ↦ rw v.nexts-is (going_start going more w.if-generation-i-ne0.true w.if-prev-i-ne0.false v.if-next-i-ne0.true)
            | else-next-i-ne0 v ↦ rw v.nexts-is (going_alone going more w.if-generation-i-ne0.true w.if-prev-i-ne0.false v.if-next-i-ne0.false)
          ])
      | else-generation-i-ne0 w ↦ rw (w.nexts-is, w.prevs-is) (going_free going more w.if-generation-i-ne0.false)
    ]

pub returns-else-nexts-prevs : goal.returns-else-nexts-prevs
returns-else-nexts-prevs g c = prev_passed_alone _ _ _ _ c.loop-i.invariant c.loop-i-test.false c.if-nexts-prevs.false
