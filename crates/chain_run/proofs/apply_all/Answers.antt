use borrow.Author.Rules.{rules}
use lib.Seq.{length-take-le}
use mathlib.Core.Path.{refl}
use native.Mathlib.Omega.{arith}
use Rattle.chain_run.proofs.Going.{starts, passes, goes_on, ends}
use Rattle.chain_run.proofs.apply_all.Goals as goal

pub loop-i-init : goal.loop-i-init
loop-i-init c = (starts _ _ _ _, search rules)

pub apply_at-requires-clause-well_formed : goal.apply_at-requires-clause-well_formed
apply_at-requires-clause-well_formed c = passes _ _ _ _ _ _ _ _ c.requires.well_formed c.loop-i.invariant.0

pub loop-i-preserved : goal.loop-i-preserved
loop-i-preserved c =
    let size = length-take-le _ c.args.answers.now c.requires.room in
    (goes_on _ _ _ _ _ _ _ _ _ c.loop-i.invariant.0 (omega (arith, size)) (omega (arith, size)) (rw (← c.answer_word.ensures) at c.apply_at.ensures.applied), search rules)

pub returns-clause-applied : goal.returns-clause-applied
returns-clause-applied c = ends _ _ _ _ _ _ _ _ c.loop-i.invariant.0 refl c.requires.room c.loop-i-test.false
