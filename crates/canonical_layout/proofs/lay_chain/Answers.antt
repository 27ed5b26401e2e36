use mathlib.Core.Path.{refl, ◌∙◌}
use native.Mathlib.Omega.{arith}
use Rattle.canonical_layout.proofs.ChainInPlace.{going_starts, going_chain, going_below, going_on, going_ends, going_round}
use Rattle.canonical_layout.proofs.lay_chain.Goals as goal
use Rattle.canonical_layout.proofs.lay_chain.Goals.{then-eq-via-then-eq, then-eq-via-else-eq+then-eq-2}

pub loop-first-init : goal.loop-first-init
loop-first-init c = record { going = going_starts _ _ _; lent = (refl, refl, refl, refl) }

pub lay_link-t-requires : goal.lay_link-t-requires
lay_link-t-requires c = going_chain c.loop-first.invariant.going c.requires

pub overflow_add-count : goal.overflow_add-count
overflow_add-count c = omega (arith, going_below c.loop-first.invariant.going c.requires)

pub returns-then-eq-clause-laid : goal.returns-then-eq-clause-laid
returns-then-eq-clause-laid c =
    elim c.then-eq.branch [
      | then-eq-via-then-eq w ↦ going_ends c.loop-first.invariant.going c.lay_link-t.ensures.laid c.eq.ensures w.if-eq.true
      | then-eq-via-else-eq+then-eq-2 w ↦ going_round c.loop-first.invariant.going c.lay_link-t.ensures.laid c.eq.ensures w.if-eq.false w.eq-else-eq.ensures w.if-eq-2.true
    ]

pub loop-first-smaller : goal.loop-first-smaller
loop-first-smaller c = omega (arith, going_below c.loop-first.invariant.going c.requires)

pub loop-first-preserved : goal.loop-first-preserved
loop-first-preserved c =
    let same = c.loop-first.invariant.lent in
    let now = c.lay_link-t.ensures.lent in
    record {
      going = going_on c.loop-first.invariant.going c.lay_link-t.ensures.laid c.eq.ensures c.if-eq.false c.eq-else-eq.ensures c.if-eq-2.false;
      lent = (now.0 ∙ same.0, now.1 ∙ same.1, now.2 ∙ same.2, now.3 ∙ same.3);
    }
