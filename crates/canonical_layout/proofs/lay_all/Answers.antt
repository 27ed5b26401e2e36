use mathlib.Core.Path.{refl, ◌∙◌}
use native.Mathlib.Omega.{arith}
use Rattle.canonical_layout.proofs.ChainsInPlace.{laying_starts, laying_ends, laying_long, laying_goes_on, some_rooted, some_chain, some_more, ready_small}
use Rattle.canonical_layout.proofs.lay_all.Goals as goal

pub loop-found-init : goal.loop-found-init
loop-found-init c = record { laying = laying_starts _; within = omega arith; lent = (refl, refl, refl, refl) }

pub lowest_link-requires : goal.lowest_link-requires
lowest_link-requires c = rw c.occupants.ensures (omega (arith, laying_long c.loop-found.invariant.laying c.requires, ready_small c.requires))

pub start_of-start-requires : goal.start_of-start-requires
start_of-start-requires c =
    let found = rw c.occupants.ensures at c.in-Some.ensures in
    rw c.prev_column.ensures (some_rooted c.loop-found.invariant.laying found.lowest found.some c.requires)

pub lay_chain-laid-requires : goal.lay_chain-laid-requires
lay_chain-laid-requires c =
    let found = rw c.occupants.ensures at c.in-Some.ensures in
    let start = rw c.prev_column.ensures at c.start_of-start.ensures in
    some_chain c.loop-found.invariant.laying found.lowest found.some start c.requires

pub loop-found-smaller : goal.loop-found-smaller
loop-found-smaller c =
    let found = rw c.occupants.ensures at c.in-Some.ensures in
    let start = rw c.prev_column.ensures at c.start_of-start.ensures in
    let laying = c.loop-found.invariant.laying in
    let more = some_more laying found.lowest found.some start c.lay_chain-laid.ensures.laid c.requires in
    omega (arith, more, laying_long laying c.requires)

pub loop-found-preserved : goal.loop-found-preserved
loop-found-preserved c =
    let found = rw c.occupants.ensures at c.in-Some.ensures in
    let start = rw c.prev_column.ensures at c.start_of-start.ensures in
    let laid = c.lay_chain-laid.ensures in
    let laying = c.loop-found.invariant.laying in
    let same = c.loop-found.invariant.lent in
    record {
      laying = rw c.max-passed.ensures (laying_goes_on laying found.lowest found.some start laid.laid);
      within = omega (arith, c.max-passed.ensures, some_more laying found.lowest found.some start laid.laid c.requires);
      lent = (laid.lent.0 ∙ same.0, laid.lent.1 ∙ same.1, laid.lent.2 ∙ same.2, laid.lent.3 ∙ same.3);
    }

pub returns-clause-laid : goal.returns-clause-laid
returns-clause-laid c = laying_ends c.loop-found.invariant.laying (rw c.occupants.ensures at c.in_default.ensures.lowest)
