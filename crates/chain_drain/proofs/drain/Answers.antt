-- `chain_drain::drain` meets its contract. The walk's slots are different links, so each is one still when its turn comes. Assumes nothing.
use mathlib.Core.Path.{ap, ◌∙◌}
use Rattle.std.proofs.lemmas.Result.{err_from_is_err_and}
use Rattle.lent.specs.Arenas.{checked_of, held_in}
use Rattle.ptr.specs.Pointers.{pointer_of}
use Rattle.chain_ahead.proofs.Started.{StartedAt}
use Rattle.chain_drain.proofs.Answers.{drain_none, drain_short, has_room, listed_room, drain_can, drain_done, started_there}
use Rattle.well_formed.proofs.WellFormed.{passes_if_well_formed}
use Rattle.chain_drain.proofs.drain.Goals as goal
use Rattle.chain_drain.proofs.drain.Goals.{In_ok-walk}

pub checked-requires : goal.checked-requires
checked-requires c = rw c.lent.ensures (passes_if_well_formed _ _ c.requires)

pub returns-in_err-walk-clause-drained : goal.returns-in_err-walk-clause-drained
returns-in_err-walk-clause-drained c =
    let p = err_from_is_err_and c.from_residual.result c.from_residual.ensures.1 in
    rw (p.1, p.2) (drain_none (c.checked.ensures ∙ c.lent.ensures) _ _ _ _ c.in_err-walk.ensures.started)

-- the walk that was started, in the arena that is drained
start : (c : In_ok-walk) → StartedAt (held_in c.args.arena.now) (pointer_of c.args.p) c.in_ok-walk.walk
start c = started_there (c.checked.ensures ∙ c.lent.ensures) (pointer_of c.args.p) c.in_ok-walk.walk c.in_ok-walk.ensures.started (ap checked_of c.in_ok-walk.ensures.arena)

pub returns-then-too_short-clause-drained : goal.returns-then-too_short-clause-drained
returns-then-too_short-clause-drained c =
    let start = start (goal.at.returns-then-too_short-clause-drained c).In_ok-walk in
    drain_short c.in_ok-walk.walk start _ _ c.too_short.ensures c.if-too_short.true

pub list_slots-items-requires : goal.list_slots-items-requires
list_slots-items-requires c = has_room _ _ c.too_short.ensures c.if-too_short.false

pub drain_items-overflowed-requires : goal.drain_items-overflowed-requires
drain_items-overflowed-requires c =
    let start = start (goal.at.drain_items-overflowed-requires c).In_ok-walk in
    let list = c.list_slots-items.ensures in
    record {
      drainable = drain_can c.in_ok-walk.walk start list c.requires;
      room = listed_room list c.list_slots-items.auto.report (has_room _ _ c.too_short.ensures c.if-too_short.false);
    }

pub returns-clause-drained : goal.returns-clause-drained
returns-clause-drained c =
    let start = start (goal.at.returns-clause-drained c).In_ok-walk in
    drain_done c.in_ok-walk.walk start c.list_slots-items.ensures (has_room _ _ c.too_short.ensures c.if-too_short.false) c.drain_items-overflowed.ensures.drained
