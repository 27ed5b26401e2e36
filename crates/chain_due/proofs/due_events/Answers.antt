-- `chain_due::due_events` meets its contract: the pointer is tried first, then the window, then the room in the report. Assumes nothing.
use mathlib.Core.Path.{sym, ap}
use borrow.Author.Tests.{ltb-false}
use Rattle.std.proofs.lemmas.Result.{err_from_is_err_and}
use Rattle.lent.specs.Arenas.{checked_of}
use Rattle.ptr.specs.Pointers.{pointer_of}
use Rattle.chain_ahead.proofs.Started.{StartedAt, started, not_started}
use Rattle.chain_due.proofs.Answers.{events_stale, events_no_window, events_short, events_done_lem}
use Rattle.chain_due.proofs.due_events.Goals as goal
use Rattle.chain_due.proofs.due_events.Goals.{In_ok-walk}

pub returns-in_err-walk : goal.returns-in_err-walk
returns-in_err-walk c =
    let q = err_from_is_err_and c.from_residual.result c.from_residual.ensures.1 in
    rw (q.1, q.2) (events_stale (not_started _ _ _ c.in_err-walk.ensures.started) _ _ _)

-- the walk that was started
start : (c : In_ok-walk) → StartedAt (checked_of c.args.arena) (pointer_of c.args.p) c.in_ok-walk.walk
start c = started _ _ c.in_ok-walk.walk c.in_ok-walk.ensures.started (ap checked_of c.in_ok-walk.ensures.arena)

pub returns-in_err-window : goal.returns-in_err-window
returns-in_err-window c =
    let q = err_from_is_err_and c.from_residual-in_err-window.result c.from_residual-in_err-window.ensures.1 in
    rw (q.1, q.2, c.in_err-window.ensures.0) (events_no_window c.in_ok-walk.walk (start (goal.at.returns-in_err-window c).In_ok-walk) _ _ _ c.in_err-window.ensures.1)

pub returns-then-too_few : goal.returns-then-too_few
returns-then-too_few c =
    rw (← c.in_ok-window.ensures.0, ← c.in_ok-window.ensures.1)
    (events_short c.in_ok-walk.walk (start (goal.at.returns-then-too_few c).In_ok-walk) c.in_ok-window.window _ (sym c.if-too_few.ensures))

pub list_due-requires : goal.list_due-requires
list_due-requires c = ltb-false _ _ (sym c.if-too_few.ensures)

pub returns : goal.returns
returns c =
    rw (← c.in_ok-window.ensures.0, ← c.in_ok-window.ensures.1)
    (events_done_lem c.in_ok-walk.walk (start (goal.at.returns c).In_ok-walk) c.in_ok-window.window _ (sym c.if-too_few.ensures) c.list_due.ensures)
