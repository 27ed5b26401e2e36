-- `chain_due::due_count` meets its contract: first the pointer is tried, then the window. Assumes nothing.
use mathlib.Core.Path.{ap}
use Rattle.std.proofs.lemmas.Result.{err_from_is_err_and}
use Rattle.chain_ahead.proofs.Started.{StartedAt, started, not_started}
use Rattle.lent.specs.Arenas.{checked_of}
use Rattle.ptr.specs.Pointers.{pointer_of}
use Rattle.chain_due.proofs.Answers.{count_stale, count_no_window, count_done_lem}
use Rattle.chain_due.proofs.due_count.Goals as goal
use Rattle.chain_due.proofs.due_count.Goals.{In_ok-walk}

pub returns-in_err-walk : goal.returns-in_err-walk
returns-in_err-walk c =
    let q = err_from_is_err_and c.from_residual.result c.from_residual.ensures.1 in
    rw (q.1, q.2) (count_stale (not_started _ _ _ c.in_err-walk.ensures.started) _ _ _)

-- the walk that was started
start : (c : In_ok-walk) → StartedAt (checked_of c.args.arena) (pointer_of c.args.p) c.in_ok-walk.walk
start c = started _ _ c.in_ok-walk.walk c.in_ok-walk.ensures.started (ap checked_of c.in_ok-walk.ensures.arena)

pub returns-in_err-window : goal.returns-in_err-window
returns-in_err-window c =
    let q = err_from_is_err_and c.from_residual-in_err-window.result c.from_residual-in_err-window.ensures.1 in
    rw (q.1, q.2, c.in_err-window.ensures.0) (count_no_window c.in_ok-walk.walk (start (goal.at.returns-in_err-window c).In_ok-walk) _ _ _ c.in_err-window.ensures.1)

pub returns : goal.returns
returns c =
    rw (← c.in_ok-window.ensures.0, ← c.in_ok-window.ensures.1)
    (count_done_lem c.in_ok-walk.walk (start (goal.at.returns c).In_ok-walk) c.in_ok-window.window _ c.due_ahead.ensures)
