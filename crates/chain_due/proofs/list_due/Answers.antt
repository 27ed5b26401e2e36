use mathlib.Core.Path.{sym}
use native.Mathlib.Omega.{arith}
use Rattle.chain_due.proofs.Passing.{has_payload, due_short, due_none, due_yes, due_no, listed_starts, listed_all, listed_no, listed_small, listed_room, listed_yes}
use Rattle.chain_due.proofs.list_due.Goals as goal

pub loop-p-init : goal.loop-p-init
loop-p-init c = listed_starts _ _ _

pub is_due-requires : goal.is_due-requires
is_due-requires c = rw c.advance.ensures.arena (has_payload c.loop-p.walk.arena _ c.in-Some.ensures.link)

pub bounds-report-reported : goal.bounds-report-reported
bounds-report-reported c = listed_room c.loop-p.invariant c.advance.new.self (due_yes c.args.window c.loop-p.walk c.advance.new.self c.advance.ensures.arena c.in-Some.ensures.ahead (sym c.if-is_due.ensures)) c.requires

pub overflow_add-reported : goal.overflow_add-reported
overflow_add-reported c =
    let yes = due_yes c.args.window c.loop-p.walk c.advance.new.self c.advance.ensures.arena c.in-Some.ensures.ahead (sym c.if-is_due.ensures) in
    omega (arith, listed_small c.loop-p.invariant c.advance.new.self yes, due_short c.args.window c.args.walk)

pub loop-p-preserved-then-is_due : goal.loop-p-preserved-then-is_due
loop-p-preserved-then-is_due c = listed_yes c.loop-p.invariant c.advance.new.self (due_yes c.args.window c.loop-p.walk c.advance.new.self c.advance.ensures.arena c.in-Some.ensures.ahead (sym c.if-is_due.ensures)) c.requires

pub loop-p-preserved : goal.loop-p-preserved
loop-p-preserved c = listed_no c.loop-p.invariant c.advance.new.self (due_no c.args.window c.loop-p.walk c.advance.new.self c.advance.ensures.arena c.in-Some.ensures.ahead (sym c.if-is_due.ensures))

pub returns : goal.returns
returns c = listed_all c.loop-p.invariant (due_none c.args.window c.loop-p.walk c.in_default.ensures.ahead)
