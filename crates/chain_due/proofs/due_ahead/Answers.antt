use mathlib.Core.Path.{sym, ap}
use lib.ListN.{length}
use native.Mathlib.Omega.{arith}
use Rattle.chain_due.proofs.Passing.{has_payload, due_short, due_none, due_yes, due_no}
use Rattle.chain_due.proofs.due_ahead.Goals as goal

pub is_due-requires : goal.is_due-requires
is_due-requires c = rw c.advance.ensures.arena (has_payload c.loop-p.walk.arena _ c.in-Some.ensures.link)

pub overflow_add-count : goal.overflow_add-count
overflow_add-count c =
    let yes = due_yes c.args.window c.loop-p.walk c.advance.new.self c.advance.ensures.arena c.in-Some.ensures.ahead (sym c.if-is_due.ensures) in
    omega (arith, c.loop-p.invariant, ap length yes, due_short c.args.window c.args.walk)

pub loop-p-preserved-then-is_due : goal.loop-p-preserved-then-is_due
loop-p-preserved-then-is_due c =
    let yes = due_yes c.args.window c.loop-p.walk c.advance.new.self c.advance.ensures.arena c.in-Some.ensures.ahead (sym c.if-is_due.ensures) in
    omega (arith, c.loop-p.invariant, ap length yes)

pub loop-p-preserved : goal.loop-p-preserved
loop-p-preserved c =
    let no = due_no c.args.window c.loop-p.walk c.advance.new.self c.advance.ensures.arena c.in-Some.ensures.ahead (sym c.if-is_due.ensures) in
    omega (arith, c.loop-p.invariant, ap length no)

pub returns : goal.returns
returns c = omega (arith, c.loop-p.invariant, ap length (due_none c.args.window c.loop-p.walk c.in_default.ensures.ahead))
