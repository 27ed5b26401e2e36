-- `chain_edits::break_side` meets its contract. A neighbour of a link is in the stack, so its word can be written; which side it is on decides only which of the two
-- slots is which. Assumes nothing.
use borrow.Author.Rules.{rules}
use Rattle.chain_edits.proofs.Reading.{found_stale, stands_there}
use Rattle.chain_edits.proofs.Sides.{beside, side_stale, side_none, side_done, from_stands, to_stands}
use Rattle.chain_edits.proofs.break_side.Goals as goal

pub returns-then-stale-clause-edited : goal.returns-then-stale-clause-edited
returns-then-stale-clause-edited c = side_stale _ _ c.args.after (found_stale c.lent-now.ensures _ c.stale.ensures c.if-stale.true)

pub slot_at-its_prev-requires : goal.slot_at-its_prev-requires
slot_at-its_prev-requires c = let at_p = stands_there c.lent-now.ensures _ c.requires c.stale.ensures c.if-stale.false in (at_p.some, at_p.in_prev)

pub slot_at-its_next-requires : goal.slot_at-its_next-requires
slot_at-its_next-requires c = let at_p = stands_there c.lent-now.ensures _ c.requires c.stale.ensures c.if-stale.false in (at_p.some, at_p.in_next)

pub returns-then-neighbour-eq0-clause-edited : goal.returns-then-neighbour-eq0-clause-edited
returns-then-neighbour-eq0-clause-edited c =
    side_none (beside c.lent-now.ensures _ _ c.requires c.stale.ensures c.if-stale.false c.slot_at-its_prev.ensures c.slot_at-its_next.ensures (search rules)) c.if-neighbour-eq0.true

pub set_at-requires : goal.set_at-requires
set_at-requires c =
    from_stands {after = c.args.after} (beside c.lent-now.ensures _ _ c.requires c.stale.ensures c.if-stale.false c.slot_at-its_prev.ensures c.slot_at-its_next.ensures (search rules)) c.if-neighbour-eq0.false (search rules)

pub set_at-requires-2 : goal.set_at-requires-2
set_at-requires-2 c =
    to_stands {after = c.args.after} (beside c.lent-now.ensures _ _ c.requires c.stale.ensures c.if-stale.false c.slot_at-its_prev.ensures c.slot_at-its_next.ensures (search rules)) c.if-neighbour-eq0.false (search rules)

pub returns-clause-edited : goal.returns-clause-edited
returns-clause-edited c =
    side_done (beside c.lent-now.ensures _ _ c.requires c.stale.ensures c.if-stale.false c.slot_at-its_prev.ensures c.slot_at-its_next.ensures (search rules)) c.if-neighbour-eq0.false (search rules) (search rules) c.set_at-2.ensures c.set_at.ensures
