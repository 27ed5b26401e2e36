-- `chain_edits::exchange_next` meets its contract. Both nexts are read before any word is written, and neighbours are in the stack, also where two of the four links are one. Assumes nothing.
use Rattle.definitions.specs.Edit.{exchange_next}
use Rattle.chain_edits.proofs.Around.{next_stands}
use Rattle.chain_edits.proofs.Reading.{found_fresh, next_read, stands, stands_there, exchange_refused}
use Rattle.chain_edits.proofs.Replies.{exchanged, none_to_exchange}
use Rattle.chain_traits.proofs.Fresh.{reads}
use Rattle.chain_edits.proofs.exchange_next.Goals as goal

pub returns-then-stale-clause-edited : goal.returns-then-stale-clause-edited
unfolding exchange_next
returns-then-stale-clause-edited c = exchange_refused c.lent-now.ensures _ _ (search reads depth 20)

pub returns-then-stale-2-clause-edited : goal.returns-then-stale-2-clause-edited
unfolding exchange_next
returns-then-stale-2-clause-edited c = exchange_refused c.lent-now.ensures _ _ (search reads depth 20)

pub slot_at-d0-requires : goal.slot_at-d0-requires
slot_at-d0-requires c =
    let at_p0 = stands_there c.lent-now.ensures _ c.requires c.stale.ensures c.if-stale.false in
    (at_p0.some, at_p0.in_next)

pub slot_at-d1-requires : goal.slot_at-d1-requires
slot_at-d1-requires c =
    let at_p1 = stands_there c.lent-now.ensures _ c.requires c.stale-2.ensures c.if-stale-2.false in
    (at_p1.some, at_p1.in_next)

pub set_two-requires : goal.set_two-requires
set_two-requires c =
    let at_p0 = stands c.lent-now.ensures _ c.requires c.stale.ensures c.if-stale.false in
    let at_p1 = stands c.lent-now.ensures _ c.requires c.stale-2.ensures c.if-stale-2.false in
    (at_p0.some, at_p0.in_next, at_p1.some, at_p1.in_next)

pub returns-then-d0-eq0-clause-edited : goal.returns-then-d0-eq0-clause-edited
returns-then-d0-eq0-clause-edited c =
    none_to_exchange _ _ _ (found_fresh c.lent-now.ensures _ c.stale.ensures c.if-stale.false) (found_fresh c.lent-now.ensures _ c.stale-2.ensures c.if-stale-2.false)
    (next_read c.lent-now.ensures _ c.slot_at-d0.ensures) (next_read c.lent-now.ensures _ c.slot_at-d1.ensures) c.then-d0-eq0.either

pub set_two-requires-2 : goal.set_two-requires-2
set_two-requires-2 c =
    let at_p0 = stands c.lent-now.ensures _ c.requires c.stale.ensures c.if-stale.false in
    let at_p1 = stands c.lent-now.ensures _ c.requires c.stale-2.ensures c.if-stale-2.false in
    let d0 = next_stands at_p0 (next_read c.lent-now.ensures _ c.slot_at-d0.ensures) c.if-d0-eq0.false in
    let d1 = next_stands at_p1 (next_read c.lent-now.ensures _ c.slot_at-d1.ensures) c.if-d1-eq0.false in
    (d0.0, d0.1, d1.0, d1.1)

pub returns-clause-edited : goal.returns-clause-edited
returns-clause-edited c =
    exchanged _ _ _ (found_fresh c.lent-now.ensures _ c.stale.ensures c.if-stale.false) (found_fresh c.lent-now.ensures _ c.stale-2.ensures c.if-stale-2.false)
    (next_read c.lent-now.ensures _ c.slot_at-d0.ensures) (next_read c.lent-now.ensures _ c.slot_at-d1.ensures) c.if-d0-eq0.false c.if-d1-eq0.false
    c.set_two-2.ensures c.set_two.ensures
