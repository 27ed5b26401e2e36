-- `chain_edits::connect` meets its contract. The four tests are those of the definition, in its order; a pointer that is not stale is in both columns. Assumes nothing.
use mathlib.Core.Path.{sym, ◌∙◌}
use Rattle.definitions.specs.Edit.{connect}
use Rattle.chain_edits.proofs.Reading.{found_fresh, next_read, prev_read, stands, stands_there, connect_refused}
use Rattle.chain_edits.proofs.Replies.{connected, is_some}
use Rattle.chain_traits.proofs.Fresh.{reads}
use Rattle.chain_edits.proofs.connect.Goals as goal

pub returns-then-stale-clause-edited : goal.returns-then-stale-clause-edited
unfolding connect
returns-then-stale-clause-edited c = connect_refused c.lent-now.ensures _ _ (search reads depth 20)

pub slot_at-requires : goal.slot_at-requires
slot_at-requires c =
    let here = stands_there c.lent-now.ensures _ c.requires c.stale.ensures c.if-stale.false in
    (here.some, here.in_next)

pub returns-then-slot_at-ne0-clause-edited : goal.returns-then-slot_at-ne0-clause-edited
unfolding connect
returns-then-slot_at-ne0-clause-edited c =
    let some = is_some c.slot_at.ensures c.if-slot_at-ne0.true in
    connect_refused c.lent-now.ensures _ _ (search reads depth 20)

pub returns-then-stale-2-clause-edited : goal.returns-then-stale-2-clause-edited
unfolding connect
returns-then-stale-2-clause-edited c =
    let none = sym c.slot_at.ensures ∙ c.if-slot_at-ne0.false in
    connect_refused c.lent-now.ensures _ _ (search reads depth 20)

pub slot_at-requires-2 : goal.slot_at-requires-2
slot_at-requires-2 c =
    let here = stands_there c.lent-now.ensures _ c.requires c.stale-2.ensures c.if-stale-2.false in
    (here.some, here.in_prev)

pub returns-then-slot_at-ne0-2-clause-edited : goal.returns-then-slot_at-ne0-2-clause-edited
unfolding connect
returns-then-slot_at-ne0-2-clause-edited c =
    let some = is_some c.slot_at-2.ensures c.if-slot_at-ne0-2.true in
    let none = sym c.slot_at.ensures ∙ c.if-slot_at-ne0.false in
    connect_refused c.lent-now.ensures _ _ (search reads depth 20)

pub set_at-requires : goal.set_at-requires
set_at-requires c =
    let here = stands c.lent-now.ensures _ c.requires c.stale.ensures c.if-stale.false in
    (here.some, here.in_next)

pub set_at-requires-2 : goal.set_at-requires-2
set_at-requires-2 c =
    let here = stands c.lent-now.ensures _ c.requires c.stale-2.ensures c.if-stale-2.false in
    (here.some, here.in_prev)

pub returns-clause-edited : goal.returns-clause-edited
returns-clause-edited c =
    connected _ _ _ (found_fresh c.lent-now.ensures _ c.stale.ensures c.if-stale.false) (found_fresh c.lent-now.ensures _ c.stale-2.ensures c.if-stale-2.false)
    (next_read c.lent-now.ensures _ c.slot_at.ensures) (prev_read c.lent-now.ensures _ c.slot_at-2.ensures) c.if-slot_at-ne0.false c.if-slot_at-ne0-2.false
    c.set_at-2.ensures c.set_at.ensures
