-- `compress_moves::move_link` meets its contract: the words of slot s have index s - 1. Assumes nothing.
use mathlib.Core.Path.{◌≡◌, refl, ap, ◌∙◌}
use native.Mathlib.Omega.{arith}
use Rattle.definitions.specs.Columns.{at}
use Rattle.definitions.proofs.Columns.{at_place}
use Rattle.compress_moves.proofs.move_link.Goals as goal

pub new_slot-requires : goal.new_slot-requires
new_slot-requires c = rw (at_place c.args.prev.now c.args.s (omega arith)) c.requires.numbered.0

pub new_slot-requires-2 : goal.new_slot-requires-2
new_slot-requires-2 c = rw (at_place c.args.next.now c.args.s (omega arith)) c.requires.numbered.1

pub returns : goal.returns
returns c =
    let a = c.args in
    let some : a.s ≡ 0 → ⊥ = omega arith in
    let prev = c.new_slot.ensures ∙ ap (at a.numbers.now) (at_place a.prev.now a.s some) in
    let next = c.new_slot-2.ensures ∙ ap (at a.numbers.now) (at_place a.next.now a.s some) in
    (rw prev refl, rw next refl, rw (at_place a.payload.now a.s some) refl)
