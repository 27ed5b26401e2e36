use native.Mathlib.Omega.{arith}
use Rattle.compress_moves.proofs.Moving.{moving_starts, moving_slot, moving_names, moving_goes_on, moving_done, all_in_place}
use Rattle.compress_moves.proofs.move_down.Goals as goal

pub returns-then-links-n : goal.returns-then-links-n
returns-then-links-n c = all_in_place c.requires c.if-links-n.true

pub loop-k-init : goal.loop-k-init
loop-k-init c = moving_starts c.requires

pub move_link-requires : goal.move_link-requires
move_link-requires c =
    let inv = c.loop-k.invariant in
    let left = c.loop-k-test.true in record { before = omega (arith, moving_slot c.requires inv left); numbered = moving_names c.requires inv left }

pub loop-k-preserved : goal.loop-k-preserved
loop-k-preserved c =
    let words = c.move_link.ensures in
    rw (words.0, words.1, words.2) (moving_goes_on c.requires c.loop-k.invariant c.loop-k-test.true)

pub returns : goal.returns
returns c = moving_done c.requires c.loop-k.invariant c.loop-k-test.false
