use mathlib.Core.Path.{refl}
use native.Mathlib.Omega.{arith}
use Rattle.definitions.specs.Arena.{arena}
use Rattle.compress_moves.proofs.Numbers.{numbering_starts, numbering_room, numbering_within, numbering_skips, numbering_names, numbering_done, numbered_any, words_told}
use Rattle.compress_moves.proofs.number_links.Goals as goal
use Rattle.compress_moves.proofs.number_links.Goals.{then-old-eq0, else-old-eq0}

pub loop-count-init : goal.loop-count-init
loop-count-init c n h e = numbering_starts _ _ _ _ _

pub bounds-generation-i : goal.bounds-generation-i
bounds-generation-i c = omega (arith, numbering_room c.requires c.loop-count.invariant c.loop-count-test.true)

pub tell_move-requires : goal.tell_move-requires
tell_move-requires c = omega (arith, numbering_room c.requires c.loop-count.invariant c.loop-count-test.true)

pub bounds-generation-i-in-loop-count : goal.bounds-generation-i-in-loop-count
bounds-generation-i-in-loop-count c = omega (arith, numbering_room c.requires c.loop-count.invariant c.loop-count-test.true)

pub loop-count-smaller : goal.loop-count-smaller
loop-count-smaller c = omega (arith, numbering_room c.requires c.loop-count.invariant c.loop-count-test.true)

pub loop-count-preserved : goal.loop-count-preserved
loop-count-preserved c n h e =
    let so_far = c.loop-count.invariant n h e in
    let more = numbering_within so_far e c.loop-count-test.true in
    let told = words_told _ _ _ _ _ c.tell_move.ensures c.new.ensures c.new-in-loop-count.ensures in
    elim c.if-old-eq0.branch [
      | then-old-eq0 w ↦ rw (w.count-is, w.generation-is, told) (numbering_skips so_far more h w.if-old-eq0.true c.loop-count-test.true)
      | else-old-eq0 w ↦ rw (w.count-is, w.generation-is, told) (numbering_names so_far more w.if-old-eq0.false h e (omega (arith, c.requires)))
    ]

pub returns : goal.returns
returns c n h e ps ns vs w = numbered_any (arena ps ns _ vs w) refl (numbering_done e h (c.loop-count.invariant n h e) c.loop-count-test.false)
