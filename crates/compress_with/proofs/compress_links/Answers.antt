-- `compress_with::compress_links` meets its contract: numbering, moving down, stamping and popping, one after the other, are the definition's
-- `relocate` (Relocated). Assumes nothing.
use mathlib.Core.List.{[]}
use native.Mathlib.Omega.{arith}
use Rattle.compress_with.proofs.Relocated.{movable, shrinkable, relocated}
use Rattle.compress_with.proofs.compress_links.Goals as goal

pub number_links-requires : goal.number_links-requires
number_links-requires c = let can = c.requires.compressible in (_, can.small, can.generation_within, can.counted, can.room)

pub move_down-requires : goal.move_down-requires
move_down-requires c =
    let can = c.requires.compressible in
    let says = c.number_links.ensures _ can.generation_within can.counted [] [] [] [] in
    rw says.named (movable can _ _ _ says.reported (omega (arith, c.number_links.auto)))

pub shrink-requires : goal.shrink-requires
shrink-requires c =
    let can = c.requires.compressible in
    let says = c.number_links.ensures _ can.generation_within can.counted [] [] [] [] in
    shrinkable _ can says.named c.move_down.ensures c.requires.header

pub returns-clause-moved : goal.returns-clause-moved
returns-clause-moved c =
    let can = c.requires.compressible in
    let says = c.number_links.ensures _ can.generation_within can.counted [] [] [] [] in
    relocated _ can says.named c.move_down.ensures c.shrink.ensures.shrunk

pub returns-clause-reported : goal.returns-clause-reported
returns-clause-reported c = let can = c.requires.compressible in (c.number_links.ensures _ can.generation_within can.counted _ _ _ _).reported
