-- `chain_insertion::insert` meets its contract. What is well formed has the shape of an arena, and what a link in the chosen slot needs. Assumes nothing.
use mathlib.Core.Path.{sym, ◌∙◌}
use Rattle.chain_insertion.proofs.Insertions.{insertable}
use Rattle.well_formed.proofs.WellFormed.{shape_if_well_formed}
use Rattle.chain_insertion.proofs.insert.Goals as goal

pub shaped-now-requires : goal.shaped-now-requires
shaped-now-requires c = rw c.lent.ensures (shape_if_well_formed _ _ c.requires)

pub insert_between-requires : goal.insert_between-requires
insert_between-requires c =
    let same = c.shaped-now.ensures ∙ c.lent.ensures in
    let chosen = rw c.capacity.ensures at c.new_slot-t.ensures in
    let placed = rw c.in_ok-place.ensures.ok_part at c.check_link_insert_kind.ensures in
    rw (← same) (insertable _ _ _ _ (rw (← same) at c.requires) chosen (sym c.if-eq.ensures) placed)
