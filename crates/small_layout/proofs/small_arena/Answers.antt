-- `small_layout::small_arena` meets its contract: what is not refused has room for what is laid into it. Assumes nothing.
use native.Mathlib.Omega.{arith}
use Rattle.small_layout.proofs.Answers.{stack_of, room_for}
use Rattle.small_layout.proofs.small_arena.Goals as goal

pub lay-requires : goal.lay-requires
lay-requires c = room_for _ _ (cc) (omega (arith, stack_of c.in-Some.packed))
