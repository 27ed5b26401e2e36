-- `base_freelist::pop_slots` meets its contract: `fill` says what the part past slot m is, in each column. Assumes nothing.
use Rattle.std.proofs.Common.{ℕ, ◌≡◌}
use Rattle.lent.specs.Arenas.{held_in}
use Rattle.base_freelist.proofs.Settled.{all_filled}
use Rattle.base_freelist.proofs.pop_slots.Goals as goal

pub returns-clause-popped : goal.returns-clause-popped
returns-clause-popped c =
    let zero = λ (y : ℕ) (e : y ≡ 0). e in
    all_filled (held_in c.args.arena.now) c.args.m c.args.n c.requires (c.fill.ensures.after zero) (c.fill-2.ensures.after zero) (c.fill-3.ensures.after zero) (c.fill-4.ensures.after zero)
