-- `compress_canonical::compress_canonical` meets its contract: laid out, renewed and shrunk, the arena is the definition's (Canonical). The check gives every
-- bound. Assumes nothing.
use Rattle.definitions.proofs.Shaped.{shaped}
use Rattle.compress_canonical.proofs.Canonical.{stacked_if_passed, refused, shrinkable, compressed}
use Rattle.compress_canonical.proofs.compress_canonical.Goals as goal

pub returns-then-where_from-arena-clause-compressed : goal.returns-then-where_from-arena-clause-compressed
returns-then-where_from-arena-clause-compressed c = refused _ _ _ _ c.if-where_from-arena.true

pub lay_out-requires : goal.lay_out-requires
lay_out-requires c = stacked_if_passed _ _ c.requires c.if-where_from-arena.false

pub renew_generation-renewed-requires : goal.renew_generation-renewed-requires
renew_generation-renewed-requires c = rw c.lay_out.ensures.others.1 (shaped _ _ c.requires).header

pub shrink-requires : goal.shrink-requires
shrink-requires c = let out = c.lay_out.ensures in shrinkable _ _ _ c.requires out.laid out.others c.renew_generation-renewed.ensures

pub returns-clause-compressed : goal.returns-clause-compressed
returns-clause-compressed c =
    let out = c.lay_out.ensures in
    compressed _ _ _ c.requires out.laid out.others c.renew_generation-renewed.ensures c.if-where_from-arena.false c.shrink.ensures.shrunk
