-- What refuses a weakened statement of specs/: each of its fields is used alone. A small arena with a result that is wrong in one respect is refused by one field, and what
-- the statement says follows from it in its full range, for every slot, chain, arena and call. None of these proofs knows how a statement is proved, so they hold
-- whatever its proof is, and they stop holding when a field says less. Assumes nothing.
pub mod Chains
pub mod Compressions
pub mod BrokenSlots
pub mod Calls
pub mod Walks
pub mod Drains
pub mod Clock
pub mod SmallArenas
pub mod Insertions
pub mod Whole
pub mod Meanings
