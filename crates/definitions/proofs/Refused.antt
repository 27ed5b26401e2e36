-- What refuses a weakened statement: the fields of `WellFormed` and `Freelist`, each used alone, the parts of a reply, and the number of rows of each table. A small arena or reply that is wrong in one respect
-- is refused by one field; and each statement gives what it says in its full range, for every slot and every call. None of these proofs knows how a statement is
-- proved, so they hold whatever its proof is, and they stop holding when a field says less. Assumes nothing.
pub mod Arenas
pub mod Replies
pub mod Tables
pub mod Whole
pub mod Meanings
