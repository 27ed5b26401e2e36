-- Column by column as long: what every loop that edits an arena keeps of the columns that were lent. Assumes nothing.
use mathlib.Core.Path.{◌≡◌, refl, ◌∙◌}
use lib.ListN.{length}
use Rattle.definitions.specs.Arena.{Arena}

pub record AsLong (a b : Arena) : Type 0 where
  pub prev : length a.prev ≡ length b.prev
  pub next : length a.next ≡ length b.next
  pub generation : length a.generation ≡ length b.generation
  pub payload : length a.payload ≡ length b.payload
  pub header : length a.header ≡ length b.header

pub as_long_itself : (a : Arena) → AsLong a a
as_long_itself a = record { prev = refl; next = refl; generation = refl; payload = refl; header = refl }

pub as_long_too : {a b c : Arena} → AsLong a b → AsLong b c → AsLong a c
as_long_too l m =
    record {
      prev = l.prev ∙ m.prev;
      next = l.next ∙ m.next;
      generation = l.generation ∙ m.generation;
      payload = l.payload ∙ m.payload;
      header = l.header ∙ m.header;
    }
