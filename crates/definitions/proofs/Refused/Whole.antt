-- Every statement gives what it says for every slot, every arena and every call: each field is used here once more in its full range, without the name of its record. So a
-- field that leaves out some slots is refused although the small arenas of the other files do not show it.
use Prim.Native.Nat.{ℕ, ◌≤◌}
use mathlib.Core.Path.{◌≡◌}
use mathlib.Core.Bool.{true}
use mathlib.Core.List.{List}
use lib.ListN.{length}
use Rattle.definitions.specs.Columns.{at, count, first_or, last_or, Linked}
use Rattle.definitions.specs.Arena.{Arena, stack_length, link_count, root, current, link_slots, is_link}
use Rattle.definitions.specs.Check.{Freelist, WellFormed, SameRead}

pub freelist_whole : (a : Arena) (fs : List ℕ) → Freelist a fs →
    (first_or 0 fs ≡ root a)
    × Linked (at a.next) fs (last_or 0 fs)
    × ((s : ℕ) → 1 ≤ count s fs → 1 ≤ s)
    × ((s : ℕ) → 1 ≤ count s fs → s ≤ stack_length a)
    × ((s : ℕ) → 1 ≤ count s fs → at a.generation s ≡ 0)
    × ((s : ℕ) → 1 ≤ s → s ≤ stack_length a → at a.generation s ≡ 0 → count s fs ≡ 1)
freelist_whole a fs f = (f.starts, f.linked, λ s i. (f.free s i).0, λ s i. (f.free s i).1, λ s i. (f.free s i).2, f.once)

pub well_formed_whole : (limit : ℕ) (a : Arena) → WellFormed limit a →
    (length a.header ≡ 4)
    × (length a.prev ≤ limit)
    × (length a.next ≡ length a.prev)
    × (length a.generation ≡ length a.prev)
    × (length a.payload ≡ length a.prev)
    × (2 ≤ current a)
    × (stack_length a ≤ length a.prev)
    × (link_count a ≡ length (link_slots a.generation (stack_length a)))
    × ((fs : List ℕ) × Freelist a fs)
    × ((x : ℕ) → is_link a x ≡ true → (at a.prev x ≡ 0 → ⊥) → (is_link a (at a.prev x) ≡ true) × (at a.next (at a.prev x) ≡ x))
    × ((x : ℕ) → is_link a x ≡ true → (at a.next x ≡ 0 → ⊥) → (is_link a (at a.next x) ≡ true) × (at a.prev (at a.next x) ≡ x))
well_formed_whole limit a w = (w.header, w.small, w.next_length, w.generation_length, w.payload_length, w.generation, w.within, w.links, w.freelist, w.prev, w.next)

-- what is assumed of two arenas is no more than this
pub same_read_whole : (a b : Arena) →
    a.header ≡ b.header
    → length a.prev ≡ length b.prev
    → length a.next ≡ length b.next
    → length a.generation ≡ length b.generation
    → length a.payload ≡ length b.payload
    → ((s : ℕ) → s ≤ stack_length a → at a.generation s ≡ at b.generation s)
    → ((s : ℕ) → s ≤ stack_length a → at a.next s ≡ at b.next s)
    → ((s : ℕ) → is_link a s ≡ true → at a.prev s ≡ at b.prev s)
    → SameRead a b
same_read_whole a b h p n g v gs ns ps = record {
  header = h;
  prev_length = p;
  next_length = n;
  generation_length = g;
  payload_length = v;
  generation = gs;
  next = ns;
  prev = ps;
}
