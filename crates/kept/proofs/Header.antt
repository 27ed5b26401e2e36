-- The calls that write only the header. Assumes nothing.
use Prim.Native.Nat.{ℕ, ◌≤◌}
use mathlib.Core.Path.{◌≡◌}
use mathlib.Core.Bool.{false}
use mathlib.Core.List.{List, [], ◌∷◌}
use native.Mathlib.Omega.{arith}
use lib.Dec.{eqb, ltb}
use borrow.Author.Tests.{ltb-false}
use Rattle.definitions.specs.Arena.{Arena, current, with_header, with_current}
use Rattle.definitions.specs.Check.{WellFormed}
use Rattle.definitions.specs.Edit.{next_generation, set_generation, inc_generation}
use Rattle.definitions.proofs.Tests.{by_test}
use Rattle.definitions.proofs.Header.{four_words}
use Rattle.kept.proofs.Edits.{either_keeps}

-- another generation, of 2 or more
with_current_keeps : (limit : ℕ) (a : Arena) (g : ℕ) → WellFormed limit a → 2 ≤ g → WellFormed limit (with_header a (with_current g a.header))
with_current_keeps limit a g ok two = four_words Keeps a.header ok.header (λ n k r c. λ w. computed n k r c w) ok
  where
    Keeps : List ℕ → Type 0
    Keeps h = WellFormed limit (with_header a h) → WellFormed limit (with_header a (with_current g h))

    computed : (n k r c : ℕ) → Keeps (n ∷ k ∷ r ∷ c ∷ [])
    computed n k r c w = record {
      header = w.header;
      small = w.small;
      next_length = w.next_length;
      generation_length = w.generation_length;
      payload_length = w.payload_length;
      generation = two;
      within = w.within;
      links = w.links;
      freelist = (w.freelist.0, record { starts = w.freelist.1.starts; linked = w.freelist.1.linked; free = w.freelist.1.free; once = w.freelist.1.once });
      prev = w.prev;
      next = w.next;
    }

pub next_generation_two_lem : (top g : ℕ) → 2 ≤ g → 2 ≤ next_generation top g
unfolding next_generation
next_generation_two_lem top g two = by_test (eqb g top) (λ e. rw e (omega arith)) (λ e. rw e (omega arith))

module _ (limit : ℕ) (a : Arena) (ok : WellFormed limit a) where
  generation_set : (g : ℕ) → ltb g 2 ≡ false → WellFormed limit (with_header a (with_current g a.header))
  generation_set g e = with_current_keeps limit a g ok (ltb-false g 2 e)

  pub set_generation_keeps : (g : ℕ) (l : List ℕ) → WellFormed limit (set_generation a g l).arena
  unfolding set_generation
  set_generation_keeps g l = search (either_keeps, generation_set)

  pub inc_generation_keeps : (top : ℕ) (l : List ℕ) → WellFormed limit (inc_generation top a l).arena
  unfolding inc_generation
  inc_generation_keeps top l = with_current_keeps limit a (next_generation top (current a)) ok (next_generation_two_lem top (current a) ok.generation)
