-- The check passes exactly if the arena is well formed, with well formed put as plain facts (REFERENCE, Well-formed arenas). Fact by fact:
--
--   one freelist from the root over all free slots that ends in itself    WellFormed.freelist
--   each neighbour is a link that names this one in turn                  WellFormed.prev, WellFormed.next
--   the counts are right                                                  WellFormed.links, WellFormed.within
--
-- The other fields are rules 1 and 2: columns of one length within the limit, a header of four words, a generation of 2 or more. Rules 1 to 3 are the
-- shape, 4 to 10 the counts and the freelist, 11 the neighbours; each part is equivalent to its facts by the laws of the definitions, and the verdict
-- is 0 exactly if no part refuses. Assumes nothing.
use Prim.Native.Nat.{ℕ}
use mathlib.Core.Path.{◌≡◌, sym}
use mathlib.Core.Logic.{◌↔◌}
use native.Mathlib.Omega.{arith}
use Rattle.definitions.specs.Arena.{Arena, stack_length}
use Rattle.definitions.specs.Check.{verdict, WellFormed}
use Rattle.definitions.proofs.Slots.{links_and_free}
use Rattle.definitions.proofs.Freelist.{links_counted, freelist_of_counts, counts_of_freelist}
use Rattle.definitions.proofs.Shaped.{Shaped, shaped, passed_counts, passed_links, passes}
use Rattle.definitions.proofs.Interlinks.{neighbours_if_fine, fine_if_neighbours}

module _ (limit : ℕ) (a : Arena) where
  pub well_formed_if_passes : verdict limit a ≡ 0 → WellFormed limit a
  well_formed_if_passes e =
      let shape = shaped limit a e in
      let counts = passed_counts limit a e in
      let neighbours = neighbours_if_fine a (passed_links limit a e) in
      record {
        header = shape.header;
        small = shape.small;
        next_length = shape.next_length;
        generation_length = shape.generation_length;
        payload_length = shape.payload_length;
        generation = shape.generation;
        within = shape.within;
        links = links_counted a counts;
        freelist = freelist_of_counts a counts;
        prev = λ x l. (neighbours x l).0;
        next = λ x l. (neighbours x l).1;
      }

  pub shape_if_well_formed : WellFormed limit a → Shaped limit a
  shape_if_well_formed h = record {
    header = h.header;
    small = h.small;
    next_length = h.next_length;
    generation_length = h.generation_length;
    payload_length = h.payload_length;
    generation = h.generation;
    links_within = omega (arith, h.links, h.within, links_and_free a.generation (stack_length a));
    within = h.within;
  }

  pub passes_if_well_formed : WellFormed limit a → verdict limit a ≡ 0
  passes_if_well_formed h =
      passes limit a (shape_if_well_formed h) (sym (counts_of_freelist a h.links h.freelist.0 h.freelist.1)) (fine_if_neighbours a h.prev h.next)

  pub check_passes_exactly_if_well_formed : (verdict limit a ≡ 0) ↔ WellFormed limit a
  check_passes_exactly_if_well_formed = (well_formed_if_passes, passes_if_well_formed)
