-- One canonical compression: what an accepted one left fills slots 1 to n, renames every link once, and its pieces are the old chains. Assumes
-- nothing.
use Prim.Native.Nat.{ℕ, ◌≤◌}
use mathlib.Core.Path.{◌≡◌}
use mathlib.Core.List.{List}
use native.Mathlib.Omega.{arith}
use lib.ListN.{length, take}
use Rattle.definitions.specs.Columns.{at}
use Rattle.definitions.specs.Arena.{Arena, link_count}
use Rattle.statements.specs.Chains.{pieces}
use Rattle.definitions.specs.Check.{WellFormed}
use Rattle.definitions.specs.Compress.{relocate}
use Rattle.statements.specs.Demand3.{Compressed, OfOne}
use Rattle.chains.proofs.Links.{DoublyLinked, well_formed_linked}
use Rattle.chains.proofs.Listings.{linked_on_one_chain}
use Rattle.renaming.proofs.Orders.{OrderOf}
use Rattle.renaming.proofs.Relocated.{new_stack, new_count, new_root, links_within, links_fill, any_order_renames}
use Rattle.demand3.proofs.Order.{canonical_order, canonical_order_lem}
use Rattle.demand3.proofs.PiecesAreChains.{pieces_are_chains, open_pieces_end, chains_lie}
use Rattle.demand3.proofs.Accepted.{what_is_left}

module _ (limit top : ℕ) where
  -- what laying the links out in the canonical order leaves
  laid_out_is : (a : Arena) → WellFormed limit a → (g : ℕ) → 2 ≤ g →
      OfOne limit top a (relocate (canonical_order a) g a) (canonical_order a) (length (canonical_order a)) (pieces (at (relocate (canonical_order a) g a).next) (length (canonical_order a)))
  laid_out_is a ok g two =
      record {
        stack = new_stack a w order g words;
        links = new_count a w order g words;
        root = new_root a w order g words;
        fills = λ s. (λ h. links_within a w order g words s h, λ h. links_fill a w order g words (omega arith) s h.0 h.1);
        renaming = any_order_renames a w order g linked;
        consecutive = chains_lie a linked g;
        chains = pieces_are_chains a linked g;
        ends = open_pieces_end a linked g;
        every = linked_on_one_chain a linked;
      }
    where
      w : List ℕ
      w = canonical_order a

      linked : DoublyLinked a
      linked = well_formed_linked ok

      order : OrderOf a w
      order = canonical_order_lem a linked

      words : length a.header ≡ 4
      words = ok.header

  pub one_compression : (a b : Arena) (col : List ℕ) → Compressed limit top a b col → OfOne limit top a b (take (link_count a) col) (link_count a) (pieces (at b.next) (link_count a))
  one_compression a b col z =
      let l = what_is_left limit top a b col z in
      rw (l.from, l.is, ← l.size) (laid_out_is a l.ok l.g l.two)
