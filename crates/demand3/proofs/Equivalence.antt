-- Canonical compression as it is defined, exchange by exchange, leaves exactly what laying the links out in the canonical order leaves, and that
-- order is what the where-from column says. Once no link waits, slots 1 to n hold the order, and what a link names now is the slot of what it named.
-- Assumes nothing.
use Prim.Native.Nat.{ℕ, ◌≤◌}
use mathlib.Core.Path.{◌≡◌, refl, sym, ap, ◌∙◌}
use mathlib.Core.Logic.{◌≢◌}
use mathlib.Core.Bool.{Bool}
use mathlib.Core.List.{List, [], ◌∷◌, map}
use native.Mathlib.Omega.{arith}
use lib.ListN.{length, take, replicate, length-take, length-map}
use Rattle.definitions.specs.Columns.{at, settled}
use Rattle.definitions.specs.Arena.{Arena, capacity, stack_length, link_count}
use Rattle.definitions.specs.Check.{WellFormed}
use Rattle.definitions.specs.Reply.{reply, refusal}
use Rattle.definitions.specs.Compress.{compress_generation, compress_number, place, relocate, laid_out, canonical_arena, compress_canonical}
use Rattle.definitions.proofs.Tests.{not_eq, not_ne}
use Rattle.definitions.proofs.Parts.{at_map, at_take, same_words}
use Rattle.chains.proofs.Links.{Link, DoublyLinked, well_formed_linked}
use Rattle.renaming.proofs.Orders.{OrderOf, order_at, order_within}
use Rattle.renaming.proofs.Relocated.{place_came}
use Rattle.demand3.proofs.Order.{canonical_order, canonical_order_lem, canonical_size}
use Rattle.demand3.proofs.Carried.{Room, Names, Moved, Carried, one_slot}
use Rattle.demand3.proofs.LayChains.{canonical_laid_out}

pub well_formed_room : {limit : ℕ} {a : Arena} → WellFormed limit a → Room a
well_formed_room ok =
    record {
      prev = ok.within;
      next = omega (arith, ok.within, ok.next_length);
      generation = omega (arith, ok.within, ok.generation_length);
      payload = omega (arith, ok.within, ok.payload_length);
    }

-- as many copies of one word
copies : (g : ℕ) (w : List ℕ) → replicate (length w) g ≡ map (λ o. g) w
copies g [] = refl
copies g (x ∷ w) = ap (λ (l : List ℕ). g ∷ l) (copies g w)

module _ (a : Arena) (linked : DoublyLinked a) (room : Room a) where
  abbrev w : List ℕ
  w = canonical_order a

  abbrev order : OrderOf a w
  order = canonical_order_lem a linked

  abbrev b : Arena
  b = (laid_out a).slots

  abbrev who : List ℕ
  who = (laid_out a).from

  carried : Carried a (laid_out a).slots (laid_out a).from
  carried = (canonical_laid_out a linked room).1

  -- who is in slots 1 to n
  pub where_from_lem : take (length (canonical_order a)) (laid_out a).from ≡ canonical_order a
  where_from_lem = (canonical_laid_out a linked room).0

  who_is : (s : ℕ) → s ≤ length w → at who s ≡ at w s
  who_is s l = sym (at_take (length w) who s l) ∙ ap (λ (x : List ℕ). at x s) where_from_lem

  -- the first n words of a column of now, given each
  front : (f : ℕ → ℕ) (X : List ℕ) → length w ≤ length X → ((s : ℕ) → 1 ≤ s → s ≤ length w → at X s ≡ f (at w s)) → take (length w) X ≡ map f w
  front f X long reads =
      same_words (take (length w) X) (map f w) (omega (arith, size, length-map w f))
      (λ s h l. at_take (length w) X s (omega (arith, size)) ∙ (reads s h (omega (arith, size)) ∙ sym (at_map f w s h (omega (arith, size)))))
    where
      size : length (take (length w) X) ≡ length w
      size = omega (arith, length-take (length w) X)

  -- a link column: what a link names now is the slot of what it named
  front_names : (old X : List ℕ) → stack_length a ≤ length old → ((x : ℕ) → Link a x → at old x ≢ 0 → Link a (at old x)) → Names a who old X → take (length w) X ≡ map (λ o. place w (at old o)) w
  front_names old X long fine names = front (λ o. place w (at old o)) X (omega (arith, long, names.size, order_within a w order)) reads
    where
      reads : (s : ℕ) → 1 ≤ s → s ≤ length w → at X s ≡ place w (at old (at w s))
      reads s h l =
          let n : s ≤ stack_length a = omega (arith, order_within a w order) in
          let link : Link a (at w s) = order_at a w order s h l in
          let was : Link a (at who s) = rw (who_is s l) link in
          let q = place_came a w order (at old (at w s)) (λ z. fine (at w s) link z) in
          one_slot a b who carried (at X s) (place w (at old (at w s))) (names.within s h n was) (omega (arith, q.0, order_within a w order))
          (names.came s h n was ∙ (ap (at old) (who_is s l) ∙ (sym q.1 ∙ sym (who_is (place w (at old (at w s))) q.0))))

  front_moved : (old X : List ℕ) → stack_length a ≤ length old → Moved a who old X → take (length w) X ≡ map (λ o. at old o) w
  front_moved old X long moved =
      front (λ o. at old o) X (omega (arith, long, moved.size, order_within a w order)) (λ s h l. moved.came s (omega (arith, order_within a w order)) ∙ ap (at old) (who_is s l))

  pub exchanges_are_renaming : (g : ℕ) → link_count a ≡ length (canonical_order a) → canonical_arena g a ≡ relocate (canonical_order a) g a
  unfolding canonical_arena relocate
  exchanges_are_renaming g size =
      rw (
        size,
        front_names a.prev b.prev room.prev (λ x h d. (linked.prev x h d).0) carried.prev,
        front_names a.next b.next room.next (λ x h d. (linked.next x h d).0) carried.next,
        front_moved a.payload b.payload room.payload carried.payload,
        copies g w,
      )

-- ---- the call, of a well formed arena

module _ (limit top : ℕ) (a : Arena) (ok : WellFormed limit a) (reset : Bool) (where_from : List ℕ) where
  pub links_laid : length (canonical_order a) ≡ link_count a
  links_laid = canonical_size a (well_formed_linked ok) ok.links

  -- the where-from column begins with the order, and the arena is laid out in it
  pub canonical_accepted : length where_from ≡ capacity a →
      compress_canonical top reset a where_from ≡
      reply (compress_number top reset a) [] (relocate (canonical_order a) (compress_generation top reset a) a) (settled (stack_length a) (canonical_order a) where_from)
  unfolding compress_canonical
  canonical_accepted e =
      let linked = well_formed_linked ok in
      let room = well_formed_room ok in
      rw (not_eq (length where_from) (capacity a) e, exchanges_are_renaming a linked room (compress_generation top reset a) (sym links_laid), ← links_laid, where_from_lem a linked room)

  pub canonical_refused : length where_from ≢ capacity a → compress_canonical top reset a where_from ≡ refusal 14 0 a where_from
  unfolding compress_canonical
  canonical_refused d = rw (not_ne (length where_from) (capacity a) d)
