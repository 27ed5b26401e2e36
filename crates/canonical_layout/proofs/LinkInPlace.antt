-- One link put in its place: the code's exchange, or nothing where it is there already, is the definition's step. Assumes nothing.
use Prim.Native.Nat.{ℕ, zero, suc, ◌+◌, ◌≤◌, ◌<◌}
use mathlib.Core.Path.{◌≡◌, refl, sym, ◌∙◌}
use mathlib.Core.List.{List, [], ◌∷◌, map}
use native.Mathlib.Omega.{arith}
use native.Mathlib.Numerals.{add-one}
use native.Mathlib.Decide.{ℕ_discrete}
use lib.ListN.{length, get_or, take, take-append-drop}
use Rattle.std.proofs.lemmas.List.{set-get_or}
use Rattle.definitions.specs.Columns.{at, put}
use Rattle.definitions.specs.Arena.{Arena, capacity_limit, stack_length}
use Rattle.definitions.specs.Compress.{Laying, exchanged, exchange_words, exchange_links, exchange_slots, put_at_i}
use Rattle.definitions.proofs.Columns.{at_suc, length_put}
use Rattle.chains.proofs.Links.{Link, DoublyLinked}
use Rattle.demand3.proofs.Exchange.{exchanged_t, exchanged_other}
use Rattle.demand3.proofs.Carried.{Room, Carried, same_stack, who_within, link_came, carried_linked}
use Rattle.demand3.proofs.Loops.{within_stack, within_above, within_link}
use Rattle.canonical_exchange.specs.Lent.{Lent}
use Rattle.canonical_exchange.specs.Exchange.{InReach, Exchanged, renamed_words}
use Rattle.canonical_layout.specs.Held.{Held}
use Rattle.canonical_layout.specs.Steps.{InChain, LinkLaid}
use Rattle.canonical_layout.proofs.InPlace.{Exchangeable, in_reach, exchange_holds, comes_to_i}

-- ---- a slot exchanged with itself

put_itself : (xs : List ℕ) (s : ℕ) → put xs s (at xs s) ≡ xs
unfolding put at
put_itself xs zero = refl
put_itself xs (suc k) = set-get_or xs k 0

words_itself : (i : ℕ) (xs : List ℕ) → exchange_words i i xs ≡ xs
unfolding exchange_words
words_itself i xs = rw (put_itself xs i) (put_itself xs i)

exchanged_itself : (i s : ℕ) → exchanged i i s ≡ s
exchanged_itself i s = elim (ℕ_discrete s i) [ yes e ↦ exchanged_t i i s e ∙ sym e | no d ↦ exchanged_other i i s d d ]

map_itself : (i : ℕ) (xs : List ℕ) → map (exchanged i i) xs ≡ xs
map_itself i [] = refl
map_itself i (x ∷ xs) = rw (exchanged_itself i x, map_itself i xs) refl

links_itself : (n i : ℕ) (xs : List ℕ) → exchange_links n i i xs ≡ xs
unfolding exchange_links
links_itself n i xs = rw (words_itself i xs, map_itself i (take n xs)) (take-append-drop n xs)

slots_itself : (i : ℕ) (b : Arena) → exchange_slots i i b ≡ b
unfolding exchange_slots
slots_itself i b =
    rw (links_itself (stack_length b) i b.prev, links_itself (stack_length b) i b.next, words_itself i b.generation, words_itself i b.payload) refl

-- ---- the step

module _ (a : Arena) (linked : DoublyLinked a) (room : Room a) (b : Arena) (w : List ℕ) (carried : Carried a b w) where
  pub exchangeable : Exchangeable b w
  exchangeable =
      let n = same_stack a b w carried in
      record {
        room = record {
          prev = omega (arith, n, room.prev, carried.prev.size);
          next = omega (arith, n, room.next, carried.next.size);
          generation = omega (arith, n, room.generation, carried.generation.size);
          payload = omega (arith, n, room.payload, carried.payload.size);
        };
        size = carried.size ∙ sym n;
        linked = carried_linked a b w carried linked;
        somebody = λ s h z. let came = link_came a b w carried s h in omega (arith, (who_within a b w carried s came.0 came.1).0);
      }

module _ {a : Arena} {l : Laying} {first t : ℕ} {c : Lent} {laid : ℕ} (chain : InChain a l first t c laid) where
  abbrev b : Arena
  b = l.slots

  abbrev room : Room a
  room = chain.layable.room

  carried : Carried a l.slots l.from
  carried = chain.within.state.carried

  sound : Exchangeable l.slots l.from
  sound = exchangeable a chain.layable.linked room b l.from carried

  target : Link l.slots t
  target = within_link a room l first t chain.within

  -- there is a place for one more
  pub place_left : suc laid ≤ stack_length l.slots
  place_left =
      omega (arith, chain.i, same_stack a b l.from carried, within_above a room l first t chain.within, (within_stack a room l first t chain.within).1)

  pub place_small : laid + 1 ≤ capacity_limit
  place_small = omega (arith, place_left, same_stack a b l.from carried, chain.layable.small)

  pub place_in_next : laid < length c.next
  place_in_next = omega (arith, place_left, chain.held.next_long)

  pub place_in_left : {left : Lent} → Exchanged c left (laid + 1) t → laid < length left.next
  unfolding renamed_words exchange_words
  place_in_left {left} x = rw x.next (omega (arith, place_in_next, length_put))

  pub both_in_reach : InReach c (laid + 1) t
  both_in_reach = rw (add-one laid) (in_reach b l.from c sound chain.held (suc laid) t (omega arith) place_left target)

  -- the link is where the definition puts it, with the definition's next
  link_laid : (left : Lent) → Held (exchange_slots (suc laid) t b) (exchange_words (suc laid) t l.from) left → LinkLaid l t left (get_or left.next laid 0)
  unfolding put_at_i exchange_slots
  link_laid left held =
      rw chain.i
      (record {
        held = held;
        next = sym (at_suc left.next laid) ∙ held.next (suc laid) (comes_to_i b l.from c sound chain.held (suc laid) t (omega arith) place_left target);
      })

  pub exchanged_laid : {left : Lent} → Exchanged c left (laid + 1) t → LinkLaid l t left (get_or left.next laid 0)
  exchanged_laid {left} x =
      link_laid left (exchange_holds b l.from c sound chain.held (suc laid) t (omega arith) place_left target left (rw (add-one laid) at x))

  -- the link is there already
  pub stays_laid : laid + 1 ≡ t → LinkLaid l t c (get_or c.next laid 0)
  stays_laid e =
      let same : t ≡ suc laid = sym e ∙ add-one laid in
      link_laid c (rw (same, slots_itself (suc laid) b, words_itself (suc laid) l.from) chain.held)
