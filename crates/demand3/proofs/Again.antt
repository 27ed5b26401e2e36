-- Compressing again moves nothing: the canonical order of an arena laid out in the canonical order is 1 to n. Each piece is a chain of the new arena on the
-- slots from the first that waits, so that it is what the order takes next, and it stays where it is. Assumes nothing.
use Prim.Native.Nat.{ℕ, zero, suc, ◌+◌, ◌≤◌, ◌<◌}
use mathlib.Core.Path.{◌≡◌, refl, sym, ap, ◌∙◌}
use mathlib.Core.List.{List, [], ◌∷◌, ◌++◌, append_assoc, cons≢nil, flatten}
use native.Mathlib.Omega.{arith}
use native.Mathlib.Nat.{add-zero}
use lib.ListN.{length, length-append}
use Rattle.definitions.specs.Columns.{at, first_or, slots_from, Linked}
use Rattle.definitions.specs.Arena.{Arena}
use Rattle.statements.specs.Chains.{Kind, opened, closed, IsClosed, IsChain, Like}
use Rattle.definitions.specs.Compress.{place, relocate}
use Rattle.definitions.proofs.Slots.{count_here}
use Rattle.definitions.proofs.Count.{In, in_here, in_slots, slots_once, count_first}
use Rattle.definitions.proofs.Linked.{same_run}
use Rattle.definitions.proofs.Parts.{at_one, slots_append}
use Rattle.chains.proofs.Links.{Link, DoublyLinked}
use Rattle.chains.proofs.OneChain.{chain_some, one_chain}
use Rattle.chains.proofs.Find.{chain_from, ChainOf, chain_of}
use Rattle.renaming.proofs.Orders.{OrderOf}
use Rattle.renaming.proofs.Relocated.{new_prev, new_stack, place_zero, links_fill, any_order_linked}
use Rattle.demand3.proofs.Bring.{brings, brings_front}
use Rattle.demand3.proofs.Order.{lowest_link, lowest_here, lowest_nil, chains_from, chains_done, chains_next, canonical_chains, canonical_order, All, all_nil, all_cons, SomeChain, canonical_laid, canonical_order_lem}
use Rattle.demand3.proofs.Pieces.{first_slots, size, reads, inside, at_end, place_first}

-- a run of slots whose next is the following slot
linked_slots : (next : ℕ → ℕ) (s k z : ℕ) → ((i : ℕ) → i < k → next (s + i) ≡ suc (s + i)) → next (s + k) ≡ z → Linked next (slots_from s (suc k)) z
unfolding slots_from Linked first_or
linked_slots next s zero z h e = (ap next (sym (add-zero s)) ∙ e, tt)
linked_slots next s (suc k) z h e =
    let q : s + suc k ≡ suc s + k = omega arith in
    (rw (add-zero s) at (h 0 (omega arith)), linked_slots next (suc s) k z (λ i l. go i l) (rw q at e))
  where
    go : (i : ℕ) → i < k → next (suc s + i) ≡ suc (suc s + i)
    go i l = let q : s + suc i ≡ suc s + i = omega arith in rw q at (h (suc i) (omega arith))

-- two closed chains that start at one slot are one list
closed_same : (a : Arena) (c d : List ℕ) → IsClosed a c → IsClosed a d → first_or 0 c ≡ first_or 0 d → c ≡ d
unfolding Linked first_or
closed_same a [] d p q e = absurd (p.some refl)
closed_same a (x ∷ c) [] p q e = absurd (q.some refl)
closed_same a (x ∷ c) (y ∷ d) p q e =
    let lc : Linked (at a.next) c x = p.linked.1 in
    let ld : Linked (at a.next) d x = rw (sym e) at q.linked.1 in
    let hd : first_or x c ≡ first_or x d = sym p.linked.0 ∙ (ap (at a.next) e ∙ (q.linked.0 ∙ ap (λ (z : ℕ). first_or z d) (sym e))) in
    let t : c ≡ d = same_run (at a.next) c d x lc ld hd (omega (arith, p.once x, count_here x c)) (omega (arith, q.once x, count_first x y d e)) in
    cc

module _ (a : Arena) (linked : DoublyLinked a) (words : length a.header ≡ 4) (g : ℕ) (g1 : 1 ≤ g) where
  abbrev w : List ℕ
  w = canonical_order a

  abbrev order : OrderOf a w
  order = canonical_order_lem a linked

  abbrev b : Arena
  b = relocate w g a

  linked_b : DoublyLinked (relocate (canonical_order a) g a)
  linked_b = any_order_linked a w order g words g1 linked

  -- one chain of the order, after the links of `before`
  module _ (before : List ℕ) (x : ℕ) (xs rest : List ℕ) (e : canonical_order a ≡ before ++ (x ∷ xs ++ rest)) where
    abbrev s : ℕ
    s = suc (length before)

    links_b : (y : ℕ) → In y (slots_from s (suc (length xs))) → Link b y
    links_b y i =
        let r = in_slots y s (suc (length xs)) i in
        links_fill a w order g words g1 y (omega (arith, r.0)) (omega (arith, r.1, size a w order g before x xs rest e))

    first_came : at w s ≡ x
    first_came = (rw (add-zero s) at (reads a w order g before x xs rest e 0 (omega arith))) ∙ at_one x xs

    -- the piece is a chain of the new arena
    chain_b : (k : Kind) → IsChain a k (x ∷ xs) → IsChain b k (slots_from s (suc (length xs)))
    unfolding IsChain first_or
    chain_b opened h =
        record {
          some = unfold slots_from in cons≢nil;
          links = links_b;
          starts = rw (first_slots s (length xs) 0)
              (new_prev a w order g s (omega arith) (omega (arith, size a w order g before x xs rest e)) ∙ (ap (place w) (ap (at a.prev) first_came ∙ h.starts) ∙ place_zero a w order));
          linked = linked_slots (at b.next) s (length xs) 0 (inside a w order g before x xs rest e 0 h.linked) (at_end a w order g before x xs rest e 0 h.linked ∙ place_zero a w order);
        }
    chain_b closed h =
        record {
          some = unfold slots_from in cons≢nil;
          links = links_b;
          once = slots_once s (suc (length xs));
          linked = rw (first_slots s (length xs) 0)
              (linked_slots (at b.next) s (length xs) s (inside a w order g before x xs rest e x h.linked) (at_end a w order g before x xs rest e x h.linked ∙ place_first a w order g before x xs rest e));
        }

    -- so it is what the canonical order of the new arena takes from its first slot
    takes : (k : Kind) → IsChain a k (x ∷ xs) → chain_from b s ≡ slots_from s (suc (length xs))
    takes k h = go k (chain_b k h) its.kind its.chain (one_chain b linked_b k its.kind p (chain_from b s) (chain_b k h) its.chain s in_p its.has) its.first
      where
        p : List ℕ
        p = slots_from s (suc (length xs))

        in_p : In s p
        in_p = unfold slots_from in in_here s (slots_from (suc s) (length xs))

        its : ChainOf b linked_b s (chain_from b s)
        its = chain_of b linked_b s (links_b s in_p)

        go : (k : Kind) → IsChain b k p → (l : Kind) → IsChain b l (chain_from b s) → (k ≡ l) × Like k p (chain_from b s) → (l ≡ closed → first_or 0 (chain_from b s) ≡ s) → chain_from b s ≡ p
        go opened h l q r f = unfold Like in sym r.1
        go closed h l q r f =
            sym (closed_same b p (chain_from b s) (unfold IsChain in h) (unfold IsChain in (rw (← r.0) at q)) (first_slots s (length xs) 0 ∙ sym (f (sym r.0))))

  none_wait : (f : ℕ) → chains_from b f [] ≡ []
  none_wait zero = unfold chains_from in refl
  none_wait (suc f) = chains_done b f [] (lowest_nil b)

  stays_put : (before : List ℕ) (cs : List (List ℕ)) → canonical_order a ≡ before ++ flatten cs → All (SomeChain a) cs → (f : ℕ) → length (flatten cs) ≤ f →
      flatten (chains_from b f (slots_from (suc (length before)) (length (flatten cs)))) ≡ slots_from (suc (length before)) (length (flatten cs))
  stays_put before [] e all_nil f h = unfold flatten slots_from in ap {B = List ℕ} flatten (none_wait f)
  stays_put before ([] ∷ cs) e (all_cons so al) f h = absurd (chain_some a so.kind [] so.chain refl)
  stays_put before ((x ∷ xs) ∷ cs) e (all_cons so al) zero h = absurd (unfold flatten in omega arith)
  stays_put before ((x ∷ xs) ∷ cs) e (all_cons so al) (suc f) h = go (stays_put (before ++ x ∷ xs) cs (e' ∙ sym (append_assoc before (x ∷ xs) (flatten cs))) al f (omega (arith, both)))
    where
      e' : canonical_order a ≡ before ++ (x ∷ xs ++ flatten cs)
      e' = unfold flatten in e

      n : ℕ
      n = suc (length before)

      k : ℕ
      k = suc (length xs)

      m : ℕ
      m = length (flatten cs)

      there : suc (length (before ++ x ∷ xs)) ≡ n + k
      there = omega (arith, length-append before (x ∷ xs))

      both : length (flatten ((x ∷ xs) ∷ cs)) ≡ suc (length xs) + length (flatten cs)
      both = unfold flatten in length-append (x ∷ xs) (flatten cs)

      -- who waits: the piece, then the others
      r : List ℕ
      r = slots_from n k ++ slots_from (n + k) m

      first_link : Link b n
      first_link = links_b before x xs (flatten cs) e' n (unfold slots_from in in_here n (slots_from (suc n) (length xs)))

      lowest : lowest_link b r ≡ n
      lowest = unfold slots_from in lowest_here b n (slots_from (suc n) (length xs) ++ slots_from (n + k) m) first_link

      next : chains_from b (suc f) r ≡ slots_from n k ∷ chains_from b f (slots_from (n + k) m)
      next =
          chains_next b f r (λ z. omega (arith, lowest, z)) ∙
          (ap (λ (o : ℕ). chain_from b o ∷ chains_from b f (brings (chain_from b o) r)) lowest ∙
          (ap (λ (c : List ℕ). c ∷ chains_from b f (brings c r)) (takes before x xs (flatten cs) e' so.kind so.chain) ∙
          ap (λ (q : List ℕ). slots_from n k ∷ chains_from b f q) (brings_front (slots_from n k) (slots_from (n + k) m))))

      go : flatten (chains_from b f (slots_from (suc (length (before ++ x ∷ xs))) (length (flatten cs)))) ≡ slots_from (suc (length (before ++ x ∷ xs))) (length (flatten cs)) →
          flatten (chains_from b (suc f) (slots_from n (length (flatten ((x ∷ xs) ∷ cs))))) ≡ slots_from n (length (flatten ((x ∷ xs) ∷ cs)))
      go ih = rw (both, slots_append n k m, next) (unfold flatten in ap (λ (q : List ℕ). slots_from n k ++ q) (rw there at ih))

  pub again_moves_nothing : canonical_order (relocate (canonical_order a) g a) ≡ slots_from 1 (length (canonical_order a))
  unfolding canonical_order canonical_chains
  again_moves_nothing = rw (new_stack a w order g words) (stays_put [] (canonical_chains a) refl (canonical_laid a linked).chains (length (flatten (canonical_chains a))) (omega arith))
