-- The canonical order, on old slots that never change: r is who is in slots i, i+1, and so on. The chain of the first link in r is brought to the front,
-- member by member, and so on with who is left. It lists the links chain by chain, each chain once. Assumes nothing.
use Prim.Native.Nat.{ℕ, zero, suc, ◌+◌, ◌≤◌}
use mathlib.Core.Path.{◌≡◌, refl, sym, ◌∙◌}
use mathlib.Core.Logic.{◌≢◌, inl, inr}
use mathlib.Core.Bool.{true, false}
use mathlib.Core.List.{List, [], ◌∷◌, flatten}
use native.Mathlib.Omega.{arith}
use native.Mathlib.Decide.{ℕ_discrete, dec_le}
use lib.ListN.{length}
use lib.Dec.{eqb}
use borrow.Author.Tests.{eq-eqb, ne_eqb}
use Rattle.definitions.specs.Columns.{count, first_or, slots_from, keep}
use Rattle.definitions.specs.Arena.{Arena, stack_length, link_count, link_slots, is_link}
use Rattle.statements.specs.Chains.{Kind, IsChain}
use Rattle.definitions.proofs.Slots.{count_nil, count_append, count_slots_in, length_slots}
use Rattle.definitions.proofs.Count.{In, Once, in_here, in_append, not_in_nil, slots_once, in_keep, keep_yes, keep_no, keep_has}
use Rattle.chains.proofs.Links.{Link, DoublyLinked, link_some, link_within, link_nonzero}
use Rattle.chains.proofs.OneChain.{chain_links, chain_some, one_chain, like_count}
use Rattle.chains.proofs.Find.{chain_from, ChainOf, chain_of}
use Rattle.renaming.proofs.Orders.{OrderOf, order_size}
use Rattle.demand3.proofs.Bring.{brings, brings_count, brings_length}

-- the first link of a list of old slots, 0 if there is none
unfoldable pub lowest_link : Arena → List ℕ → ℕ
lowest_link a r = first_or 0 (keep (is_link a) r)

-- the chains in the order in which they are laid out
unfoldable pub chains_from : Arena → ℕ → List ℕ → List (List ℕ)
chains_from a zero r = []
chains_from a (suc steps) r =
    elim (eqb (lowest_link a r) 0) [ true ↦ [] | false ↦ chain_from a (lowest_link a r) ∷ chains_from a steps (brings (chain_from a (lowest_link a r)) r) ]

unfoldable pub canonical_chains : Arena → List (List ℕ)
canonical_chains a = chains_from a (stack_length a) (slots_from 1 (stack_length a))

-- the old slots of the links, as canonical compression lays them out
unfoldable pub canonical_order : Arena → List ℕ
canonical_order a = flatten (canonical_chains a)

module _ (a : Arena) where
  -- ---- the first link

  pub lowest_here : (x : ℕ) (r : List ℕ) → Link a x → lowest_link a (x ∷ r) ≡ x
  unfolding lowest_link first_or
  lowest_here x r h = rw (keep_yes (is_link a) x r h)

  pub lowest_later : (x : ℕ) (r : List ℕ) → is_link a x ≡ false → lowest_link a (x ∷ r) ≡ lowest_link a r
  unfolding lowest_link
  lowest_later x r h = rw (keep_no (is_link a) x r h)

  pub lowest_nil : lowest_link a [] ≡ 0
  unfolding lowest_link keep first_or
  lowest_nil = refl

  pub lowest_link_lem : (r : List ℕ) → lowest_link a r ≢ 0 → Link a (lowest_link a r) × In (lowest_link a r) r
  unfolding lowest_link
  lowest_link_lem r d = in_keep (is_link a) (first_or 0 (keep (is_link a) r)) r (first (keep (is_link a) r) d)
    where
      first : (xs : List ℕ) → first_or 0 xs ≢ 0 → In (first_or 0 xs) xs
      first [] d = absurd (d (unfold first_or in refl))
      first (x ∷ xs) d = unfold first_or in in_here x xs

  pub lowest_none : (r : List ℕ) → lowest_link a r ≡ 0 → (x : ℕ) → Link a x → count x r ≡ 0
  unfolding lowest_link
  lowest_none r e x h = sym (keep_has (is_link a) x r h) ∙ none (keep (is_link a) r) (λ y i. (in_keep (is_link a) y r i).0) e
    where
      none : (xs : List ℕ) → ((y : ℕ) → In y xs → Link a y) → first_or 0 xs ≡ 0 → count x xs ≡ 0
      none [] al z = count_nil x
      none (y ∷ xs) al z = absurd (link_nonzero a y (al y (in_here y xs)) (unfold first_or in z))

  -- ---- step by step

  pub chains_done : (f : ℕ) (r : List ℕ) → lowest_link a r ≡ 0 → chains_from a (suc f) r ≡ []
  unfolding chains_from
  chains_done f r e = rw (eq-eqb (lowest_link a r) 0 e, chains_from)

  pub chains_next : (f : ℕ) (r : List ℕ) → lowest_link a r ≢ 0 → chains_from a (suc f) r ≡ chain_from a (lowest_link a r) ∷ chains_from a f (brings (chain_from a (lowest_link a r)) r)
  unfolding chains_from
  chains_next f r d = rw (ne_eqb (lowest_link a r) 0 d, chains_from)

-- every list of a list of lists
pub data All (Q : List ℕ → Type 0) : List (List ℕ) → Type 0 where
  all_nil : All Q []
  all_cons : {c : List ℕ} {cs : List (List ℕ)} → Q c → All Q cs → All Q (c ∷ cs)

-- a chain of the arena, of whichever kind
pub record SomeChain (a : Arena) (c : List ℕ) : Type 0 where
  pub kind : Kind
  pub chain : IsChain a kind c

-- who waits: nobody twice, and whole chains only
pub record Waiting (a : Arena) (r : List ℕ) : Type 0 where
  pub once : Once r
  pub whole : (k : Kind) (c : List ℕ) → IsChain a k c → (x y : ℕ) → In x c → In y c → In x r → In y r

module _ (a : Arena) (linked : DoublyLinked a) where
  pub all_wait : Waiting a (slots_from 1 (stack_length a))
  all_wait =
      record {
        once = slots_once 1 (stack_length a);
        whole = λ k c h x y i j p.
            let l = chain_links a k c h y j in omega (arith, count_slots_in y 1 (stack_length a) (link_some a y l) (omega (arith, link_within a y l)));
      }

  -- ---- the chain of the first link that waits

  module _ (r : List ℕ) (waits : Waiting a r) (d : lowest_link a r ≢ 0) where
    pub lowest_chain : ChainOf a linked (lowest_link a r) (chain_from a (lowest_link a r))
    lowest_chain = chain_of a linked (lowest_link a r) (lowest_link_lem a r d).0

    pub chain_waits : (x : ℕ) → count x (chain_from a (lowest_link a r)) ≤ count x r
    chain_waits x = go (dec_le 1 (count x (chain_from a (lowest_link a r))))
      where
        go : Dec (In x (chain_from a (lowest_link a r))) → count x (chain_from a (lowest_link a r)) ≤ count x r
        go (yes i) =
            omega (arith, lowest_chain.once x, waits.whole lowest_chain.kind (chain_from a (lowest_link a r)) lowest_chain.chain (lowest_link a r) x lowest_chain.has i (lowest_link_lem a r d).1)
        go (no i) = omega arith

    pub rest_count : (x : ℕ) → count x (chain_from a (lowest_link a r)) + count x (brings (chain_from a (lowest_link a r)) r) ≡ count x r
    rest_count = brings_count (chain_from a (lowest_link a r)) r chain_waits

    pub rest_shorter : suc (length (brings (chain_from a (lowest_link a r)) r)) ≤ length r
    rest_shorter =
        omega (arith, brings_length (chain_from a (lowest_link a r)) r chain_waits, some (chain_from a (lowest_link a r)) (chain_some a lowest_chain.kind (chain_from a (lowest_link a r)) lowest_chain.chain))
      where
        some : (xs : List ℕ) → xs ≢ [] → 1 ≤ length xs
        some [] h = absurd (h refl)
        some (x ∷ xs) h = omega arith

    -- whole chains wait after it
    pub rest_waits : Waiting a (brings (chain_from a (lowest_link a r)) r)
    rest_waits =
        record { once = λ x. omega (arith, rest_count x, waits.once x); whole = λ k e h x y i j p. go k e h x y i j p (dec_le 1 (count y (chain_from a (lowest_link a r)))) }
      where
        c : List ℕ
        c = chain_from a (lowest_link a r)

        go : (k : Kind) (e : List ℕ) → IsChain a k e → (x y : ℕ) → In x e → In y e → In x (brings (chain_from a (lowest_link a r)) r) → Dec (In y (chain_from a (lowest_link a r))) → In y (brings (chain_from a (lowest_link a r)) r)
        go k e h x y i j p (yes m) =
            let l = one_chain a linked k lowest_chain.kind e c h lowest_chain.chain y j m in
            absurd (omega (arith, like_count k e c l.1 x, i, p, rest_count x, waits.once x))
        go k e h x y i j p (no m) = omega (arith, rest_count y, waits.whole k e h x y i j (omega (arith, rest_count x, p)), m)

  -- ---- all of them

  pub record LaidOut (r : List ℕ) (cs : List (List ℕ)) : Type 0 where
    pub chains : All (SomeChain a) cs
    pub each : (x : ℕ) → Link a x → count x (flatten cs) ≡ count x r
    pub only : (x : ℕ) → In x (flatten cs) → Link a x

  laid : (f : ℕ) (r : List ℕ) → Waiting a r → length r ≤ f → LaidOut r (chains_from a f r)
  laid zero [] waits h = unfold chains_from flatten in record { chains = all_nil; each = λ x d. refl; only = λ x i. absurd (not_in_nil x i) }
  laid zero (x ∷ r) waits h = absurd (omega arith)
  laid (suc f) r waits h = go (ℕ_discrete (lowest_link a r) 0) (laid f (brings (chain_from a (lowest_link a r)) r))
    where
      go : Dec (lowest_link a r ≡ 0) →
          (Waiting a (brings (chain_from a (lowest_link a r)) r) → length (brings (chain_from a (lowest_link a r)) r) ≤ f → LaidOut (brings (chain_from a (lowest_link a r)) r) (chains_from a f (brings (chain_from a (lowest_link a r)) r))) →
          LaidOut r (chains_from a (suc f) r)
      go (yes e) ih =
          rw (chains_done a f r e) (unfold flatten in record { chains = all_nil; each = λ x k. count_nil x ∙ sym (lowest_none a r e x k); only = λ x i. absurd (not_in_nil x i) })
      go (no d) ih = rw (chains_next a f r d) (next (ih (rest_waits r waits d) (omega (arith, rest_shorter r waits d))))
        where
          c : List ℕ
          c = chain_from a (lowest_link a r)

          its : ChainOf a linked (lowest_link a r) c
          its = lowest_chain r waits d

          next : LaidOut (brings c r) (chains_from a f (brings c r)) → LaidOut r (c ∷ chains_from a f (brings c r))
          next q =
              let cs = chains_from a f (brings c r) in
              unfold flatten in
              record {
                chains = all_cons (record { kind = its.kind; chain = its.chain }) q.chains;
                each = λ x k. omega (arith, count_append x c (flatten cs), q.each x k, rest_count r waits d x);
                only = λ x i. elim (in_append x c (flatten cs) i) [ inl j ↦ chain_links a its.kind c its.chain x j | inr j ↦ q.only x j ];
              }

  pub canonical_laid : LaidOut (slots_from 1 (stack_length a)) (canonical_chains a)
  unfolding canonical_chains
  canonical_laid = laid (stack_length a) (slots_from 1 (stack_length a)) all_wait (omega (arith, length_slots 1 (stack_length a)))

  -- the canonical order holds each link once
  pub canonical_order_lem : OrderOf a (canonical_order a)
  unfolding canonical_order
  canonical_order_lem =
      record {
        each = λ o h. canonical_laid.each o h ∙ count_slots_in o 1 (stack_length a) (link_some a o h) (omega (arith, link_within a o h));
        only = canonical_laid.only;
      }

  pub canonical_size : link_count a ≡ length (link_slots a.generation (stack_length a)) → length (canonical_order a) ≡ link_count a
  canonical_size e = order_size a (canonical_order a) canonical_order_lem ∙ sym e
