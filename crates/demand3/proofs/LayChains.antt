-- Chain after chain laid out by exchanges, as it is defined, is the canonical order: the lowest link from slot i on is the first link of who waits,
-- its chain begins where the walk back in old slots ends, and the rest follows chain by chain. Assumes nothing.
use Prim.Native.Nat.{ℕ, zero, suc, ◌+◌, ◌-◌, ◌≤◌, ◌<◌}
use mathlib.Core.Path.{◌≡◌, refl, sym, ap, subst, ◌∙◌}
use mathlib.Core.Logic.{◌≢◌, ◌⊎◌, inl, inr}
use mathlib.Core.Bool.{true, false}
use mathlib.Core.List.{List, [], ◌∷◌, map, append-nil, flatten}
use native.Mathlib.Omega.{arith}
use native.Mathlib.Nat.{add-zero}
use native.Mathlib.Decide.{ℕ_discrete}
use lib.ListN.{length, take, drop, length-drop}
use borrow.Author.Tests.{eq-eqb, ne_eqb}
use Rattle.definitions.specs.Columns.{at, first_or, slots_from, keep, Linked}
use Rattle.definitions.specs.Arena.{Arena, stack_length, is_link}
use Rattle.statements.specs.Chains.{Kind, opened, closed, IsChain}
use Rattle.definitions.specs.Compress.{Laying, lowest_from, start_of, lay_chain, lay_chains, laid_out}
use Rattle.definitions.proofs.Tests.{by_test}
use Rattle.definitions.proofs.Columns.{at_zero}
use Rattle.definitions.proofs.Count.{In, in_here, in_there, in_slots, in_keep, keep_yes, keep_no, once_first}
use Rattle.definitions.proofs.Parts.{at_drop}
use Rattle.chains.proofs.Links.{Link, AllLinks, DoublyLinked, few_links, link_nonzero, links_nil}
use Rattle.chains.proofs.OneChain.{chain_links, chain_some}
use Rattle.chains.proofs.Find.{chain_from, along_first, ChainOf}
use Rattle.demand3.proofs.Bring.{brings, brings_nil}
use Rattle.demand3.proofs.Order.{lowest_link, chains_from, canonical_chains, canonical_order, chains_done, chains_next, Waiting, all_wait, lowest_chain, chain_waits, rest_waits}
use Rattle.demand3.proofs.Pieces.{map_slots}
use Rattle.demand3.proofs.Carried.{Room, Carried, carried_start, same_stack, same_link, link_came, start_came}
use Rattle.demand3.proofs.LayChain.{State, Brought, brought_both, Chaining, chain_laid}

module _ (a b : Arena) (w : List ℕ) (carried : Carried a b w) where
  -- ---- the lowest link

  -- who waits, read slot by slot
  waiting_slots : (k : ℕ) → map (at w) (slots_from (suc k) (stack_length a - k)) ≡ drop k w
  waiting_slots k =
      ap (λ (m : ℕ). map (at w) (slots_from (suc k) m)) (sym size) ∙
      map_slots (at w) (suc k) (drop k w) (λ i h. let e : suc k + i ≡ k + suc i = omega arith in rw e (sym (at_drop k w (suc i) (omega arith))))
    where
      size : length (drop k w) ≡ stack_length a - k
      size = omega (arith, length-drop k w, carried.size)

  first_came : (ss : List ℕ) → ((s : ℕ) → In s ss → s ≤ stack_length a) → at w (first_or 0 (keep (is_link b) ss)) ≡ first_or 0 (keep (is_link a) (map (at w) ss))
  first_came [] h = unfold keep first_or in at_zero w
  first_came (s ∷ ss) h = by_test (is_link b s) yes_here (no_here (first_came ss (λ x i. h x (in_there x s ss i))))
    where
      same : is_link b s ≡ is_link a (at w s)
      same = same_link a b w carried s (h s (in_here s ss))

      yes_here : is_link b s ≡ true → at w (first_or 0 (keep (is_link b) (s ∷ ss))) ≡ first_or 0 (keep (is_link a) (at w s ∷ map (at w) ss))
      yes_here e = rw (keep_yes (is_link b) s ss e, keep_yes (is_link a) (at w s) (map (at w) ss) (sym same ∙ e)) (unfold first_or in refl)

      no_here : at w (first_or 0 (keep (is_link b) ss)) ≡ first_or 0 (keep (is_link a) (map (at w) ss)) → is_link b s ≡ false →
          at w (first_or 0 (keep (is_link b) (s ∷ ss))) ≡ first_or 0 (keep (is_link a) (at w s ∷ map (at w) ss))
      no_here ih e = rw (keep_no (is_link b) s ss e, keep_no (is_link a) (at w s) (map (at w) ss) (sym same ∙ e)) ih

  pub lowest_came : (k : ℕ) → at w (lowest_from b (suc k)) ≡ lowest_link a (drop k w)
  unfolding lowest_from lowest_link
  lowest_came k =
      let e : suc (stack_length b) - suc k ≡ stack_length a - k = omega (arith, same_stack a b w carried) in
      rw (e, ← (waiting_slots k)) (first_came (slots_from (suc k) (stack_length a - k)) (λ s i. omega (arith, (in_slots s (suc k) (stack_length a - k) i).0, (in_slots s (suc k) (stack_length a - k) i).1)))

  pub lowest_is_link : (k : ℕ) → lowest_from b (suc k) ≢ 0 → Link b (lowest_from b (suc k))
  unfolding lowest_from
  lowest_is_link k d = (in_keep (is_link b) _ (slots_from (suc k) (suc (stack_length b) - suc k)) (first (keep (is_link b) (slots_from (suc k) (suc (stack_length b) - suc k))) d)).0
    where
      first : (xs : List ℕ) → first_or 0 xs ≢ 0 → In (first_or 0 xs) xs
      first [] d = absurd (d (unfold first_or in refl))
      first (x ∷ xs) d = unfold first_or in in_here x xs

-- ---- step by step

pub lay_done : (f : ℕ) (l : Laying) → lowest_from l.slots l.i ≡ 0 → lay_chains (suc f) l ≡ l
unfolding lay_chains
lay_done f l e = rw (eq-eqb (lowest_from l.slots l.i) 0 e, lay_chains)

pub lay_next : (f : ℕ) (l : Laying) → lowest_from l.slots l.i ≢ 0 →
    lay_chains (suc f) l ≡ lay_chains f (lay_chain (stack_length l.slots) l.i (start_of l.slots (stack_length l.slots) (lowest_from l.slots l.i) (lowest_from l.slots l.i)) l)
unfolding lay_chains
lay_next f l d = rw (ne_eqb (lowest_from l.slots l.i) 0 d, lay_chains)

module _ (a : Arena) (linked : DoublyLinked a) (room : Room a) where
  -- ---- the chain of the lowest link

  module _ (l : Laying) (k : ℕ) (state : State a l k) (waits : Waiting a (drop k l.from)) (d : lowest_from l.slots l.i ≢ 0) where
    abbrev w : List ℕ
    w = l.from

    abbrev b : Arena
    b = l.slots

    abbrev n : ℕ
    n = stack_length a

    -- where the lowest link is, and who it is
    abbrev j : ℕ
    j = lowest_from l.slots l.i

    abbrev o : ℕ
    o = lowest_link a (drop k l.from)

    lowest : j ≡ lowest_from b (suc k)
    lowest = ap (lowest_from b) state.i

    here : at w j ≡ o
    here = ap (at w) lowest ∙ lowest_came a b w state.carried k

    link : Link b j
    link = rw lowest (lowest_is_link a b w state.carried k (λ z. d (lowest ∙ z)))

    pub some_waits : lowest_link a (drop k l.from) ≢ 0
    some_waits z = link_nonzero a (at w j) (link_came a b w state.carried j link).2 (here ∙ z)

    its : ChainOf a linked o (chain_from a o)
    its = lowest_chain a linked (drop k w) waits some_waits

    -- the slot of its start
    abbrev t : ℕ
    t = start_of b (stack_length b) j j

    start_here : at w t ≡ first_or 0 (chain_from a o)
    unfolding chain_from
    start_here =
        start_came a b w state.carried linked (stack_length b) j j link link ∙
        (ap (λ (m : ℕ). start_of a m (at w j) (at w j)) (same_stack a b w state.carried) ∙
        (ap (λ (x : ℕ). start_of a n x x) here ∙ sym (along_first (at a.next) n (start_of a n o o) (start_of a n o o) 0)))

    -- its chain is there to be laid out, from its start
    pub record Begins : Type 0 where
      pub h : ℕ
      pub z : ℕ
      pub os : List ℕ
      pub is : chain_from a (lowest_link a (drop k l.from)) ≡ h ∷ os
      pub chaining : Chaining a l k (start_of l.slots (stack_length l.slots) (lowest_from l.slots l.i) (lowest_from l.slots l.i)) l.i h z h os
      pub few : length os < stack_length l.slots

    pub lowest_begins : Begins
    lowest_begins = go (chain_from a o) refl its.kind its.chain
      where
        go : (c : List ℕ) → chain_from a o ≡ c → (kind : Kind) → IsChain a kind (chain_from a o) → Begins
        go [] e kind ch = absurd (chain_some a kind (chain_from a o) ch e)
        go (h ∷ os) e kind ch = record { h = h; z = end kind; os = os; is = e; chaining = chaining; few = omega (arith, same_stack a b w state.carried, few_links a (h ∷ os) (λ x. rw (← e) (its.once x)) links) }
          where
            links : AllLinks a (h ∷ os)
            links = subst (λ (x : List ℕ). AllLinks a x) e (chain_links a kind (chain_from a o) ch)

            end : Kind → ℕ
            end opened = 0
            end closed = h

            ends : (kind : Kind) → (end kind ≡ 0) ⊎ (end kind ≡ h)
            ends opened = inl refl
            ends closed = inr refl

            run : (kind : Kind) → IsChain a kind (chain_from a o) → Linked (at a.next) (h ∷ os) (end kind)
            run opened ch = rw (← e) (unfold IsChain in ch.linked)
            run closed ch =
                let hd : first_or 0 (chain_from a o) ≡ h = ap (first_or 0) e ∙ (unfold first_or in refl) in
                rw (← e) (subst (λ (z : ℕ). Linked (at a.next) (chain_from a o) z) hd (unfold IsChain in ch.linked))

            chaining : Chaining a l k t l.i h (end kind) h os
            chaining =
                record {
                  here = start_here ∙ (ap (first_or 0) e ∙ (unfold first_or in refl));
                  run = run kind ch;
                  links = links;
                  waits = λ x. rw (← e) (chain_waits a linked (drop k l.from) waits some_waits x);
                  fresh = once_first h os (λ x. rw (← e) (its.once x));
                  head = links h (in_here h os);
                  ends = ends kind;
                  begun = inl (refl, state.i);
                }

    pub lowest_laid : (k' : ℕ) × Brought a l (lay_chain (stack_length l.slots) l.i (start_of l.slots (stack_length l.slots) (lowest_from l.slots l.i) (lowest_from l.slots l.i)) l) k k' (chain_from a (lowest_link a (drop k l.from)))
    lowest_laid =
        let c = lowest_begins in
        (k + suc (length c.os), rw c.is (chain_laid a room (stack_length b) l k t l.i c.h c.z c.h c.os state c.chaining c.few))

  -- ---- all chains

  none_laid : (l : Laying) (k : ℕ) → State a l k → Brought a l l k k []
  none_laid l k state = record { upto = sym (add-zero k); state = state; front = sym (append-nil (take k l.from)); rest = sym (brings_nil (drop k l.from)) }

  pub chains_laid : (f : ℕ) (l : Laying) (k : ℕ) → State a l k → Waiting a (drop k l.from) → (k' : ℕ) × Brought a l (lay_chains f l) k k' (flatten (chains_from a f (drop k l.from)))
  chains_laid zero l k state waits = (k, unfold lay_chains chains_from flatten in none_laid l k state)
  chains_laid (suc f) l k state waits = go (ℕ_discrete (lowest_from l.slots l.i) 0) (chains_laid f)
    where
      r : List ℕ
      r = drop k l.from

      go : Dec (lowest_from l.slots l.i ≡ 0) → ((l : Laying) (k : ℕ) → State a l k → Waiting a (drop k l.from) → (k' : ℕ) × Brought a l (lay_chains f l) k k' (flatten (chains_from a f (drop k l.from)))) →
          (k' : ℕ) × Brought a l (lay_chains (suc f) l) k k' (flatten (chains_from a (suc f) (drop k l.from)))
      go (yes e) ih =
          let none : lowest_link a r ≡ 0 = sym (lowest_came a l.slots l.from state.carried k) ∙ (ap (at l.from) (ap (lowest_from l.slots) (sym state.i) ∙ e) ∙ at_zero l.from) in
          (k, rw (lay_done f l e, chains_done a f r none) (unfold flatten in none_laid l k state))
      go (no d) ih =
          let some = some_waits l k state waits d in
          let c = chain_from a (lowest_link a r) in
          let n = stack_length l.slots in
          let j = lowest_from l.slots l.i in
          let m : Laying = lay_chain n l.i (start_of l.slots n j j) l in
          let one = lowest_laid l k state waits d in
          let rest : Waiting a (drop one.0 m.from) = rw one.1.rest (rest_waits a linked r waits some) in
          let all = ih m one.0 one.1.state rest in (
            all.0,
            rw (lay_next f l d, chains_next a f r some)
                (unfold flatten in brought_both a l m (lay_chains f m) k one.0 all.0 c (flatten (chains_from a f (brings c r))) one.1 (rw one.1.rest at all.1)),
          )

  -- laying out begins at slot 1: the first n places of the where-from column are the canonical order, and the slots are carried
  pub canonical_laid_out : (take (length (canonical_order a)) (laid_out a).from ≡ canonical_order a) × Carried a (laid_out a).slots (laid_out a).from
  unfolding laid_out canonical_order canonical_chains
  canonical_laid_out =
      let l : Laying = record { slots = a; from = slots_from 1 (stack_length a); i = 1 } in
      let r = chains_laid (stack_length a) l 0 (record { i = refl; carried = carried_start a linked; within = omega arith; laid = links_nil a }) (all_wait a linked) in
      let e : r.0 ≡ length (flatten (chains_from a (stack_length a) (slots_from 1 (stack_length a)))) = omega (arith, r.1.upto) in
      (rw e at r.1.front, r.1.state.carried)
