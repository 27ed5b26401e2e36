-- One chain laid out by exchanges: its links come to slots k+1, k+2, and so on, along next, and who waited there waits where they were. The walk's
-- two ends, no next and the slot of the first link, are the two ends of a chain in old slots. Assumes nothing.
use Prim.Native.Nat.{ℕ, zero, suc, ◌+◌, ◌≤◌, ◌<◌}
use mathlib.Core.Path.{◌≡◌, refl, sym, ap, subst, ◌∙◌}
use mathlib.Core.Logic.{◌≢◌, ◌⊎◌, inl, inr}
use mathlib.Core.Bool.{true, false, ◌||◌}
use mathlib.Core.List.{List, [], ◌∷◌, ◌++◌, append_assoc}
use native.Mathlib.Omega.{arith}
use native.Mathlib.Decide.{dec_le}
use lib.ListN.{length, take, drop, length-append}
use lib.Dec.{eqb}
use borrow.Author.Tests.{eq-eqb, ne_eqb}
use Rattle.definitions.specs.Columns.{at, count, first_or, Linked}
use Rattle.definitions.specs.Arena.{Arena, stack_length}
use Rattle.definitions.specs.Compress.{Laying, exchanged, exchange_words, put_at_i, lay_chain}
use Rattle.definitions.proofs.Tests.{the_first, the_second, neither}
use Rattle.definitions.proofs.Columns.{at_zero}
use Rattle.definitions.proofs.Slots.{count_here}
use Rattle.definitions.proofs.Count.{In, in_here, in_there}
use Rattle.definitions.proofs.Parts.{at_past}
use Rattle.chains.proofs.Links.{Link, AllLinks, link_nonzero, links_snoc}
use Rattle.demand3.proofs.Bring.{bring, brings, brings_nil, brings_cons, brings_rest}
use Rattle.demand3.proofs.Exchange.{exchanged_i, exchanged_other, exchange_reads, exchange_brings, exchange_count, waits_later}
use Rattle.demand3.proofs.Carried.{Room, Carried, who_once, one_slot, exchange_carries}

module _ (a : Arena) where
  -- k links are laid out
  pub record State (l : Laying) (k : ℕ) : Type 0 where
    pub i : l.i ≡ suc k
    pub carried : Carried a l.slots l.from
    pub within : k ≤ stack_length a
    pub laid : AllLinks a (take k l.from)

  -- after k links, those of c were put in their order
  pub record Brought (l l' : Laying) (k k' : ℕ) (c : List ℕ) : Type 0 where
    pub upto : k' ≡ k + length c
    pub state : State l' k'
    pub front : take k' l'.from ≡ take k l.from ++ c
    pub rest : drop k' l'.from ≡ brings c (drop k l.from)

  pub brought_both : (l m r : Laying) (i j k : ℕ) (c d : List ℕ) → Brought l m i j c → Brought m r j k d → Brought l r i k (c ++ d)
  brought_both l m r i j k c d p q =
      record {
        upto = omega (arith, p.upto, q.upto, length-append c d);
        state = q.state;
        front = q.front ∙ (ap (λ (x : List ℕ). x ++ d) p.front ∙ append_assoc (take i l.from) c d);
        rest = q.rest ∙ (ap (brings d) p.rest ∙ sym (together c d (drop i l.from)));
      }
    where
      together : (c d r : List ℕ) → brings (c ++ d) r ≡ brings d (brings c r)
      together [] d r = ap (brings d) (sym (brings_nil r))
      together (o ∷ c) d r = rw (brings_cons o (c ++ d) r, brings_cons o c r) (together c d (bring o r))

  -- ---- one link

  module _ (room : Room a) (l : Laying) (k o t : ℕ) (state : State l k) (here : at l.from t ≡ o) (link : Link a o) (waits : In o (drop k l.from)) where
    abbrev w : List ℕ
    w = l.from

    pub in_stack : (1 ≤ t) × (t ≤ stack_length a)
    in_stack = go t here
      where
        go : (t : ℕ) → at w t ≡ o → (1 ≤ t) × (t ≤ stack_length a)
        go zero e = absurd (link_nonzero a o link (sym e ∙ at_zero w))
        go (suc s) e =
            elim (dec_le (suc s) (length w)) [
              | yes h ↦ (omega arith, omega (arith, state.carried.size))
              | no h ↦ absurd (link_nonzero a o link (sym e ∙ at_past w (suc s) (omega arith)))
            ]

    few : count o w ≤ 1
    few = who_once a l.slots w state.carried o

    pub after_k : k < t
    after_k = waits_later k w t o in_stack.0 (omega (arith, in_stack.1, state.carried.size)) here few waits

    pub put_brings : Brought l (put_at_i t l) k (suc k) (o ∷ [])
    unfolding put_at_i brings
    put_brings =
        rw state.i
        (record {
          upto = omega arith;
          state = record {
            i = refl;
            carried = exchange_carries a l.slots w state.carried (suc k) t (omega arith) in_stack.0 (omega (arith, in_stack.1, after_k)) in_stack.1 room (exchange_count k w t o after_k long here few);
            within = omega (arith, in_stack.1, after_k);
            laid = rw shape.0 (links_snoc a (take k w) o state.laid link);
          };
          front = shape.0;
          rest = shape.1;
        })
      where
        long : t ≤ length w
        long = omega (arith, in_stack.1, state.carried.size)

        shape : (take (suc k) (exchange_words (suc k) t w) ≡ take k w ++ o ∷ []) × (drop (suc k) (exchange_words (suc k) t w) ≡ bring o (drop k w))
        shape = exchange_brings k w t o after_k long here few

    who_then : (s : ℕ) → at (put_at_i t l).from s ≡ at w (exchanged (suc k) t s)
    unfolding put_at_i
    who_then s =
        rw state.i
        (exchange_reads (suc k) t w (omega arith) in_stack.0 (omega (arith, in_stack.1, after_k, state.carried.size)) (omega (arith, in_stack.1, state.carried.size)) s)

    pub put_here : at (put_at_i t l).from (suc k) ≡ o
    put_here = who_then (suc k) ∙ (ap (at w) (exchanged_i (suc k) t (suc k) refl) ∙ here)

    -- who is laid out already stays
    pub put_keeps : (s : ℕ) → s ≤ k → at (put_at_i t l).from s ≡ at w s
    put_keeps s h = who_then s ∙ ap (at w) (exchanged_other (suc k) t s (λ e. omega arith) (λ e. omega (arith, after_k)))

  -- ---- a chain

  -- o, in slot t now, and os after it are what is left of a chain whose first link is h, in slot `first` or about to be put there
  pub record Chaining (l : Laying) (k t first h z o : ℕ) (os : List ℕ) : Type 0 where
    pub here : at l.from t ≡ o
    pub run : Linked (at a.next) (o ∷ os) z
    pub links : AllLinks a (o ∷ os)
    pub waits : (x : ℕ) → count x (o ∷ os) ≤ count x (drop k l.from)
    pub fresh : In h os → ⊥
    pub head : Link a h
    pub ends : (z ≡ 0) ⊎ (z ≡ h)
    pub begun : ((o ≡ h) × (first ≡ suc k)) ⊎ ((at l.from first ≡ h) × (first ≤ k))

  module _ (room : Room a) (l : Laying) (k t first h z o : ℕ) (os : List ℕ) (state : State l k) (c : Chaining l k t first h z o os) where
    link : Link a o
    link = c.links o (in_here o os)

    waits : In o (drop k l.from)
    waits = omega (arith, c.waits o, count_here o os)

    l' : Laying
    l' = put_at_i t l

    abbrev ahead : ℕ
    ahead = at (put_at_i t l).slots.next l.i

    put : Brought l (put_at_i t l) k (suc k) (o ∷ [])
    put = put_brings room l k o t state c.here link waits

    now : Carried a (put_at_i t l).slots (put_at_i t l).from
    now = put.state.carried

    high : suc k ≤ stack_length a
    high = omega (arith, (in_stack room l k o t state c.here link waits).1, after_k room l k o t state c.here link waits)

    it_is_here : at (put_at_i t l).from (suc k) ≡ o
    it_is_here = put_here room l k o t state c.here link waits

    first_is_h : (at (put_at_i t l).from first ≡ h) × (first ≤ suc k)
    first_is_h = go c.begun
      where
        go : ((o ≡ h) × (first ≡ suc k)) ⊎ ((at l.from first ≡ h) × (first ≤ k)) → (at (put_at_i t l).from first ≡ h) × (first ≤ suc k)
        go (inl e) = (ap (at (put_at_i t l).from) e.1 ∙ (it_is_here ∙ e.0), omega (arith, e.1))
        go (inr e) = (put_keeps room l k o t state c.here link waits first e.1 ∙ e.0, omega (arith, e.1))

    -- what the code reads next, through who is in it
    ahead_within : ahead ≤ stack_length a
    ahead_within = subst (λ (s : ℕ). at (put_at_i t l).slots.next s ≤ stack_length a) (sym state.i) (now.next.within (suc k) (omega arith) high (rw it_is_here link))

    ahead_came : at (put_at_i t l).from ahead ≡ at a.next o
    ahead_came =
        subst (λ (s : ℕ). at (put_at_i t l).from (at (put_at_i t l).slots.next s) ≡ at a.next o) (sym state.i)
        (now.next.came (suc k) (omega arith) high (rw it_is_here link) ∙ ap (at a.next) it_is_here)

    ahead_is : (s : ℕ) → s ≤ stack_length a → at a.next o ≡ at (put_at_i t l).from s → ahead ≡ s
    ahead_is s h e = one_slot a (put_at_i t l).slots (put_at_i t l).from now ahead s ahead_within h (ahead_came ∙ e)

    ahead_is_not : (s : ℕ) → at a.next o ≢ at (put_at_i t l).from s → ahead ≢ s
    ahead_is_not s d e = d (sym ahead_came ∙ ap (at (put_at_i t l).from) e)

    -- the chain is laid out, or its next link is ahead
    pub record Over : Type 0 where
      pub last : os ≡ []
      pub test : (eqb (at (put_at_i t l).slots.next l.i) 0 || eqb (at (put_at_i t l).slots.next l.i) first) ≡ true

    pub record On : Type 0 where
      pub o' : ℕ
      pub os' : List ℕ
      pub more : os ≡ o' ∷ os'
      pub test : (eqb (at (put_at_i t l).slots.next l.i) 0 || eqb (at (put_at_i t l).slots.next l.i) first) ≡ false
      pub chaining : Chaining (put_at_i t l) (suc k) (at (put_at_i t l).slots.next l.i) first h z o' os'

    pub turn : Over ⊎ On
    turn = go os c.run c.links c.waits c.fresh refl
      where
        go : (rs : List ℕ) → Linked (at a.next) (o ∷ rs) z → AllLinks a (o ∷ rs) → ((x : ℕ) → count x (o ∷ rs) ≤ count x (drop k l.from)) → (In h rs → ⊥) → os ≡ rs → Over ⊎ On
        go [] run links under fresh e = inl (record { last = e; test = stop c.ends })
          where
            end : at a.next o ≡ z
            end = unfold Linked first_or in run.0

            stop : (z ≡ 0) ⊎ (z ≡ h) → (eqb ahead 0 || eqb ahead first) ≡ true
            stop (inl q) = the_first _ _ (eq-eqb ahead 0 (ahead_is 0 (omega arith) (end ∙ (q ∙ sym (at_zero (put_at_i t l).from)))))
            stop (inr q) =
                the_second (eqb ahead 0) _ (eq-eqb ahead first (ahead_is first (omega (arith, first_is_h.1, high)) (end ∙ (q ∙ sym first_is_h.0))))
        go (o' ∷ os') run links under fresh e =
            inr
            (record {
              o' = o';
              os' = os';
              more = e;
              test = neither _ _ (ne_eqb ahead 0 (ahead_is_not 0 (λ q. link_nonzero a o' link' (sym next ∙ (q ∙ at_zero (put_at_i t l).from)))))
                  (ne_eqb ahead first (ahead_is_not first (λ q. fresh (subst (λ (y : ℕ). In y (o' ∷ os')) (sym next ∙ (q ∙ first_is_h.0)) (in_here o' os')))));
              chaining = record {
                here = ahead_came ∙ next;
                run = unfold Linked in run.1;
                links = λ x i. links x (in_there x o (o' ∷ os') i);
                waits = rw (put.rest, brings_cons o [] (drop k l.from), brings_nil) (brings_rest o (o' ∷ os') (drop k l.from) under);
                fresh = λ i. fresh (in_there h o' os' i);
                head = c.head;
                ends = c.ends;
                begun = inr (first_is_h.0, first_is_h.1);
              };
            })
          where
            next : at a.next o ≡ o'
            next = unfold Linked first_or in run.0

            link' : Link a o'
            link' = links o' (in_there o' o (o' ∷ os') (in_here o' os'))

  -- ---- the whole chain

  pub lay_over : (steps first t : ℕ) (l : Laying) → (eqb (at (put_at_i t l).slots.next l.i) 0 || eqb (at (put_at_i t l).slots.next l.i) first) ≡ true → lay_chain (suc steps) first t l ≡ put_at_i t l
  unfolding lay_chain
  lay_over steps first t l e = rw (e, lay_chain)

  pub lay_on : (steps first t : ℕ) (l : Laying) → (eqb (at (put_at_i t l).slots.next l.i) 0 || eqb (at (put_at_i t l).slots.next l.i) first) ≡ false →
      lay_chain (suc steps) first t l ≡ lay_chain steps first (at (put_at_i t l).slots.next l.i) (put_at_i t l)
  unfolding lay_chain
  lay_on steps first t l e = rw (e, lay_chain)

  pub chain_laid : (room : Room a) (steps : ℕ) (l : Laying) (k t first h z o : ℕ) (os : List ℕ) → State l k → Chaining l k t first h z o os → length os < steps →
      Brought l (lay_chain steps first t l) k (k + suc (length os)) (o ∷ os)
  chain_laid room zero l k t first h z o os state c fuel = absurd (omega arith)
  chain_laid room (suc steps) l k t first h z o os state c fuel = go (turn room l k t first h z o os state c) (chain_laid room steps (put_at_i t l) (suc k))
    where
      put : Brought l (put_at_i t l) k (suc k) (o ∷ [])
      put = put_brings room l k o t state c.here (c.links o (in_here o os)) (omega (arith, c.waits o, count_here o os))

      go : Over room l k t first h z o os state c ⊎ On room l k t first h z o os state c →
          ((t' first h z o : ℕ) (os : List ℕ) → State (put_at_i t l) (suc k) → Chaining (put_at_i t l) (suc k) t' first h z o os → length os < steps →
          Brought (put_at_i t l) (lay_chain steps first t' (put_at_i t l)) (suc k) (suc k + suc (length os)) (o ∷ os)) →
          Brought l (lay_chain (suc steps) first t l) k (k + suc (length os)) (o ∷ os)
      go (inl v) ih =
          let e : suc k ≡ k + suc (length os) = omega (arith, ap length v.last) in
          rw (lay_over steps first t l v.test, ← e, v.last) put
      go (inr v) ih =
          let t' : ℕ = at (put_at_i t l).slots.next l.i in
          let e : suc k + suc (length v.os') ≡ k + suc (length os) = omega (arith, ap length v.more) in
          let rest = ih t' first h z v.o' v.os' put.state v.chaining (omega (arith, ap length v.more)) in
          rw (lay_on steps first t l v.test, ← e, v.more) (brought_both l (put_at_i t l) (lay_chain steps first t' (put_at_i t l)) k (suc k) (suc k + suc (length v.os')) (o ∷ []) (v.o' ∷ v.os') put rest)
