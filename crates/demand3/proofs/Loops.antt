-- What the two loops of canonical compression keep, as records with laws for code that follows the definition step by step: between chains, whole chains wait;
-- in a chain, the next link is in slot t, at or above i. Each turn of the one or the other keeps it, and at the end slots 1 to n are the links. Assumes nothing.
use Prim.Native.Nat.{ℕ, suc, ◌+◌, ◌≤◌, ◌<◌}
use mathlib.Core.Path.{◌≡◌, refl, sym, ap, subst, ◌∙◌}
use mathlib.Core.Logic.{◌≢◌, ◌⊎◌, inl, inr}
use mathlib.Core.Bool.{true, false, ◌||◌, true≢false}
use mathlib.Core.List.{List, [], ◌∷◌}
use native.Mathlib.Omega.{arith}
use native.Mathlib.Decide.{dec_le}
use lib.ListN.{length, take, drop, length-take, length-drop}
use lib.Dec.{eqb}
use Rattle.definitions.specs.Columns.{at, count, slots_from}
use Rattle.definitions.specs.Arena.{Arena, stack_length, link_count, link_slots, allocated, is_link}
use Rattle.definitions.specs.Compress.{Laying, exchange_words, exchange_slots, put_at_i, lowest_from, start_of}
use Rattle.definitions.proofs.Columns.{at_zero}
use Rattle.definitions.proofs.Slots.{count_slots_in, count_here}
use Rattle.definitions.proofs.Count.{In, in_here, shorter}
use Rattle.definitions.proofs.Parts.{at_take, in_at}
use Rattle.chains.proofs.Links.{Link, DoublyLinked, link_some, link_within, links_nil}
use Rattle.renaming.proofs.Orders.{OrderOf, order_size}
use Rattle.demand3.proofs.Bring.{brings, brings_nil, brings_cons}
use Rattle.demand3.proofs.Order.{lowest_none, Waiting, all_wait, rest_waits}
use Rattle.demand3.proofs.Exchange.{exchanged_other, exchange_reads, count_parts, in_drop}
use Rattle.demand3.proofs.Carried.{Room, carried_start, same_link, link_came}
use Rattle.demand3.proofs.LayChain.{State, Brought, Chaining, in_stack, after_k, put_brings, turn, Over, On}
use Rattle.demand3.proofs.LayChains.{lowest_came, some_waits, lowest_begins}
use Rattle.demand3.proofs.Search.{FreeBetween}

module _ (a : Arena) where
  -- between chains: k links are laid out, and whole chains wait
  pub record Between (l : Laying) : Type 0 where
    pub k : ℕ
    pub state : State a l k
    pub waits : Waiting a (drop k l.from)

  -- in a chain: o is in slot t, os follow it, and whole chains wait after them
  pub record Within (l : Laying) (first t : ℕ) : Type 0 where
    pub k : ℕ
    pub h : ℕ
    pub z : ℕ
    pub o : ℕ
    pub os : List ℕ
    pub state : State a l k
    pub chaining : Chaining a l k t first h z o os
    pub waits : Waiting a (brings (o ∷ os) (drop k l.from))

  -- ---- in a chain

  module _ (room : Room a) (l : Laying) (first t : ℕ) (c : Within l first t) where
    link : Link a c.o
    link = c.chaining.links c.o (in_here c.o c.os)

    waiting : In c.o (drop c.k l.from)
    waiting = omega (arith, c.chaining.waits c.o, count_here c.o c.os)

    -- slot t is in the stack, at or above i, and a link
    pub within_stack : (1 ≤ t) × (t ≤ stack_length a)
    within_stack = in_stack a room l c.k c.o t c.state c.chaining.here link waiting

    pub within_above : l.i ≤ t
    within_above = omega (arith, c.state.i, after_k a room l c.k c.o t c.state c.chaining.here link waiting)

    pub within_link : Link l.slots t
    within_link = same_link a l.slots l.from c.state.carried t within_stack.1 ∙ (ap (is_link a) c.chaining.here ∙ link)

    -- the chain fits: so many turns are enough
    pub within_few : l.i + length c.os ≤ stack_length a
    within_few =
        omega (arith, c.state.i, c.state.carried.size, c.state.within, length-drop c.k l.from, shorter (c.o ∷ c.os) (drop c.k l.from) c.chaining.waits)

    -- one turn: the chain is laid out, or its next link is ahead
    pub data Turned : Type 0 where
      over : c.os ≡ [] → (eqb (at (put_at_i t l).slots.next l.i) 0 || eqb (at (put_at_i t l).slots.next l.i) first) ≡ true → Between (put_at_i t l) → Turned
      on : (eqb (at (put_at_i t l).slots.next l.i) 0 || eqb (at (put_at_i t l).slots.next l.i) first) ≡ false → (d : Within (put_at_i t l) first (at (put_at_i t l).slots.next l.i)) →
          length c.os ≡ suc (length d.os) → Turned

    pub within_turn : Turned
    within_turn = go (turn a room l c.k t first c.h c.z c.o c.os c.state c.chaining)
      where
        put : Brought a l (put_at_i t l) c.k (suc c.k) (c.o ∷ [])
        put = put_brings a room l c.k c.o t c.state c.chaining.here link waiting

        go : Over a room l c.k t first c.h c.z c.o c.os c.state c.chaining ⊎ On a room l c.k t first c.h c.z c.o c.os c.state c.chaining → Turned
        go (inl v) =
            over v.last v.test
            (record { k = suc c.k; state = put.state; waits = rw put.rest (subst (λ (os : List ℕ). Waiting a (brings (c.o ∷ os) (drop c.k l.from))) v.last c.waits) })
        go (inr v) =
            on v.test
            (record {
              k = suc c.k;
              h = c.h;
              z = c.z;
              o = v.o';
              os = v.os';
              state = put.state;
              chaining = v.chaining;
              waits = rw (put.rest, brings_cons c.o [] (drop c.k l.from), brings_nil)
                  (rw (brings_cons c.o (v.o' ∷ v.os') (drop c.k l.from)) at
                  (subst (λ (os : List ℕ). Waiting a (brings (c.o ∷ os) (drop c.k l.from))) v.more c.waits));
            })
            (ap length v.more)

    -- slots that are free from i up to j stay free
    pub within_free : (j : ℕ) → FreeBetween l.slots l.i j → FreeBetween (put_at_i t l).slots (put_at_i t l).i j
    unfolding put_at_i exchange_slots allocated
    within_free j free s h m =
        let high : t < j → ⊥ = λ q. true≢false (sym within_link ∙ free t within_above q) in
        let gs = l.slots.generation in
        let long : stack_length a ≤ length gs = omega (arith, c.state.carried.generation.size, room.generation) in
        let same : at (exchange_words l.i t gs) s ≡ at gs s =
        exchange_reads l.i t gs (omega (arith, c.state.i)) within_stack.0 (omega (arith, within_above, within_stack.1)) (omega (arith, within_stack.1)) s ∙
        ap (at gs) (exchanged_other l.i t s (λ e. omega arith) (λ e. high (omega arith))) in
        rw same (free s (omega arith) m)

  -- ---- between chains

  module _ (linked : DoublyLinked a) where
    pub between_start : Between (record { slots = a; from = slots_from 1 (stack_length a); i = 1 })
    between_start = record { k = 0; state = record { i = refl; carried = carried_start a linked; within = omega arith; laid = links_nil a }; waits = all_wait a linked }

    module _ (room : Room a) (l : Laying) (c : Between l) where
      -- a link waits: its chain is there to be laid out, from its start
      pub within_begins : lowest_from l.slots l.i ≢ 0 → Within l l.i (start_of l.slots (stack_length l.slots) (lowest_from l.slots l.i) (lowest_from l.slots l.i))
      within_begins d =
          let b = lowest_begins a linked room l c.k c.state c.waits d in
          let some = some_waits a linked room l c.k c.state c.waits d in
          record {
            k = c.k;
            h = b.h;
            z = b.z;
            o = b.h;
            os = b.os;
            state = c.state;
            chaining = b.chaining;
            waits = rw (← b.is) (rest_waits a linked (drop c.k l.from) c.waits some);
          }

      -- none waits: the links are slots 1 to i - 1
      module _ (none : lowest_from l.slots l.i ≡ 0) where
        abbrev w : List ℕ
        w = l.from

        no_link : (x : ℕ) → Link a x → count x (drop c.k w) ≡ 0
        no_link =
            lowest_none a (drop c.k w)
            (sym (lowest_came a l.slots w c.state.carried c.k) ∙ (ap (at w) (ap (lowest_from l.slots) (sym c.state.i) ∙ none) ∙ at_zero w))

        all_laid : OrderOf a (take c.k w)
        all_laid =
            record {
              each = λ x h.
                  omega (
                    arith,
                    count_parts x c.k w,
                    no_link x h,
                    c.state.carried.who x,
                    count_slots_in x 1 (stack_length a) (link_some a x h) (omega (arith, link_within a x h)),
                  );
              only = c.state.laid;
            }

        pub between_end : link_count a ≡ length (link_slots a.generation (stack_length a)) → l.i ≡ suc (link_count a)
        between_end size =
            omega (arith, c.state.i, size, order_size a (take c.k w) all_laid, length-take c.k w, c.state.carried.size, c.state.within)

        pub end_links : (s : ℕ) → 1 ≤ s → s < l.i → Link l.slots s
        end_links s h m =
            let within : s ≤ stack_length a = omega (arith, c.state.i, c.state.within) in
            let low : s ≤ c.k = omega (arith, c.state.i) in
            let here : In (at (take c.k w) s) (take c.k w) = in_at (take c.k w) s h (omega (arith, length-take c.k w, c.state.carried.size)) in
            same_link a l.slots w c.state.carried s within ∙ c.state.laid (at w s) (rw (at_take c.k w s low) at here)

        pub end_only : (s : ℕ) → Link l.slots s → s < l.i
        end_only s h =
            let came = link_came a l.slots w c.state.carried s h in
            elim (dec_le s c.k) [
              | yes m ↦ omega (arith, c.state.i)
              | no m ↦ absurd (omega (arith, no_link (at w s) came.2, in_drop c.k w s (omega arith) (omega (arith, came.1, c.state.carried.size))))
            ]
