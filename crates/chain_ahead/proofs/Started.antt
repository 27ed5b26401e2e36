-- A walk that was started at a pointer, or was not since the pointer is stale. Assumes nothing.
use Prim.Native.Nat.{ℕ}
use mathlib.Core.Path.{◌≡◌, ap, ◌∙◌}
use mathlib.Core.Logic.{inr}
use mathlib.Core.Bool.{true, false}
use mathlib.Core.List.{List, []}
use native.Mathlib.Omega.{arith}
use lib.ListN.{get_or, replicate}
use Rattle.std.specs.Prelude.{Ok, Err}
use Rattle.definitions.specs.Arena.{Arena, stack_length}
use Rattle.definitions.specs.Read.{Pointer, stale}
use Rattle.definitions.specs.Reply.{Reply, refusal}
use Rattle.definitions.specs.Walk.{Walk, start_at, state_of, walk_start, walk_from}
use Rattle.definitions.proofs.Pointers.{fresh_link}
use Rattle.definitions.proofs.Tests.{by_test}
use Rattle.definitions.proofs.Slots.{allocated_some}
use Rattle.refusals.specs.declared.Refusal.{Refusal}
use Rattle.refusals.specs.Refusal.{refused, result_reply}
use Rattle.lent.specs.Arenas.{checked_of}
use Rattle.chain_iterators.specs.Walk.{walk_of, OnChain, walk_words}
use Rattle.chain_iterators.specs.declared.ChainPtrAdvancer.{ChainPtrAdvancer}
use Rattle.chain_ahead.specs.Ahead.{slots_ahead}
use Rattle.chain_ahead.specs.Rest.{rest_of, rest_words}
use Rattle.chain_ahead.specs.declared.ChainWalk.{ChainWalk}

-- the walk k was started at p, in the arena a
pub record StartedAt (a : Arena) (p : Pointer) (k : ChainWalk) : Type 0 where
  pub fresh : stale a p ≡ false
  pub arena : checked_of k.arena ≡ a
  pub whole : rest_of k ≡ walk_from a p.slot

-- the refusal r is that of a stale pointer, also where it is handed on with other fields
pub record NotStarted (a : Arena) (p : Pointer) (r : Refusal) : Type 0 where
  pub stale : stale a p ≡ true
  pub refused : (fields : ℕ) (b : Arena) (l : List ℕ) → refused r fields b l ≡ refusal 12 fields b l

module _ (a : Arena) (p : Pointer) where
  -- where a walk is answered, the pointer is not stale
  fresh_start : (w : ChainPtrAdvancer) → result_reply walk_words 4 (Ok w) a [] ≡ walk_start a p [] → (stale a p ≡ false) × (walk_of w ≡ start_at a p.slot)
  unfolding walk_start
  fresh_start w e =
      by_test (stale a p)
      (λ s. let z : ◌≡◌ {A = ℕ} 0 12 = ap (λ (r : Reply). r.number) (rw s at e) in absurd (omega arith))
      (λ s. (s, ap (λ (r : Reply). state_of r.fields) (rw s at e)))

  -- it is at a link
  pub started_on_chain : (w : ChainPtrAdvancer) → result_reply walk_words 4 (Ok w) a [] ≡ walk_start a p [] → OnChain a w.ptr.0
  started_on_chain w e =
      let start = fresh_start w e in
      let there : w.ptr.0 ≡ p.slot = ap (λ (v : Walk). v.position) start.1 in
      rw there (inr (fresh_link a p start.0))

  -- and its rest is the whole walk
  pub started : (k : ChainWalk) → result_reply rest_words 4 (Ok k) a [] ≡ walk_start a p [] → checked_of k.arena ≡ a → StartedAt a p k
  started k e there =
      let start = fresh_start k.walk e in
      record { fresh = start.0; arena = there; whole = ap (λ (b : Arena). slots_ahead b (walk_of k.walk)) there ∙ ap (slots_ahead a) start.1 }

  pub not_started : (r : Refusal) → result_reply rest_words 4 (Err r) a [] ≡ walk_start a p [] → NotStarted a p r
  unfolding walk_start
  not_started r e =
      by_test (stale a p)
      (λ s.
      let f = rw s at e in
      record {
        stale = s;
        refused = λ fields b l. ap (λ (q : Reply). record { number = q.number; broken = q.broken; side = q.side; fields = replicate fields 0; arena = b; back = l }) f;
      })
      (λ s.
      let z : ◌≡◌ {A = ℕ} 0 p.slot = ap (λ (q : Reply). get_or q.fields 0 0) (rw s at e) in
      let some = allocated_some a.generation (stack_length a) p.slot (fresh_link a p s) in
      absurd (omega arith))
