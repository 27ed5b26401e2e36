-- What popping the free end slots and listing the others leaves is the definition's arena. Assumes nothing.
use Prim.Native.Nat.{ℕ}
use mathlib.Core.Path.{◌≡◌, refl}
use mathlib.Core.List.{List, []}
use native.Mathlib.Omega.{arith}
use lib.ListN.{take}
use Rattle.definitions.specs.Columns.{first_or, last_or}
use Rattle.definitions.specs.Arena.{Arena, arena, stack_length, with_stack_length, with_root, link_slots, free_slots}
use Rattle.definitions.specs.Reply.{reply}
use Rattle.definitions.specs.Remove.{threaded, canonicalize_freelist}
use Rattle.base_freelist.specs.Popped.{popped}
use Rattle.base_freelist.proofs.Settled.{settled_over}
use Rattle.base_freelist.proofs.Rising.{ends_within}
use Rattle.base_freelist.proofs.Threaded.{threaded_drop, in_free}

module _ (a : Arena) (m root : ℕ) (ns : List ℕ) where
  abbrev left : Arena
  left =
      let n = stack_length a in
      arena (popped m n a.prev) (popped m n ns) (popped m n a.generation) (popped m n a.payload) (with_stack_length m (with_root root a.header))

  pub canonicalized : m ≡ last_or 0 (link_slots a.generation (stack_length a)) → root ≡ first_or 0 (free_slots a.generation m) → ns ≡ threaded a.next (free_slots a.generation m) → reply 0 [] left [] ≡ canonicalize_freelist a []
  unfolding canonicalize_freelist
  canonicalized e r t =
      let n = stack_length a in
      let past = threaded_drop n a.next (free_slots a.generation m) (λ s h. let below = in_free a.generation m s h in omega (arith, ends_within a.generation n m e)) in
      rw (t, settled_over n (take m (threaded a.next (free_slots a.generation m))) (threaded a.next (free_slots a.generation m)) a.next past, r, ← e) refl
