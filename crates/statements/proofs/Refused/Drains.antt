-- What a drain promises: for each field of `Untouched` and `DrainsChain` a wrong reply that it alone refuses. And the overflow of a removal, computed.
use Prim.Native.Nat.{ℕ, zero, suc, ◌<◌}
use mathlib.Core.Path.{◌≡◌, refl, sym, ap, ◌∙◌}
use mathlib.Core.Bool.{true, false, true≢false}
use mathlib.Core.List.{List, [], ◌∷◌}
use native.Mathlib.Omega.{arith}
use lib.ListN.{length, get_or}
use Rattle.definitions.specs.Columns.{at, put, first_or, Linked}
use Rattle.definitions.specs.Arena.{Arena, arena, allocated}
use Rattle.statements.specs.Chains.{IsOpen, IsChain}
use Rattle.definitions.specs.Edit.{next_generation, overflows}
use Rattle.definitions.specs.Remove.{joined, vacated, removed, removed_all}
use Rattle.definitions.specs.Reply.{Reply, reply}
use Rattle.definitions.specs.Report.{item_slots}
use Rattle.statements.specs.DrainsChain.{Untouched, overflows_at, DrainsChain}
use Rattle.definitions.proofs.Slots.{count_nil, count_here, count_there}
use Rattle.definitions.proofs.Count.{in_here, in_only}
use Rattle.statements.proofs.Refused.Chains.{open_of, one, lone, pair}

-- ---- a link that is not what it was

-- its words are as they were, but the stack has ended below it
pub untouched_link_refused : Untouched lone (arena (0 ∷ []) (0 ∷ []) (5 ∷ []) (7 ∷ []) (0 ∷ 1 ∷ 0 ∷ 5 ∷ [])) 1 → ⊥
unfolding allocated at
untouched_link_refused u = true≢false (sym u.link)

pub untouched_prev_refused : Untouched lone (one 1 0 5 7) 1 → ⊥
unfolding at
untouched_prev_refused u = omega (arith, u.prev)

pub untouched_next_refused : Untouched lone (one 0 1 5 7) 1 → ⊥
unfolding at
untouched_next_refused u = omega (arith, u.next)

pub untouched_generation_refused : Untouched lone (one 0 0 6 7) 1 → ⊥
unfolding at
untouched_generation_refused u = omega (arith, u.generation)

pub untouched_payload_refused : Untouched lone (one 0 0 5 8) 1 → ⊥
unfolding at
untouched_payload_refused u = omega (arith, u.payload)

-- ---- which of two removals from generation 4 on overflows, where 5 is the largest

abbrev before_the_largest : Arena
before_the_largest = arena (0 ∷ 1 ∷ []) (2 ∷ 0 ∷ []) (3 ∷ 3 ∷ []) (7 ∷ 8 ∷ []) (2 ∷ 2 ∷ 0 ∷ 4 ∷ [])

pub overflows_at_computed : overflows_at 5 before_the_largest (1 ∷ 2 ∷ []) 0 ∷ overflows_at 5 before_the_largest (1 ∷ 2 ∷ []) 1 ∷ [] ≡ false ∷ true ∷ []
unfolding overflows_at at put next_generation overflows joined vacated removed removed_all
overflows_at_computed = refl

-- ---- the drain of a lone link, with one part wrong; the limits are 5 slots and generation 9

-- right are 0, one item, no overflow, the link gone, and its five words before the report's last one
abbrev gone : Arena
gone = arena (0 ∷ []) (0 ∷ []) (0 ∷ []) (0 ∷ []) (0 ∷ 0 ∷ 0 ∷ 6 ∷ [])

abbrev replies : ℕ → List ℕ → Arena → List ℕ → Type 0
replies number fields left back = DrainsChain 5 9 lone 1 (1 ∷ []) (9 ∷ 9 ∷ 9 ∷ 9 ∷ 9 ∷ 9 ∷ []) (reply number fields left back)

pub drains_chain_done_refused : replies 14 (1 ∷ 0 ∷ []) gone (1 ∷ 5 ∷ 0 ∷ 0 ∷ 7 ∷ 9 ∷ []) → ⊥
drains_chain_done_refused d = omega (arith, d.done)

-- the generation that is left is none
pub drains_chain_kept_refused : replies 0 (1 ∷ 0 ∷ []) (arena (0 ∷ []) (0 ∷ []) (0 ∷ []) (0 ∷ []) (0 ∷ 0 ∷ 0 ∷ 1 ∷ [])) (1 ∷ 5 ∷ 0 ∷ 0 ∷ 7 ∷ 9 ∷ []) → ⊥
drains_chain_kept_refused d = omega (arith, d.kept.generation)

-- the link is there still, and another one has come
pub drains_chain_removed_refused : replies 0 (1 ∷ 0 ∷ []) lone (1 ∷ 5 ∷ 0 ∷ 0 ∷ 7 ∷ 9 ∷ []) → ⊥
unfolding allocated at
drains_chain_removed_refused d = true≢false (d.removed 1 (in_here 1 []))

pub drains_chain_none_new_refused : replies 0 (1 ∷ 0 ∷ []) (arena (0 ∷ 0 ∷ []) (1 ∷ 0 ∷ []) (0 ∷ 5 ∷ []) (0 ∷ 0 ∷ []) (2 ∷ 1 ∷ 1 ∷ 6 ∷ [])) (1 ∷ 5 ∷ 0 ∷ 0 ∷ 7 ∷ 9 ∷ []) → ⊥
unfolding allocated at
drains_chain_none_new_refused d = true≢false (sym (d.none_new 2 refl))

pub drains_chain_items_refused : replies 0 (2 ∷ 0 ∷ []) gone (1 ∷ 5 ∷ 0 ∷ 0 ∷ 7 ∷ 9 ∷ []) → ⊥
drains_chain_items_refused d = omega (arith, d.items)

pub drains_chain_listed_refused : replies 0 (1 ∷ 0 ∷ []) gone (2 ∷ 5 ∷ 0 ∷ 0 ∷ 7 ∷ 9 ∷ []) → ⊥
unfolding item_slots
drains_chain_listed_refused d = omega (arith, ap (λ (l : List ℕ). get_or l 0 0) d.listed)

pub drains_chain_generations_refused : replies 0 (1 ∷ 0 ∷ []) gone (1 ∷ 6 ∷ 0 ∷ 0 ∷ 7 ∷ 9 ∷ []) → ⊥
unfolding at
drains_chain_generations_refused d = omega (arith, d.generations 0 (omega arith))

pub drains_chain_payloads_refused : replies 0 (1 ∷ 0 ∷ []) gone (1 ∷ 5 ∷ 0 ∷ 0 ∷ 8 ∷ 9 ∷ []) → ⊥
unfolding at
drains_chain_payloads_refused d = omega (arith, d.payloads 0 (omega arith))

pub drains_chain_rest_refused : replies 0 (1 ∷ 0 ∷ []) gone (1 ∷ 5 ∷ 0 ∷ 0 ∷ 7 ∷ 8 ∷ []) → ⊥
drains_chain_rest_refused d = omega (arith, ap (λ (l : List ℕ). get_or l 0 0) d.rest)

-- an item is named although none overflowed
pub drains_chain_no_overflow_refused : replies 0 (1 ∷ 1 ∷ []) gone (1 ∷ 5 ∷ 0 ∷ 0 ∷ 7 ∷ 9 ∷ []) → ⊥
unfolding overflows_at overflows removed_all
drains_chain_no_overflow_refused d = omega (arith, d.no_overflow none)
  where
    none : (k : ℕ) → k < 1 → overflows_at 9 lone (1 ∷ []) k ≡ false
    none zero h = refl
    none (suc k) h = absurd (omega arith)

-- none is named although the first one did
pub drains_chain_overflow_refused : DrainsChain 5 5 lone 1 (1 ∷ []) [] (reply 0 (1 ∷ 0 ∷ []) gone (1 ∷ 5 ∷ 0 ∷ 0 ∷ 7 ∷ [])) → ⊥
unfolding overflows_at overflows removed_all
drains_chain_overflow_refused d = omega (arith, d.overflow 0 (omega arith) refl)

-- where slot 2 has the lone slot 1 as its next, both are drained: 2, 1 is a chain, but so is 1 alone
abbrev doubtful : Arena
doubtful = arena (0 ∷ 0 ∷ []) (0 ∷ 1 ∷ []) (5 ∷ 5 ∷ []) (7 ∷ 8 ∷ []) (2 ∷ 2 ∷ 0 ∷ 5 ∷ [])

abbrev both_gone : Arena
both_gone = arena (0 ∷ 0 ∷ []) (1 ∷ 0 ∷ []) (0 ∷ 0 ∷ []) (0 ∷ 0 ∷ []) (1 ∷ 0 ∷ 1 ∷ 7 ∷ [])

alone_is_open : IsOpen doubtful (1 ∷ [])
unfolding Linked first_or at allocated
alone_is_open = record { some = λ e. omega (arith, ap length e); links = λ s i. rw (in_only s 1 i) refl; starts = refl; linked = (refl, tt) }

pub drains_chain_exactly_refused : DrainsChain 5 9 doubtful 1 (1 ∷ 2 ∷ []) [] (reply 0 (2 ∷ 0 ∷ []) both_gone (1 ∷ 5 ∷ 0 ∷ 0 ∷ 7 ∷ 2 ∷ 5 ∷ 0 ∷ 0 ∷ 8 ∷ [])) → ⊥
unfolding IsChain
drains_chain_exactly_refused d =
    omega (arith, d.exactly (open_of (1 ∷ [])) alone_is_open (in_here 1 []) 2, count_there 2 1 (2 ∷ []) (λ e. omega arith), count_here 2 [], count_there 2 1 [] (λ e. omega arith), count_nil 2)

-- the link is drained twice

pub drains_chain_once_refused : (r : Reply) → DrainsChain 5 9 lone 1 (1 ∷ 1 ∷ []) [] r → ⊥
drains_chain_once_refused r d = omega (arith, d.once 1, count_here 1 (1 ∷ []), count_here 1 [])

-- a chain of two, drained from its second link, but listed from its first
pub drains_chain_order_refused : (r : Reply) → DrainsChain 5 9 pair 2 (1 ∷ 2 ∷ []) [] r → ⊥
drains_chain_order_refused r d = omega (arith, ap (λ (l : List ℕ). get_or l 0 0) d.order.order)

-- two lone links, of which the first is drained: the other one's payload has changed
pub drains_chain_others_refused : (fields back : List ℕ) → DrainsChain 5 9 (arena (0 ∷ 0 ∷ []) (0 ∷ 0 ∷ []) (5 ∷ 5 ∷ []) (7 ∷ 8 ∷ []) (2 ∷ 2 ∷ 0 ∷ 5 ∷ [])) 1 (1 ∷ []) [] (reply 0 fields (arena (0 ∷ 0 ∷ []) (1 ∷ 0 ∷ []) (0 ∷ 5 ∷ []) (0 ∷ 9 ∷ []) (2 ∷ 1 ∷ 1 ∷ 6 ∷ [])) back) → ⊥
unfolding allocated at
drains_chain_others_refused fields back d = omega (arith, (d.others 2 refl (count_there 2 1 [] (λ e. omega arith) ∙ count_nil 2)).payload)
