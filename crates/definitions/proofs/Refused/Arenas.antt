-- The fields of `WellFormed` and `Freelist`, and `FailsAt`: for each an arena, or a slot, that it alone refuses. And `SameRead` asks for nothing of the words that
-- the check does not read.
use Prim.Native.Nat.{ℕ, zero, suc, ◌≤◌}
use mathlib.Core.Path.{◌≡◌, refl, sym, ap, ◌∙◌}
use mathlib.Core.Bool.{true, true≢false}
use mathlib.Core.List.{List, [], ◌∷◌}
use native.Mathlib.Omega.{arith}
use Rattle.definitions.specs.Columns.{at, first_or, last_or, slots_from, keep, Linked}
use Rattle.definitions.specs.Arena.{Arena, arena, allocated, link_slots}
use Rattle.definitions.specs.Check.{FailsAt, Freelist, WellFormed, SameRead, names_back, neighbours_fine}
use Rattle.definitions.proofs.Slots.{count_nil, count_there, allocated_within}
use Rattle.definitions.proofs.Count.{count_first, in_here}

-- ---- WellFormed, with two slots at most

pub well_formed_header_refused : WellFormed 2 (arena [] [] [] [] (0 ∷ 0 ∷ 0 ∷ 5 ∷ 0 ∷ [])) → ⊥
well_formed_header_refused w = omega (arith, w.header)

pub well_formed_small_refused : WellFormed 2 (arena (0 ∷ 0 ∷ 0 ∷ []) (0 ∷ 0 ∷ 0 ∷ []) (0 ∷ 0 ∷ 0 ∷ []) (0 ∷ 0 ∷ 0 ∷ []) (0 ∷ 0 ∷ 0 ∷ 5 ∷ [])) → ⊥
well_formed_small_refused w = omega (arith, w.small)

pub well_formed_next_length_refused : WellFormed 2 (arena [] (0 ∷ []) [] [] (0 ∷ 0 ∷ 0 ∷ 5 ∷ [])) → ⊥
well_formed_next_length_refused w = omega (arith, w.next_length)

pub well_formed_generation_length_refused : WellFormed 2 (arena [] [] (0 ∷ []) [] (0 ∷ 0 ∷ 0 ∷ 5 ∷ [])) → ⊥
well_formed_generation_length_refused w = omega (arith, w.generation_length)

pub well_formed_payload_length_refused : WellFormed 2 (arena [] [] [] (0 ∷ []) (0 ∷ 0 ∷ 0 ∷ 5 ∷ [])) → ⊥
well_formed_payload_length_refused w = omega (arith, w.payload_length)

pub well_formed_generation_refused : WellFormed 2 (arena [] [] [] [] (0 ∷ 0 ∷ 0 ∷ 1 ∷ [])) → ⊥
well_formed_generation_refused w = omega (arith, w.generation)

pub well_formed_within_refused : WellFormed 2 (arena [] [] [] [] (1 ∷ 0 ∷ 0 ∷ 5 ∷ [])) → ⊥
well_formed_within_refused w = omega (arith, w.within)

-- a lone link that is not counted
pub well_formed_links_refused : WellFormed 2 (arena (0 ∷ []) (0 ∷ []) (5 ∷ []) (0 ∷ []) (1 ∷ 0 ∷ 0 ∷ 5 ∷ [])) → ⊥
unfolding link_slots allocated slots_from keep at
well_formed_links_refused w = omega (arith, w.links)

-- two free slots that point at themselves: no list from the root has both
abbrev apart : Arena
apart = arena (0 ∷ 0 ∷ []) (1 ∷ 2 ∷ []) (0 ∷ 0 ∷ []) (0 ∷ 0 ∷ []) (2 ∷ 0 ∷ 1 ∷ 5 ∷ [])

no_freelist : (fs : List ℕ) → Freelist apart fs → ⊥
unfolding Linked first_or at
no_freelist [] f = omega (arith, f.starts)
no_freelist (x ∷ []) f = omega (arith, f.once 2 (omega arith) (omega arith) refl, count_there 2 x [] (λ e. omega (arith, f.starts)), count_nil 2)
no_freelist (x ∷ y ∷ zs) f =
    let first : x ≡ 1 = f.starts in
    let second : y ≡ 1 = sym f.linked.0 ∙ ap (at apart.next) first in
    omega (arith, f.once 1 (omega arith) (omega arith) refl, count_first 1 x (y ∷ zs) (sym first), count_first 1 y zs (sym second))

pub well_formed_freelist_refused : WellFormed 2 apart → ⊥
well_formed_freelist_refused w = no_freelist w.freelist.0 w.freelist.1

-- two links of which only one names the other
abbrev one_sided : List ℕ → List ℕ → Arena
one_sided ps ns = arena ps ns (5 ∷ 5 ∷ []) (0 ∷ 0 ∷ []) (2 ∷ 2 ∷ 0 ∷ 5 ∷ [])

pub well_formed_prev_refused : WellFormed 2 (one_sided (0 ∷ 1 ∷ []) (0 ∷ 0 ∷ [])) → ⊥
unfolding allocated at
well_formed_prev_refused w = omega (arith, (w.prev 2 refl (λ e. omega arith)).1)

pub well_formed_next_refused : WellFormed 2 (one_sided (0 ∷ 0 ∷ []) (2 ∷ 0 ∷ [])) → ⊥
unfolding allocated at
well_formed_next_refused w = omega (arith, (w.next 1 refl (λ e. omega arith)).1)

-- a link whose neighbour names it back and is no link: above the stack, and free
pub well_formed_prev_is_no_link_refused : WellFormed 2 (arena (2 ∷ 0 ∷ []) (0 ∷ 1 ∷ []) (5 ∷ 5 ∷ []) (0 ∷ 0 ∷ []) (1 ∷ 1 ∷ 0 ∷ 5 ∷ [])) → ⊥
unfolding allocated at
well_formed_prev_is_no_link_refused w = true≢false (sym (w.prev 1 refl (λ e. omega arith)).0)

pub well_formed_next_is_no_link_refused : WellFormed 2 (arena (0 ∷ 1 ∷ []) (2 ∷ 2 ∷ []) (5 ∷ 0 ∷ []) (0 ∷ 0 ∷ []) (2 ∷ 1 ∷ 2 ∷ 5 ∷ [])) → ⊥
unfolding allocated at
well_formed_next_is_no_link_refused w = true≢false (sym (w.next 1 refl (λ e. omega arith)).0)

-- ---- Freelist, in a stack of two slots

-- slot 1 is a link, slot 2 is free and points at itself; then both free, the first pointing at the second
abbrev one_free : ℕ → Arena
one_free root = arena (0 ∷ 0 ∷ []) (0 ∷ 2 ∷ []) (5 ∷ 0 ∷ []) (0 ∷ 0 ∷ []) (2 ∷ 1 ∷ root ∷ 5 ∷ [])

abbrev both_free : ℕ → Arena
both_free next = arena (0 ∷ 0 ∷ []) (2 ∷ next ∷ []) (0 ∷ 0 ∷ []) (0 ∷ 0 ∷ []) (2 ∷ 0 ∷ 1 ∷ 5 ∷ [])

pub freelist_starts_refused : Freelist (one_free 1) (2 ∷ []) → ⊥
unfolding first_or
freelist_starts_refused f = omega (arith, f.starts)

-- the last slot does not point at itself
pub freelist_linked_refused : Freelist (both_free 1) (1 ∷ 2 ∷ []) → ⊥
unfolding Linked first_or last_or at
freelist_linked_refused f = omega (arith, f.linked.1.0)

-- a slot above the stack, and a link, stand in the list
pub freelist_free_above_refused : Freelist (arena (0 ∷ []) (1 ∷ []) (0 ∷ []) (0 ∷ []) (0 ∷ 0 ∷ 1 ∷ 5 ∷ [])) (1 ∷ []) → ⊥
freelist_free_above_refused f = omega (arith, (f.free 1 (in_here 1 [])).1)

pub freelist_free_link_refused : Freelist (arena (0 ∷ []) (1 ∷ []) (5 ∷ []) (0 ∷ []) (1 ∷ 1 ∷ 1 ∷ 5 ∷ [])) (1 ∷ []) → ⊥
unfolding at
freelist_free_link_refused f = omega (arith, (f.free 1 (in_here 1 [])).2)

-- 0 is no slot
pub freelist_free_none_refused : Freelist (arena [] [] [] [] (0 ∷ 0 ∷ 0 ∷ 5 ∷ [])) (0 ∷ []) → ⊥
freelist_free_none_refused f = omega (arith, (f.free 0 (in_here 0 [])).0)

-- a free slot is left out
pub freelist_once_refused : Freelist (one_free 0) [] → ⊥
unfolding at
freelist_once_refused f = omega (arith, f.once 2 (omega arith) (omega arith) refl, count_nil 2)

-- ---- FailsAt

-- a link whose prev names it back and which has no next
pub fails_at_refused : FailsAt (one_sided (0 ∷ 1 ∷ []) (2 ∷ 0 ∷ [])) 2 → ⊥
unfolding at allocated names_back neighbours_fine
fails_at_refused f = true≢false f

-- ---- SameRead, which is assumed where the verdict is said to depend on nothing else

-- a link in slot 2, a free slot 1 and a slot above the stack: the payloads, the free slot's prev, and the last slot's words are not read
abbrev around : List ℕ → ℕ → ℕ → Arena
around vs before above = arena (before ∷ 0 ∷ above ∷ []) (1 ∷ 0 ∷ above ∷ []) (0 ∷ 5 ∷ above ∷ []) vs (2 ∷ 1 ∷ 1 ∷ 5 ∷ [])

pub same_read_unread_words : SameRead (around (1 ∷ 2 ∷ 3 ∷ []) 4 5) (around (6 ∷ 7 ∷ 8 ∷ []) 9 0)
unfolding at allocated
same_read_unread_words = record {
  header = refl;
  prev_length = refl;
  next_length = refl;
  generation_length = refl;
  payload_length = refl;
  generation = same_generation;
  next = same_next;
  prev = same_prev;
}
  where
    same_generation : (s : ℕ) → s ≤ 2 → at (0 ∷ 5 ∷ 5 ∷ []) s ≡ at (0 ∷ 5 ∷ 0 ∷ []) s
    same_generation zero h = refl
    same_generation (suc zero) h = refl
    same_generation (suc (suc zero)) h = refl
    same_generation (suc (suc (suc s))) h = absurd (omega arith)

    same_next : (s : ℕ) → s ≤ 2 → at (1 ∷ 0 ∷ 5 ∷ []) s ≡ at (1 ∷ 0 ∷ 0 ∷ []) s
    same_next zero h = refl
    same_next (suc zero) h = refl
    same_next (suc (suc zero)) h = refl
    same_next (suc (suc (suc s))) h = absurd (omega arith)

    same_prev : (s : ℕ) → allocated (0 ∷ 5 ∷ 5 ∷ []) 2 s ≡ true → at (4 ∷ 0 ∷ 5 ∷ []) s ≡ at (9 ∷ 0 ∷ 0 ∷ []) s
    same_prev zero h = refl
    same_prev (suc zero) h = absurd (true≢false (sym h))
    same_prev (suc (suc zero)) h = refl
    same_prev (suc (suc (suc s))) h = absurd (omega (arith, allocated_within (0 ∷ 5 ∷ 5 ∷ []) 2 (suc (suc (suc s))) h))
