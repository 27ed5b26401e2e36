-- What an edit reads: the arena b, lent to be read, is the arena a that it edits. Assumes nothing.
use Prim.Native.Nat.{ℕ}
use mathlib.Core.Bool.{Bool, true, false}
use mathlib.Core.List.{[]}
use mathlib.Core.Path.{◌≡◌}
use Rattle.definitions.specs.Arena.{Arena, stack_length, capacity_limit}
use Rattle.definitions.specs.Check.{WellFormed}
use Rattle.definitions.specs.Columns.{at}
use Rattle.definitions.specs.Edit.{connect, exchange_next}
use Rattle.definitions.specs.Read.{Pointer, stale}
use Rattle.definitions.specs.Reply.{refusal}
use Rattle.base_slots.specs.Removal.{Joinable}
use Rattle.chain_edits.proofs.Around.{around}
use Rattle.chain_traits.proofs.Fresh.{is_stale, is_fresh}
use Rattle.chain_traits.specs.Read.{stale_in}

module _ {a b : Arena} (same : b ≡ a) where
  -- a pointer that was found stale, or not
  pub found_stale : (p : Pointer) {r : Bool} → r ≡ stale_in b.generation (stack_length b) p → r ≡ true → stale a p ≡ true
  found_stale p {r} e h = rw (← same) (is_stale b p r e h)

  pub found_fresh : (p : Pointer) {r : Bool} → r ≡ stale_in b.generation (stack_length b) p → r ≡ false → stale a p ≡ false
  found_fresh p {r} e h = rw (← same) (is_fresh b p r e h)

  -- where a pointer that was not found stale stands, in a and in b
  pub stands : (p : Pointer) {r : Bool} → WellFormed capacity_limit a → r ≡ stale_in b.generation (stack_length b) p → r ≡ false → Joinable a.prev a.next p.slot
  stands p ok e h = around p ok (found_fresh p e h)

  pub stands_there : (p : Pointer) {r : Bool} → WellFormed capacity_limit a → r ≡ stale_in b.generation (stack_length b) p → r ≡ false → Joinable b.prev b.next p.slot
  stands_there p ok e h = rw same (stands p ok e h)

  -- the words read there
  pub next_read : (s : ℕ) {k : ℕ} → k ≡ at b.next s → k ≡ at a.next s
  next_read s e = rw (← same) e

  pub prev_read : (s : ℕ) {k : ℕ} → k ≡ at b.prev s → k ≡ at a.prev s
  prev_read s e = rw (← same) e

  -- an edit that is refused on b is refused on a
  pub connect_refused : (p q : Pointer) {k : ℕ} → refusal k 0 b [] ≡ connect b p q [] → refusal k 0 a [] ≡ connect a p q []
  connect_refused p q e = rw (← same) e

  pub exchange_refused : (p q : Pointer) {k : ℕ} → refusal k 0 b [] ≡ exchange_next b p q [] → refusal k 0 a [] ≡ exchange_next a p q []
  exchange_refused p q e = rw (← same) e
