-- The break on one side of a link, whichever side it is. Assumes nothing.
use Prim.Native.Nat.{ℕ, ◌≤◌, ◌<◌}
use mathlib.Core.Bool.{Bool, true, false, cond}
use mathlib.Core.List.{List, []}
use mathlib.Core.Logic.{◌≢◌}
use mathlib.Core.Path.{◌≡◌, refl, sym, ◌∙◌}
use native.Mathlib.Nat.{pos_of_ne-zero}
use borrow.Author.Tests.{eq-eqb, ne_eqb}
use lib.Dec.{eqb}
use lib.ListN.{length}
use Rattle.definitions.specs.Arena.{Arena, stack_length, capacity_limit, with_links}
use Rattle.definitions.specs.Check.{WellFormed}
use Rattle.definitions.specs.Columns.{at, put}
use Rattle.definitions.specs.Edit.{break_prev, break_next}
use Rattle.definitions.specs.Read.{Pointer, stale}
use Rattle.definitions.specs.Reply.{reply, refusal}
use Rattle.base_slots.specs.Removal.{Joinable}
use Rattle.chain_traits.specs.Read.{stale_in}
use Rattle.chain_edits.specs.Edits.{break_side}
use Rattle.chain_edits.proofs.Reading.{found_fresh, stands, next_read, prev_read}

-- the neighbour of p on that side
abbrev pub neighbour : Arena → Pointer → Bool → ℕ
neighbour a p after = cond after (at a.next p.slot) (at a.prev p.slot)

-- both breaks are one: the interlink leads from one of the two slots to the other, and which side was asked for says which is which
side : (a : Arena) (p : Pointer) (after : Bool) →
    let k = neighbour a p after in
    break_side a p after
    ≡ cond (stale a p) (refusal 12 0 a [])
    (cond (eqb k 0) (refusal 13 0 a [])
    (reply 0 [] (with_links a (put a.prev (cond after k p.slot) 0) (put a.next (cond after p.slot k) 0)) []))
unfolding break_prev break_next
side a p true = refl
side a p false = refl

pub side_stale : (a : Arena) (p : Pointer) (after : Bool) → stale a p ≡ true → refusal 12 0 a [] ≡ break_side a p after
side_stale a p after s = rw (side, s) refl

-- what is known of the neighbour k that was read beside p: p is not stale, and k is the word on that side
pub record Beside (a : Arena) (p : Pointer) (after : Bool) (k : ℕ) : Type 0 where
  pub fresh : stale a p ≡ false
  pub stands : Joinable a.prev a.next p.slot
  pub word : k ≡ neighbour a p after

-- the neighbour is picked out of the two that were read in b, which is a and is lent to be read
pub beside : {a b : Arena} → b ≡ a → (p : Pointer) (after : Bool) {k x y : ℕ} {r : Bool} → WellFormed capacity_limit a → r ≡ stale_in b.generation (stack_length b) p → r ≡ false
    → x ≡ at b.prev p.slot → y ≡ at b.next p.slot → k ≡ cond after y x → Beside a p after k
beside same p after ok read f ex ey e =
    record { fresh = found_fresh same p read f; stands = stands same p ok read f; word = rw (← prev_read same p.slot ex, ← next_read same p.slot ey) e }

module _ {a : Arena} {p : Pointer} {after : Bool} {k : ℕ} (here : Beside a p after k) where
  pub side_none : k ≡ 0 → refusal 13 0 a [] ≡ break_side a p after
  side_none z = rw (side, here.fresh, eq-eqb _ 0 (sym here.word ∙ z)) refl

  -- neither end of the interlink names the other any more
  pub side_done : {from to : ℕ} {ps ns : List ℕ} → k ≢ 0 → from ≡ cond after p.slot k → to ≡ cond after k p.slot
      → ps ≡ put a.prev to 0 → ns ≡ put a.next from 0 → reply 0 [] (with_links a ps ns) [] ≡ break_side a p after
  side_done d ef et ep en = rw (side, ep, en, ef, et, here.word, here.fresh, ne_eqb _ 0 (λ z. d (here.word ∙ z))) refl

  -- both ends are in their columns
  pub from_stands : {from : ℕ} → k ≢ 0 → from ≡ cond after p.slot k → (0 < from) × (from ≤ length a.next)
  from_stands d e = rw e (from after here.word)
    where
      from : (after : Bool) → k ≡ neighbour a p after → (0 < cond after p.slot k) × (cond after p.slot k ≤ length a.next)
      from true w = (here.stands.some, here.stands.in_next)
      from false w = (pos_of_ne-zero d, rw w here.stands.before)

  pub to_stands : {to : ℕ} → k ≢ 0 → to ≡ cond after k p.slot → (0 < to) × (to ≤ length a.prev)
  to_stands d e = rw e (to after here.word)
    where
      to : (after : Bool) → k ≡ neighbour a p after → (0 < cond after k p.slot) × (cond after k p.slot ≤ length a.prev)
      to true w = (pos_of_ne-zero d, rw w here.stands.after)
      to false w = (here.stands.some, here.stands.in_prev)
