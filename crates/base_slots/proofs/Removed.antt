-- Laws of removal: what the code's stores leave is what the definitions say. Assumes nothing.
use Prim.Native.Nat.{ℕ, ◌-◌}
use mathlib.Core.Bool.{Bool, cond}
use mathlib.Core.List.{List}
use mathlib.Core.Path.{◌≡◌, refl, sym, ◌∙◌}
use native.Mathlib.Omega.{arith}
use lib.Dec.{eqb}
use lib.ListN.{length, get_or}
use lib.Seq.{get_or-set_other}
use borrow.Author.Tests.{eq-eqb, ne_eqb}
use Rattle.definitions.specs.Arena.{Arena, arena, header_words, stack_length, with_stack_length, with_root, with_current}
use Rattle.definitions.specs.Remove.{joined, vacated, removed}
use Rattle.base_slots.specs.Removal.{Removable, fewer, Counted, TakenOut}

-- counting a removal leaves the stack length and the root
module _ {top : ℕ} {h left : List ℕ} {over : Bool} (k : Counted top h left over) where
  uncounted : (i : ℕ) → (i ≡ 1 → ⊥) → (i ≡ 3 → ⊥) → get_or left i 0 ≡ get_or h i 0
  unfolding fewer
  uncounted i d f = rw k.header (get_or-set_other (with_current _ h) 1 i _ 0 d ∙ get_or-set_other h 3 i _ 0 f)

  stack_stays : get_or left 0 0 ≡ get_or h 0 0
  stack_stays = uncounted 0 (λ z. omega arith) (λ z. omega arith)

  root_stays : get_or left 2 0 ≡ get_or h 2 0
  root_stays = uncounted 2 (λ z. omega arith) (λ z. omega arith)

-- with the removal counted, a slot that ended the stack still ends it
pub poppable :
    {top : ℕ} {a : Arena} {s : ℕ} {h : List ℕ} {over : Bool}
    → Removable a s → Counted top a.header h over → length h ≡ length a.header → s ≡ stack_length a → (length h ≡ header_words) × (s ≡ get_or h 0 0)
poppable r k w l = (w ∙ r.header, l ∙ sym (stack_stays k))

-- the neighbours joined, the removal counted, and the slot popped or freed: the slot is taken out
module _ {top : ℕ} {a : Arena} {s : ℕ} {qs ms h : List ℕ} {over : Bool} {left : Arena} (j : arena qs ms a.generation a.payload a.header ≡ joined a s)
    (k : Counted top a.header h over) where
  pub last_out : s ≡ stack_length a → left ≡ vacated (arena qs ms a.generation a.payload h) s 0 (with_stack_length (s - 1) h) → TakenOut top a s left over
  unfolding removed vacated fewer
  last_out l e = record { arena = e ∙ rw (eq-eqb s (stack_length a) l, ← j, k.header, ← l) refl; overflowed = k.overflowed }

  pub other_out : (s ≡ stack_length a → ⊥) → left ≡ vacated (arena qs ms a.generation a.payload h) s (cond (eqb (get_or h 2 0) 0) s (get_or h 2 0)) (with_root s h) → TakenOut top a s left over
  unfolding removed vacated fewer
  other_out l e = record { arena = e ∙ rw (ne_eqb s (stack_length a) l, ← j, root_stays k, k.header) refl; overflowed = k.overflowed }
