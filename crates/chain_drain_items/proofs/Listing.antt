-- The slots of a walk as they are listed in a report: those that are listed and those still ahead are all that were ahead. Assumes nothing.
use Prim.Native.Nat.{ℕ, ◌+◌, ◌*◌, ◌≤◌, ◌<◌}
use mathlib.Core.Path.{◌≡◌, refl, sym, ap, ◌∙◌}
use mathlib.Core.List.{List, [], ◌∷◌, ◌++◌, append_assoc, append-nil}
use native.Mathlib.Omega.{arith}
use lib.ListN.{length, set, drop, length-append, length-set}
use lib.Seq.{drop-drop, drop-set-lt}
use Rattle.definitions.specs.Report.{item_slots}
use Rattle.drains.proofs.Report.{length_items, items_more}
use Rattle.chain_drain_items.specs.Items.{Listed}

-- the slots all were ahead, so many items are listed, and the slots ss are ahead still
pub record Listing (all ss old new : List ℕ) (items : ℕ) : Type 0 where
  pub slots : item_slots items new ++ ss ≡ all
  pub rest : drop (5 * items) new ≡ drop (5 * items) old
  pub size : length new ≡ length old

pub listing_starts : (all old : List ℕ) → Listing all all old old 0
unfolding item_slots
listing_starts all old = record { slots = refl; rest = refl; size = refl }

-- words that agree from word i on agree from a later word on
pub drop_later : (i j : ℕ) (xs ys : List ℕ) → drop i xs ≡ drop i ys → drop (i + j) xs ≡ drop (i + j) ys
drop_later i j xs ys e = sym (drop-drop j i xs) ∙ ap (drop j) e ∙ drop-drop j i ys

module _ {all ss old new : List ℕ} {items : ℕ} (l : Listing all ss old new items) where
  counted : items + length ss ≡ length all
  counted = ap (λ (n : ℕ). n + length ss) (sym (length_items items new)) ∙ sym (length-append (item_slots items new) ss) ∙ ap length l.slots

  pub listing_ends : ss ≡ [] → Listed all old new items
  listing_ends none = record {
    slots = sym (append-nil (item_slots items new)) ∙ ap (λ (ts : List ℕ). item_slots items new ++ ts) (sym none) ∙ l.slots;
    rest = l.rest;
  }

  -- the slot s is next
  module _ {s : ℕ} {others : List ℕ} (e : ss ≡ s ∷ others) where
    pub listing_small : items + 1 ≤ length all
    listing_small = omega (arith, counted, ap length e)

    module _ (room : 5 * length all ≤ length old) where
      -- there is room for it
      pub listing_room : 5 * items < length new
      listing_room = omega (arith, counted, ap length e, l.size)

      pub listing_goes_on : Listing all others old (set new (5 * items) s) (items + 1)
      listing_goes_on =
          let five : 5 * (items + 1) ≡ 5 * items + 5 = omega arith in
          record {
            slots =
                ap (λ (ts : List ℕ). ts ++ others) (items_more items s new listing_room)
                ∙ append_assoc (item_slots items new) (s ∷ []) others
                ∙ ap (λ (ts : List ℕ). item_slots items new ++ ts) (sym e)
                ∙ l.slots;
            rest = rw five (drop-set-lt (5 * items + 5) new (5 * items) s (omega arith) ∙ drop_later (5 * items) 5 new old l.rest);
            size = length-set new (5 * items) s ∙ l.size;
          }
