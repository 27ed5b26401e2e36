-- The loop over the items of a drain: what is done and what is left to do make the whole. Assumes nothing.
use Prim.Native.Nat.{ℕ, ◌+◌, ◌-◌, ◌*◌, ◌≤◌, ◌<◌}
use mathlib.Core.Path.{◌≡◌, refl, sym, ap, ◌∙◌}
use mathlib.Core.Bool.{Bool, true, false, cond}
use mathlib.Core.List.{List, [], ◌∷◌, ◌++◌, append_assoc}
use native.Mathlib.Omega.{arith}
use lib.ListN.{length, get_or, take, drop, take-append-drop}
use Rattle.std.specs.Prelude.{Option, Some, None, IfSome}
use Rattle.std.specs.Bool.{then_some}
use Rattle.std.specs.Option.{unwrap_or, option_or}
use Rattle.definitions.specs.Columns.{written}
use Rattle.definitions.specs.Arena.{Arena, is_link}
use Rattle.definitions.specs.Remove.{removed, removed_all, drain_items, overflow_item}
use Rattle.definitions.proofs.Count.{in_here}
use Rattle.drains.specs.Drainable.{Drainable}
use Rattle.definitions.specs.Report.{item_slots}
use Rattle.drains.proofs.Drainable.{drainable_rest}
use Rattle.drains.proofs.Report.{length_items, items_from, length_drained}
use Rattle.chain_drain_items.specs.Items.{ItemDrained, ItemsDrained, item_words}
use Rattle.chain_drain_items.proofs.Listing.{drop_later}
use Rattle.chain_drain_items.proofs.Items.{overwritten_front, overwritten_back, overwritten_length}

-- the slots of the items that are left to drain
abbrev pub left : ℕ → ℕ → List ℕ → List ℕ
left items item report = item_slots (items - item) (drop (5 * item) report)

-- of so many items listed in the report `old` of arena a₀, the first are drained; arena and report are now a and new
pub record Draining (limit top : ℕ) (a₀ : Arena) (old : List ℕ) (items : ℕ) (a : Arena) (new : List ℕ) (item : ℕ) (known : Option ℕ) : Type 0 where
  pub within : item ≤ items
  pub room : 5 * items ≤ length new
  pub size : length new ≡ length old
  pub rest : Drainable limit a (left items item new)
  pub arena : removed_all top a (left items item new) ≡ removed_all top a₀ (item_slots items old)
  pub words : take (5 * item) new ++ (drain_items top a (left items item new) ++ drop (5 * items) new) ≡ drain_items top a₀ (item_slots items old) ++ drop (5 * items) old
  pub overflow : unwrap_or known (overflow_item top a (left items item new) (item + 1)) ≡ overflow_item top a₀ (item_slots items old) 1

-- what is known of an overflow, after one more removal
overflow_on : (known : Option ℕ) (item : ℕ) (over : Bool) (later : ℕ) → unwrap_or (option_or known (then_some over item)) later ≡ unwrap_or known (cond over item later)
overflow_on (Some k) item over later = refl
overflow_on None item true later = refl
overflow_on None item false later = refl

-- and what is known counts from 1
pub counted_from_1 : (known : Option ℕ) (item : ℕ) (over : Bool) → IfSome known (λ i. 0 < i) → IfSome (option_or known (then_some over (item + 1))) (λ i. 0 < i)
counted_from_1 (Some k) item over h = h
counted_from_1 None item true h = omega arith
counted_from_1 None item false h = h

module _ {limit top : ℕ} {a₀ : Arena} {old : List ℕ} {items : ℕ} {a : Arena} {new : List ℕ} {item : ℕ} {known : Option ℕ} (d : Draining limit top a₀ old items a new item known) where
  -- all items are drained
  pub draining_ends : items ≤ item → ItemsDrained top a₀ (item_slots items old) old a new known
  unfolding item_slots removed_all drain_items overflow_item written
  draining_ends done =
      let within = d.within in
      let e : item ≡ items = omega arith in
      let zero_left : items - item ≡ 0 = omega arith in
      let none : left items item new ≡ [] = ap (λ (n : ℕ). item_slots n (drop (5 * item) new)) zero_left in
      let five : 5 * items ≡ length (drain_items top a₀ (item_slots items old)) = omega (arith, length_drained top a₀ (item_slots items old), length_items items old) in
      record {
        arena = rw none at d.arena;
        report = sym (take-append-drop (5 * items) new) ∙ (rw (none, e) at d.words) ∙ ap (λ (n : ℕ). drain_items top a₀ (item_slots items old) ++ drop n old) five;
        overflowed = rw none at d.overflow;
      }

  -- the next item
  module _ (more : item < items) where
    abbrev s : ℕ
    s = get_or new (5 * item) 0

    abbrev others : List ℕ
    others = left items (item + 1) new

    here : left items item new ≡ s ∷ others
    here = items_from items item new more

    can : Drainable limit a (s ∷ others)
    can = rw here at d.rest

    pub next_link : is_link a (get_or new (5 * item) 0) ≡ true
    next_link = can.links s (in_here s others)

    pub next_room : 5 * item + 5 ≤ length new
    next_room = let room = d.room in omega arith

    module _ {b : Arena} {words : List ℕ} {over : Bool} (drained : ItemDrained top a (get_or new (5 * item) 0) (5 * item) new b words over) where
      five : 5 * (item + 1) ≡ 5 * item + 5
      five = omega arith

      within : 5 * item ≤ length new
      within = omega (arith, next_room)

      -- the item's words are added to the report, and its further words stay
      added : take (5 * (item + 1)) words ≡ take (5 * item) new ++ item_words a s
      added = rw (five, drained.report) (overwritten_front (5 * item) (item_words a s) new within)

      stays : drop (5 * (item + 1)) words ≡ drop (5 * (item + 1)) new
      stays = rw (five, drained.report) (overwritten_back (5 * item) (item_words a s) new within)

      past : drop (5 * items) words ≡ drop (5 * items) new
      past =
          let e : 5 * items ≡ 5 * (item + 1) + (5 * items - 5 * (item + 1)) = omega arith in
          rw e (drop_later (5 * (item + 1)) (5 * items - 5 * (item + 1)) words new stays)

      size : length words ≡ length new
      size = rw drained.report (overwritten_length (5 * item) (item_words a s) new within next_room)

      same : left items (item + 1) words ≡ others
      same = ap (item_slots (items - (item + 1))) stays

      gone : b ≡ removed top a s
      gone = drained.taken.arena

      pub draining_goes_on : Draining limit top a₀ old items b words (item + 1) (option_or known (then_some over (item + 1)))
      unfolding removed_all drain_items overflow_item
      draining_goes_on =
          record {
            within = omega arith;
            room = rw size d.room;
            size = size ∙ d.size;
            rest = rw (same, gone) (drainable_rest limit top a s others can);
            arena = rw (same, gone) (rw here at d.arena);
            words = rw (added, same, gone, past) (append_assoc (take (5 * item) new) (item_words a s) _ ∙ (rw here at d.words));
            overflow = rw (same, gone) (overflow_on known (item + 1) over _ ∙ (rw (here, ← drained.taken.overflowed) at d.overflow));
          }
