-- The columns of an arena, lent up to the stack length: at the start they hold the arena as it is, at the end the words past the stack are the old ones.
-- Assumes nothing.
use Prim.Native.Nat.{ℕ, ◌≤◌}
use mathlib.Core.Path.{◌≡◌, sym, ap, ◌∙◌}
use mathlib.Core.Bool.{true, false}
use mathlib.Core.List.{List, ◌++◌}
use native.Mathlib.Omega.{arith}
use native.Mathlib.Decide.{dec_le}
use lib.ListN.{length, take, drop}
use lib.Seq.{take_at, drop_at, length-take-le}
use Rattle.definitions.specs.Columns.{at, slots_from}
use Rattle.definitions.specs.Arena.{Arena, stack_length, is_link}
use Rattle.definitions.specs.Compress.{laid_out}
use Rattle.definitions.proofs.Slots.{allocated_live, not_allocated}
use Rattle.definitions.proofs.Parts.{at_past, at_take, at_own}
use Rattle.chains.proofs.Links.{link_within}
use Rattle.demand3.proofs.Carried.{same_stack}
use Rattle.canonical_exchange.specs.Lent.{Lent, lent}
use Rattle.canonical_layout.specs.Held.{Held, Marked}
use Rattle.canonical_layout.specs.Steps.{Ready, AllLaid, Stacked, LaidIn}

module _ {a : Arena} {where_from : List ℕ} (stacked : Stacked a where_from) where
  abbrev n : ℕ
  n = stack_length a

  -- the parts that are lent are as long as the stack
  prev_part : stack_length a ≡ length (take (stack_length a) a.prev)
  prev_part = sym (length-take-le n a.prev stacked.layable.room.prev)

  next_part : stack_length a ≡ length (take (stack_length a) a.next)
  next_part = sym (length-take-le n a.next stacked.layable.room.next)

  payload_part : stack_length a ≡ length (take (stack_length a) a.payload)
  payload_part = sym (length-take-le n a.payload stacked.layable.room.payload)

  from_part : stack_length a ≡ length (take (stack_length a) where_from)
  from_part = sym (length-take-le n where_from stacked.room)

  -- ---- once the links are marked

  module _ {ws : List ℕ} (long : length ws ≡ length (take (stack_length a) where_from))
      (marked : Marked a.generation (length (take (stack_length a) where_from)) ws) where
    ws_long : length ws ≡ n
    ws_long = long ∙ sym from_part

    ws_front : take n (ws ++ drop n where_from) ≡ ws
    ws_front = take_at ws (drop n where_from) n ws_long

    marked_part : stack_length a ≡ length (take (stack_length a) (ws ++ drop (stack_length a) where_from))
    marked_part = sym ws_long ∙ ap length (sym ws_front)

    -- every link is in its own slot
    pub is_ready : Ready a (lent (take (stack_length a) a.prev) (take (stack_length a) a.next) (take (stack_length a) a.payload) (take (stack_length a) (ws ++ drop (stack_length a) where_from)))
    is_ready =
        record {
          layable = stacked.layable;
          held = record {
            prev_long = sym prev_part;
            next_long = sym next_part;
            payload_long = sym payload_part;
            from_long = sym marked_part;
            prev = λ s h. at_take n a.prev s (link_within a s h);
            next = λ s h. at_take n a.next s (link_within a s h);
            payload = λ s h. at_take n a.payload s (link_within a s h);
            who = λ s h. ap (λ (xs : List ℕ). at xs s) ws_front ∙ own s h;
            nobody = λ s h. ap (λ (xs : List ℕ). at xs s) ws_front ∙ none s h (dec_le s n);
          };
        }
      where
        own : (s : ℕ) → is_link a s ≡ true → at ws s ≡ at (slots_from 1 n) s
        own s h = let l = link_within a s h in marked.link s (omega (arith, from_part)) (allocated_live a.generation n s h) ∙ sym (at_own n s l)

        none : (s : ℕ) → is_link a s ≡ false → Dec (s ≤ n) → at ws s ≡ 0
        none s h (yes l) = marked.free s (omega (arith, from_part)) (not_allocated a.generation n s h l)
        none s h (no l) = at_past ws s (omega (arith, ws_long))

    -- ---- once they are laid out

    pub is_laid_in : {c : Lent} → AllLaid a (laid_out a) c →
        LaidIn a where_from
        (lent (c.prev ++ drop (stack_length a) a.prev) (c.next ++ drop (stack_length a) a.next) (c.payload ++ drop (stack_length a) a.payload)
        (c.where_from ++ drop (stack_length a) (ws ++ drop (stack_length a) where_from)))
    is_laid_in {c} laid =
        record {
          laid = rw (front c.prev _ held.prev_long, front c.next _ held.next_long, front c.payload _ held.payload_long, front c.where_from _ held.from_long) laid;
          rest = record {
            prev = rest c.prev a.prev held.prev_long;
            next = rest c.next a.next held.next_long;
            payload = rest c.payload a.payload held.payload_long;
            where_from = rest c.where_from (ws ++ drop n where_from) held.from_long ∙ drop_at ws (drop n where_from) n ws_long;
          };
        }
      where
        held : Held (laid_out a).slots (laid_out a).from c
        held = laid.held

        stack : stack_length (laid_out a).slots ≡ n
        stack = same_stack a (laid_out a).slots (laid_out a).from laid.between.state.carried

        front : (xs ys : List ℕ) → length xs ≡ stack_length (laid_out a).slots → take n (xs ++ ys) ≡ xs
        front xs ys e = take_at xs ys n (e ∙ stack)

        rest : (xs old : List ℕ) → length xs ≡ stack_length (laid_out a).slots → drop n (xs ++ drop n old) ≡ drop n old
        rest xs old e = drop_at xs (drop n old) n (e ∙ stack)
