-- What is due ahead of a walk, step by step. Assumes nothing.
use Prim.Native.Nat.{ℕ, ◌+◌, ◌≤◌, ◌<◌}
use mathlib.Core.Path.{◌≡◌, refl, sym, ap, ◌∙◌}
use mathlib.Core.Bool.{true, false}
use mathlib.Core.List.{List, [], ◌∷◌, ◌++◌, append_assoc, append-nil}
use native.Mathlib.Omega.{arith}
use lib.ListN.{length, set, length-append}
use Rattle.definitions.specs.Arena.{capacity_limit, is_link}
use Rattle.definitions.specs.Columns.{keep, written}
use Rattle.definitions.proofs.Count.{keep_yes, keep_no}
use Rattle.definitions.proofs.Shaped.{shaped}
use Rattle.definitions.proofs.Slots.{keep_parts}
use Rattle.definitions.proofs.Steps.{link_slot}
use Rattle.definitions.proofs.Written.{written_none, length_written, written_more}
use Rattle.lent.specs.Arenas.{checked_of}
use Rattle.lent.specs.declared.CheckedArena.{CheckedArena}
use Rattle.frame_clock.specs.declared.Window.{Window}
use Rattle.chain_ahead.specs.Rest.{rest_of}
use Rattle.chain_ahead.specs.declared.ChainWalk.{ChainWalk}
use Rattle.chain_ahead.proofs.Ahead.{rest_short}
use Rattle.chain_due.specs.Due.{is_due, due_ahead}

-- a link has a payload
pub has_payload : (a : CheckedArena) (s : ℕ) → is_link (checked_of a) s ≡ true → (0 < s) × (s ≤ length (checked_of a).payload)
has_payload a s l =
    let link = link_slot _ _ _ l in
    let shape = shaped capacity_limit (checked_of a) a.passed in
    (link.0, omega (arith, link.1, shape.within, shape.payload_length))

module _ (win : Window) where
  -- no more links are due than there are
  pub due_fits : (u : ChainWalk) (n : ℕ) → length (rest_of u) ≤ n → length (due_ahead win u) ≤ n
  due_fits u n h = omega (arith, keep_parts (is_due (checked_of u.arena).payload win) (rest_of u))

  -- nor than advances are left
  pub due_short : (u : ChainWalk) → length (due_ahead win u) ≤ u.walk.max_advances
  due_short u = due_fits u u.walk.max_advances (rest_short u)

  -- nothing was ahead
  pub due_none : (u : ChainWalk) → rest_of u ≡ [] → due_ahead win u ≡ []
  unfolding keep
  due_none u e = ap (keep (is_due (checked_of u.arena).payload win)) e

  -- a step from u to v answered the link s
  module _ (u v : ChainWalk) {s : ℕ} (same : v.arena ≡ u.arena) (ahead : rest_of u ≡ s ∷ rest_of v) where
    passed : due_ahead win u ≡ keep (is_due (checked_of v.arena).payload win) (s ∷ rest_of v)
    passed = ap (λ (a : CheckedArena). keep (is_due (checked_of a).payload win) (rest_of u)) (sym same) ∙ ap (keep (is_due (checked_of v.arena).payload win)) ahead

    pub due_yes : is_due (checked_of v.arena).payload win s ≡ true → due_ahead win u ≡ s ∷ due_ahead win v
    due_yes y = passed ∙ keep_yes _ s _ y

    pub due_no : is_due (checked_of v.arena).payload win s ≡ false → due_ahead win u ≡ due_ahead win v
    due_no n = passed ∙ keep_no _ s _ n

-- a walk that was at w₀ is at w, and of what was due ahead so many links stand in the report
pub record Listed (win : Window) (w₀ w : ChainWalk) (old new : List ℕ) (reported : ℕ) : Type 0 where
  pub listed : List ℕ
  pub all : listed ++ due_ahead win w ≡ due_ahead win w₀
  pub size : length listed ≡ reported
  pub report : new ≡ written listed old

pub listed_starts : (win : Window) (w₀ : ChainWalk) (old : List ℕ) → Listed win w₀ w₀ old old 0
listed_starts win w₀ old = record { listed = []; all = refl; size = refl; report = sym (written_none old) }

module _ {win : Window} {w₀ w : ChainWalk} {old new : List ℕ} {reported : ℕ} (h : Listed win w₀ w old new reported) where
  -- nothing is left to come
  pub listed_all : due_ahead win w ≡ [] → (reported ≡ length (due_ahead win w₀)) × (new ≡ written (due_ahead win w₀) old)
  listed_all z =
      let whole : h.listed ≡ due_ahead win w₀ = sym (append-nil h.listed) ∙ ap (λ (ss : List ℕ). h.listed ++ ss) (sym z) ∙ h.all in
      (sym h.size ∙ ap length whole, h.report ∙ ap (λ (ss : List ℕ). written ss old) whole)

  -- a link came that is not due
  module _ (v : ChainWalk) where
    pub listed_no : due_ahead win w ≡ due_ahead win v → Listed win w₀ v old new reported
    listed_no n = record { listed = h.listed; all = ap (λ (ss : List ℕ). h.listed ++ ss) (sym n) ∙ h.all; size = h.size; report = h.report }

    -- or the link s, which is due
    module _ {s : ℕ} (y : due_ahead win w ≡ s ∷ due_ahead win v) where
      pub listed_small : reported + 1 ≤ length (due_ahead win w₀)
      listed_small = omega (arith, h.size, ap length h.all, length-append h.listed (due_ahead win w), ap length y)

      -- the report has room for it
      module _ (room : length (rest_of w₀) ≤ length old) where
        fits : length h.listed + 1 ≤ length old
        fits = omega (arith, h.size, listed_small, due_fits win w₀ (length old) room)

        pub listed_room : reported < length new
        listed_room = omega (arith, fits, h.size, ap length h.report ∙ length_written h.listed old (omega (arith, fits)))

        pub listed_yes : Listed win w₀ v old (set new reported s) (reported + 1)
        listed_yes = record {
          listed = h.listed ++ (s ∷ []);
          all = append_assoc h.listed (s ∷ []) (due_ahead win v) ∙ ap (λ (ss : List ℕ). h.listed ++ ss) (sym y) ∙ h.all;
          size = length-append h.listed (s ∷ []) ∙ ap (λ (n : ℕ). n + 1) h.size;
          report = ap (λ (l : List ℕ). set l reported s) h.report ∙ written_more h.listed old reported (s ∷ []) h.size (omega (arith, fits, h.size));
        }
