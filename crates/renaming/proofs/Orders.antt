-- Orders of an arena's links: lists that hold each link once and nothing else. All are of one length. Assumes nothing.
use Prim.Native.Nat.{ℕ, ◌≤◌}
use mathlib.Core.Path.{◌≡◌}
use mathlib.Core.List.{List}
use native.Mathlib.Omega.{arith}
use native.Mathlib.Decide.{dec_le}
use lib.ListN.{length}
use Rattle.definitions.specs.Columns.{at, count}
use Rattle.definitions.specs.Arena.{Arena, stack_length, link_slots}
use Rattle.definitions.proofs.Slots.{links_and_free}
use Rattle.definitions.proofs.Count.{In, count_links, only_links, shorter}
use Rattle.definitions.proofs.Parts.{in_at}
use Rattle.chains.proofs.Links.{Link, no_zero}

pub record OrderOf (a : Arena) (w : List ℕ) : Type 0 where
  pub each : (o : ℕ) → Link a o → count o w ≡ 1
  pub only : (o : ℕ) → In o w → Link a o

-- slot order, which order-preserving compression keeps
pub rising_order : (a : Arena) → OrderOf a (link_slots a.generation (stack_length a))
rising_order a = record { each = λ o h. count_links a.generation (stack_length a) o h; only = λ o i. only_links a.generation (stack_length a) o i }

module _ (a : Arena) (v w : List ℕ) (ov : OrderOf a v) (ow : OrderOf a w) where
  pub no_longer_order : length v ≤ length w
  no_longer_order = shorter v w (λ x. elim (dec_le 1 (count x v)) [ yes i ↦ omega (arith, ov.each x (ov.only x i), ow.each x (ov.only x i)) | no i ↦ omega arith ])

module _ (a : Arena) (w : List ℕ) (order : OrderOf a w) where
  pub order_size : length w ≡ length (link_slots a.generation (stack_length a))
  order_size =
      let rising = rising_order a in
      omega (arith, no_longer_order a w _ order rising, no_longer_order a _ w rising order)

  pub order_within : length w ≤ stack_length a
  order_within = omega (arith, order_size, links_and_free a.generation (stack_length a))

  pub order_no_zero : count 0 w ≡ 0
  order_no_zero = no_zero a w order.only

  -- who is in slot s
  pub order_at : (s : ℕ) → 1 ≤ s → s ≤ length w → Link a (at w s)
  order_at s h l = order.only (at w s) (in_at w s h l)

  pub order_once : (s : ℕ) → 1 ≤ s → s ≤ length w → count (at w s) w ≡ 1
  order_once s h l = order.each (at w s) (order_at s h l)
