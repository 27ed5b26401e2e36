-- Where a link may go, and what it does there: the one fact that all kinds share. Assumes nothing.
use Prim.Native.Nat.{ℕ, ◌≤◌}
use mathlib.Core.Path.{◌≡◌, refl, sym, ap, ◌∙◌}
use mathlib.Core.Logic.{◌⊎◌, inl, inr}
use mathlib.Core.Bool.{Bool, true, false, ◌&&◌, true≢false}
use native.Mathlib.Omega.{arith}
use native.Mathlib.Decide.{ℕ_discrete}
use lib.Dec.{eqb}
use borrow.Author.Tests.{eqb-true}
use Rattle.definitions.specs.Columns.{at}
use Rattle.definitions.specs.Arena.{Arena, stack_length, is_link}
use Rattle.definitions.proofs.Tests.{both_first, both_second}
use Rattle.definitions.proofs.Columns.{at_zero}
use Rattle.definitions.proofs.Pointers.{there_link}
use Rattle.chains.proofs.Links.{Link, DoublyLinked, link_within}
use Rattle.definitions.specs.Insert.{slot_of, is_there, InsertKind, Disconnected, SingleLinkCyclic, ChainEnd, ChainStart, NextTo, PrevTo, AtInterlink, Bridge, between, place_if, place_of}
use Rattle.kept.proofs.PutInColumn.{Column}

-- u and v are neighbours; or u, if there is one, has no next, and v, if there is one, no prev; or both are the new link t
pub data Gap (a : Arena) (t u v : ℕ) : Type 0 where
  joined : Link a u → Link a v → at a.next u ≡ v → at a.prev v ≡ u → Gap a t u v
  apart : (u ≡ 0) ⊎ Link a u → (v ≡ 0) ⊎ Link a v → at a.next u ≡ 0 → at a.prev v ≡ 0 → Gap a t u v
  itself : u ≡ t → v ≡ t → Gap a t u v

-- where t is within m and the stack too, so are u and v
module _ (a : Arena) (m t : ℕ) (stack : stack_length a ≤ m) (fits : t ≤ m) where
  side_within : (s : ℕ) → (s ≡ 0) ⊎ Link a s → s ≤ m
  side_within s (inl z) = omega arith
  side_within s (inr l) = omega (arith, link_within a s l)

  pub u_within : (u v : ℕ) → Gap a t u v → u ≤ m
  u_within u v (joined lu lv e f) = side_within u (inr lu)
  u_within u v (apart lu lv e f) = side_within u lu
  u_within u v (itself e f) = rw e fits

  pub v_within : (u v : ℕ) → Gap a t u v → v ≤ m
  v_within u v (joined lu lv e f) = side_within v (inr lv)
  v_within u v (apart lu lv e f) = side_within v lv
  v_within u v (itself e f) = rw f fits

-- b is a with the link t between u and v
pub record PutIn (a b : Arena) (t u v : ℕ) : Type 0 where
  pub fresh : is_link a t ≡ false
  pub new : Link b t
  pub stays : (x : ℕ) → Link a x → Link b x
  pub was : (x : ℕ) → Link b x → (x ≡ t → ⊥) → Link a x
  pub prev : Column a.prev b.prev t u v
  pub next : Column a.next b.next t v u

-- no old link is the new one
pub off_new : {a b : Arena} {t u v : ℕ} → PutIn a b t u v → (s : ℕ) → Link a s → s ≡ t → ⊥
off_new {a = a} p s l e = true≢false (sym l ∙ ap (is_link a) e ∙ p.fresh)

pub placed : (fits : Bool) (u v s t : ℕ) → place_if fits u v ≡ between s t → (fits ≡ true) × (u ≡ s) × (v ≡ t)
unfolding place_if
placed true u v s t e = (refl, cc, cc)
placed false u v s t e = let z : ◌≡◌ {A = ℕ} 0 1 = cc in absurd (omega arith)

-- what a kind's condition says, and that the place is between u and v
unfoldable pub Fits : Arena → ℕ → InsertKind → ℕ → ℕ → Type 0
Fits a t Disconnected u v = (0 ≡ u) × (0 ≡ v)
Fits a t SingleLinkCyclic u v = (t ≡ u) × (t ≡ v)
Fits a t (ChainEnd p) u v = (slot_of p ≡ u) × (0 ≡ v) × Link a (slot_of p) × (at a.next (slot_of p) ≡ 0)
Fits a t (ChainStart p) u v = (0 ≡ u) × (slot_of p ≡ v) × Link a (slot_of p) × (at a.prev (slot_of p) ≡ 0)
Fits a t (NextTo p) u v = (slot_of p ≡ u) × (at a.next (slot_of p) ≡ v) × Link a (slot_of p)
Fits a t (PrevTo p) u v = (at a.prev (slot_of p) ≡ u) × (slot_of p ≡ v) × Link a (slot_of p)
Fits a t (AtInterlink p q) u v = (slot_of p ≡ u) × (slot_of q ≡ v) × Link a (slot_of p) × Link a (slot_of q) × (at a.next (slot_of p) ≡ slot_of q)
Fits a t (Bridge p q) u v = (slot_of p ≡ u) × (slot_of q ≡ v) × Link a (slot_of p) × Link a (slot_of q) × (at a.next (slot_of p) ≡ 0) × (at a.prev (slot_of q) ≡ 0)

pub fits_if_placed : (a : Arena) (t : ℕ) (k : InsertKind) (u v : ℕ) → place_of a t k ≡ between u v → Fits a t k u v
unfolding place_of Fits
fits_if_placed a t Disconnected u v e = (cc, cc)
fits_if_placed a t SingleLinkCyclic u v e = (cc, cc)
fits_if_placed a t (ChainEnd p) u v e =
    let r = placed _ _ _ u v e in
    (r.1, r.2, there_link a p (both_first _ _ r.0), eqb-true _ _ (both_second (is_there a p) _ r.0))
fits_if_placed a t (ChainStart p) u v e =
    let r = placed _ _ _ u v e in
    (r.1, r.2, there_link a p (both_first _ _ r.0), eqb-true _ _ (both_second (is_there a p) _ r.0))
fits_if_placed a t (NextTo p) u v e = let r = placed _ _ _ u v e in (r.1, r.2, there_link a p r.0)
fits_if_placed a t (PrevTo p) u v e = let r = placed _ _ _ u v e in (r.1, r.2, there_link a p r.0)
fits_if_placed a t (AtInterlink p q) u v e =
    let r = placed _ _ _ u v e in
    let there = both_first _ _ r.0 in
    (r.1, r.2, there_link a p (both_first _ _ there), there_link a q (both_second (is_there a p) _ there), eqb-true _ _ (both_second (is_there a p && is_there a q) _ r.0))
fits_if_placed a t (Bridge p q) u v e =
    let r = placed _ _ _ u v e in
    let there = both_first _ _ r.0 in
    let ends = both_second (is_there a p && is_there a q) _ r.0 in
    (r.1, r.2, there_link a p (both_first _ _ there), there_link a q (both_second (is_there a p) _ there), eqb-true _ _ (both_first _ _ ends), eqb-true _ _ (both_second (eqb (at a.next (slot_of p)) 0) _ ends))

module _ (a : Arena) (linked : DoublyLinked a) (t : ℕ) where
  gap_next : (s : ℕ) → Link a s → Gap a t s (at a.next s)
  gap_next s l = go (ℕ_discrete (at a.next s) 0)
    where
      go : Dec (at a.next s ≡ 0) → Gap a t s (at a.next s)
      go (yes z) = apart (inr l) (inl z) z (rw z (at_zero a.prev))
      go (no d) = let r = linked.next s l d in joined l r.0 refl r.1

  gap_prev : (s : ℕ) → Link a s → Gap a t (at a.prev s) s
  gap_prev s l = go (ℕ_discrete (at a.prev s) 0)
    where
      go : Dec (at a.prev s ≡ 0) → Gap a t (at a.prev s) s
      go (yes z) = apart (inl z) (inr l) (rw z (at_zero a.next)) z
      go (no d) = let r = linked.prev s l d in joined r.0 l r.1 refl

  -- the place that a kind names is such a gap
  pub gap_of : (k : InsertKind) (u v : ℕ) → Fits a t k u v → Gap a t u v
  unfolding Fits
  gap_of Disconnected u v f = rw (← f.0, ← f.1) (apart (inl refl) (inl refl) (at_zero a.next) (at_zero a.prev))
  gap_of SingleLinkCyclic u v f = itself (sym f.0) (sym f.1)
  gap_of (ChainEnd p) u v f = rw (← f.0, ← f.1) (apart (inr f.2) (inl refl) f.3 (at_zero a.prev))
  gap_of (ChainStart p) u v f = rw (← f.0, ← f.1) (apart (inl refl) (inr f.2) (at_zero a.next) f.3)
  gap_of (NextTo p) u v f = rw (← f.0, ← f.1) (gap_next (slot_of p) f.2)
  gap_of (PrevTo p) u v f = rw (← f.0, ← f.1) (gap_prev (slot_of p) f.2)
  gap_of (AtInterlink p q) u v f = rw (← f.0, ← f.1, ← f.4) (gap_next (slot_of p) f.2)
  gap_of (Bridge p q) u v f = rw (← f.0, ← f.1) (apart (inr f.2) (inr f.3) f.4 f.5)
