-- 17 comes exactly where a link that the kind names is not there, or no chain has the place that it asks for. A kind that has a place makes a chain;
-- and a chain that it could make shows that its condition holds: the last link of an open chain has no next, its first has no prev, and what comes
-- after a link is its next. Assumes nothing.
use Prim.Native.Nat.{ℕ}
use mathlib.Core.Path.{◌≡◌, refl, sym, ap, ◌∙◌}
use mathlib.Core.Logic.{◌↔◌, inl, inr}
use mathlib.Core.Bool.{Bool, true, false}
use mathlib.Core.List.{List, [], ◌∷◌, ◌++◌}
use native.Mathlib.Omega.{arith}
use borrow.Author.Tests.{eq-eqb}
use Rattle.definitions.specs.Columns.{at, first_or, last_or}
use Rattle.definitions.specs.Arena.{Arena}
use Rattle.definitions.specs.Check.{verdict}
use Rattle.definitions.specs.Insert.{
  slot_of,
  is_there,
  InsertKind,
  Disconnected,
  SingleLinkCyclic,
  ChainEnd,
  ChainStart,
  NextTo,
  PrevTo,
  AtInterlink,
  Bridge,
  Place,
  nowhere,
  between,
  place_if,
  place_of,
  new_slot,
  is_full,
  insert_at,
  insert,
}
use Rattle.definitions.proofs.Tests.{by_test, both, both_first, both_second}
use Rattle.definitions.proofs.Linked.{linked_last, linked_split}
use Rattle.statements.specs.Chains.{IsOpen, Chain}
use Rattle.statements.specs.InsertPlaces.{Makes, AllThere}
use Rattle.well_formed.proofs.WellFormed.{well_formed_if_passes}
use Rattle.chains.proofs.Runs.{linked_first}
use Rattle.chains.proofs.Links.{DoublyLinked, well_formed_linked}
use Rattle.kept.proofs.PutIn.{placed, fits_if_placed}
use Rattle.insertion.proofs.Places.{follows_in, makes_one}

somewhere : (fits : Bool) (u v : ℕ) → fits ≡ true → place_if fits u v ≡ nowhere → ⊥
unfolding place_if
somewhere true u v e q = let z : ◌≡◌ {A = ℕ} 0 1 = cc in omega arith
somewhere false u v e q = let z : ◌≡◌ {A = ℕ} 0 1 = cc in omega arith

module _ (a : Arena) where
  -- ---- a kind that has a place names links that are there

  all_there : (t : ℕ) (k : InsertKind) (u v : ℕ) → place_of a t k ≡ between u v → AllThere a k
  unfolding place_of AllThere
  all_there t Disconnected u v e = tt
  all_there t SingleLinkCyclic u v e = tt
  all_there t (ChainEnd p) u v e = both_first _ _ (placed _ _ _ u v e).0
  all_there t (ChainStart p) u v e = both_first _ _ (placed _ _ _ u v e).0
  all_there t (NextTo p) u v e = (placed _ _ _ u v e).0
  all_there t (PrevTo p) u v e = (placed _ _ _ u v e).0
  all_there t (AtInterlink p q) u v e = let both = both_first _ _ (placed _ _ _ u v e).0 in (both_first _ _ both, both_second (is_there a p) _ both)
  all_there t (Bridge p q) u v e = let both = both_first _ _ (placed _ _ _ u v e).0 in (both_first _ _ both, both_second (is_there a p) _ both)

  -- ---- the ends of an open chain

  no_next_lem : (c : List ℕ) (s : ℕ) → IsOpen a (c ++ s ∷ []) → at a.next s ≡ 0
  unfolding first_or
  no_next_lem c s h = linked_first (at a.next) s [] 0 (linked_split (at a.next) c (s ∷ []) 0 h.linked).1

  no_next_of_last : (c : List ℕ) → IsOpen a c → at a.next (last_or 0 c) ≡ 0
  unfolding last_or
  no_next_of_last [] h = absurd (h.some refl)
  no_next_of_last (x ∷ xs) h = linked_last (at a.next) x xs 0 h.linked

  no_prev_lem : (s : ℕ) (e : List ℕ) → IsOpen a (s ∷ e) → at a.prev s ≡ 0
  unfolding first_or
  no_prev_lem s e h = h.starts

  -- ---- a kind that has no place makes no chain

  makes_none : (t : ℕ) (k : InsertKind) → place_of a t k ≡ nowhere → AllThere a k → (d : Chain) → Makes a t k d → ⊥
  unfolding place_of AllThere Makes
  makes_none t Disconnected e there d m = let z : ◌≡◌ {A = ℕ} 0 1 = cc in omega arith
  makes_none t SingleLinkCyclic e there d m = let z : ◌≡◌ {A = ℕ} 0 1 = cc in omega arith
  makes_none t (ChainEnd p) e there d m = somewhere _ _ _ (both _ _ there (eq-eqb _ _ (no_next_lem m.0 (slot_of p) m.1))) e
  makes_none t (ChainStart p) e there d m = somewhere _ _ _ (both _ _ there (eq-eqb _ _ (no_prev_lem (slot_of p) m.0 m.1))) e
  makes_none t (NextTo p) e there d m = somewhere _ _ _ there e
  makes_none t (PrevTo p) e there d m = somewhere _ _ _ there e
  makes_none t (AtInterlink p q) e there d m =
      somewhere _ _ _ (both _ _ (both _ _ there.0 there.1) (eq-eqb _ _ (sym (follows_in a m.0 m.1 (slot_of p) m.2 m.3) ∙ m.4))) e
  makes_none t (Bridge p q) e there d (inl m) =
      somewhere _ _ _ (both _ _ (both _ _ there.0 there.1) (both _ _ (eq-eqb _ _ (no_next_lem m.0 (slot_of p) m.2)) (eq-eqb _ _ (no_prev_lem (slot_of q) m.1 m.3)))) e
  makes_none t (Bridge p q) e there d (inr m) =
      let last = ap (at a.next) (sym m.3) ∙ no_next_of_last m.0 m.1 in
      let first = ap (at a.prev) (sym m.2) ∙ m.1.starts in
      somewhere _ _ _ (both _ _ (both _ _ there.0 there.1) (both _ _ (eq-eqb _ _ last) (eq-eqb _ _ first))) e

-- ---- the number

module _ (a : Arena) (la : DoublyLinked a) (k : InsertKind) (x : ℕ) (l : List ℕ) where
  abbrev t : ℕ
  t = new_slot a

  abbrev NoPlace : Type 0
  NoPlace = AllThere a k → (d : Chain) → Makes a t k d → ⊥

  number_of : (p : Place) → place_of a t k ≡ p → ((insert_at a p x l).number ≡ 17) ↔ NoPlace
  unfolding insert_at
  number_of nowhere e = (λ n. makes_none a t k e, λ none. refl)
  number_of (between u v) e = (
    λ n. absurd (by_test (is_full a) (λ f. omega (arith, rw f at n)) (λ f. omega (arith, rw f at n))),
    λ none. let made = makes_one a la t u v k (fits_if_placed a t k u v e) in absurd (none (all_there a t k u v e) made.0 made.1),
  )

-- 17 comes exactly where, of the links that the kind names, one is not there, or there is no chain that it could make with them
pub seventeen_exactly : (limit : ℕ) (a : Arena) → verdict limit a ≡ 0 → (k : InsertKind) (x : ℕ) (l : List ℕ)
    → ((insert a k x l).number ≡ 17) ↔ (AllThere a k → (d : Chain) → Makes a (new_slot a) k d → ⊥)
unfolding insert
seventeen_exactly limit a passes k x l = number_of a (well_formed_linked (well_formed_if_passes limit a passes)) k x l (place_of a (new_slot a) k) refl
