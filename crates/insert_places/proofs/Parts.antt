-- Laws of links that are found by pointer or by slot, and of the places beside them. Assumes nothing.
use Prim.Native.Nat.{ℕ}
use mathlib.Core.Bool.{Bool, true, false, cond, not, ◌&&◌}
use mathlib.Core.List.{List}
use mathlib.Core.Path.{◌≡◌, refl, sym, ap, ◌∙◌}
use native.Mathlib.Omega.{arith}
use lib.Dec.{eqb}
use Rattle.std.specs.Prelude.{Option, None, Some}
use Rattle.std.proofs.lemmas.Option.{none-some}
use Rattle.definitions.specs.Columns.{at}
use Rattle.definitions.specs.Arena.{Arena, stack_length, allocated}
use Rattle.definitions.specs.Insert.{Named, by_pointer, by_slot, slot_of, is_there, Place, nowhere, between, place_if}
use Rattle.definitions.specs.Read.{Pointer, stale}
use Rattle.definitions.proofs.Pointers.{there_link}
use Rattle.definitions.proofs.Shaped.{Shaped}
use Rattle.definitions.proofs.Slots.{allocated_some, allocated_within}
use Rattle.definitions.proofs.Tests.{by_test}
use Rattle.ptr.specs.declared.Slot.{Slot}
use Rattle.chain_traits.specs.Read.{stale_in}
use Rattle.insert_places.specs.Places.{FoundAt, Found, Stands, lacking, between_those, before_next, behind_prev, at_joint}

-- a stale pointer names no link
pub pointer_there : (a : Arena) (p : Pointer) → is_there a (by_pointer p) ≡ not (stale_in a.generation (stack_length a) p)
unfolding is_there stale_in stale
pointer_there a p = refl

module _ {limit : ℕ} {a : Arena} (ok : Shaped limit a) where
  -- a link that is there stands in both link columns
  found_at : (p : Named) → is_there a p ≡ true → FoundAt a p (slot_of p)
  found_at p e =
      let link = there_link a p e in
      record {
        there = e;
        slot = refl;
        some = allocated_some a.generation (stack_length a) (slot_of p) link;
        within = omega (arith, allocated_within a.generation (stack_length a) (slot_of p) link, ok.within);
      }

  pub pointer_found : (p : Pointer) {n : ℕ} {r : Bool} → n ≡ stack_length a → r ≡ stale_in a.generation n p → r ≡ false → FoundAt a (by_pointer p) p.slot
  unfolding slot_of
  pointer_found p length e h = found_at (by_pointer p) (pointer_there a p ∙ ap not (sym (rw length at e) ∙ h))

  pub slot_found : (s : ℕ) {n : ℕ} {r : Bool} → n ≡ stack_length a → r ≡ allocated a.generation n s → r ≡ true → FoundAt a (by_slot s) s
  unfolding slot_of is_there
  slot_found s length e h = found_at (by_slot s) (sym (rw length at e) ∙ h)

-- ---- the place beside links that were looked for

-- what was found stands in both link columns
module _ {limit : ℕ} {a : Arena} (ok : Shaped limit a) (p : Named) where
  pub stands_in_prev : (r : Option Slot) → Found a p r → Stands a.prev r
  stands_in_prev None none = tt
  stands_in_prev (Some s) found = (found.some, found.within)

  pub stands_in_next : (r : Option Slot) → Found a p r → Stands a.next r
  stands_in_next None none = tt
  stands_in_next (Some s) found = (found.some, omega (arith, found.within, ok.next_length))

-- beside a slot, or nowhere where there is none
abbrev beside : (ℕ → Place) → Option Slot → Place
beside f None = nowhere
beside f (Some s) = f s.0

beside_cond : (f : ℕ → Place) (t : Bool) (s : Slot) → beside f (cond t (Some s) None) ≡ cond t (f s.0) nowhere
beside_cond f true s = refl
beside_cond f false s = refl

-- beside a link that lacks a neighbour in the column
module _ (a : Arena) (p : Named) (xs : List ℕ) where
  beside_lacking : (f : ℕ → Place) (r : Option Slot) → Found a p r → beside f (lacking xs r) ≡ cond (is_there a p && eqb (at xs (slot_of p)) 0) (f (slot_of p)) nowhere
  beside_lacking f None none = rw none refl
  beside_lacking f (Some s) found = rw (found.there, ← found.slot) (beside_cond f (eqb (at xs s.0) 0) s)

  has_one : (r : Option Slot) → Found a p r → None ≡ lacking xs r → (is_there a p && eqb (at xs (slot_of p)) 0) ≡ false
  has_one None none e = rw none refl
  has_one (Some s) found e = rw (found.there, ← found.slot) (by_test (eqb (at xs s.0) 0) (λ t. absurd (none-some s (rw t at e))) (λ t. t))

  module _ (r : Option Slot) (found : Found a p r) where
    pub end_place : (s : Slot) (v : ℕ) → Some s ≡ lacking xs r → between s.0 v ≡ place_if (is_there a p && eqb (at xs (slot_of p)) 0) (slot_of p) v
    unfolding place_if
    end_place s v e = ap (beside (λ u. between u v)) e ∙ beside_lacking (λ u. between u v) r found

    pub start_place : (s : Slot) (u : ℕ) → Some s ≡ lacking xs r → between u s.0 ≡ place_if (is_there a p && eqb (at xs (slot_of p)) 0) u (slot_of p)
    unfolding place_if
    start_place s u e = ap (beside (between u)) e ∙ beside_lacking (between u) r found

    pub no_place : (u v : ℕ) → None ≡ lacking xs r → nowhere ≡ place_if (is_there a p && eqb (at xs (slot_of p)) 0) u v
    unfolding place_if
    no_place u v e = rw (has_one r found e) refl

-- between two
those_cond : (x y : Bool) (s t : Slot) → between_those (cond x (Some s) None) (cond y (Some t) None) ≡ cond (x && y) (between s.0 t.0) nowhere
those_cond true true s t = refl
those_cond true false s t = refl
those_cond false y s t = refl

those_none : (x : Bool) (s : Slot) → between_those (cond x (Some s) None) None ≡ nowhere
those_none true s = refl
those_none false s = refl

pub bridge_place :
    (a : Arena) (p q : Named) (r w : Option Slot) (ps ns : List ℕ) → Found a p r → Found a q w
    → between_those (lacking ns r) (lacking ps w) ≡ place_if ((is_there a p && is_there a q) && (eqb (at ns (slot_of p)) 0 && eqb (at ps (slot_of q)) 0)) (slot_of p) (slot_of q)
unfolding place_if
bridge_place a p q None w ps ns none g = rw none refl
bridge_place a p q (Some s) None ps ns found none = rw (found.there, none) (those_none (eqb (at ns s.0) 0) s)
bridge_place a p q (Some s) (Some t) ps ns f g = rw (f.there, g.there, ← f.slot, ← g.slot) (those_cond (eqb (at ns s.0) 0) (eqb (at ps t.0) 0) s t)

module _ (a : Arena) (p : Named) where
  pub next_place : (r : Option Slot) → Found a p r → before_next a.next r ≡ place_if (is_there a p) (slot_of p) (at a.next (slot_of p))
  unfolding place_if
  next_place None none = rw none refl
  next_place (Some s) found = rw (found.there, ← found.slot) refl

  pub prev_place : (r : Option Slot) → Found a p r → behind_prev a.prev r ≡ place_if (is_there a p) (at a.prev (slot_of p)) (slot_of p)
  unfolding place_if
  prev_place None none = rw none refl
  prev_place (Some s) found = rw (found.there, ← found.slot) refl

  pub joint_place : (q : Named) (r w : Option Slot) → Found a p r → Found a q w → at_joint a.next r w ≡ place_if ((is_there a p && is_there a q) && eqb (at a.next (slot_of p)) (slot_of q)) (slot_of p) (slot_of q)
  unfolding place_if
  joint_place q None w none g = rw none refl
  joint_place q (Some s) None f none = rw (f.there, none) refl
  joint_place q (Some s) (Some t) f g = rw (f.there, g.there, ← f.slot, ← g.slot) refl

pub ruleset beside_found = (stands_in_prev, stands_in_next, end_place, start_place, no_place, bridge_place, next_place, prev_place, joint_place)
