-- An insertion by the slot that is chosen: the reply, and what writing the link there needs. Assumes nothing.
use Prim.Native.Nat.{ℕ, ◌≤◌}
use mathlib.Core.Bool.{false, true≢false}
use mathlib.Core.List.{[]}
use mathlib.Core.Path.{◌≡◌, refl, sym, ◌∙◌}
use native.Mathlib.Omega.{arith}
use native.Mathlib.Nat.{pos_of_ne-zero}
use lib.Dec.{eqb}
use borrow.Author.Tests.{eqb-false, ne_eqb}
use Rattle.definitions.proofs.Freelist.{root_within}
use Rattle.definitions.proofs.Tests.{by_test}
use Rattle.definitions.specs.Arena.{Arena, capacity, capacity_limit, stack_length, root}
use Rattle.definitions.specs.Check.{WellFormed}
use Rattle.definitions.specs.Insert.{InsertKind, Disconnected, SingleLinkCyclic, ChainEnd, ChainStart, NextTo, PrevTo, AtInterlink, Bridge, nowhere, between, place_of, new_slot, is_full, insert_at, insert}
use Rattle.well_formed.proofs.WellFormed.{shape_if_well_formed}
use Rattle.base_insertion.specs.Insertion.{Insertable, slot_for}
use Rattle.chains.proofs.Links.{well_formed_linked}
use Rattle.kept.proofs.PutIn.{u_within, v_within, fits_if_placed, gap_of}

module _ (a : Arena) where
  -- the slot is 0 where the arena is full
  pub full_by_slot : is_full a ≡ eqb (slot_for a.header (capacity a)) 0
  unfolding is_full
  full_by_slot =
      by_test (eqb (root a) 0)
      (λ r. by_test (eqb (stack_length a) (capacity a)) (λ n. rw (r, n) refl) (λ n. rw (r, n) (sym (ne_eqb _ _ (λ z. omega arith)))))
      (λ r. rw (r, r) refl)

  pub new_slot_lem : eqb (slot_for a.header (capacity a)) 0 ≡ false → new_slot a ≡ slot_for a.header (capacity a)
  unfolding new_slot
  new_slot_lem d =
      by_test (eqb (root a) 0)
      (λ r. by_test (eqb (stack_length a) (capacity a)) (λ n. absurd (true≢false (rw (r, n) at d))) (λ n. rw (r, n) refl))
      (λ r. rw r refl)

  -- so an insertion may go by the slot that was chosen, before it is known whether there is room
  pub insert_by_slot : (k : InsertKind) (x : ℕ) → insert a k x [] ≡ insert_at a (place_of a (slot_for a.header (capacity a)) k) x []
  unfolding insert insert_at place_of
  insert_by_slot Disconnected x = refl
  insert_by_slot SingleLinkCyclic x =
      by_test (is_full a) (λ f. rw f refl) (λ f. rw (new_slot_lem (sym full_by_slot ∙ f)) refl)
  insert_by_slot (ChainEnd p) x = refl
  insert_by_slot (ChainStart p) x = refl
  insert_by_slot (NextTo p) x = refl
  insert_by_slot (PrevTo p) x = refl
  insert_by_slot (AtInterlink p q) x = refl
  insert_by_slot (Bridge p q) x = refl

pub ruleset by_slot = (insert_by_slot, full_by_slot, new_slot_lem)

-- nowhere is no pair of slots
no_pair : {u v : ℕ} → nowhere ≡ between u v → ⊥
no_pair e = let z : ◌≡◌ {A = ℕ} 0 1 = cc in omega arith

-- whether a kind has a place does not depend on the slot of the new link: a kind that has none for one slot has none for another (DECISIONS, 56)
pub some_place : (a : Arena) (t t' : ℕ) (k : InsertKind) → nowhere ≡ place_of a t k → nowhere ≡ place_of a t' k
unfolding place_of
some_place a t t' Disconnected e = absurd (no_pair e)
some_place a t t' SingleLinkCyclic e = absurd (no_pair e)
some_place a t t' (ChainEnd p) e = e
some_place a t t' (ChainStart p) e = e
some_place a t t' (NextTo p) e = e
some_place a t t' (PrevTo p) e = e
some_place a t t' (AtInterlink p q) e = e
some_place a t t' (Bridge p q) e = e

-- what writing the link needs
pub insertable : {a : Arena} (k : InsertKind) (t u v : ℕ) → WellFormed capacity_limit a → t ≡ slot_for a.header (capacity a) → eqb t 0 ≡ false → between u v ≡ place_of a t k → Insertable a t u v
insertable {a} k t u v ok chosen some e =
    let rooted = root_within a ok.freelist.0 ok.freelist.1 in
    let counts = shape_if_well_formed capacity_limit a ok in
    let fits : t ≤ capacity a = in_columns in
    let gap = gap_of a (well_formed_linked ok) t k u v (fits_if_placed a t k u v (sym e)) in
    let before = u_within a (capacity a) t ok.within fits u v gap in
    let after = v_within a (capacity a) t ok.within fits u v gap in
    record {
      countable = record {
        header = ok.header;
        stack = omega (arith, ok.within, ok.small);
        links = omega (arith, counts.links_within, ok.small);
        rooted = omega (arith, ok.within, ok.next_length);
      };
      slot = chosen ∙ sym (new_slot_lem a (rw chosen at some));
      some = pos_of_ne-zero (eqb-false t 0 some);
      in_prev = fits;
      in_next = rw ok.next_length fits;
      in_generation = rw ok.generation_length fits;
      in_payload = rw ok.payload_length fits;
      before = rw ok.next_length before;
      after = after;
    }
  where
    in_columns : t ≤ capacity a
    in_columns = rw chosen within
      where
        within : slot_for a.header (capacity a) ≤ capacity a
        within =
            by_test (eqb (root a) 0)
            (λ r. by_test (eqb (stack_length a) (capacity a)) (λ n. rw (r, n) (omega arith)) (λ n. rw (r, n) (let d = eqb-false (stack_length a) (capacity a) n in omega (arith, ok.within))))
            (λ r. rw r (omega (arith, root_within a ok.freelist.0 ok.freelist.1, ok.within)))
