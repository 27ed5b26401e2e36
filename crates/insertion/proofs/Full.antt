-- 18 comes exactly where the kind has a place and every slot of the capacity is a link. Assumes nothing.
use Prim.Native.Nat.{ℕ}
use mathlib.Core.Path.{◌≡◌, refl, sym, ◌∙◌}
use mathlib.Core.Logic.{◌↔◌}
use mathlib.Core.Bool.{true, true≢false}
use mathlib.Core.List.{List, [], ◌∷◌}
use native.Mathlib.Omega.{arith}
use lib.ListN.{length}
use lib.Dec.{eqb}
use borrow.Author.Tests.{eqb-true, eq-eqb}
use Rattle.definitions.specs.Columns.{first_or}
use Rattle.definitions.specs.Arena.{Arena, capacity, stack_length, link_count, root}
use Rattle.definitions.specs.Check.{WellFormed, Freelist, verdict}
use Rattle.definitions.proofs.Tests.{by_test, both, both_first, both_second}
use Rattle.definitions.proofs.Slots.{links_and_free}
use Rattle.definitions.proofs.Count.{in_here}
use Rattle.definitions.proofs.Freelist.{length_free}
use Rattle.well_formed.proofs.WellFormed.{well_formed_if_passes}
use Rattle.definitions.specs.Insert.{InsertKind, Place, nowhere, between, place_of, new_slot, is_full, insert_at, insert}

module _ (limit : ℕ) (a : Arena) (ok : WellFormed limit a) where
  no_root : (fs : List ℕ) → Freelist a fs → (root a ≡ 0) ↔ (length fs ≡ 0)
  unfolding first_or
  no_root [] f = (λ z. refl, λ z. sym f.starts)
  no_root (y ∷ ys) f = (λ z. absurd (omega (arith, f.starts, (f.free y (in_here y ys)).0)), λ z. absurd (omega arith))

  pub full_if : is_full a ≡ true → link_count a ≡ capacity a
  unfolding is_full
  full_if e =
      let f = ok.freelist.1 in
      let none = (no_root ok.freelist.0 f).0 (eqb-true _ _ (both_first _ _ e)) in
      let same : stack_length a ≡ capacity a = eqb-true _ _ (both_second (eqb (root a) 0) _ e) in
      omega (arith, ok.links, links_and_free a.generation (stack_length a), length_free a.generation (stack_length a) ok.freelist.0 f.free f.once)

  pub if_full : link_count a ≡ capacity a → is_full a ≡ true
  unfolding is_full
  if_full e =
      let f = ok.freelist.1 in
      let sum = links_and_free a.generation (stack_length a) in
      let size = length_free a.generation (stack_length a) ok.freelist.0 f.free f.once in
      let none : length ok.freelist.0 ≡ 0 = omega (arith, ok.links, ok.within) in
      let same : stack_length a ≡ capacity a = omega (arith, ok.links, ok.within) in
      both _ _ (eq-eqb _ _ ((no_root ok.freelist.0 f).1 none)) (eq-eqb _ _ same)

  number_of : (p : Place) (x : ℕ) (l : List ℕ) → ((insert_at a p x l).number ≡ 18) ↔ ((p ≡ nowhere → ⊥) × (link_count a ≡ capacity a))
  unfolding insert_at
  number_of nowhere x l = (λ e. absurd (omega arith), λ h. absurd (h.0 refl))
  number_of (between u v) x l =
      by_test (is_full a)
      (λ e. rw e (λ h. (λ q. (let z : ◌≡◌ {A = ℕ} 0 1 = cc in omega arith), full_if e), λ h. refl))
      (λ e. rw e (λ h. absurd (omega arith), λ h. absurd (true≢false (sym (if_full h.1) ∙ e))))

-- 18 comes exactly where the kind has a place and as many slots are links as the columns have
pub full_exactly : (limit : ℕ) (a : Arena) → verdict limit a ≡ 0 → (k : InsertKind) (x : ℕ) (l : List ℕ)
    → ((insert a k x l).number ≡ 18) ↔ ((place_of a (new_slot a) k ≡ nowhere → ⊥) × (link_count a ≡ capacity a))
unfolding insert
full_exactly limit a e k x l = number_of limit a (well_formed_if_passes limit a e) (place_of a (new_slot a) k) x l
