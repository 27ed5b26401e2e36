-- Laws of the number of links, where the generation column or the stack length changes. Assumes nothing.
use Prim.Native.Nat.{ℕ, suc}
use mathlib.Core.Path.{◌≡◌, refl}
use mathlib.Core.Logic.{◌⊎◌, inl, inr}
use mathlib.Core.Bool.{true}
use mathlib.Core.List.{List, ◌∷◌}
use native.Mathlib.Omega.{arith}
use native.Mathlib.Decide.{ℕ_discrete, dec_le}
use lib.ListN.{length}
use Rattle.definitions.specs.Columns.{count}
use Rattle.definitions.specs.Arena.{allocated, link_slots}
use Rattle.definitions.proofs.Count.{In, Once, in_here, in_there, in_cases, once_cons, once_among, shorter, count_links, only_links}

-- two lists without repetition and with the same members are as long
pub as_long : (xs ys : List ℕ) → Once xs → Once ys → ((x : ℕ) → In x xs → In x ys) → ((x : ℕ) → In x ys → In x xs) → length xs ≡ length ys
as_long xs ys once-xs once-ys there back =
    let le = shorter xs ys (once_among xs ys once-xs there) in
    let ge = shorter ys xs (once_among ys xs once-ys back) in
    omega arith

module _ (gs : List ℕ) (n : ℕ) where
  pub in_links : (s : ℕ) → allocated gs n s ≡ true → In s (link_slots gs n)
  in_links s e = omega (arith, count_links gs n s e)

  pub links_once : Once (link_slots gs n)
  links_once s = elim (dec_le 1 (count s (link_slots gs n))) [ yes i ↦ omega (arith, count_links gs n s (only_links gs n s i)) | no i ↦ omega arith ]

-- gs and n before, hs and m after
module _ (gs hs : List ℕ) (n m : ℕ) where
  -- the same slots are links
  pub as_many_links : ((x : ℕ) → allocated gs n x ≡ true → allocated hs m x ≡ true) → ((x : ℕ) → allocated hs m x ≡ true → allocated gs n x ≡ true) → length (link_slots gs n) ≡ length (link_slots hs m)
  as_many_links there back =
      as_long (link_slots gs n) (link_slots hs m) (links_once gs n) (links_once hs m)
      (λ x i. in_links hs m x (there x (only_links gs n x i)))
      (λ x i. in_links gs n x (back x (only_links hs m x i)))

  -- all but s
  pub one_link_fewer : (s : ℕ) → allocated gs n s ≡ true → ((x : ℕ) → allocated gs n x ≡ true → (x ≡ s → ⊥) → allocated hs m x ≡ true)
      → ((x : ℕ) → allocated hs m x ≡ true → (allocated gs n x ≡ true) × (x ≡ s → ⊥)) → length (link_slots gs n) ≡ suc (length (link_slots hs m))
  one_link_fewer s ls stays was =
      as_long (link_slots gs n) (s ∷ link_slots hs m) (links_once gs n) (once_cons s (link_slots hs m) (links_once hs m) (λ i. (was s (only_links hs m s i)).1 refl))
      (λ x i. there x (only_links gs n x i) (ℕ_discrete x s))
      (λ x i. back x (in_cases x s (link_slots hs m) i))
    where
      there : (x : ℕ) → allocated gs n x ≡ true → Dec (x ≡ s) → In x (s ∷ link_slots hs m)
      there x l (yes e) = rw e (in_here s (link_slots hs m))
      there x l (no d) = in_there x s (link_slots hs m) (in_links hs m x (stays x l d))

      back : (x : ℕ) → (x ≡ s) ⊎ In x (link_slots hs m) → In x (link_slots gs n)
      back x (inl e) = rw e (in_links gs n s ls)
      back x (inr i) = in_links gs n x (was x (only_links hs m x i)).0
