-- More laws of runs: where a run without repetition closes, who comes before whom, and a run read by place. Assumes nothing.
use Prim.Native.Nat.{ℕ, zero, suc, ◌<◌}
use mathlib.Core.Path.{◌≡◌, refl, sym, ◌∙◌}
use mathlib.Core.Logic.{◌≢◌, ◌⊎◌, inl, inr}
use mathlib.Core.List.{List, [], ◌∷◌, ◌++◌, cons≢nil}
use native.Mathlib.Omega.{arith}
use lib.ListN.{length}
use Rattle.definitions.specs.Columns.{at, first_or, Linked}
use Rattle.definitions.proofs.Slots.{count_here}
use Rattle.definitions.proofs.Count.{In, Once, in_here, in_there, in_cases, in_only, in_append}
use Rattle.definitions.proofs.Linked.{follows, end_follows}

pub first_some : (y z : ℕ) (xs : List ℕ) → xs ≢ [] → first_or y xs ≡ first_or z xs
unfolding first_or
first_some y z [] h = absurd (h refl)
first_some y z (x ∷ xs) h = refl

module _ (next : ℕ → ℕ) where
  pub linked_nil : (z : ℕ) → Linked next [] z
  unfolding Linked
  linked_nil z = tt

  pub linked_cons : (x : ℕ) (xs : List ℕ) (z : ℕ) → next x ≡ first_or z xs → Linked next xs z → Linked next (x ∷ xs) z
  unfolding Linked
  linked_cons x xs z e l = (e, l)

  pub linked_one : (x z : ℕ) → next x ≡ z → Linked next (x ∷ []) z
  unfolding Linked first_or
  linked_one x z e = (e, tt)

  pub linked_first : (x : ℕ) (xs : List ℕ) (z : ℕ) → Linked next (x ∷ xs) z → next x ≡ first_or z xs
  unfolding Linked
  linked_first x xs z l = l.0

  pub linked_rest : (x : ℕ) (xs : List ℕ) (z : ℕ) → Linked next (x ∷ xs) z → Linked next xs z
  unfolding Linked
  linked_rest x xs z l = l.1

  -- the next of a member stands further on
  pub next_later : (y : ℕ) (ys : List ℕ) (z m : ℕ) → Linked next (y ∷ ys) z → In m (y ∷ ys) → In (next m) (ys ++ z ∷ [])
  unfolding Linked first_or
  next_later y [] z m l i = rw (in_only m y i, l.0) (in_here z [])
  next_later y (x ∷ ys) z m l i = go (in_cases m y (x ∷ ys) i) (next_later x ys z m l.1)
    where
      go : (m ≡ y) ⊎ In m (x ∷ ys) → (In m (x ∷ ys) → In (next m) (ys ++ z ∷ [])) → In (next m) (x ∷ (ys ++ z ∷ []))
      go (inl e) ih = rw (e, l.0) (in_here x (ys ++ z ∷ []))
      go (inr k) ih = in_there (next m) x (ys ++ z ∷ []) (ih k)

  -- of a run and its end, all different, only the end can lead to the first
  pub closes_at_end : (xs : List ℕ) (z m : ℕ) → Linked next xs z → Once (xs ++ z ∷ []) → In m (xs ++ z ∷ []) → next m ≡ first_or z xs → m ≡ z
  unfolding first_or
  closes_at_end [] z m l once i e = in_only m z i
  closes_at_end (y ∷ ys) z m l once i e = go (in_append m (y ∷ ys) (z ∷ []) i)
    where
      go : In m (y ∷ ys) ⊎ In m (z ∷ []) → m ≡ z
      go (inl k) =
          let again : In y (ys ++ z ∷ []) = rw e at (next_later y ys z m l k) in
          absurd (omega (arith, once y, count_here y (ys ++ z ∷ [])))
      go (inr k) = in_only m z k

  -- of a run and its end, who is not the first follows a member of the run
  pub follows_in : (xs : List ℕ) (z m : ℕ) → Linked next xs z → In m (xs ++ z ∷ []) → m ≢ first_or z xs → (u : ℕ) × In u xs × (next u ≡ m)
  unfolding first_or
  follows_in [] z m l i d = absurd (d (in_only m z i))
  follows_in (y ∷ ys) z m l i d = go (in_append m (y ∷ ys) (z ∷ []) i)
    where
      go : In m (y ∷ ys) ⊎ In m (z ∷ []) → (u : ℕ) × In u (y ∷ ys) × (next u ≡ m)
      go (inl k) = follows next (y ∷ ys) z m l k d
      go (inr k) = let q = end_follows next (y ∷ ys) z l cons≢nil in (q.0, q.1, q.2 ∙ sym (in_only m z k))

  -- ---- a run, read by place

  pub linked_at : (xs : List ℕ) (z : ℕ) → Linked next xs z → (i : ℕ) → suc i < length xs → next (at xs (suc i)) ≡ at xs (suc (suc i))
  unfolding Linked first_or at
  linked_at [] z l i h = absurd (omega arith)
  linked_at (x ∷ []) z l i h = absurd (omega arith)
  linked_at (x ∷ y ∷ xs) z l zero h = l.0
  linked_at (x ∷ y ∷ xs) z l (suc i) h = linked_at (y ∷ xs) z l.1 i (omega arith)

  pub linked_end : (x : ℕ) (xs : List ℕ) (z : ℕ) → Linked next (x ∷ xs) z → next (at (x ∷ xs) (suc (length xs))) ≡ z
  unfolding Linked first_or at
  linked_end x [] z l = l.0
  linked_end x (y ∷ xs) z l = linked_end y xs z l.1
