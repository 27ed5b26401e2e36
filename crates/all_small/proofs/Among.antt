-- Members of lists of any kind: of what was joined, paired and kept, and their places; and what can be left out before a test. Assumes nothing.
use Prim.Native.Nat.{ℕ, zero, suc, ◌+◌, ◌≤◌, ◌<◌}
use mathlib.Core.Path.{◌≡◌, refl, sym, ap, ◌∙◌}
use mathlib.Core.Logic.{◌⊎◌, inl, inr}
use mathlib.Core.Bool.{Bool, true, true≢false}
use mathlib.Core.List.{List, [], ◌∷◌, ◌++◌, map, flat_map}
use native.Mathlib.Omega.{arith}
use native.Mathlib.Decide.{ℕ_discrete}
use lib.ListN.{length, get_or}
use Rattle.definitions.specs.Columns.{slots_from}
use Rattle.definitions.proofs.Tests.{by_test}
use Rattle.all_small.specs.SmallArenas.{pairs, kept}

-- x is a member of a list
unfoldable pub Among : {A : Type 0} → A → List A → Type 0
Among x [] = ⊥
Among x (y ∷ ys) = (x ≡ y) ⊎ Among x ys

module _ {A : Type 0} where
  pub among_left : (x : A) (xs ys : List A) → Among x xs → Among x (xs ++ ys)
  unfolding Among
  among_left x [] ys h = absurd h
  among_left x (z ∷ xs) ys (inl e) = inl e
  among_left x (z ∷ xs) ys (inr h) = inr (among_left x xs ys h)

  pub among_right : (x : A) (xs ys : List A) → Among x ys → Among x (xs ++ ys)
  unfolding Among
  among_right x [] ys h = h
  among_right x (z ∷ xs) ys h = inr (among_right x xs ys h)

module _ {A : Type 0} where
  pub among_map : {B : Type 0} (f : A → B) (x : A) (xs : List A) → Among x xs → Among (f x) (map f xs)
  unfolding Among
  among_map f x [] h = absurd h
  among_map f x (z ∷ xs) (inl e) = inl (ap f e)
  among_map f x (z ∷ xs) (inr h) = inr (among_map f x xs h)

  pub among_flat : {B : Type 0} (f : A → List B) (x : A) (xs : List A) (y : B) → Among x xs → Among y (f x) → Among y (flat_map f xs)
  unfolding Among flat_map
  among_flat f x [] y h i = absurd h
  among_flat f x (z ∷ xs) y (inl e) i = among_left y (f z) (flat_map f xs) (rw (← e) i)
  among_flat f x (z ∷ xs) y (inr h) i = among_right y (f z) (flat_map f xs) (among_flat f x xs y h i)

  -- a member has a place
  pub place_of : (d x : A) (xs : List A) → Among x xs → (i : ℕ) × (i < length xs) × (get_or xs i d ≡ x)
  unfolding Among
  place_of d x [] h = absurd h
  place_of d x (z ∷ xs) (inl e) = (0, omega arith, sym e)
  place_of d x (z ∷ xs) (inr h) = let r = place_of d x xs h in (suc r.0, omega (arith, r.1), r.2)

pub among_pairs : {A B C : Type 0} (f : A → B → C) (x : A) (y : B) (xs : List A) (ys : List B) → Among x xs → Among y ys → Among (f x y) (pairs f xs ys)
unfolding pairs
among_pairs f x y xs ys h i = among_flat (λ x. map (f x) ys) x xs (f x y) h (among_map (f x) y ys i)

pub among_slots : (x s k : ℕ) → s ≤ x → x < s + k → Among x (slots_from s k)
unfolding Among slots_from
among_slots x s zero p q = absurd (omega arith)
among_slots x s (suc k) p q = elim (ℕ_discrete x s) [ yes e ↦ inl e | no d ↦ inr (among_slots x (suc s) k (omega arith) (omega arith)) ]

-- ---- those that pass a test

module _ {A : Type 0} (test : A → Bool) where
  pub among_kept : (a : A) (xs : List A) → Among a xs → test a ≡ true → Among a (kept test xs)
  unfolding Among kept
  among_kept a [] h t = absurd h
  among_kept a (b ∷ xs) (inl e) t = rw (← e, t) (inl refl)
  among_kept a (b ∷ xs) (inr h) t = let r = among_kept a xs h t in by_test (test b) (λ f. rw f (inr r)) (λ f. rw f r)

kept_append : {A : Type 0} (test : A → Bool) (xs ys : List A) → kept test (xs ++ ys) ≡ kept test xs ++ kept test ys
unfolding kept
kept_append test [] ys = refl
kept_append {A} test (x ∷ xs) ys = by_test (test x) (λ e. rw e (ap (λ (l : List A). x ∷ l) (kept_append test xs ys))) (λ e. rw e (kept_append test xs ys))

-- what fails a test that is weaker than another can be left out before the other is tried
module _ {A B : Type 0} (test : B → Bool) (weaker : A → Bool) where
  kept_thinned : (f : A → B) (ys : List A) → ((y : A) → test (f y) ≡ true → weaker y ≡ true) → kept test (map f (kept weaker ys)) ≡ kept test (map f ys)
  unfolding kept
  kept_thinned f [] h = refl
  kept_thinned f (y ∷ ys) h =
      let ih = kept_thinned f ys h in
      by_test (weaker y)
      (λ w. rw w (by_test (test (f y)) (λ t. rw t (ap (λ (l : List B). f y ∷ l) ih)) (λ t. rw t ih)))
      (λ w. rw w (by_test (test (f y)) (λ t. absurd (true≢false (sym (h y t) ∙ w))) (λ t. rw t ih)))

pub kept_pairs : {A B C : Type 0} (test : C → Bool) (weaker : B → Bool) (f : A → B → C) (xs : List A) (ys : List B) → ((x : A) (y : B) → test (f x y) ≡ true → weaker y ≡ true)
    → kept test (pairs f xs (kept weaker ys)) ≡ kept test (pairs f xs ys)
unfolding pairs flat_map
kept_pairs test weaker f [] ys h = refl
kept_pairs test weaker f (x ∷ xs) ys h =
    kept_append test (map (f x) (kept weaker ys)) _ ∙ rw (kept_thinned test weaker (f x) ys (h x), kept_pairs test weaker f xs ys h) (sym (kept_append test (map (f x) ys) _))
