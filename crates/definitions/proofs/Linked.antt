-- Laws of `Linked`, lists of slots in which next leads from each to the one after it. Assumes nothing.
use Prim.Native.Nat.{ℕ}
use mathlib.Core.Path.{◌≡◌, refl, sym, ap, ◌∙◌}
use mathlib.Core.Logic.{◌⊎◌, inl, inr}
use mathlib.Core.List.{List, [], ◌∷◌, ◌++◌}
use native.Mathlib.Omega.{arith}
use native.Mathlib.Decide.{ℕ_discrete}
use Rattle.definitions.specs.Columns.{count, first_or, last_or, Linked}
use Rattle.definitions.proofs.Count.{In, in_here, in_there, in_cases, not_in_nil, count_first, count_grows}

-- ---- first and last

pub first_append : (z : ℕ) (xs ys : List ℕ) → first_or z (xs ++ ys) ≡ first_or (first_or z ys) xs
unfolding first_or
first_append z [] ys = refl
first_append z (x ∷ xs) ys = refl

pub in_first : (z : ℕ) (xs : List ℕ) → (xs ≡ [] → ⊥) → In (first_or z xs) xs
unfolding first_or
in_first z [] d = absurd (d refl)
in_first z (x ∷ xs) d = in_here x xs

pub in_last : (x : ℕ) (xs : List ℕ) → In (last_or x xs) (x ∷ xs)
unfolding last_or
in_last x [] = in_here x []
in_last x (y ∷ ys) = in_there (last_or y ys) x (y ∷ ys) (in_last y ys)

pub last_append : (z : ℕ) (xs ys : List ℕ) → last_or z (xs ++ ys) ≡ last_or (last_or z xs) ys
unfolding last_or
last_append z [] ys = refl
last_append z (x ∷ xs) ys = last_append x xs ys

-- ---- runs of next

module _ (next : ℕ → ℕ) where
  pub linked_join : (xs ys : List ℕ) (z : ℕ) → Linked next xs (first_or z ys) → Linked next ys z → Linked next (xs ++ ys) z
  unfolding Linked
  linked_join [] ys z p q = q
  linked_join (x ∷ xs) ys z p q = (p.0 ∙ sym (first_append z xs ys), linked_join xs ys z p.1 q)

  pub linked_split : (xs ys : List ℕ) (z : ℕ) → Linked next (xs ++ ys) z → Linked next xs (first_or z ys) × Linked next ys z
  unfolding Linked
  linked_split [] ys z p = (tt, p)
  linked_split (x ∷ xs) ys z p = let r = linked_split xs ys z p.1 in ((p.0 ∙ first_append z xs ys, r.0), r.1)

  -- the last member's next is the end
  pub linked_last : (x : ℕ) (xs : List ℕ) (z : ℕ) → Linked next (x ∷ xs) z → next (last_or x xs) ≡ z
  unfolding Linked first_or last_or
  linked_last x [] z p = p.0
  linked_last x (y ∷ ys) z p = linked_last y ys z p.1

  -- a member's next is a member or the end
  pub next_in : (ys : List ℕ) (z m : ℕ) → Linked next ys z → In m ys → In (next m) ys ⊎ (next m ≡ z)
  unfolding Linked first_or
  next_in [] z m p i = absurd (not_in_nil m i)
  next_in (y ∷ ys) z m p i = go ys p (in_cases m y ys i) (next_in ys z m)
    where
      go : (ys : List ℕ) → Linked next (y ∷ ys) z → (m ≡ y) ⊎ In m ys → (Linked next ys z → In m ys → In (next m) ys ⊎ (next m ≡ z)) → In (next m) (y ∷ ys) ⊎ (next m ≡ z)
      go [] p (inl e) ih = inr (ap next e ∙ p.0)
      go (x ∷ ys) p (inl e) ih = inl (rw (e, p.0) (in_there x y (x ∷ ys) (in_here x ys)))
      go ys p (inr j) ih = elim (ih p.1 j) [ inl k ↦ inl (in_there (next m) y ys k) | inr k ↦ inr k ]

  -- a member that is not the first follows a member
  pub follows : (ys : List ℕ) (z m : ℕ) → Linked next ys z → In m ys → (m ≡ first_or z ys → ⊥) → (u : ℕ) × In u ys × (next u ≡ m)
  unfolding Linked first_or
  follows [] z m p i d = absurd (not_in_nil m i)
  follows (y ∷ ys) z m p i d = go (in_cases m y ys i) (ℕ_discrete m (first_or z ys)) (follows ys z m)
    where
      go : (m ≡ y) ⊎ In m ys → Dec (m ≡ first_or z ys) → (Linked next ys z → In m ys → (m ≡ first_or z ys → ⊥) → (u : ℕ) × In u ys × (next u ≡ m)) → (u : ℕ) × In u (y ∷ ys) × (next u ≡ m)
      go (inl e) h ih = absurd (d e)
      go (inr j) (yes h) ih = (y, in_here y ys, p.0 ∙ sym h)
      go (inr j) (no h) ih = let r = ih p.1 j h in (r.0, in_there r.0 y ys r.1, r.2)

  -- the end follows a member
  pub end_follows : (ys : List ℕ) (z : ℕ) → Linked next ys z → (ys ≡ [] → ⊥) → (u : ℕ) × In u ys × (next u ≡ z)
  end_follows [] z p d = absurd (d refl)
  end_follows (y ∷ ys) z p d = (last_or y ys, in_last y ys, linked_last y ys z p)

  -- the first determines the rest, up to an end that is no member
  pub same_run : (xs ys : List ℕ) (z : ℕ) → Linked next xs z → Linked next ys z → first_or z xs ≡ first_or z ys → count z xs ≡ 0 → count z ys ≡ 0 → xs ≡ ys
  unfolding Linked first_or
  same_run [] [] z p q h c d = refl
  same_run [] (y ∷ ys) z p q h c d = absurd (omega (arith, count_first z y ys h))
  same_run (x ∷ xs) [] z p q h c d = absurd (omega (arith, count_first z x xs (sym h)))
  same_run (x ∷ xs) (y ∷ ys) z p q h c d =
      let t : xs ≡ ys = same_run xs ys z p.1 q.1 (sym p.0 ∙ (ap next h ∙ q.0)) (omega (arith, count_grows z x xs)) (omega (arith, count_grows z y ys)) in
      cc

-- two ways to go on that agree on the members make the same runs
pub linked_agree : (next same : ℕ → ℕ) (xs : List ℕ) (z : ℕ) → ((s : ℕ) → In s xs → next s ≡ same s) → Linked next xs z → Linked same xs z
unfolding Linked
linked_agree next same [] z e p = tt
linked_agree next same (x ∷ xs) z e p =
    (sym (e x (in_here x xs)) ∙ p.0, linked_agree next same xs z (λ s i. e s (in_there s x xs i)) p.1)

-- a slot in front of a list whose last names itself: it names the first, or itself where there is none
pub linked_in_front : (next : ℕ → ℕ) (s : ℕ) (xs : List ℕ) → next s ≡ first_or s xs → Linked next xs (last_or 0 xs) → Linked next (s ∷ xs) (last_or 0 (s ∷ xs))
unfolding Linked first_or last_or
linked_in_front next s [] e p = (e, tt)
linked_in_front next s (x ∷ xs) e p = (e, p)
