-- Laws of `count`, how often a slot stands in a list: who stands in it, lists without repetition, and the pigeonhole. Assumes nothing.
use Prim.Native.Nat.{ℕ, suc, ◌+◌, ◌≤◌, ◌<◌}
use mathlib.Core.Path.{◌≡◌, refl, sym, ap, ◌∙◌}
use mathlib.Core.Logic.{◌⊎◌, inl, inr}
use mathlib.Core.Bool.{Bool, true, false, not, true≢false}
use mathlib.Core.List.{List, [], ◌∷◌, ◌++◌, map}
use native.Mathlib.Omega.{arith}
use native.Mathlib.Decide.{ℕ_discrete, dec_le}
use lib.ListN.{length, length-append}
use borrow.Author.Tests.{not-true}
use Rattle.definitions.specs.Columns.{at, count, slots_from, keep}
use Rattle.definitions.specs.Arena.{allocated, link_slots, free_slots}
use Rattle.definitions.proofs.Tests.{by_test, not_no}
use Rattle.definitions.proofs.Slots.{count_nil, count_here, count_there, count_append, count_slots_in, count_slots_out, length_slots, allocated_within, allocated_some, allocated_free, not_allocated}

-- x stands in a list
abbrev pub In : ℕ → List ℕ → Type 0
In x xs = 1 ≤ count x xs

-- a list without repetition
abbrev pub Once : List ℕ → Type 0
Once xs = (x : ℕ) → count x xs ≤ 1

pub count_first : (x y : ℕ) (ys : List ℕ) → x ≡ y → count x (y ∷ ys) ≡ suc (count x ys)
count_first x y ys e = rw (← e) (omega (arith, count_here x ys))

pub count_grows : (x y : ℕ) (ys : List ℕ) → count x ys ≤ count x (y ∷ ys)
count_grows x y ys = elim (ℕ_discrete x y) [ yes e ↦ omega (arith, count_first x y ys e) | no d ↦ omega (arith, count_there x y ys d) ]

pub count_middle : (x y : ℕ) (us vs : List ℕ) → count x (us ++ y ∷ vs) ≡ count x (y ∷ us ++ vs)
unfolding count
count_middle x y us vs = omega (arith, count_append x us (y ∷ vs), count_append x us vs)

-- ---- members

pub in_here : (x : ℕ) (xs : List ℕ) → In x (x ∷ xs)
in_here x xs = omega (arith, count_here x xs)

pub in_there : (x y : ℕ) (ys : List ℕ) → In x ys → In x (y ∷ ys)
in_there x y ys h = omega (arith, count_grows x y ys)

pub in_cases : (x y : ℕ) (ys : List ℕ) → In x (y ∷ ys) → (x ≡ y) ⊎ In x ys
in_cases x y ys h = elim (ℕ_discrete x y) [ yes e ↦ inl e | no d ↦ inr (omega (arith, count_there x y ys d)) ]

pub not_in_nil : (x : ℕ) → In x [] → ⊥
not_in_nil x h = omega (arith, count_nil x)

pub none_of : (x : ℕ) (xs : List ℕ) → (In x xs → ⊥) → count x xs ≡ 0
none_of x xs h = elim (dec_le 1 (count x xs)) [ yes i ↦ absurd (h i) | no i ↦ omega arith ]

pub in_only : (x y : ℕ) → In x (y ∷ []) → x ≡ y
in_only x y i = elim (in_cases x y [] i) [ inl e ↦ e | inr j ↦ absurd (not_in_nil x j) ]

pub in_append : (x : ℕ) (xs ys : List ℕ) → In x (xs ++ ys) → In x xs ⊎ In x ys
in_append x xs ys h = elim (dec_le 1 (count x xs)) [ yes l ↦ inl l | no l ↦ inr (omega (arith, count_append x xs ys)) ]

pub in_left : (x : ℕ) (xs ys : List ℕ) → In x xs → In x (xs ++ ys)
in_left x xs ys h = omega (arith, count_append x xs ys)

pub in_right : (x : ℕ) (xs ys : List ℕ) → In x ys → In x (xs ++ ys)
in_right x xs ys h = omega (arith, count_append x xs ys)

-- a member, what stands before it and what after it
pub in_split : (x : ℕ) (xs : List ℕ) → In x xs → (u : List ℕ) × (v : List ℕ) × (xs ≡ u ++ x ∷ v)
in_split x [] h = absurd (not_in_nil x h)
in_split x (y ∷ ys) h = go (in_cases x y ys h) (in_split x ys)
  where
    go : (x ≡ y) ⊎ In x ys → (In x ys → (u : List ℕ) × (v : List ℕ) × (ys ≡ u ++ x ∷ v)) → (u : List ℕ) × (v : List ℕ) × (y ∷ ys ≡ u ++ x ∷ v)
    go (inl e) ih = ([], ys, rw e)
    go (inr i) ih = let r = ih i in (y ∷ r.0, r.1, ap (λ (l : List ℕ). y ∷ l) r.2)

-- ---- lists without repetition

pub once_nil : Once []
once_nil x = omega (arith, count_nil x)

pub once_cons : (t : ℕ) (xs : List ℕ) → Once xs → (In t xs → ⊥) → Once (t ∷ xs)
once_cons t xs o h x =
    elim (ℕ_discrete x t) [ yes e ↦ rw e (omega (arith, count_here t xs, none_of t xs h)) | no d ↦ omega (arith, o x, count_there x t xs d) ]

pub once_one : (t : ℕ) → Once (t ∷ [])
once_one t = once_cons t [] once_nil (not_in_nil t)

pub once_snoc : (xs : List ℕ) (t : ℕ) → Once xs → (In t xs → ⊥) → Once (xs ++ t ∷ [])
once_snoc xs t o h x = omega (arith, once_cons t xs o h x, count_append x xs (t ∷ []), count_append x (t ∷ []) xs)

-- the rest of a list without repetition
pub once_rest : (t : ℕ) (xs : List ℕ) → Once (t ∷ xs) → Once xs
once_rest t xs o x = omega (arith, o x, count_grows x t xs)

pub once_first : (t : ℕ) (xs : List ℕ) → Once (t ∷ xs) → In t xs → ⊥
once_first t xs o i = omega (arith, o t, count_here t xs)

pub slots_once : (s k : ℕ) → Once (slots_from s k)
slots_once s k x =
    elim (dec_le s x) [
      | yes a ↦ elim (dec_le (suc x) (s + k)) [ yes b ↦ omega (arith, count_slots_in x s k a b) | no b ↦ omega (arith, count_slots_out x s k (λ c d. b d)) ]
      | no a ↦ omega (arith, count_slots_out x s k (λ c d. a c))
    ]

pub in_slots : (x s k : ℕ) → In x (slots_from s k) → (s ≤ x) × (x < s + k)
in_slots x s k i = (
  elim (dec_le s x) [ yes a ↦ a | no a ↦ absurd (omega (arith, count_slots_out x s k (λ c d. a c))) ],
  elim (dec_le (suc x) (s + k)) [ yes b ↦ b | no b ↦ absurd (omega (arith, count_slots_out x s k (λ c d. b d))) ],
)

-- ---- the pigeonhole

count_rest : (x y : ℕ) (us vs : List ℕ) → count x (y ∷ us) ≤ count x (y ∷ vs) → count x us ≤ count x vs
unfolding count
count_rest x y us vs h = omega arith

-- a list that holds no slot more often than another is no longer
pub shorter : (xs ys : List ℕ) → ((x : ℕ) → count x xs ≤ count x ys) → length xs ≤ length ys
shorter [] ys h = omega arith
shorter (y ∷ xs) ys h =
    let s = in_split y ys (omega (arith, h y, count_here y xs)) in
    let u = s.0 in
    let v = s.1 in
    let rest : length xs ≤ length (u ++ v) = shorter xs (u ++ v) (λ x. count_rest x y xs (u ++ v) (rw (← count_middle x y u v, ← s.2) (h x))) in
    omega (arith, ap length s.2, length-append u (y ∷ v), length-append u v)

-- and if it is as long it holds each slot as often
pub as_many : (xs ys : List ℕ) → ((x : ℕ) → count x xs ≤ count x ys) → length ys ≤ length xs → (x : ℕ) → count x xs ≡ count x ys
as_many xs ys h l x = elim (dec_le (count x ys) (count x xs)) [ yes g ↦ omega (arith, h x) | no g ↦ absurd (too_long g) ]
  where
    one_more : (count x ys ≤ count x xs → ⊥) → (y : ℕ) → count y (x ∷ xs) ≤ count y ys
    one_more g y = elim (ℕ_discrete y x) [ yes e ↦ rw e (omega (arith, count_here x xs)) | no d ↦ omega (arith, count_there y x xs d, h y) ]

    too_long : (count x ys ≤ count x xs → ⊥) → ⊥
    too_long g = omega (arith, shorter (x ∷ xs) ys (one_more g))

-- a list without repetition whose members all stand in another
pub once_among : (xs ys : List ℕ) → Once xs → ((x : ℕ) → In x xs → In x ys) → (x : ℕ) → count x xs ≤ count x ys
once_among xs ys once among x = elim (dec_le 1 (count x xs)) [ yes i ↦ omega (arith, once x, among x i) | no i ↦ omega arith ]

-- different slots from 1 to n are at most n
pub pigeonhole : (xs : List ℕ) (n : ℕ) → Once xs → ((x : ℕ) → In x xs → (1 ≤ x) × (x ≤ n)) → length xs ≤ n
pigeonhole xs n once h =
    omega (arith, length_slots 1 n, shorter xs (slots_from 1 n) (once_among xs (slots_from 1 n) once (λ x i. let r = h x i in omega (arith, count_slots_in x 1 n r.0 (omega (arith, r.1))))))

-- ---- mapped lists

-- who stands in a mapped list came from a member
pub in_map : (f : ℕ → ℕ) (xs : List ℕ) (y : ℕ) → In y (map f xs) → (x : ℕ) × In x xs × (f x ≡ y)
in_map f [] y i = absurd (not_in_nil y i)
in_map f (x ∷ xs) y i = go (in_cases y (f x) (map f xs) i) (in_map f xs y)
  where
    go : (y ≡ f x) ⊎ In y (map f xs) → (In y (map f xs) → (u : ℕ) × In u xs × (f u ≡ y)) → (u : ℕ) × In u (x ∷ xs) × (f u ≡ y)
    go (inl e) ih = (x, in_here x xs, sym e)
    go (inr j) ih = let r = ih j in (r.0, in_there r.0 x xs r.1, r.2)

-- a map that takes no two members to one word keeps a list without repetition
pub once_map : (f : ℕ → ℕ) (xs : List ℕ) → Once xs → ((x y : ℕ) → In x xs → In y xs → f x ≡ f y → x ≡ y) → Once (map f xs)
once_map f [] o h = once_nil
once_map f (x ∷ xs) o h = once_cons (f x) (map f xs) (once_map f xs (once_rest x xs o) (λ y z i j. h y z (in_there y x xs i) (in_there z x xs j))) new
  where
    new : In (f x) (map f xs) → ⊥
    new i =
        let r = in_map f xs (f x) i in
        let e : r.0 ≡ x = h r.0 x (in_there r.0 x xs r.1) (in_here x xs) r.2 in
        once_first x xs o (rw e at r.1)

-- ---- the members that pass a test

module _ (test : ℕ → Bool) where
  pub keep_yes : (x : ℕ) (xs : List ℕ) → test x ≡ true → keep test (x ∷ xs) ≡ x ∷ keep test xs
  unfolding keep
  keep_yes x xs e = rw e

  pub keep_no : (x : ℕ) (xs : List ℕ) → test x ≡ false → keep test (x ∷ xs) ≡ keep test xs
  unfolding keep
  keep_no x xs e = rw e

  -- as often as before, or not at all
  pub keep_has : (x : ℕ) (xs : List ℕ) → test x ≡ true → count x (keep test xs) ≡ count x xs
  keep_has x [] e = unfold keep in refl
  keep_has x (y ∷ ys) e = by_test (test y) (λ f. rw (keep_yes y ys f) (kept (keep_has x ys e))) (λ f. rw (keep_no y ys f) (dropped f (keep_has x ys e)))
    where
      kept : count x (keep test ys) ≡ count x ys → count x (y ∷ keep test ys) ≡ count x (y ∷ ys)
      kept ih = elim (ℕ_discrete x y) [ yes q ↦ omega (arith, count_first x y (keep test ys) q, count_first x y ys q) | no d ↦ omega (arith, count_there x y (keep test ys) d, count_there x y ys d) ]

      dropped : test y ≡ false → count x (keep test ys) ≡ count x ys → count x (keep test ys) ≡ count x (y ∷ ys)
      dropped f ih = omega (arith, count_there x y ys (λ q. true≢false (sym e ∙ ap test q ∙ f)))

  pub keep_lacks : (x : ℕ) (xs : List ℕ) → test x ≡ false → count x (keep test xs) ≡ 0
  keep_lacks x [] e = unfold keep in count_nil x
  keep_lacks x (y ∷ ys) e = by_test (test y) (λ f. rw (keep_yes y ys f) (kept f (keep_lacks x ys e))) (λ f. rw (keep_no y ys f) (keep_lacks x ys e))
    where
      kept : test y ≡ true → count x (keep test ys) ≡ 0 → count x (y ∷ keep test ys) ≡ 0
      kept f ih = omega (arith, count_there x y (keep test ys) (λ q. true≢false (sym f ∙ sym (ap test q) ∙ e)))

  pub in_keep : (x : ℕ) (xs : List ℕ) → In x (keep test xs) → (test x ≡ true) × In x xs
  in_keep x xs i = by_test (test x) (λ e. (e, omega (arith, keep_has x xs e))) (λ e. absurd (omega (arith, keep_lacks x xs e)))

-- two tests that agree on the members keep the same
pub keep_agree : (test same : ℕ → Bool) (xs : List ℕ) → ((x : ℕ) → In x xs → test x ≡ same x) → keep test xs ≡ keep same xs
unfolding keep
keep_agree test same [] e = refl
keep_agree test same (x ∷ xs) e =
    let rest = keep_agree test same xs (λ y i. e y (in_there y x xs i)) in
    let here = e x (in_here x xs) in
    by_test (same x) (λ f. rw (here, f) (ap (λ (l : List ℕ). x ∷ l) rest)) (λ f. rw (here, f) rest)

-- ---- links and free slots

module _ (gs : List ℕ) (n s : ℕ) where
  -- each link once, and no other slot
  pub count_links : allocated gs n s ≡ true → count s (link_slots gs n) ≡ 1
  unfolding link_slots
  count_links e = keep_has (allocated gs n) s (slots_from 1 n) e ∙ count_slots_in s 1 n (allocated_some gs n s e) (omega (arith, allocated_within gs n s e))

  pub only_links : In s (link_slots gs n) → allocated gs n s ≡ true
  unfolding link_slots
  only_links i = (in_keep (allocated gs n) s (slots_from 1 n) i).0

  -- each free slot once, and no other slot
  pub count_free : 1 ≤ s → s ≤ n → at gs s ≡ 0 → count s (free_slots gs n) ≡ 1
  unfolding free_slots
  count_free p l g =
      keep_has (λ x. not (allocated gs n x)) s (slots_from 1 n) (not_no _ (allocated_free gs n s g)) ∙ count_slots_in s 1 n p (omega arith)

  pub only_free : In s (free_slots gs n) → (1 ≤ s) × (s ≤ n) × (at gs s ≡ 0)
  unfolding free_slots
  only_free i =
      let kept = in_keep (λ x. not (allocated gs n x)) s (slots_from 1 n) i in
      let inside = in_slots s 1 n kept.1 in
      (inside.0, omega arith, not_allocated gs n s (not-true _ kept.0) (omega arith))
