-- Laws of columns put together of parts: what a slot reads in an appended, mapped or cut list, in a rising run, and in a column whose end is cleared.
-- Assumes nothing.
use Prim.Native.Nat.{ℕ, zero, suc, ◌+◌, ◌-◌, ◌≤◌, ◌<◌}
use mathlib.Core.Path.{◌≡◌, refl, sym, ap, ◌∙◌}
use mathlib.Core.List.{List, [], ◌∷◌, ◌++◌, map}
use native.Mathlib.Omega.{arith}
use native.Mathlib.Nat.{zero-add, suc-add, add-zero}
use lib.ListN.{length, take, drop, replicate, length-append, length-drop, length-replicate}
use lib.Seq.{ext_get_or, take_at}
use Rattle.definitions.specs.Columns.{at, slots_from, settled}
use Rattle.definitions.proofs.Columns.{at_zero}
use Rattle.definitions.proofs.Count.{In, in_here, in_there}

-- ---- one word more in front

pub at_one : (x : ℕ) (xs : List ℕ) → at (x ∷ xs) 1 ≡ x
unfolding at
at_one x xs = refl

pub at_cons : (x : ℕ) (xs : List ℕ) (s : ℕ) → 1 ≤ s → at (x ∷ xs) (suc s) ≡ at xs s
unfolding at
at_cons x xs zero h = absurd (omega arith)
at_cons x xs (suc s) h = refl

pub at_past : (xs : List ℕ) (s : ℕ) → length xs < s → at xs s ≡ 0
unfolding at
at_past xs zero h = refl
at_past [] (suc s) h = refl
at_past (x ∷ xs) (suc zero) h = absurd (omega arith)
at_past (x ∷ xs) (suc (suc s)) h = at_past xs (suc s) (omega arith)

-- ---- appended, mapped, cut

pub at_append_left : (xs ys : List ℕ) (s : ℕ) → s ≤ length xs → at (xs ++ ys) s ≡ at xs s
unfolding at
at_append_left xs ys zero h = refl
at_append_left [] ys (suc s) h = absurd (omega arith)
at_append_left (x ∷ xs) ys (suc zero) h = refl
at_append_left (x ∷ xs) ys (suc (suc s)) h = at_append_left xs ys (suc s) (omega arith)

pub at_append_right : (xs ys : List ℕ) (s : ℕ) → 1 ≤ s → at (xs ++ ys) (length xs + s) ≡ at ys s
at_append_right [] ys s h = rw (zero-add s)
at_append_right (x ∷ xs) ys s h = rw (suc-add (length xs) s) (at_cons x (xs ++ ys) (length xs + s) (omega arith) ∙ at_append_right xs ys s h)

pub at_map : (f : ℕ → ℕ) (xs : List ℕ) (s : ℕ) → 1 ≤ s → s ≤ length xs → at (map f xs) s ≡ f (at xs s)
unfolding at
at_map f xs zero h l = absurd (omega arith)
at_map f [] (suc s) h l = absurd (omega arith)
at_map f (x ∷ xs) (suc zero) h l = refl
at_map f (x ∷ xs) (suc (suc s)) h l = at_map f xs (suc s) (omega arith) (omega arith)

pub at_take : (n : ℕ) (xs : List ℕ) (s : ℕ) → s ≤ n → at (take n xs) s ≡ at xs s
unfolding at
at_take n xs zero h = refl
at_take zero xs (suc s) h = absurd (omega arith)
at_take (suc n) [] (suc s) h = refl
at_take (suc n) (x ∷ xs) (suc zero) h = refl
at_take (suc n) (x ∷ xs) (suc (suc s)) h = at_take n xs (suc s) (omega arith)

pub at_drop : (n : ℕ) (xs : List ℕ) (s : ℕ) → 1 ≤ s → at (drop n xs) s ≡ at xs (n + s)
unfolding at
at_drop n xs zero h = absurd (omega arith)
at_drop zero xs (suc s) h = ap (at xs) (sym (zero-add (suc s)))
at_drop (suc n) [] (suc s) h = rw (suc-add n (suc s))
at_drop (suc n) (x ∷ xs) (suc s) h = at_drop n xs (suc s) h ∙ go (n + suc s) (omega arith) ∙ ap (at (x ∷ xs)) (sym (suc-add n (suc s)))
  where
    go : (m : ℕ) → 1 ≤ m → at xs m ≡ at (x ∷ xs) (suc m)
    go zero l = absurd (omega arith)
    go (suc m) l = refl

-- what a slot reads stands in the list
pub in_at : (xs : List ℕ) (s : ℕ) → 1 ≤ s → s ≤ length xs → In (at xs s) xs
unfolding at
in_at xs zero h l = absurd (omega arith)
in_at [] (suc s) h l = absurd (omega arith)
in_at (x ∷ xs) (suc zero) h l = in_here x xs
in_at (x ∷ xs) (suc (suc s)) h l = in_there (at xs (suc s)) x xs (in_at xs (suc s) (omega arith) (omega arith))

-- two columns of one length that read the same are one
pub same_words : (xs ys : List ℕ) → length xs ≡ length ys → ((s : ℕ) → 1 ≤ s → s ≤ length xs → at xs s ≡ at ys s) → xs ≡ ys
unfolding at
same_words xs ys l h = ext_get_or 0 xs ys l (λ i k. h (suc i) (omega arith) k)

-- ---- rising runs

pub slots_append : (s j k : ℕ) → slots_from s (j + k) ≡ slots_from s j ++ slots_from (s + j) k
unfolding slots_from
slots_append s zero k = rw (zero-add k, add-zero s)
slots_append s (suc j) k = let e : s + suc j ≡ suc s + j = omega arith in rw (suc-add j k, e) (ap (λ (l : List ℕ). s ∷ l) (slots_append (suc s) j k))

pub at_slots : (s n k : ℕ) → k < n → at (slots_from s n) (suc k) ≡ s + k
unfolding slots_from at
at_slots s zero k h = absurd (omega arith)
at_slots s (suc n) zero h = sym (add-zero s)
at_slots s (suc n) (suc k) h = at_slots (suc s) n k (omega arith) ∙ omega arith

-- slot by slot, each is in its own place
pub at_own : (n s : ℕ) → s ≤ n → at (slots_from 1 n) s ≡ s
at_own n zero h = at_zero (slots_from 1 n)
at_own n (suc k) h = at_slots 1 n k h ∙ omega arith

-- ---- a column whose end is cleared

module _ (n : ℕ) (ws old : List ℕ) where
  pub settled_reads : (s : ℕ) → s ≤ length ws → at (settled n ws old) s ≡ at ws s
  unfolding settled
  settled_reads s h = at_append_left ws (replicate (n - length ws) 0 ++ drop n old) s h

  pub length_settled : length ws ≤ n → n ≤ length old → length (settled n ws old) ≡ length old
  unfolding settled
  length_settled h l = simp (length-append, length-replicate, length-drop) (omega arith)

  pub take_settled : take (length ws) (settled n ws old) ≡ ws
  unfolding settled
  take_settled = take_at ws (replicate (n - length ws) 0 ++ drop n old) (length ws) refl
