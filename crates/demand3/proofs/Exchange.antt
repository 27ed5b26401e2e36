-- The exchange of slots i and t, read slot by slot: a word goes with its slot, and both slots are renamed by the transposition of i and t wherever a
-- neighbour names them. In a list of who is in each slot it brings who is in slot t to the front of who waits. Assumes nothing.
use Prim.Native.Nat.{ℕ, zero, suc, ◌+◌, ◌≤◌, ◌<◌}
use mathlib.Core.Path.{◌≡◌, refl, sym, ap, subst, ◌∙◌}
use mathlib.Core.Logic.{◌≢◌}
use mathlib.Core.List.{List, [], ◌∷◌, ◌++◌, map}
use native.Mathlib.Omega.{arith}
use native.Mathlib.Decide.{ℕ_discrete, dec_le}
use lib.ListN.{length, take, drop, set, length-append, length-map, length-take, length-drop, take-append-drop}
use borrow.Author.Tests.{eq-eqb, ne_eqb}
use Rattle.definitions.specs.Columns.{at, put, count}
use Rattle.definitions.specs.Compress.{exchanged, exchange_words, exchange_links}
use Rattle.definitions.proofs.Columns.{length_put, at_put_same, at_put_other}
use Rattle.definitions.proofs.Slots.{count_append}
use Rattle.definitions.proofs.Count.{In, in_here, in_there, count_first, count_grows}
use Rattle.definitions.proofs.Parts.{at_map, at_take, at_append_left, in_at}
use Rattle.demand3.proofs.Bring.{instead, bring, instead_here, instead_later, bring_first, bring_later, bring_count}

-- ---- the transposition

module _ (i t s : ℕ) where
  pub exchanged_i : s ≡ i → exchanged i t s ≡ t
  unfolding exchanged
  exchanged_i e = rw (eq-eqb s i e)

  pub exchanged_t : s ≡ t → exchanged i t s ≡ i
  unfolding exchanged
  exchanged_t e = elim (ℕ_discrete s i) [ yes d ↦ rw (eq-eqb s i d) (sym e ∙ d) | no d ↦ rw (ne_eqb s i d, eq-eqb s t e) ]

  pub exchanged_other : s ≢ i → s ≢ t → exchanged i t s ≡ s
  unfolding exchanged
  exchanged_other d e = rw (ne_eqb s i d, ne_eqb s t e)

  -- the three cases of a slot
  pub data Which : Type 0 where
    is_i : s ≡ i → exchanged i t s ≡ t → Which
    is_t : s ≡ t → s ≢ i → exchanged i t s ≡ i → Which
    is_other : s ≢ i → s ≢ t → exchanged i t s ≡ s → Which

  pub which : Which
  which = go (ℕ_discrete s i) (ℕ_discrete s t)
    where
      go : Dec (s ≡ i) → Dec (s ≡ t) → Which
      go (yes e) d = is_i e (exchanged_i e)
      go (no h) (yes e) = is_t e h (exchanged_t e)
      go (no h) (no k) = is_other h k (exchanged_other h k)

-- twice is not at all
pub exchanged_twice : (i t s : ℕ) → exchanged i t (exchanged i t s) ≡ s
exchanged_twice i t s = go (which i t s)
  where
    go : Which i t s → exchanged i t (exchanged i t s) ≡ s
    go (is_i e q) = rw q (exchanged_t i t t refl ∙ sym e)
    go (is_t e h q) = rw q (exchanged_i i t i refl ∙ sym e)
    go (is_other h k q) = rw q q

pub exchanged_within : (i t s n : ℕ) → i ≤ n → t ≤ n → s ≤ n → exchanged i t s ≤ n
exchanged_within i t s n hi ht hs = go (which i t s)
  where
    go : Which i t s → exchanged i t s ≤ n
    go (is_i e q) = omega (arith, q)
    go (is_t e h q) = omega (arith, q)
    go (is_other h k q) = omega (arith, q)

pub exchanged_some : (i t s : ℕ) → 1 ≤ i → 1 ≤ t → 1 ≤ s → 1 ≤ exchanged i t s
exchanged_some i t s hi ht hs = go (which i t s)
  where
    go : Which i t s → 1 ≤ exchanged i t s
    go (is_i e q) = omega (arith, q)
    go (is_t e h q) = omega (arith, q)
    go (is_other h k q) = omega (arith, q)

-- ---- columns

pub length_exchange : (i t : ℕ) (xs : List ℕ) → length (exchange_words i t xs) ≡ length xs
unfolding exchange_words
length_exchange i t xs = length_put (put xs i (at xs t)) t (at xs i) ∙ length_put xs i (at xs t)

pub length_exchange_links : (n i t : ℕ) (xs : List ℕ) → length (exchange_links n i t xs) ≡ length xs
unfolding exchange_links
length_exchange_links n i t xs =
    length-append (map (exchanged i t) (take n (exchange_words i t xs))) (drop n xs) ∙
    omega (arith, length-map (take n (exchange_words i t xs)) (exchanged i t), length-take n (exchange_words i t xs), length_exchange i t xs, length-drop n xs)

module _ (i t : ℕ) (xs : List ℕ) (i1 : 1 ≤ i) (t1 : 1 ≤ t) (il : i ≤ length xs) (tl : t ≤ length xs) where
  -- each word is where its slot went
  pub exchange_reads : (s : ℕ) → at (exchange_words i t xs) s ≡ at xs (exchanged i t s)
  unfolding exchange_words
  exchange_reads s = go (which i t s)
    where
      first : List ℕ
      first = put xs i (at xs t)

      at_t : at (put first t (at xs i)) t ≡ at xs i
      at_t = at_put_same first t (at xs i) (λ z. omega arith) (omega (arith, length_put xs i (at xs t)))

      go : Which i t s → at (put first t (at xs i)) s ≡ at xs (exchanged i t s)
      go (is_t e h q) = rw (q, e) at_t
      go (is_other h k q) = rw q (at_put_other first t s (at xs i) k ∙ at_put_other xs i s (at xs t) h)
      go (is_i e q) =
          rw (q, e)
          (elim (ℕ_discrete i t) [
            | yes d ↦ subst (λ (y : ℕ). at (put first t (at xs i)) y ≡ at xs t) (sym d) (at_t ∙ ap (at xs) d)
            | no d ↦ at_put_other first t i (at xs i) d ∙ at_put_same xs i (at xs t) (λ z. omega arith) il
          ])

  -- and a neighbour's name is the name of the slot where it went
  pub exchange_links_reads : (n : ℕ) → n ≤ length xs → (s : ℕ) → 1 ≤ s → s ≤ n → at (exchange_links n i t xs) s ≡ exchanged i t (at xs (exchanged i t s))
  unfolding exchange_links
  exchange_links_reads n nl s h l =
      let front = take n (exchange_words i t xs) in
      let long : s ≤ length front = omega (arith, length-take n (exchange_words i t xs), length_exchange i t xs) in
      at_append_left (map (exchanged i t) front) (drop n xs) s (omega (arith, length-map front (exchanged i t))) ∙
      (at_map (exchanged i t) front s h long ∙ ap (exchanged i t) (at_take n (exchange_words i t xs) s l ∙ exchange_reads s))

-- ---- who is in each slot: who is in slot t comes to slot k + 1, after k that are laid out

set_instead : (r : List ℕ) (m o x : ℕ) → m < length r → at r (suc m) ≡ o → count o r ≤ 1 → set r m x ≡ instead o x r
unfolding at
set_instead [] m o x h e c = absurd (omega arith)
set_instead (y ∷ r) zero o x h e c = sym (instead_here o x y r e)
set_instead (y ∷ r) (suc m) o x h e c =
    let i : In o r = rw e at (in_at r (suc m) (omega arith) (omega arith)) in
    let d : y ≢ o = λ z. omega (arith, count_first o y r (sym z)) in
    sym (instead_later o x y r d ∙ ap (λ (l : List ℕ). y ∷ l) (sym (set_instead r m o x (omega arith) e (omega (arith, count_grows o y r)))))

pub exchange_brings : (k : ℕ) (w : List ℕ) (t o : ℕ) → k < t → t ≤ length w → at w t ≡ o → count o w ≤ 1 →
    (take (suc k) (exchange_words (suc k) t w) ≡ take k w ++ o ∷ []) × (drop (suc k) (exchange_words (suc k) t w) ≡ bring o (drop k w))
unfolding exchange_words put at
exchange_brings k [] t o h l e c = absurd (omega arith)
exchange_brings zero (x ∷ r) zero o h l e c = absurd (omega arith)
exchange_brings zero (x ∷ r) (suc zero) o h l e c = (ap (λ (y : ℕ). y ∷ []) e, sym (bring_first o x r e))
exchange_brings zero (x ∷ r) (suc (suc m)) o h l e c =
    let i : In o r = rw e at (in_at r (suc m) (omega arith) (omega arith)) in
    let d : x ≢ o = λ z. omega (arith, count_first o x r (sym z)) in
    (ap (λ (y : ℕ). y ∷ []) e, set_instead r m o x (omega arith) e (omega (arith, count_grows o x r)) ∙ sym (bring_later o x r d))
exchange_brings (suc k) (x ∷ r) zero o h l e c = absurd (omega arith)
exchange_brings (suc k) (x ∷ r) (suc zero) o h l e c = absurd (omega arith)
exchange_brings (suc k) (x ∷ r) (suc (suc m)) o h l e c =
    let q = exchange_brings k r (suc m) o (omega arith) (omega arith) e (omega (arith, count_grows o x r)) in
    (ap (λ (y : List ℕ). x ∷ y) q.0, q.1)

-- ---- before and after slot k

pub count_parts : (x k : ℕ) (w : List ℕ) → count x w ≡ count x (take k w) + count x (drop k w)
count_parts x k w = ap (count x) (sym (take-append-drop k w)) ∙ count_append x (take k w) (drop k w)

-- who is in a slot after k waits
pub in_drop : (k : ℕ) (w : List ℕ) (t : ℕ) → k < t → t ≤ length w → In (at w t) (drop k w)
unfolding at
in_drop k [] t h l = absurd (omega arith)
in_drop zero (x ∷ w) t h l = in_at (x ∷ w) t h l
in_drop (suc k) (x ∷ w) zero h l = absurd (omega arith)
in_drop (suc k) (x ∷ w) (suc zero) h l = absurd (omega arith)
in_drop (suc k) (x ∷ w) (suc (suc t)) h l = in_drop k w (suc t) (omega arith) (omega arith)

in_take : (k : ℕ) (w : List ℕ) (t : ℕ) → 1 ≤ t → t ≤ k → t ≤ length w → In (at w t) (take k w)
unfolding at
in_take k w zero p h l = absurd (omega arith)
in_take zero w (suc t) p h l = absurd (omega arith)
in_take (suc k) [] (suc t) p h l = absurd (omega arith)
in_take (suc k) (x ∷ w) (suc zero) p h l = in_here x (take k w)
in_take (suc k) (x ∷ w) (suc (suc t)) p h l = in_there (at w (suc t)) x (take k w) (in_take k w (suc t) (omega arith) (omega arith) (omega arith))

-- who waits is in a slot after k
pub waits_later : (k : ℕ) (w : List ℕ) (t o : ℕ) → 1 ≤ t → t ≤ length w → at w t ≡ o → count o w ≤ 1 → In o (drop k w) → k < t
waits_later k w t o p l e c i =
    elim (dec_le (suc k) t) [ yes h ↦ h | no h ↦ absurd (omega (arith, count_parts o k w, rw e at (in_take k w t p (omega arith) l))) ]

-- the exchange keeps who is there
pub exchange_count : (k : ℕ) (w : List ℕ) (t o : ℕ) → k < t → t ≤ length w → at w t ≡ o → count o w ≤ 1 → (x : ℕ) → count x (exchange_words (suc k) t w) ≡ count x w
exchange_count k w t o h l e c x =
    let q = exchange_brings k w t o h l e c in
    let i : In o (drop k w) = rw e at (in_drop k w t h l) in
    omega (
      arith,
      count_parts x (suc k) (exchange_words (suc k) t w),
      ap (count x) q.0,
      ap (count x) q.1,
      count_append x (take k w) (o ∷ []),
      count_append x (o ∷ []) (bring o (drop k w)),
      bring_count x o (drop k w) i,
      count_parts x k w,
    )
