-- Laws of the numbers: which slot's word is which, that they show the same links, and that nothing moves where no slot is free. Assumes nothing.
use Prim.Native.Nat.{ℕ, zero, suc, ◌≤◌}
use mathlib.Core.Path.{◌≡◌, refl, sym, ap, ◌∙◌}
use mathlib.Core.Bool.{Bool, true}
use mathlib.Core.List.{List, [], ◌∷◌, map}
use native.Mathlib.Omega.{arith}
use lib.ListN.{length, length-map}
use Rattle.definitions.specs.Columns.{at, slots_from, keep}
use Rattle.definitions.specs.Arena.{allocated, link_slots}
use Rattle.definitions.specs.Compress.{place}
use Rattle.definitions.proofs.Tests.{by_test}
use Rattle.definitions.proofs.Columns.{at_zero}
use Rattle.definitions.proofs.Slots.{allocated_yes, allocated_free, allocated_some, allocated_within, length_slots, keep_parts, count_slots_out}
use Rattle.definitions.proofs.Parts.{at_map, at_own}
use Rattle.definitions.proofs.Count.{keep_agree, keep_yes, keep_no, in_slots}
use Rattle.renaming.proofs.Place.{place_none}
use Rattle.compress_moves.specs.Moves.{numbered, Full}
use Rattle.definitions.proofs.Written.{length_written, written_reads}
use Rattle.compress_moves.proofs.Place.{place_lacks, place_has, place_own}

-- a list of which nothing is left out
pub keep_all : (test : ℕ → Bool) (xs : List ℕ) → length xs ≤ length (keep test xs) → keep test xs ≡ xs
unfolding keep
keep_all test [] h = refl
keep_all test (x ∷ xs) h =
    by_test (test x)
    (λ e. rw e (ap (λ (l : List ℕ). x ∷ l) (keep_all test xs (omega (arith, rw (keep_yes test x xs e) at h)))))
    (λ e. absurd (omega (arith, keep_parts test xs, rw (keep_no test x xs e) at h)))

module _ (gs : List ℕ) (n : ℕ) (room : n ≤ length gs) where
  abbrev w : List ℕ
  w = link_slots gs n

  pub numbers_long : length (map (place w) (slots_from 1 n)) ≡ n
  numbers_long = length-map (slots_from 1 n) (place w) ∙ length_slots 1 n

  pub length_numbered : length (numbered gs n) ≡ length gs
  unfolding numbered
  length_numbered = length_written _ gs (omega (arith, numbers_long))

  -- slot 0 is no link
  pub zero_lacks : place w 0 ≡ 0
  unfolding link_slots
  zero_lacks = place_lacks (allocated gs n) 0 1 n (allocated_free gs n 0 (at_zero gs))

  -- the word of slot s is its place among the links
  pub numbered_at : (s : ℕ) → s ≤ n → at (numbered gs n) s ≡ place w s
  unfolding numbered
  numbered_at zero h = at_zero _ ∙ sym zero_lacks
  numbered_at (suc i) h =
      let words = map (place w) (slots_from 1 n) in
      written_reads words gs (suc i) (omega (arith, numbers_long))
      ∙ (at_map (place w) (slots_from 1 n) (suc i) (omega arith) (rw (length_slots 1 n) h) ∙ ap (place w) (at_own n (suc i) h))

  -- the numbers show the same links
  numbered_agrees : (s : ℕ) → 1 ≤ s → s ≤ n → allocated (numbered gs n) n s ≡ allocated gs n s
  unfolding link_slots
  numbered_agrees s p h =
      by_test (allocated gs n s)
      (λ e. allocated_yes (numbered gs n) n s h (λ z. omega (arith, sym (numbered_at s h) ∙ z, place_has (allocated gs n) s 1 n e p (omega arith))) ∙ sym e)
      (λ e. allocated_free (numbered gs n) n s (numbered_at s h ∙ place_lacks (allocated gs n) s 1 n e) ∙ sym e)

  pub numbered_links : link_slots (numbered gs n) n ≡ w
  unfolding link_slots
  numbered_links = keep_agree _ _ (slots_from 1 n) (λ s i. let run = in_slots s 1 n i in numbered_agrees s (omega arith) (omega arith))

  pub numbered_link : (s : ℕ) → allocated (numbered gs n) n s ≡ true → allocated gs n s ≡ true
  numbered_link s e =
      sym (numbered_agrees s (allocated_some (numbered gs n) n s e) (allocated_within (numbered gs n) n s e)) ∙ e

  -- where all slots are links, each keeps its slot
  pub numbered_full : length w ≡ n → Full (numbered gs n) n
  unfolding link_slots
  numbered_full e =
      let all : w ≡ slots_from 1 n = keep_all (allocated gs n) (slots_from 1 n) (omega (arith, length_slots 1 n)) in
      let stays : (s : ℕ) → s ≤ n → at (numbered gs n) s ≡ s = λ s h. numbered_at s h ∙ (ap (λ (l : List ℕ). place l s) all ∙ own_place s h) in
      (numbered_links ∙ all, stays)
    where
      own_place : (s : ℕ) → s ≤ n → place (slots_from 1 n) s ≡ s
      own_place zero h = place_none (slots_from 1 n) 0 (count_slots_out 0 1 n (λ a b. omega arith))
      own_place (suc i) h = place_own n (suc i) (omega arith) h
