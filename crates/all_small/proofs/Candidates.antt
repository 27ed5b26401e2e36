-- Every small arena is among those that are tried: it is the arena of its rows and its root, and all its words are among those that a row may have. Assumes
-- nothing.
use Prim.Native.Nat.{ℕ, zero, suc, ◌+◌, ◌≤◌}
use mathlib.Core.Path.{◌≡◌, refl, sym, ap, ◌∙◌}
use mathlib.Core.Logic.{inl, inr}
use mathlib.Core.Bool.{true, false}
use mathlib.Core.List.{List, [], ◌∷◌, ◌++◌, map, map-map}
use native.Mathlib.Omega.{arith}
use native.Mathlib.Decide.{ℕ_discrete}
use lib.ListN.{length, get_or, length-map}
use Rattle.definitions.specs.Columns.{at, slots_from, first_or, last_or}
use Rattle.definitions.specs.Arena.{Arena, header_words, stack_length, link_count, root, is_link, link_slots}
use Rattle.definitions.specs.Check.{WellFormed, Freelist}
use Rattle.definitions.proofs.Tests.{by_test}
use Rattle.definitions.proofs.Header.{four_words}
use Rattle.definitions.proofs.Slots.{length_slots, allocated_within, not_allocated}
use Rattle.definitions.proofs.Count.{In, in_here, not_in_nil}
use Rattle.definitions.proofs.Linked.{in_last, next_in}
use Rattle.definitions.proofs.Parts.{at_map, at_own, same_words}
use Rattle.well_formed.proofs.WellFormed.{well_formed_if_passes}
use Rattle.statements.specs.SmallArenas.{IsSmall}
use Rattle.all_small.specs.SmallArenas.{pairs, up_to, Row, row, rows_of, stacks, own_slots, stacked}
use Rattle.all_small.proofs.Among.{Among, among_left, among_right, among_map, among_pairs, among_slots}

-- a column by its slots
read_back : (xs : List ℕ) (n : ℕ) → length xs ≡ n → (f : ℕ → ℕ) → ((s : ℕ) → f s ≡ at xs s) → map f (slots_from 1 n) ≡ xs
read_back xs n e f h =
    same_words (map f (slots_from 1 n)) xs (size ∙ sym e)
    (λ s p q. at_map f (slots_from 1 n) s p (omega (arith, size, length_slots 1 n)) ∙ ap f (at_own n s (omega (arith, size))) ∙ h s)
  where
    size : length (map f (slots_from 1 n)) ≡ n
    size = length-map (slots_from 1 n) f ∙ length_slots 1 n

-- a header by its words
four : (h : List ℕ) → length h ≡ header_words → (get_or h 0 0 ∷ get_or h 1 0 ∷ get_or h 2 0 ∷ get_or h 3 0 ∷ []) ≡ h
four h e = four_words (λ (h : List ℕ). (get_or h 0 0 ∷ get_or h 1 0 ∷ get_or h 2 0 ∷ get_or h 3 0 ∷ []) ≡ h) h e (λ n k r g. refl)

module _ (limit : ℕ) (a : Arena) (h : IsSmall limit a) where
  ok : WellFormed limit a
  ok = well_formed_if_passes limit a h.passes

  abbrev n : ℕ
  n = stack_length a

  abbrev row_at : ℕ → Row
  row_at s = row (at a.generation s) (at a.prev s) (at a.next s)

  abbrev rows : List Row
  rows = map row_at (slots_from 1 n)

  -- ---- it is the arena of its rows

  size : length rows ≡ n
  size = length-map (slots_from 1 n) row_at ∙ length_slots 1 n

  prevs : map (λ (r : Row). r.prev) rows ≡ a.prev
  prevs = map-map (λ (r : Row). r.prev) row_at (slots_from 1 n) ∙ read_back a.prev n (sym h.full) _ (λ s. refl)

  nexts : map (λ (r : Row). r.next) rows ≡ a.next
  nexts = map-map (λ (r : Row). r.next) row_at (slots_from 1 n) ∙ read_back a.next n (ok.next_length ∙ sym h.full) _ (λ s. refl)

  generations : map (λ (r : Row). r.generation) rows ≡ a.generation
  generations = map-map (λ (r : Row). r.generation) row_at (slots_from 1 n) ∙ read_back a.generation n (ok.generation_length ∙ sym h.full) _ (λ s. refl)

  payloads : own_slots a.generation n ≡ a.payload
  unfolding own_slots
  payloads = read_back a.payload n (ok.payload_length ∙ sym h.full) _ (λ s. by_test (is_link a s) (λ l. rw l (sym (h.payload_own s l))) (λ l. rw l (sym (h.payload_unread s l))))

  header : (n ∷ length (link_slots a.generation n) ∷ root a ∷ 2 ∷ []) ≡ a.header
  header = rw (← ok.links) (ap (λ (g : ℕ). n ∷ link_count a ∷ root a ∷ g ∷ []) (sym h.current_two) ∙ four a.header ok.header)

  it_is : stacked (root a) rows ≡ a
  unfolding stacked
  it_is = rw (prevs, nexts, generations, size, payloads, header) refl

  -- ---- its words are at most the stack length

  neighbour_within : (s : ℕ) → ((s ≡ 0 → ⊥) → is_link a s ≡ true) → s ≤ n
  neighbour_within s f = elim (ℕ_discrete s 0) [ yes z ↦ omega arith | no z ↦ allocated_within a.generation n s (f z) ]

  last_free : (fs : List ℕ) → Freelist a fs → (s : ℕ) → In s fs → last_or 0 fs ≤ n
  unfolding last_or
  last_free [] f s i = absurd (not_in_nil s i)
  last_free (x ∷ xs) f s i = (f.free (last_or x xs) (in_last x xs)).1

  free_next : (s : ℕ) → 1 ≤ s → s ≤ n → at a.generation s ≡ 0 → at a.next s ≤ n
  free_next s p q z =
      let fs = ok.freelist.0 in
      let f = ok.freelist.1 in
      let i : In s fs = omega (arith, f.once s p q z) in
      elim (next_in (at a.next) fs (last_or 0 fs) s f.linked i) [ inl j ↦ (f.free (at a.next s) j).1 | inr e ↦ rw e (last_free fs f s i) ]

  root_within : (fs : List ℕ) → Freelist a fs → root a ≤ n
  unfolding first_or
  root_within [] f = omega (arith, f.starts)
  root_within (x ∷ xs) f = omega (arith, f.starts, f.free x (in_here x xs))

  -- ---- so they are tried

  among_up : (x : ℕ) → x ≤ n → Among x (up_to n)
  unfolding up_to
  among_up x l = among_slots x 0 (suc n) (omega arith) (omega arith)

  abbrev frees : List Row
  frees = map (row 0 0) (up_to n)

  abbrev links : List Row
  links = pairs (row 2) (up_to n) (up_to n)

  row_tried : (s : ℕ) → 1 ≤ s → s ≤ n → Among (row_at s) (rows_of n)
  unfolding rows_of
  row_tried s p q = by_test (is_link a s) link free
    where
      link : is_link a s ≡ true → Among (row_at s) (frees ++ links)
      link l =
          rw (h.generation_two s l)
          (among_right _ frees links
          (among_pairs (row 2) (at a.prev s) (at a.next s) (up_to n) (up_to n) (among_up _ (neighbour_within _ (λ d. (ok.prev s l d).0))) (among_up _ (neighbour_within _ (λ d. (ok.next s l d).0)))))

      free : is_link a s ≡ false → Among (row_at s) (frees ++ links)
      free l =
          let z = not_allocated a.generation n s l q in
          rw (z, h.prev_unread s l) (among_left _ frees links (among_map (row 0 0) (at a.next s) (up_to n) (among_up _ (free_next s p q z))))

  stack_tried : (s k : ℕ) → 1 ≤ s → s + k ≤ suc n → Among (map row_at (slots_from s k)) (stacks n k)
  unfolding stacks slots_from Among
  stack_tried s zero p q = inl refl
  stack_tried s (suc k) p q =
      among_pairs (λ (r : Row) (rs : List Row). r ∷ rs) (row_at s) (map row_at (slots_from (suc s) k)) (rows_of n) (stacks n k) (row_tried s p (omega arith)) (stack_tried (suc s) k (omega arith) (omega arith))

  pub tried : Among a (pairs stacked (up_to n) (stacks n n))
  tried = rw it_is at (among_pairs stacked (root a) rows (up_to n) (stacks n n) (among_up (root a) (root_within ok.freelist.0 ok.freelist.1)) (stack_tried 1 n (omega arith) (omega arith)))
