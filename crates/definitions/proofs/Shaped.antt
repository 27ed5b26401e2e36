-- What a verdict of 0 says before any chain is looked at: the arena's shape, then 4 to 10, then rule 11. Assumes nothing.
use Prim.Native.Nat.{ℕ, ◌≤◌}
use mathlib.Core.Path.{◌≡◌, refl, sym, ◌∙◌}
use mathlib.Core.Bool.{Bool, true, false, cond, not, ◌||◌}
use native.Mathlib.Omega.{arith}
use lib.ListN.{length}
use lib.Dec.{eqb, ltb}
use borrow.Author.Tests.{ltb-false, eqb-true, not-false}
use Rattle.definitions.specs.Arena.{Arena, capacity, header_words, stack_length, link_count, root, current}
use Rattle.definitions.specs.Check.{misshapen, counts_of, all_fine, verdict}
use Rattle.definitions.proofs.Tests.{by_test, pass, neither_parts, tests}

-- what an arena that 1 does not refuse is like: four columns of one length within the limit, a header of four words
pub record Sized (limit : ℕ) (a : Arena) : Type 0 where
  pub header : length a.header ≡ header_words
  pub small : capacity a ≤ limit
  pub next_length : length a.next ≡ capacity a
  pub generation_length : length a.generation ≡ capacity a
  pub payload_length : length a.payload ≡ capacity a

-- what an arena that 1 to 3 do not refuse is like: four columns of one length within the limit, a header of four words that fit it
pub record Shaped (limit : ℕ) (a : Arena) : Type 0 where
  pub header : length a.header ≡ header_words
  pub small : capacity a ≤ limit
  pub next_length : length a.next ≡ capacity a
  pub generation_length : length a.generation ≡ capacity a
  pub payload_length : length a.payload ≡ capacity a
  pub generation : 2 ≤ current a
  pub links_within : link_count a ≤ capacity a
  pub within : stack_length a ≤ capacity a

-- 4 to 10 of an arena, and rule 11 at all of its slots
abbrev pub counts_verdict : Arena → ℕ
counts_verdict a = counts_of a.next a.generation (stack_length a) (link_count a) (root a)

abbrev pub interlinks_fine : Arena → Bool
interlinks_fine a = all_fine a.prev a.next a.generation (stack_length a) (stack_length a)

-- the two tests after 3, of a verdict of 0
first : (k : ℕ) (fine : Bool) → cond (not (eqb k 0)) k (cond fine 0 11) ≡ 0 → k ≡ 0
first k fine e = by_test (eqb k 0) (eqb-true k 0) (λ q. rw q at e)

last : (k : ℕ) (fine : Bool) → k ≡ 0 → cond (not (eqb k 0)) k (cond fine 0 11) ≡ 0 → fine ≡ true
last k true z e = refl
last k false z e = absurd (omega (arith, rw z at e))

module _ (limit : ℕ) (a : Arena) where
  -- refusal 1 did not come
  pub sized : misshapen limit a ≡ false → Sized limit a
  unfolding misshapen
  sized e =
      let payloads = neither_parts _ _ e in
      let generations = neither_parts _ _ payloads.0 in
      let nexts = neither_parts _ _ generations.0 in
      let sizes = neither_parts _ _ nexts.0 in
      record {
        header = eqb-true _ _ (not-false _ sizes.0);
        small = ltb-false _ _ sizes.1;
        next_length = eqb-true _ _ (not-false _ nexts.1);
        generation_length = eqb-true _ _ (not-false _ generations.1);
        payload_length = eqb-true _ _ (not-false _ payloads.1);
      }

  -- refusals 1, 2 and 3 did not come, whatever is tested after them
  pub first_three : (rest : ℕ) → cond (misshapen limit a) 1 (cond (ltb (current a) 2) 2 (cond (ltb (capacity a) (link_count a) || ltb (capacity a) (stack_length a)) 3 rest)) ≡ 0 → Shaped limit a
  first_three rest e =
      let one = pass _ _ _ tt e in
      let two = pass _ _ _ tt one.1 in
      let three = neither_parts _ _ (pass _ _ _ tt two.1).0 in
      let sizes = sized one.0 in
      record {
        header = sizes.header;
        small = sizes.small;
        next_length = sizes.next_length;
        generation_length = sizes.generation_length;
        payload_length = sizes.payload_length;
        generation = ltb-false _ _ two.0;
        links_within = ltb-false _ _ three.0;
        within = ltb-false _ _ three.1;
      }

  pub shaped : verdict limit a ≡ 0 → Shaped limit a
  unfolding verdict
  shaped e = first_three _ e

  -- where 1 to 3 do not refuse, the verdict is 4 to 10, then rule 11
  pub verdict_of_shaped : Shaped limit a → cond (not (eqb (counts_verdict a) 0)) (counts_verdict a) (cond (interlinks_fine a) 0 11) ≡ verdict limit a
  unfolding verdict misshapen
  verdict_of_shaped h = search tests depth 20

  -- what a verdict of 0 says of the rest, and back
  pub passed_counts : verdict limit a ≡ 0 → counts_verdict a ≡ 0
  passed_counts e = first (counts_verdict a) (interlinks_fine a) (verdict_of_shaped (shaped e) ∙ e)

  pub passed_links : verdict limit a ≡ 0 → interlinks_fine a ≡ true
  passed_links e = last (counts_verdict a) (interlinks_fine a) (passed_counts e) (verdict_of_shaped (shaped e) ∙ e)

  pub passes : Shaped limit a → counts_verdict a ≡ 0 → interlinks_fine a ≡ true → verdict limit a ≡ 0
  passes h c l = sym (verdict_of_shaped h) ∙ rw (c, l) refl
