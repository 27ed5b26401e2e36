-- The search for the lowest link and the walk back to its chain's start, step by step against the definition. Assumes nothing.
use Prim.Native.Nat.{ℕ, zero, suc, ◌+◌, ◌-◌, ◌≤◌, ◌<◌}
use mathlib.Core.Path.{◌≡◌, refl, sym, ap, ◌∙◌}
use mathlib.Core.Logic.{◌≢◌}
use mathlib.Core.Bool.{Bool, true, false}
use mathlib.Core.List.{List}
use native.Mathlib.Omega.{arith}
use native.Mathlib.Nat.{add-zero, add-suc, sub-zero}
use native.Mathlib.Numerals.{add-one}
use lib.Dec.{eqb}
use lib.ListN.{length, get_or, drop, length-drop}
use lib.Seq.{get_or-drop}
use borrow.Author.Tests.{eqb-true, eqb-false}
use Rattle.definitions.specs.Columns.{at}
use Rattle.definitions.specs.Arena.{Arena, stack_length, is_link}
use Rattle.definitions.specs.Compress.{lowest_from, start_of}
use Rattle.definitions.proofs.Tests.{by_test}
use Rattle.definitions.proofs.Columns.{at_suc}
use Rattle.chains.proofs.Links.{Link, link_some, link_within}
use Rattle.chains.proofs.Find.{start_stop, start_round, start_on}
use Rattle.demand3.proofs.Search.{lowest_stops, lowest_passes, lowest_ends}
use Rattle.canonical_layout.specs.Held.{Occupied, Rooted}

-- ---- the lowest link

-- the search has passed slots from + 1 to s, and nobody was there
pub record Searching (ws : List ℕ) (from s : ℕ) : Type 0 where
  pub begun : from ≤ s
  pub within : s ≤ length ws
  pub same : (b : Arena) → Occupied b ws → lowest_from b (s + 1) ≡ lowest_from b (from + 1)

module _ {ws : List ℕ} {from s : ℕ} (searching : Searching ws from s) where
  is_link_lem : (b : Arena) → Occupied b ws → get_or ws s 0 ≢ 0 → Link b (suc s)
  is_link_lem b o d = by_test (is_link b (suc s)) (λ e. e) (λ e. absurd (d (sym (at_suc ws s) ∙ o.nobody (suc s) e)))

  is_free : (b : Arena) → Occupied b ws → get_or ws s 0 ≡ 0 → is_link b (suc s) ≡ false
  is_free b o z = by_test (is_link b (suc s)) (λ e. absurd (o.somebody (suc s) e (at_suc ws s ∙ z))) (λ e. e)

  search_goes_on : s < length ws → get_or ws s 0 ≡ 0 → Searching ws from (suc s)
  search_goes_on h z =
      record {
        begun = omega (arith, searching.begun);
        within = h;
        same = λ b o.
            let next : lowest_from b (suc s) ≡ lowest_from b (suc (suc s)) = lowest_passes b (suc s) (is_free b o z) in
            rw (add-one (suc s)) (sym next ∙ rw (add-one s) at (searching.same b o));
      }

  search_finds : get_or ws s 0 ≢ 0 → (b : Arena) → Occupied b ws → s + 1 ≡ lowest_from b (from + 1)
  search_finds d b o = rw (add-one s) (sym (lowest_stops b (suc s) (link_within b (suc s) (is_link_lem b o d)) (is_link_lem b o d))) ∙ searching.same b o

  search_ends : length ws ≤ s → (b : Arena) → Occupied b ws → 0 ≡ lowest_from b (from + 1)
  search_ends h b o = sym (lowest_ends b (s + 1) (omega (arith, o.long))) ∙ searching.same b o

module _ (ws : List ℕ) (from : ℕ) (h : from ≤ length ws) where
  -- nobody is in the first k slots after the first from
  searched : (k : ℕ) → from + k ≤ length ws → ((j : ℕ) → j < k → get_or (drop from ws) j 0 ≡ 0) → Searching ws from (from + k)
  searched zero l none = rw add-zero (record { begun = omega arith; within = h; same = λ b o. refl })
  searched (suc k) l none =
      let before = searched k (omega arith) (λ j i. none j (omega arith)) in
      rw add-suc (search_goes_on before (omega arith) (sym (get_or-drop from ws k 0) ∙ none k (omega arith)))

  pub lowest_found :
      {i : ℕ} → (i < length (drop from ws)) × (get_or (drop from ws) i 0 ≢ 0) × ((k : ℕ) → k < i → get_or (drop from ws) k 0 ≡ 0)
      → (b : Arena) → Occupied b ws → from + i + 1 ≡ lowest_from b (from + 1)
  lowest_found {i} (l, some, none) =
      let within : i < length ws - from = rw (length-drop from ws) at l in
      search_finds (searched i (omega arith) none) (λ z. some (get_or-drop from ws i 0 ∙ z))

  pub lowest_none : ((k : ℕ) → k < length (drop from ws) → get_or (drop from ws) k 0 ≡ 0) → (b : Arena) → Occupied b ws → 0 ≡ lowest_from b (from + 1)
  lowest_none none =
      let all : length ws - from ≡ length (drop from ws) = sym (length-drop from ws) in
      search_ends (searched (length ws - from) (omega arith) (λ j l. none j (rw all at l))) (omega arith)

-- ---- the chain's start

-- the walk back has come to slot s in k steps
pub record Back (ps : List ℕ) (o s k : ℕ) : Type 0 where
  pub link : (b : Arena) → Rooted b ps o → Link b s
  pub same : (b : Arena) → Rooted b ps o → start_of b (length ps - k) o s ≡ start_of b (stack_length b) o o

pub back_starts : (ps : List ℕ) (o : ℕ) → Back ps o o 0
back_starts ps o = record { link = λ b r. r.link; same = λ b r. rw sub-zero (ap (λ (m : ℕ). start_of b m o o) r.long) }

module _ {ps : List ℕ} {o s k : ℕ} (back : Back ps o s k) where
  pub back_within : (b : Arena) × Rooted b ps o → (0 < s) × (s ≤ length ps)
  back_within (b, r) = (link_some b s (back.link b r), omega (arith, link_within b s (back.link b r), r.long))

  pub back_ends : length ps ≤ k → (b : Arena) → Rooted b ps o → o ≡ start_of b (stack_length b) o o
  unfolding start_of
  back_ends h b r = let none : length ps - k ≡ 0 = omega arith in rw none at (back.same b r)

  -- one step more, to slot p, with what the code asks of it: whether it is none, and whether it is o
  module _ {p : ℕ} (left : k < length ps) (is : p ≡ at ps s) {none : Bool} (asks : none ≡ eqb p 0) where
    names : (b : Arena) → Rooted b ps o → at b.prev s ≡ p
    names b r = sym (r.same s (back.link b r)) ∙ sym is

    step : (b : Arena) → Rooted b ps o → start_of b (suc (length ps - (k + 1))) o s ≡ start_of b (stack_length b) o o
    step b r = let e : suc (length ps - (k + 1)) ≡ length ps - k = omega arith in rw e (back.same b r)

    pub back_stops : none ≡ true → (b : Arena) → Rooted b ps o → s ≡ start_of b (stack_length b) o o
    back_stops e b r = sym (start_stop b (length ps - (k + 1)) o s (names b r ∙ eqb-true _ _ (sym asks ∙ e))) ∙ step b r

    module _ (some : none ≡ false) {round : Bool} (asks_again : round ≡ eqb p o) where
      goes : (b : Arena) → Rooted b ps o → at b.prev s ≢ 0
      goes b r z = eqb-false _ _ (sym asks ∙ some) (sym (names b r) ∙ z)

      pub back_round : round ≡ true → (b : Arena) → Rooted b ps o → o ≡ start_of b (stack_length b) o o
      back_round e b r = sym (start_round b (length ps - (k + 1)) o s (goes b r) (names b r ∙ eqb-true _ _ (sym asks_again ∙ e))) ∙ step b r

      pub back_goes_on : round ≡ false → Back ps o p (k + 1)
      back_goes_on e =
          record {
            link = λ b r. rw (names b r) at (r.linked.prev s (back.link b r) (goes b r)).0;
            same = λ b r.
                let on = start_on b (length ps - (k + 1)) o s (goes b r) (λ q. eqb-false _ _ (sym asks_again ∙ e) (sym (names b r) ∙ q)) in
                ap (start_of b (length ps - (k + 1)) o) (sym (names b r)) ∙ (sym on ∙ step b r);
          }
