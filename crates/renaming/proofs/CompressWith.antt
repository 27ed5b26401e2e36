-- Order-preserving compression: an accepted one is the renaming by slot order, a refused one changes nothing, and either leaves a well formed arena.
-- The generation that a compression gives is never below 2. Assumes nothing.
use Prim.Native.Nat.{ℕ, suc, ◌*◌, ◌≤◌}
use mathlib.Core.Path.{◌≡◌, refl, ap}
use mathlib.Core.Bool.{Bool, true, false}
use mathlib.Core.List.{List, [], ◌∷◌}
use native.Mathlib.Omega.{arith}
use lib.ListN.{length}
use lib.Dec.{eqb, ltb}
use borrow.Author.Tests.{le-ltb}
use Rattle.definitions.specs.Columns.{at, written}
use Rattle.definitions.specs.Arena.{Arena, stack_length, link_count, current, link_slots}
use Rattle.statements.specs.Chains.{Renaming}
use Rattle.definitions.specs.Check.{WellFormed}
use Rattle.definitions.specs.Reply.{reply}
use Rattle.definitions.specs.Edit.{next_generation}
use Rattle.definitions.specs.Compress.{raises, compress_generation, compress_number, relocate, moves_of, compress_with}
use Rattle.definitions.proofs.Tests.{by_test}
use Rattle.chains.proofs.Links.{well_formed_linked}
use Rattle.renaming.proofs.Orders.{rising_order}
use Rattle.renaming.proofs.Relocated.{any_order_renames, any_order_well_formed}

-- ---- the generation

next_generation_two : (top g : ℕ) → 2 ≤ g → 2 ≤ next_generation top g
unfolding next_generation
next_generation_two top g h = by_test (eqb g top) (λ e. rw e (omega arith)) (λ e. rw e (omega arith))

pub compress_generation_two : (top : ℕ) (reset : Bool) (a : Arena) → 2 ≤ current a → 2 ≤ compress_generation top reset a
unfolding compress_generation
compress_generation_two top true a h = omega arith
compress_generation_two top false a h =
    by_test (raises false a) (λ e. rw e (next_generation_two top (current a) h)) (λ e. rw e h)

-- ---- the report: of the columns the generations alone are read

pub moves_read : (a b : Arena) (g s : ℕ) (os : List ℕ) → a.generation ≡ b.generation → moves_of a g s os ≡ moves_of b g s os
unfolding moves_of
moves_read a b g s [] e = refl
moves_read a b g s (o ∷ os) e = rw (moves_read a b g (suc s) os e) (ap (λ (gs : List ℕ). o ∷ at gs o ∷ s ∷ g ∷ moves_of b g (suc s) os) e)

-- ---- the call

module _ (limit top : ℕ) (a : Arena) (ok : WellFormed limit a) (reset : Bool) (report : List ℕ) where
  abbrev g : ℕ
  g = compress_generation top reset a

  abbrev w : List ℕ
  w = link_slots a.generation (stack_length a)

  pub compress_with_accepted : 4 * link_count a ≤ length report → compress_with top reset a report ≡ reply (compress_number top reset a) [] (relocate w g a) (written (moves_of a g 1 w) report)
  unfolding compress_with
  compress_with_accepted h = rw (le-ltb (length report) (4 * link_count a) h)

  pub compress_with_renames : 4 * link_count a ≤ length report → Renaming a (compress_with top reset a report).arena w (link_count a)
  compress_with_renames h =
      rw (compress_with_accepted h, ok.links) (any_order_renames a w (rising_order a) g (well_formed_linked ok))

  pub compress_with_keeps : WellFormed limit (compress_with top reset a report).arena
  unfolding compress_with
  compress_with_keeps =
      by_test (ltb (length report) (4 * link_count a)) (λ e. rw e ok)
      (λ e. rw e (any_order_well_formed a w (rising_order a) g limit ok (compress_generation_two top reset a ok.generation)))
