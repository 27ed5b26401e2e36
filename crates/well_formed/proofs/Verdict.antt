-- The numbers of the check: the verdict is 0 to 11, 11 comes only where rule 11 fails at a slot, and after 0 it fails at none.
-- Refusals 4 to 10 are numbers of at most 10, and what comes after them is 0 or 11 as all slots are fine or not. Assumes nothing.
use Prim.Native.Nat.{ℕ, ◌≤◌}
use mathlib.Core.Path.{◌≡◌, sym, ◌∙◌}
use mathlib.Core.Bool.{true, false, true≢false}
use native.Mathlib.Omega.{arith}
use Rattle.definitions.specs.Arena.{Arena, stack_length, is_link}
use Rattle.definitions.specs.Check.{verdict, FailsAt}
use Rattle.definitions.proofs.Tests.{by_test}
use Rattle.definitions.proofs.Numbers.{verdict_most, fine_at_most_10}
use Rattle.definitions.proofs.Broken.{lowest_broken, first_lowest}
use Rattle.definitions.proofs.Slots.{allocated_within, allocated_some}
use Rattle.definitions.proofs.Shaped.{interlinks_fine, passed_links}
use Rattle.definitions.proofs.Interlinks.{fine_free, each_fine}

pub verdict_bound : (limit : ℕ) (a : Arena) → verdict limit a ≤ 11
verdict_bound = verdict_most

-- ---- 11

module _ (limit : ℕ) (a : Arena) where
  -- 11 is never answered where no slot fails
  pub eleven_broken : verdict limit a ≡ 11 → interlinks_fine a ≡ false
  eleven_broken e = by_test (interlinks_fine a) (λ fine. absurd (omega (arith, fine_at_most_10 limit a fine))) (λ broken. broken)

  pub eleven_fails : verdict limit a ≡ 11 → (s : ℕ) × FailsAt a s
  eleven_fails e = (lowest_broken limit a, (first_lowest _ _ _ _ (eleven_broken e)).fails)

  -- rule 11 fails at links only
  pub fails_at_links : (s : ℕ) → FailsAt a s → is_link a s ≡ true
  fails_at_links s e = by_test (is_link a s) (λ l. l) (λ l. absurd (true≢false (sym (fine_free _ _ _ _ s l) ∙ e)))

  pub no_failure_if_passed : verdict limit a ≡ 0 → (s : ℕ) → FailsAt a s → ⊥
  no_failure_if_passed e s f =
      let l = fails_at_links s f in
      true≢false (sym (each_fine _ _ _ _ (stack_length a) (passed_links limit a e) s (allocated_some _ _ s l) (allocated_within _ _ s l)) ∙ f)
