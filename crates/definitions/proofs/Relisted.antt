-- Laws of the highest link, and of a list of slots threaded into the next column: what a freelist put in order reads. Assumes nothing.
use Prim.Native.Nat.{ℕ, zero, suc, ◌≤◌, ◌<◌}
use mathlib.Core.Path.{◌≡◌, refl, ◌∙◌}
use mathlib.Core.Logic.{◌⊎◌, inl, inr}
use mathlib.Core.Bool.{Bool, true}
use mathlib.Core.List.{List, [], ◌∷◌}
use native.Mathlib.Omega.{arith}
use lib.ListN.{length}
use Rattle.definitions.specs.Columns.{at, put, first_or, last_or, slots_from, keep, Linked}
use Rattle.definitions.specs.Arena.{allocated, link_slots}
use Rattle.definitions.specs.Remove.{threaded}
use Rattle.definitions.proofs.Tests.{by_test}
use Rattle.definitions.proofs.Columns.{length_put, at_put_same, at_put_other}
use Rattle.definitions.proofs.Slots.{allocated_within}
use Rattle.definitions.proofs.Count.{In, Once, in_here, in_there, in_cases, in_only, once_rest, once_first, only_links}
use Rattle.definitions.proofs.Linked.{in_last, linked_in_front}
use Rattle.definitions.proofs.LinkCount.{in_links}

-- ---- the highest link

-- of a rising run past z, the last that passes a test is the highest
pub last_highest : (test : ℕ → Bool) (z s k : ℕ) → z < s → (x : ℕ) → In x (z ∷ keep test (slots_from s k)) → x ≤ last_or z (keep test (slots_from s k))
unfolding keep slots_from last_or
last_highest test z s zero h x = λ i. omega (arith, in_only x z i)
last_highest test z s (suc k) h x =
    let later = last_highest test s (suc s) k (omega arith) in
    by_test (test s) (λ e. rw e (λ i. passes later (in_cases x z (s ∷ keep test (slots_from (suc s) k)) i)))
    (λ e. rw e (last_highest test z (suc s) k (omega arith) x))
  where
    rest : List ℕ
    rest = keep test (slots_from (suc s) k)

    passes : ((y : ℕ) → In y (s ∷ rest) → y ≤ last_or s rest) → (x ≡ z) ⊎ In x (s ∷ rest) → x ≤ last_or s rest
    passes later (inl e) = omega (arith, later s (in_here s rest))
    passes later (inr i) = later x i

module _ (gs : List ℕ) (n : ℕ) where
  pub links_to_highest : (x : ℕ) → allocated gs n x ≡ true → x ≤ last_or 0 (link_slots gs n)
  links_to_highest x l = highest (in_there x 0 (link_slots gs n) (in_links gs n x l))
    where
      highest : In x (0 ∷ link_slots gs n) → x ≤ last_or 0 (link_slots gs n)
      highest = unfold link_slots in last_highest (allocated gs n) 0 1 n (omega arith) x

  pub highest_within : last_or 0 (link_slots gs n) ≤ n
  highest_within = within (in_cases (last_or 0 (link_slots gs n)) 0 (link_slots gs n) (in_last 0 (link_slots gs n)))
    where
      within : (last_or 0 (link_slots gs n) ≡ 0) ⊎ In (last_or 0 (link_slots gs n)) (link_slots gs n) → last_or 0 (link_slots gs n) ≤ n
      within (inl e) = omega arith
      within (inr i) = allocated_within gs n _ (only_links gs n _ i)

-- ---- slots threaded into the next column

pub length_threaded : (ns ss : List ℕ) → length (threaded ns ss) ≡ length ns
unfolding threaded
length_threaded ns [] = refl
length_threaded ns (s ∷ ss) = length_threaded (put ns s (first_or s ss)) ss ∙ length_put ns s (first_or s ss)

pub threaded_other : (ns ss : List ℕ) (x : ℕ) → (In x ss → ⊥) → at (threaded ns ss) x ≡ at ns x
unfolding threaded
threaded_other ns [] x out = refl
threaded_other ns (s ∷ ss) x out =
    threaded_other (put ns s (first_or s ss)) ss x (λ i. out (in_there x s ss i)) ∙ at_put_other ns s x (first_or s ss) (λ e. out (rw e (in_here s ss)))

-- each points at the following, and the last at itself
pub threaded_linked : (ns ss : List ℕ) → Once ss → ((x : ℕ) → In x ss → (1 ≤ x) × (x ≤ length ns)) → Linked (at (threaded ns ss)) ss (last_or 0 ss)
unfolding threaded
threaded_linked ns [] once within = unfold Linked in tt
threaded_linked ns (s ∷ ss) once within =
    let here = within s (in_here s ss) in
    let later = threaded_linked (put ns s (first_or s ss)) ss (once_rest s ss once) (λ x i. let w = within x (in_there x s ss i) in (w.0, rw length_put w.1)) in
    let points = threaded_other (put ns s (first_or s ss)) ss s (once_first s ss once) ∙ at_put_same ns s (first_or s ss) (omega arith) here.1 in
    linked_in_front (at (threaded (put ns s (first_or s ss)) ss)) s ss points later
