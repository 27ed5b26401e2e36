-- The reply to a removal: what was found, and what taking it out left. Assumes nothing.
use Prim.Native.Nat.{ℕ}
use mathlib.Core.Bool.{Bool}
use mathlib.Core.List.{[]}
use mathlib.Core.Path.{◌≡◌, refl, ap}
use native.Mathlib.Omega.{arith}
use Rattle.definitions.proofs.Tests.{by_test}
use Rattle.definitions.specs.Arena.{Arena}
use Rattle.definitions.specs.Edit.{done_number}
use Rattle.definitions.specs.Read.{Pointer, stale, get_link_no_gen}
use Rattle.definitions.specs.Remove.{remove}
use Rattle.definitions.specs.Reply.{Reply, reply}
use Rattle.base_slots.specs.Removal.{TakenOut}
use Rattle.chain_traits.proofs.Found.{FoundAt, found}
use Rattle.chain_traits.specs.Read.{link_no_gen_reply}
use Rattle.std.specs.Prelude.{None, Some}
use Rattle.links.specs.Links.{no_gen_words, removal_reply}
use Rattle.links.specs.declared.InvalidationResult.TheVariants.{InvalidPtr}
use Rattle.links.specs.declared.LinkNoGen.{LinkNoGen}

-- what is read of the arena b, which is a
module _ {a b : Arena} (same : b ≡ a) (p : Pointer) where
  -- nothing was found at a stale pointer, and nothing is removed
  pub remove_none : (top : ℕ) → link_no_gen_reply None b [] ≡ get_link_no_gen b p [] → removal_reply InvalidPtr a [] ≡ remove top a p []
  unfolding remove get_link_no_gen
  remove_none top e =
      by_test (stale a p)
      (λ s. rw s refl)
      (λ s. let z : ◌≡◌ {A = ℕ} 12 0 = ap (λ (r : Reply). r.number) (rw (same, s) at e) in absurd (omega arith))

  -- the link l was found
  pub found_there : (l : LinkNoGen) → link_no_gen_reply (Some l) b [] ≡ get_link_no_gen b p [] → FoundAt a p l
  found_there l e = rw (← same) (found b p l e)

-- the link l that was found is answered, with or without overflow
pub remove_found : {top : ℕ} {a left : Arena} {p : Pointer} {l : LinkNoGen} {overflow : Bool} → FoundAt a p l → TakenOut top a p.slot left overflow → reply (done_number overflow) (no_gen_words l) left [] ≡ remove top a p []
unfolding remove
remove_found f t = rw (f.fresh, f.prev, f.next, f.payload, t.arena, t.overflowed) refl
