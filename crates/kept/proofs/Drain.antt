-- Drain keeps an arena well formed: each of its slots is a link when it is removed, since none is listed twice. Assumes nothing.
use Prim.Native.Nat.{ℕ}
use mathlib.Core.Path.{◌≡◌}
use mathlib.Core.Bool.{true, false}
use mathlib.Core.List.{List, [], ◌∷◌}
use Rattle.definitions.specs.Arena.{Arena, is_link}
use Rattle.definitions.specs.Check.{WellFormed}
use Rattle.definitions.specs.Read.{Pointer, stale}
use Rattle.definitions.specs.Walk.{walk_from}
use Rattle.definitions.specs.Remove.{removed, removed_all, drain}
use Rattle.definitions.proofs.Count.{In, Once, in_here, in_there, once_rest, once_first}
use Rattle.definitions.proofs.Pointers.{fresh_link}
use Rattle.walks.proofs.Walks.{walk_gives_chain}
use Rattle.kept.proofs.Edits.{either_keeps}
use Rattle.kept.proofs.Removal.{removed_keeps, removed_other}

-- a list of links, none of them twice
pub removed_all_keeps : (limit top : ℕ) (a : Arena) → WellFormed limit a → (ss : List ℕ) → Once ss → ((s : ℕ) → In s ss → is_link a s ≡ true) → WellFormed limit (removed_all top a ss)
unfolding removed_all
removed_all_keeps limit top a ok [] once links = ok
removed_all_keeps limit top a ok (s ∷ ss) once links =
    let ls = links s (in_here s ss) in
    removed_all_keeps limit top (removed top a s) (removed_keeps limit top a ok s ls) ss (once_rest s ss once)
    (λ x i. removed_other limit top a ok s x ls (links x (in_there x s ss i)) (λ e. once_first s ss once (rw (← e) i)))

module _ (limit top : ℕ) (a : Arena) (ok : WellFormed limit a) where
  drained : (p : Pointer) → stale a p ≡ false → WellFormed limit (removed_all top a (walk_from a p.slot))
  drained p fresh =
      let w = walk_gives_chain limit a ok p.slot (fresh_link a p fresh) in
      removed_all_keeps limit top a ok (walk_from a p.slot) w.once w.links

  pub drain_keeps : (p : Pointer) (report : List ℕ) → WellFormed limit (drain top a p report).arena
  unfolding drain
  drain_keeps p report = search (either_keeps, drained)
