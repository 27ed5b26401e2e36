-- Draining different links one after the other: each is a link still when its turn comes, and what is left is the arena without them. Assumes nothing.
use Prim.Native.Nat.{ℕ}
use mathlib.Core.Path.{◌≡◌, refl, ◌∙◌}
use mathlib.Core.Logic.{inl, inr}
use mathlib.Core.Bool.{true, false}
use mathlib.Core.List.{List, [], ◌∷◌}
use Rattle.definitions.specs.Columns.{at}
use Rattle.definitions.specs.Arena.{Arena, is_link}
use Rattle.definitions.specs.Remove.{removed, removed_all}
use Rattle.definitions.proofs.Count.{In, in_here, in_there, in_cases, not_in_nil, once_rest, once_first}
use Rattle.definitions.proofs.Tests.{by_test}
use Rattle.kept.proofs.Removal.{removed_keeps, removed_other}
use Rattle.drains.specs.Drainable.{Drainable}
use Rattle.statements.specs.DrainsChain.{Untouched}
use Rattle.drains.proofs.Removed.{removed_was, removed_untouched}

-- the first is removed, and the others can be drained
pub drainable_rest : (limit top : ℕ) (a : Arena) (s : ℕ) (ss : List ℕ) → Drainable limit a (s ∷ ss) → Drainable limit (removed top a s) ss
drainable_rest limit top a s ss can =
    let link = can.links s (in_here s ss) in
    record {
      arena = removed_keeps limit top a can.arena s link;
      links = λ x i. removed_other limit top a can.arena s x link (can.links x (in_there x s ss i)) (λ e. once_first s ss can.once (rw (← e) i));
      once = once_rest s ss can.once;
    }

-- the links that are left are links that were there, and none of those drained
pub drained_was : (limit top : ℕ) (a : Arena) (ss : List ℕ) → Drainable limit a ss → (x : ℕ) → is_link (removed_all top a ss) x ≡ true → (is_link a x ≡ true) × (In x ss → ⊥)
unfolding removed_all
drained_was limit top a [] can x lx = (lx, not_in_nil x)
drained_was limit top a (s ∷ ss) can x lx =
    let later = drained_was limit top (removed top a s) ss (drainable_rest limit top a s ss can) x lx in
    let first = removed_was limit top a can.arena s (can.links s (in_here s ss)) x later.0 in
    (first.0, λ i. elim (in_cases x s ss i) [ inl e ↦ first.1 e | inr j ↦ later.1 j ])

pub drained_gone : (limit top : ℕ) (a : Arena) (ss : List ℕ) → Drainable limit a ss → (x : ℕ) → In x ss → is_link (removed_all top a ss) x ≡ false
drained_gone limit top a ss can x i = by_test (is_link (removed_all top a ss) x) (λ lx. absurd ((drained_was limit top a ss can x lx).1 i)) (λ e. e)

-- untouched after untouched
both_untouched : (a b c : Arena) (x : ℕ) → Untouched a b x → Untouched b c x → Untouched a c x
both_untouched a b c x f g = record {
  link = g.link;
  prev = g.prev ∙ f.prev;
  next = g.next ∙ f.next;
  generation = g.generation ∙ f.generation;
  payload = g.payload ∙ f.payload;
}

-- a link that is not drained, and whose neighbours are not, has no word changed
pub drained_untouched :
    (limit top : ℕ) (a : Arena) (ss : List ℕ) → Drainable limit a ss → (x : ℕ) → is_link a x ≡ true → (In x ss → ⊥) → (In (at a.prev x) ss → ⊥) → (In (at a.next x) ss → ⊥)
    → Untouched a (removed_all top a ss) x
unfolding removed_all
drained_untouched limit top a [] can x lx out before after = record { link = lx; prev = refl; next = refl; generation = refl; payload = refl }
drained_untouched limit top a (s ∷ ss) can x lx out before after =
    let not_first : (y : ℕ) → (In y (s ∷ ss) → ⊥) → y ≡ s → ⊥ = λ y o e. o (rw e (in_here s ss)) in
    let not-later : (y : ℕ) → (In y (s ∷ ss) → ⊥) → In y ss → ⊥ = λ y o i. o (in_there y s ss i) in
    let once = removed_untouched limit top a can.arena s (can.links s (in_here s ss)) x lx (not_first x out) (not_first (at a.prev x) before) (not_first (at a.next x) after) in
    both_untouched a (removed top a s) (removed_all top (removed top a s) ss) x once
    (drained_untouched limit top (removed top a s) ss (drainable_rest limit top a s ss can) x once.link (not-later x out) (rw once.prev (not-later (at a.prev x) before))
    (rw once.next (not-later (at a.next x) after)))
