-- The walk from p over a chain that is listed: of an open chain it gives p and what is after it, then what is before it, backwards; of a closed chain
-- listed from p, that list. The chain of p is the only one that p is on, and p stands in it once. Assumes nothing.
use Prim.Native.Nat.{ℕ, ◌≤◌}
use mathlib.Core.Path.{◌≡◌, refl, sym, ap, ap₂, ◌∙◌}
use mathlib.Core.List.{List, [], ◌∷◌, ◌++◌, reverse, append-nil}
use native.Mathlib.Omega.{arith}
use Rattle.definitions.specs.Columns.{count}
use Rattle.definitions.specs.Arena.{Arena}
use Rattle.definitions.specs.Check.{WellFormed}
use Rattle.statements.specs.Chains.{opened, closed, IsOpen, IsClosed, IsChain, Rotation, Like}
use Rattle.definitions.specs.Walk.{walk_from}
use Rattle.definitions.proofs.Slots.{count_here, count_append}
use Rattle.definitions.proofs.Count.{In, in_here, in_right, count_first, count_grows}
use Rattle.chains.proofs.Links.{DoublyLinked, well_formed_linked}
use Rattle.chains.proofs.OneChain.{one_chain}
use Rattle.chains.proofs.Find.{chain_from, chain_of}
use Rattle.walks.proofs.Walks.{walk_gives_chain}

-- a list in which p stands once is parted at p in one way
same_parts : (p : ℕ) (u v b w : List ℕ) → u ++ p ∷ v ≡ b ++ p ∷ w → count p (u ++ p ∷ v) ≤ 1 → (u ≡ b) × (v ≡ w)
same_parts p [] v [] w e once = (refl, cc)
same_parts p [] v (x ∷ b) w e once =
    let rest : v ≡ b ++ p ∷ w = cc in
    absurd (omega (arith, count_here p v, ap (count p) rest, in_right p b (p ∷ w) (in_here p w)))
same_parts p (x ∷ u) v [] w e once =
    let here : p ≡ x = cc in
    absurd (omega (arith, count_first p x (u ++ p ∷ v) here, in_right p u (p ∷ v) (in_here p v)))
same_parts p (x ∷ u) v (y ∷ b) w e once =
    let rest : u ++ p ∷ v ≡ b ++ p ∷ w = cc in
    let here : x ≡ y = cc in
    let parts = same_parts p u v b w rest (omega (arith, count_grows p x (u ++ p ∷ v))) in
    (ap₂ (λ (h : ℕ) (t : List ℕ). h ∷ t) here parts.0, parts.1)

-- a rotation that starts with p again, where p stands once, is the list itself
same_round : (p : ℕ) (v w x y : List ℕ) → p ∷ v ≡ x ++ y → p ∷ w ≡ y ++ x → count p (p ∷ v) ≤ 1 → v ≡ w
same_round p v w [] y e f once = let g : p ∷ w ≡ y = f ∙ append-nil y in cc
same_round p v w (h ∷ x) [] e f once = let g : p ∷ v ≡ h ∷ x = e ∙ append-nil (h ∷ x) in cc
same_round p v w (h ∷ x) (k ∷ y) e f once =
    let left : p ≡ h = cc in
    let right : p ≡ k = cc in
    absurd (omega (arith, ap (count p) e, count_append p (h ∷ x) (k ∷ y), count_first p h x left, count_first p k y right))

module _ (limit : ℕ) (a : Arena) (ok : WellFormed limit a) where
  linked : DoublyLinked a
  linked = well_formed_linked ok

  -- no link stands twice in an open chain
  open_once : (c : List ℕ) (p : ℕ) → IsOpen a c → In p c → count p c ≤ 1
  unfolding IsChain Like
  open_once c p o i =
      let found = chain_of a linked p (o.links p i) in
      let same = one_chain a linked opened found.kind c (chain_from a p) o found.chain p i found.has in
      omega (arith, ap (count p) same.1, found.once p)

  pub walk_open : (p : ℕ) (u v : List ℕ) → IsOpen a (u ++ p ∷ v) → walk_from a p ≡ (p ∷ v) ++ reverse u
  unfolding IsChain Like
  walk_open p u v o =
      let on : In p (u ++ p ∷ v) = in_right p u (p ∷ v) (in_here p v) in
      let s = (walk_gives_chain limit a ok p (o.links p on)).order in
      let same = one_chain a linked opened s.kind (u ++ p ∷ v) (s.before ++ p ∷ s.after) o s.chain p on (in_right p s.before (p ∷ s.after) (in_here p s.after)) in
      let parts = same_parts p u v s.before s.after same.1 (open_once (u ++ p ∷ v) p o on) in
      s.order ∙ ap₂ (λ (b w : List ℕ). p ∷ w ++ reverse b) (sym parts.0) (sym parts.1)

  pub walk_closed : (p : ℕ) (v : List ℕ) → IsClosed a (p ∷ v) → walk_from a p ≡ p ∷ v
  unfolding IsChain Like Rotation
  walk_closed p v o =
      let s = (walk_gives_chain limit a ok p (o.links p (in_here p v))).order in
      let same = one_chain a linked closed s.kind (p ∷ v) (s.before ++ p ∷ s.after) o s.chain p (in_here p v) (in_right p s.before (p ∷ s.after) (in_here p s.after)) in
      let none : s.before ≡ [] = s.round (sym same.0) in
      let turned : p ∷ s.after ≡ same.1.1 ++ same.1.0 = ap (λ (b : List ℕ). b ++ p ∷ s.after) (sym none) ∙ same.1.3 in
      let rest : v ≡ s.after = same_round p v s.after same.1.0 same.1.1 same.1.2 turned (o.once p) in
      s.order ∙ ap₂ (λ (b w : List ℕ). p ∷ w ++ reverse b) none (sym rest) ∙ ap (λ (l : List ℕ). p ∷ l) (append-nil v)
