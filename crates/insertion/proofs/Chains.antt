-- Laws of chains that insertion needs: two arenas that agree on a chain's links, no link comes twice, a list by its last, and a closed chain that
-- starts elsewhere; and the chain of a link, of a last link, of a first link. Assumes nothing.
use Prim.Native.Nat.{ℕ}
use mathlib.Core.Path.{◌≡◌, refl, sym, ap, ◌∙◌}
use mathlib.Core.Logic.{inl, inr}
use mathlib.Core.List.{List, [], ◌∷◌, ◌++◌}
use native.Mathlib.Omega.{arith}
use Rattle.definitions.specs.Columns.{at, first_or, last_or, Linked}
use Rattle.definitions.specs.Arena.{Arena}
use Rattle.statements.specs.Chains.{Kind, opened, closed, IsOpen, IsClosed, IsChain}
use Rattle.definitions.proofs.Slots.{count_append}
use Rattle.definitions.proofs.Count.{In, Once, in_here, in_there, in_left, in_right, in_split, in_cases}
use Rattle.definitions.proofs.Linked.{first_append, in_first, in_last, linked_split, linked_last, linked_agree}
use Rattle.chains.proofs.Runs.{linked_cons, linked_first}
use Rattle.chains.proofs.Links.{Link, DoublyLinked, link_nonzero, prev_of_next}
use Rattle.chains.proofs.OneChain.{chain_links, chain_some, closed_next, closed_prev, one_chain, like_count}
use Rattle.chains.proofs.Find.{chain_from, chain_of}

-- a list by its last
pub by_last : (x : ℕ) (xs : List ℕ) → (w : List ℕ) × (x ∷ xs ≡ w ++ last_or x xs ∷ [])
unfolding last_or
by_last x [] = ([], refl)
by_last x (y ∷ ys) = let r = by_last y ys in (x ∷ r.0, ap (λ (l : List ℕ). x ∷ l) r.1)

-- b has the links of a chain of a, with the same prev and next
pub agree_chain : (a b : Arena) (k : Kind) (c : List ℕ) → IsChain a k c → ((s : ℕ) → In s c → Link b s)
    → ((s : ℕ) → In s c → at a.next s ≡ at b.next s) → ((s : ℕ) → In s c → at b.prev s ≡ at a.prev s) → IsChain b k c
unfolding IsChain
agree_chain a b opened c h links next prev = record {
  some = h.some;
  links = links;
  starts = prev (first_or 0 c) (in_first 0 c h.some) ∙ h.starts;
  linked = linked_agree (at a.next) (at b.next) c 0 next h.linked;
}
agree_chain a b closed c h links next prev = record { some = h.some; links = links; once = h.once; linked = linked_agree (at a.next) (at b.next) c _ next h.linked }

-- a closed chain that starts at its last link
pub turned : (a : Arena) (c : List ℕ) (t : ℕ) → IsClosed a (c ++ t ∷ []) → IsClosed a (t ∷ c)
unfolding first_or
turned a c t h =
    let l = linked_split (at a.next) c (t ∷ []) _ h.linked in
    record {
      some = λ e. (let z : ◌≡◌ {A = ℕ} 0 1 = cc in omega arith);
      links = λ s i. elim (in_cases s t c i) [ inl e ↦ rw e (h.links t (in_right t c (t ∷ []) (in_here t []))) | inr j ↦ h.links s (in_left s c (t ∷ []) j) ];
      once = λ x. omega (arith, h.once x, count_append x c (t ∷ []), count_append x (t ∷ []) c);
      linked = linked_cons (at a.next) t c t (linked_first (at a.next) t [] _ l.1 ∙ first_append 0 c (t ∷ [])) l.0;
    }

module _ (a : Arena) (linked : DoublyLinked a) where
  pub chain_once : (k : Kind) (c : List ℕ) → IsChain a k c → Once c
  chain_once k c h x =
      let s = first_or 0 c in
      let i = in_first 0 c (chain_some a k c h) in
      let its = chain_of a linked s (chain_links a k c h s i) in
      let same = one_chain a linked its.kind k (chain_from a s) c its.chain h s its.has i in
      omega (arith, its.once x, like_count its.kind (chain_from a s) c same.1 x)

  -- the chain of a link
  pub on_chain : (s : ℕ) → Link a s → (k : Kind) × (c : List ℕ) × (e : List ℕ) × IsChain a k (c ++ s ∷ e)
  on_chain s l =
      let its = chain_of a linked s l in
      let r = in_split s (chain_from a s) its.has in
      (its.kind, r.0, r.1, rw r.2 at its.chain)

  -- of a link without next, and without prev
  ends : (s : ℕ) → at a.next s ≡ 0 → (k : Kind) (c e : List ℕ) → IsChain a k (c ++ s ∷ e) → (c : List ℕ) × IsOpen a (c ++ s ∷ [])
  unfolding IsChain Linked first_or
  ends s z closed c e h = absurd (closed_next a linked h s (in_right s c (s ∷ e) (in_here s e)) z)
  ends s z opened c [] h = (c, h)
  ends s z opened c (y ∷ ys) h =
      let ahead = (linked_split (at a.next) c (s ∷ y ∷ ys) 0 h.linked).1.0 in
      absurd (link_nonzero a y (h.links y (in_right y c (s ∷ y ∷ ys) (in_there y s (y ∷ ys) (in_here y ys)))) (sym ahead ∙ z))

  pub end_chain : (s : ℕ) → Link a s → at a.next s ≡ 0 → (c : List ℕ) × IsOpen a (c ++ s ∷ [])
  end_chain s l z = let r = on_chain s l in ends s z r.0 r.1 r.2 r.3

  starts : (s : ℕ) → at a.prev s ≡ 0 → (k : Kind) (c e : List ℕ) → IsChain a k (c ++ s ∷ e) → (c : List ℕ) × IsOpen a (s ∷ c)
  unfolding IsChain first_or
  starts s z closed c e h = absurd (closed_prev a linked h s (in_right s c (s ∷ e) (in_here s e)) z)
  starts s z opened [] e h = (e, h)
  starts s z opened (y ∷ ys) e h =
      let back = linked_last (at a.next) y ys s (linked_split (at a.next) (y ∷ ys) (s ∷ e) 0 h.linked).0 in
      let last = h.links (last_or y ys) (in_left (last_or y ys) (y ∷ ys) (s ∷ e) (in_last y ys)) in
      let here = h.links s (in_right s (y ∷ ys) (s ∷ e) (in_here s e)) in
      absurd (link_nonzero a (last_or y ys) last (sym (prev_of_next a linked (last_or y ys) s last here back) ∙ z))

  pub start_chain : (s : ℕ) → Link a s → at a.prev s ≡ 0 → (c : List ℕ) × IsOpen a (s ∷ c)
  start_chain s l z = let r = on_chain s l in starts s z r.0 r.1 r.2 r.3
