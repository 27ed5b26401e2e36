-- What an arena laid out in the canonical order gives back: cut where next does not lead on to the slot above, its pieces came from the old chains,
-- one from each; the last link of an open piece has no next; and each old chain is on consecutive slots. Assumes nothing.
use Prim.Native.Nat.{ℕ, zero, suc, ◌<◌}
use mathlib.Core.Path.{◌≡◌, refl, sym, ap, ◌∙◌}
use mathlib.Core.Logic.{inl, inr}
use mathlib.Core.List.{List, [], map, flatten}
use native.Mathlib.Omega.{arith}
use lib.ListN.{length}
use Rattle.definitions.specs.Columns.{at, count, first_or, last_or, slots_from}
use Rattle.definitions.specs.Arena.{Arena}
use Rattle.statements.specs.Chains.{opened, IsChain, Chain, Like, nth, Listing, cut, marked, pieces, replaced}
use Rattle.definitions.specs.Compress.{relocate}
use Rattle.statements.specs.Demand3.{LiesFrom}
use Rattle.definitions.proofs.Count.{In, in_append, not_in_nil}
use Rattle.definitions.proofs.Linked.{in_first}
use Rattle.chains.proofs.Links.{Link, DoublyLinked}
use Rattle.chains.proofs.OneChain.{chain_links, chain_some, one_chain, like_length}
use Rattle.chains.proofs.Listings.{members_of, listing}
use Rattle.demand3.proofs.Order.{canonical_chains, canonical_order, canonical_laid, canonical_order_lem}
use Rattle.demand3.proofs.Pieces.{Match, match_nil, match_cons, PieceOf, marked_members, all_pieces}

module _ (a : Arena) (w : List ℕ) (next : ℕ → ℕ) where
  -- the chains that the pieces came from
  abbrev came : List (List ℕ) → List Chain
  came ps = map (replaced (at w)) (map (marked next) ps)

  match_members : (ps cs : List (List ℕ)) → Match (PieceOf a w next) ps cs → members_of (came ps) ≡ cs
  unfolding replaced marked
  match_members ps cs match_nil = refl
  match_members ps cs (match_cons {ps = ps'} {cs = cs'} b m) = let t : members_of (came ps') ≡ cs' = match_members ps' cs' m in let h = b.came in cc

  match_chains : (ps cs : List (List ℕ)) → Match (PieceOf a w next) ps cs → (k : ℕ) → k < length (came ps) → IsChain a (nth (came ps) k).kind (nth (came ps) k).members
  unfolding replaced nth
  match_chains ps cs match_nil k h = absurd (omega arith)
  match_chains ps cs (match_cons {p = p} b m) zero h = rw (marked_members next p, b.came) b.chain
  match_chains ps cs (match_cons {ps = ps'} {cs = cs'} b m) (suc k) h = match_chains ps' cs' m k (omega arith)

  match_ends : (ps cs : List (List ℕ)) → Match (PieceOf a w next) ps cs → (k : ℕ) → k < length (map (marked next) ps) → (nth (map (marked next) ps) k).kind ≡ opened →
      next (last_or 0 (nth (map (marked next) ps) k).members) ≡ 0
  unfolding nth
  match_ends ps cs match_nil k h e = absurd (omega arith)
  match_ends ps cs (match_cons {p = p} b m) zero h e = rw (marked_members next p) (b.ends e)
  match_ends ps cs (match_cons {ps = ps'} {cs = cs'} b m) (suc k) h e = match_ends ps' cs' m k (omega arith) e

  -- the piece of a link
  match_find : (ps cs : List (List ℕ)) → Match (PieceOf a w next) ps cs → (x : ℕ) → In x (flatten cs) → (p : List ℕ) × (c : List ℕ) × PieceOf a w next p c × In x c
  unfolding flatten
  match_find ps cs match_nil x i = absurd (not_in_nil x i)
  match_find ps cs (match_cons {p = p} {c = c} {ps = ps'} {cs = cs'} b m) x i =
      elim (in_append x c (flatten cs') i) [ inl j ↦ (p, c, b, j) | inr j ↦ match_find ps' cs' m x j ]

module _ (a : Arena) (linked : DoublyLinked a) (g : ℕ) where
  abbrev w : List ℕ
  w = canonical_order a

  abbrev b : Arena
  b = relocate (canonical_order a) g a

  -- piece by piece
  pub canonical_pieces : Match (PieceOf a (canonical_order a) (at (relocate (canonical_order a) g a).next)) (cut (at (relocate (canonical_order a) g a).next) (slots_from 1 (length (canonical_order a)))) (canonical_chains a)
  unfolding canonical_order
  canonical_pieces = all_pieces a w (canonical_order_lem a linked) g [] (canonical_chains a) refl (canonical_laid a linked).chains

  each_link : (x : ℕ) → Link a x → count x (flatten (canonical_chains a)) ≡ 1
  unfolding canonical_order
  each_link x h = (canonical_order_lem a linked).each x h

  pub pieces_are_chains : Listing a (map (replaced (at (canonical_order a))) (pieces (at (relocate (canonical_order a) g a).next) (length (canonical_order a))))
  unfolding pieces
  pieces_are_chains =
      let ps = cut (at b.next) (slots_from 1 (length w)) in
      listing a linked (map (replaced (at w)) (map (marked (at b.next)) ps)) (match_chains a w (at b.next) ps (canonical_chains a) canonical_pieces)
      (λ x h. rw (match_members a w (at b.next) ps (canonical_chains a) canonical_pieces) (each_link x h))

  pub open_pieces_end : (k : ℕ) → k < length (pieces (at (relocate (canonical_order a) g a).next) (length (canonical_order a))) → (nth (pieces (at (relocate (canonical_order a) g a).next) (length (canonical_order a))) k).kind ≡ opened →
      at (relocate (canonical_order a) g a).next (last_or 0 (nth (pieces (at (relocate (canonical_order a) g a).next) (length (canonical_order a))) k).members) ≡ 0
  unfolding pieces
  open_pieces_end = match_ends a w (at b.next) (cut (at b.next) (slots_from 1 (length w))) (canonical_chains a) canonical_pieces

  pub chains_lie : (c : Chain) → IsChain a c.kind c.members → (s : ℕ) × LiesFrom (relocate (canonical_order a) g a) (canonical_order a) (length (canonical_order a)) c s
  chains_lie c h =
      let x = first_or 0 c.members in
      let i : In x c.members = in_first 0 c.members (chain_some a c.kind c.members h) in
      let r = match_find a w (at b.next) (cut (at b.next) (slots_from 1 (length w))) (canonical_chains a) canonical_pieces x (omega (arith, each_link x (chain_links a c.kind c.members h x i))) in
      let p = r.0 in
      let d = r.1 in
      let q = r.2 in
      let l = one_chain a linked (marked (at b.next) p).kind c.kind d c.members q.chain h x r.3 i in
      let alike : Like c.kind d c.members = rw l.0 at l.1 in
      let n : length d ≡ length c.members = like_length c.kind d c.members alike in
      let e : map (at w) (slots_from q.slot (length c.members)) ≡ d =
      ap (λ (m : ℕ). map (at w) (slots_from q.slot m)) (sym n) ∙ (ap (map (at w)) (sym q.on) ∙ q.came) in (
        q.slot,
        record {
          some = q.low;
          within = omega (arith, n, q.high);
          came = rw e alike;
          following = λ t m k. q.following t m (omega (arith, n));
        },
      )
