-- Two arenas that are compressed to the same next and payload words held the same: the same slots are cut into the same pieces, and piece by piece
-- the payloads are the same. Assumes nothing.
use Prim.Native.Nat.{ℕ, zero, suc, ◌≤◌, ◌<◌}
use mathlib.Core.Path.{◌≡◌, refl, sym, ap, subst, ◌∙◌}
use mathlib.Core.Logic.{◌≢◌}
use mathlib.Core.List.{List, [], ◌∷◌, map}
use native.Mathlib.Omega.{arith}
use lib.ListN.{length, length-map}
use Rattle.definitions.specs.Columns.{at, last_or, slots_from}
use Rattle.definitions.specs.Arena.{Arena, link_count}
use Rattle.statements.specs.Chains.{Chain, Alike, nth, cut, marked, pieces, replaced, Paired, HoldTheSame}
use Rattle.definitions.specs.Compress.{relocate}
use Rattle.statements.specs.Demand3.{Agree, Compressed}
use Rattle.definitions.proofs.Count.{In, in_here, in_there, in_slots}
use Rattle.definitions.proofs.Linked.{in_last}
use Rattle.chains.proofs.Links.{DoublyLinked, well_formed_linked}
use Rattle.chains.proofs.OneChain.{chain_some}
use Rattle.chains.proofs.Listings.{like_refl}
use Rattle.renaming.proofs.Relocated.{new_payload}
use Rattle.demand3.proofs.Order.{canonical_order, canonical_chains, canonical_order_lem}
use Rattle.demand3.proofs.Pieces.{Match, match_nil, match_cons, PieceOf}
use Rattle.demand3.proofs.PiecesAreChains.{canonical_pieces, pieces_are_chains}
use Rattle.demand3.proofs.Accepted.{what_is_left}

-- ---- two ways to go on that agree cut and mark alike

cut_agree : (next same : ℕ → ℕ) (ss : List ℕ) → ((s : ℕ) → In s ss → next s ≡ same s) → cut next ss ≡ cut same ss
unfolding cut
cut_agree next same [] h = refl
cut_agree next same (s ∷ ss) h = rw (h s (in_here s ss), cut_agree next same ss (λ x i. h x (in_there x s ss i)))

mark_agree : (next same : ℕ → ℕ) (p : List ℕ) → next (last_or 0 p) ≡ same (last_or 0 p) → marked next p ≡ marked same p
unfolding marked
mark_agree next same p e = rw e

map_agree : (f g : ℕ → ℕ) (xs : List ℕ) → ((x : ℕ) → In x xs → f x ≡ g x) → map f xs ≡ map g xs
map_agree f g [] h = refl
map_agree f g (x ∷ xs) h =
    let e : f x ≡ g x = h x (in_here x xs) in
    let t : map f xs ≡ map g xs = map_agree f g xs (λ y i. h y (in_there y x xs i)) in
    cc

map-map : (f g : ℕ → ℕ) (xs : List ℕ) → map f (map g xs) ≡ map (λ x. f (g x)) xs
map-map f g [] = refl
map-map f g (x ∷ xs) = ap (λ (l : List ℕ). f (g x) ∷ l) (map-map f g xs)

last_in : (z : ℕ) (xs : List ℕ) → xs ≢ [] → In (last_or z xs) xs
last_in z [] d = absurd (d refl)
last_in z (x ∷ xs) d = unfold last_or in in_last x xs

-- ---- piece by piece

module _ (a b : Arena) (v w : List ℕ) (next same : ℕ → ℕ) (n : ℕ) (size : length v ≡ n)
    (nexts : (s : ℕ) → 1 ≤ s → s ≤ n → next s ≡ same s) (pays : (s : ℕ) → 1 ≤ s → s ≤ n → at a.payload (at v s) ≡ at b.payload (at w s)) where
  abbrev payloads : Chain → Chain → Type 0
  payloads c d = Alike (replaced (at a.payload) c) (replaced (at b.payload) d)

  module _ (p c : List ℕ) (q : PieceOf a v next p c) where
    piece_within : (s : ℕ) → In s p → (1 ≤ s) × (s ≤ n)
    piece_within s i =
        let r = in_slots s q.slot (length c) (rw q.on at i) in
        (omega (arith, r.0, q.low), omega (arith, r.1, q.high, size))

    piece_some : p ≢ []
    piece_some e = chain_some a (marked next p).kind c q.chain (sym q.came ∙ ap (map (at v)) e)

    piece_alike : payloads (replaced (at v) (marked next p)) (replaced (at w) (marked same p))
    unfolding replaced Alike
    piece_alike = rw (← (mark_agree next same p ends)) (refl, like_refl (marked next p).kind _ _ (words (marked next p).members (unfold marked in refl)))
      where
        ends : next (last_or 0 p) ≡ same (last_or 0 p)
        ends = let r = piece_within (last_or 0 p) (last_in 0 p piece_some) in nexts (last_or 0 p) r.0 r.1

        words : (m : List ℕ) → m ≡ p → map (at a.payload) (map (at v) m) ≡ map (at b.payload) (map (at w) m)
        words m e =
            rw e
            (map-map (at a.payload) (at v) p ∙
            (map_agree (λ x. at a.payload (at v x)) (λ x. at b.payload (at w x)) p (λ s i. let r = piece_within s i in pays s r.0 r.1) ∙ sym (map-map (at b.payload) (at w) p)))

  pieces_alike : (ps cs : List (List ℕ)) → Match (PieceOf a v next) ps cs → (k : ℕ) → k < length (map (replaced (at v)) (map (marked next) ps)) →
      payloads (nth (map (replaced (at v)) (map (marked next) ps)) k) (nth (map (replaced (at w)) (map (marked same) ps)) k)
  unfolding nth
  pieces_alike ps cs match_nil k h = absurd (omega arith)
  pieces_alike ps cs (match_cons {p = p} {c = c} q m) zero h = piece_alike p c q
  pieces_alike ps cs (match_cons {ps = ps'} {cs = cs'} q m) (suc k) h = pieces_alike ps' cs' m k (omega arith)

-- ---- the two arenas

module _ (a b : Arena) (linkedA : DoublyLinked a) (linked_b : DoublyLinked b) (g h : ℕ) where
  abbrev v : List ℕ
  v = canonical_order a

  abbrev w : List ℕ
  w = canonical_order b

  abbrev next_a : ℕ → ℕ
  next_a s = at (relocate (canonical_order a) g a).next s

  abbrev next_b : ℕ → ℕ
  next_b s = at (relocate (canonical_order b) h b).next s

  module _ (sizes : length (canonical_order a) ≡ length (canonical_order b)) (agree : Agree (relocate (canonical_order a) g a) (relocate (canonical_order b) h b) (length (canonical_order a))) where
    pays : (s : ℕ) → 1 ≤ s → s ≤ length v → at a.payload (at v s) ≡ at b.payload (at w s)
    pays s l m = sym (new_payload a v (canonical_order_lem a linkedA) g s l m) ∙ (agree.payload s l m ∙ new_payload b w (canonical_order_lem b linked_b) h s l (omega (arith, sizes)))

    -- the slots are cut alike
    cuts : cut next_a (slots_from 1 (length v)) ≡ cut next_b (slots_from 1 (length w))
    cuts =
        cut_agree next_a next_b (slots_from 1 (length v)) (λ s i. let r = in_slots s 1 (length v) i in agree.next s r.0 (omega (arith, r.1))) ∙ ap (λ (m : ℕ). cut next_b (slots_from 1 m)) sizes

    same_pieces : map (replaced (at w)) (pieces next_b (length w)) ≡ map (replaced (at w)) (map (marked next_b) (cut next_a (slots_from 1 (length v))))
    unfolding pieces
    same_pieces = ap (λ (ps : List (List ℕ)). map (replaced (at w)) (map (marked next_b) ps)) (sym cuts)

    pub hold_the_same : HoldTheSame a b
    hold_the_same =
        record {
          of_a = map (replaced (at v)) (pieces next_a (length v));
          of_b = map (replaced (at w)) (pieces next_b (length w));
          all_a = pieces_are_chains a linkedA g;
          all_b = pieces_are_chains b linked_b h;
          paired = rw same_pieces (unfold pieces in paired (cut next_a (slots_from 1 (length v))) (canonical_pieces a linkedA g));
        }
      where
        paired : (ps : List (List ℕ)) → Match (PieceOf a v next_a) ps (canonical_chains a) →
            Paired (λ c d. Alike (replaced (at a.payload) c) (replaced (at b.payload) d)) (map (replaced (at v)) (map (marked next_a) ps)) (map (replaced (at w)) (map (marked next_b) ps))
        paired ps m =
            record {
              to = λ k. k;
              size = long;
              within = λ k l. omega (arith, long);
              once = λ j k lj lk e. e;
              like = pieces_alike a b v w next_a next_b (length v) refl (λ s l m. agree.next s l m) pays ps (canonical_chains a) m;
            }
          where
            long : length (map (replaced (at v)) (map (marked next_a) ps)) ≡ length (map (replaced (at w)) (map (marked next_b) ps))
            long =
                omega (
                  arith,
                  length-map (map (marked next_a) ps) (replaced (at v)),
                  length-map (map (marked next_b) ps) (replaced (at w)),
                  length-map ps (marked next_a),
                  length-map ps (marked next_b),
                )

pub same_chains : (limit top : ℕ) (a b a' b' : Arena) (colA colB : List ℕ) → Compressed limit top a a' colA → Compressed limit top b b' colB → link_count a ≡ link_count b → Agree a' b' (link_count a) → HoldTheSame a b
same_chains limit top a b a' b' colA colB x y n agree =
    let l = what_is_left limit top a a' colA x in
    let r = what_is_left limit top b b' colB y in
    hold_the_same a b (well_formed_linked l.ok) (well_formed_linked r.ok) l.g r.g (l.size ∙ (n ∙ sym r.size))
    (subst (λ (m : ℕ). Agree (relocate (canonical_order a) l.g a) (relocate (canonical_order b) r.g b) m) (sym l.size)
    (subst (λ (z : Arena). Agree (relocate (canonical_order a) l.g a) z (link_count a)) r.is (subst (λ (z : Arena). Agree z b' (link_count a)) l.is agree)))
