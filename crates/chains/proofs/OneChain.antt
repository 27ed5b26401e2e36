-- Two chains of a doubly linked arena that share a link are the same chain. Back along prev from the shared link, the first of the one is a link of
-- the other; from there on next decides. Assumes nothing.
use Prim.Native.Nat.{ℕ, ◌≤◌}
use mathlib.Core.Path.{◌≡◌, refl, sym, ap, ◌∙◌}
use mathlib.Core.Logic.{◌≢◌, ◌⊎◌, inl, inr}
use mathlib.Core.List.{List, [], ◌∷◌, ◌++◌}
use native.Mathlib.Omega.{arith}
use native.Mathlib.Decide.{ℕ_discrete}
use lib.ListN.{length, length-append}
use Rattle.definitions.specs.Columns.{at, count, first_or, Linked}
use Rattle.definitions.specs.Arena.{Arena}
use Rattle.statements.specs.Chains.{Kind, opened, closed, IsOpen, IsClosed, IsChain, Rotation, Like}
use Rattle.definitions.proofs.Slots.{count_here, count_append}
use Rattle.definitions.proofs.Count.{In, in_here, in_there, in_split, in_left, not_in_nil}
use Rattle.definitions.proofs.Linked.{first_append, in_first, linked_join, linked_split, next_in, follows, end_follows, same_run}
use Rattle.chains.proofs.Runs.{first_some}
use Rattle.chains.proofs.Links.{Link, AllLinks, DoublyLinked, link_nonzero, links_first, no_zero, prev_of_next}

module _ (a : Arena) where
  -- a chain of either kind: the end is none, and the first has no prev; or the end is the first
  pub record Run (c : List ℕ) (z : ℕ) : Type 0 where
    pub some : c ≢ []
    pub links : AllLinks a c
    pub linked : Linked (at a.next) c z
    pub ends : ((z ≡ 0) × (at a.prev (first_or 0 c) ≡ 0)) ⊎ (z ≡ first_or 0 c)

  pub open_run : {c : List ℕ} → IsOpen a c → Run c 0
  open_run o = record { some = o.some; links = o.links; linked = o.linked; ends = inl (refl, o.starts) }

  pub closed_run : {c : List ℕ} → IsClosed a c → Run c (first_or 0 c)
  closed_run o = record { some = o.some; links = o.links; linked = o.linked; ends = inr refl }

  pub chain_run : (k : Kind) (c : List ℕ) → IsChain a k c → (z : ℕ) × Run c z
  unfolding IsChain
  chain_run opened c h = (0, open_run h)
  chain_run closed c h = (first_or 0 c, closed_run h)

  pub chain_links : (k : Kind) (c : List ℕ) → IsChain a k c → AllLinks a c
  chain_links k c h = (chain_run k c h).1.links

  pub chain_some : (k : Kind) (c : List ℕ) → IsChain a k c → c ≢ []
  chain_some k c h = (chain_run k c h).1.some

  -- a run holds the next of its members
  pub run_next : {c : List ℕ} {z : ℕ} → Run c z → (x : ℕ) → In x c → at a.next x ≢ 0 → In (at a.next x) c
  run_next {c} {z} r x i h = go (next_in (at a.next) c z x r.linked i) r.ends
    where
      go : In (at a.next x) c ⊎ (at a.next x ≡ z) → ((z ≡ 0) × (at a.prev (first_or 0 c) ≡ 0)) ⊎ (z ≡ first_or 0 c) → In (at a.next x) c
      go (inl j) e = j
      go (inr k) (inl e) = absurd (h (k ∙ e.0))
      go (inr k) (inr e) = rw (k, e) (in_first 0 c r.some)

  module _ (linked : DoublyLinked a) where
    -- and their prev
    pub run_prev : {c : List ℕ} {z : ℕ} → Run c z → (x : ℕ) → In x c → at a.prev x ≢ 0 → In (at a.prev x) c
    run_prev {c} {z} r x i h = go r.ends (ℕ_discrete x (first_or z c))
      where
        named : (q : (u : ℕ) × In u c × (at a.next u ≡ x)) → In (at a.prev x) c
        named q = rw (prev_of_next a linked q.0 x (r.links q.0 q.1) (r.links x i) q.2) q.1

        go : ((z ≡ 0) × (at a.prev (first_or 0 c) ≡ 0)) ⊎ (z ≡ first_or 0 c) → Dec (x ≡ first_or z c) → In (at a.prev x) c
        go st (no d) = named (follows (at a.next) c z x r.linked i d)
        go (inl e) (yes d) = absurd (h (ap (at a.prev) (d ∙ first_some z 0 c r.some) ∙ e.1))
        go (inr e) (yes d) =
            let q = end_follows (at a.next) c z r.linked r.some in
            named (q.0, q.1, q.2 ∙ (e ∙ (first_some 0 z c r.some ∙ sym d)))

    -- on a closed chain every link has a prev and a next
    pub closed_next : {c : List ℕ} → IsClosed a c → (x : ℕ) → In x c → at a.next x ≢ 0
    closed_next {c} o x i z =
        elim (next_in (at a.next) c (first_or 0 c) x o.linked i) [
          | inl j ↦ link_nonzero a (at a.next x) (o.links (at a.next x) j) z
          | inr e ↦ link_nonzero a (first_or 0 c) (o.links (first_or 0 c) (in_first 0 c o.some)) (sym e ∙ z)
        ]

    pub closed_prev : {c : List ℕ} → IsClosed a c → (x : ℕ) → In x c → at a.prev x ≢ 0
    closed_prev {c} o x i z = go (ℕ_discrete x (first_or (first_or 0 c) c))
      where
        named : (q : (u : ℕ) × In u c × (at a.next u ≡ x)) → ⊥
        named q = link_nonzero a q.0 (o.links q.0 q.1) (sym (prev_of_next a linked q.0 x (o.links q.0 q.1) (o.links x i) q.2) ∙ z)

        go : Dec (x ≡ first_or (first_or 0 c) c) → ⊥
        go (yes d) = let q = end_follows (at a.next) c (first_or 0 c) o.linked o.some in named (q.0, q.1, q.2 ∙ (first_some 0 (first_or 0 c) c o.some ∙ sym d))
        go (no d) = named (follows (at a.next) c (first_or 0 c) x o.linked i d)

    -- back along a run of links that ends at a member: its first is a member
    pub backward : {d : List ℕ} {z : ℕ} → Run d z → (xs : List ℕ) (y : ℕ) → Linked (at a.next) xs y → AllLinks a xs → In y d → In (first_or y xs) d
    unfolding Linked first_or
    backward r [] y l al i = i
    backward {d} r (x ∷ xs) y l al i =
        let m = first_or y xs in
        let j : In m d = backward r xs y l.1 (λ u h. al u (in_there u x xs h)) i in
        let e : at a.prev m ≡ x = prev_of_next a linked x m (al x (in_here x xs)) (r.links m j) l.0 in
        rw e at (run_prev r m j (λ z. link_nonzero a x (al x (in_here x xs)) (sym e ∙ z)))

    -- forth along a run of links that starts at a member: what it ends at, a link, is a member
    pub forward : {d : List ℕ} {z : ℕ} → Run d z → (xs : List ℕ) (y : ℕ) → Linked (at a.next) xs y → AllLinks a xs → Link a y → In (first_or y xs) d → In y d
    unfolding Linked first_or
    forward r [] y l al hy i = i
    forward {d} r (x ∷ xs) y l al hy i =
        let rest : AllLinks a xs = λ u h. al u (in_there u x xs h) in
        let e : at a.next x ≡ first_or y xs = l.0 in
        forward r xs y l.1 rest hy (rw e at (run_next r x i (λ z. link_nonzero a (first_or y xs) (links_first a y xs rest hy) (sym e ∙ z))))

    -- a shared link: the first of one is a link of the other
    pub first_shared : {c d : List ℕ} {y z : ℕ} → Run c y → Run d z → (x : ℕ) → In x c → In x d → In (first_or 0 c) d
    unfolding first_or
    first_shared {c} {d} {y} {z} rc rd x i j =
        let s = in_split x c i in
        let u = s.0 in
        let v = s.1 in
        let e : c ≡ u ++ x ∷ v = s.2 in
        let l : Linked (at a.next) (u ++ x ∷ v) y = rw e at rc.linked in
        let k : In (first_or x u) d = backward rd u x (linked_split (at a.next) u (x ∷ v) y l).0 (λ w h. rc.links w (rw e (in_left w u (x ∷ v) h))) j in
        rw (e, first_append 0 u (x ∷ v)) k

    -- a closed chain that starts at a link of d is d started there
    rotated : (h : ℕ) (xs d : List ℕ) → IsClosed a (h ∷ xs) → IsClosed a d → (u v : List ℕ) → d ≡ u ++ h ∷ v → Rotation (h ∷ xs) d
    unfolding Rotation Linked first_or
    rotated h xs d p q u v e =
        let N : ℕ → ℕ = λ x. at a.next x in
        let hd : first_or 0 d ≡ first_or h u = ap (first_or 0) e ∙ first_append 0 u (h ∷ v) in
        let l : Linked N (u ++ h ∷ v) (first_or h u) = rw e at (rw hd at q.linked) in
        let l2 = linked_split N u (h ∷ v) (first_or h u) l in
        let lv : Linked N (v ++ u) h = linked_join N v u h l2.1.1 l2.0 in
        let o : count h (u ++ h ∷ v) ≤ 1 = rw e at (q.once h) in
        let t : xs ≡ v ++ u =
        same_run N xs (v ++ u) h p.linked.1 lv (sym p.linked.0 ∙ (l2.1.0 ∙ sym (first_append h v u))) (omega (arith, p.once h, count_here h xs))
        (omega (arith, count_append h u (h ∷ v), count_here h v, count_append h v u)) in
        (h ∷ v, u, ap (λ (l : List ℕ). h ∷ l) t, e)

    pub one_chain : (k l : Kind) (c d : List ℕ) → IsChain a k c → IsChain a l d → (x : ℕ) → In x c → In x d → (k ≡ l) × Like k c d
    unfolding IsChain Like
    one_chain opened opened c d p q x i j = (refl, same_run (at a.next) c d 0 p.linked q.linked heads (no_zero a c p.links) (no_zero a d q.links))
      where
        h : In (first_or 0 c) d
        h = first_shared (open_run p) (open_run q) x i j

        heads : first_or 0 c ≡ first_or 0 d
        heads =
            elim (ℕ_discrete (first_or 0 c) (first_or 0 d)) [
              | yes e ↦ e
              | no n ↦
                  let u = follows (at a.next) d 0 (first_or 0 c) q.linked h n in
                  absurd (link_nonzero a u.0 (q.links u.0 u.1) (sym (prev_of_next a linked u.0 (first_or 0 c) (q.links u.0 u.1) (q.links (first_or 0 c) h) u.2) ∙ p.starts))
            ]
    one_chain opened closed c d p q x i j = absurd (closed_prev q (first_or 0 c) (first_shared (open_run p) (closed_run q) x i j) p.starts)
    one_chain closed opened c d p q x i j = absurd (closed_prev p (first_or 0 d) (first_shared (open_run q) (closed_run p) x j i) q.starts)
    one_chain closed closed [] d p q x i j = absurd (not_in_nil x i)
    one_chain closed closed (h ∷ xs) d p q x i j =
        let s = in_split h d (unfold first_or in first_shared (closed_run p) (closed_run q) x i j) in
        (refl, rotated h xs d p q s.0 s.1 s.2)

-- ---- the same chain has the same members, as many

pub like_count : (k : Kind) (c d : List ℕ) → Like k c d → (x : ℕ) → count x c ≡ count x d
unfolding Like Rotation
like_count opened c d e x = ap (count x) e
like_count closed c d r x =
    let u = r.0 in
    let v = r.1 in
    omega (arith, ap (count x) r.2, ap (count x) r.3, count_append x u v, count_append x v u)

pub like_length : (k : Kind) (c d : List ℕ) → Like k c d → length c ≡ length d
unfolding Like Rotation
like_length opened c d e = ap length e
like_length closed c d r = omega (arith, ap length r.2, ap length r.3, length-append r.0 r.1, length-append r.1 r.0)
