-- The chain of a link, found: back along prev to its start, or round to the link itself; then along next to the end. Both walks visit different links,
-- so they end before they have made as many steps as the stack is long. Assumes nothing.
use Prim.Native.Nat.{ℕ, zero, suc, ◌+◌, ◌≤◌}
use mathlib.Core.Path.{◌≡◌, refl, sym, ap, subst, ◌∙◌}
use mathlib.Core.Logic.{◌≢◌, ◌⊎◌, inl, inr}
use mathlib.Core.Bool.{true, false, ◌||◌}
use mathlib.Core.List.{List, [], ◌∷◌, ◌++◌, append_assoc, cons≢nil, concat-ne-nil}
use native.Mathlib.Omega.{arith}
use native.Mathlib.Decide.{ℕ_discrete, dec_le}
use lib.ListN.{length, length-append}
use lib.Dec.{eqb}
use borrow.Author.Tests.{eq-eqb, ne_eqb}
use Rattle.definitions.specs.Columns.{at, count, first_or, Linked}
use Rattle.definitions.specs.Arena.{Arena, stack_length}
use Rattle.statements.specs.Chains.{Kind, opened, closed, IsOpen, IsClosed, IsChain}
use Rattle.definitions.specs.Compress.{start_of}
use Rattle.definitions.proofs.Slots.{count_here, count_append}
use Rattle.definitions.proofs.Count.{In, Once, in_here, in_left, in_right, in_split, once_one, once_cons, once_snoc}
use Rattle.definitions.proofs.Linked.{first_append, in_first, linked_join, linked_split, end_follows}
use Rattle.chains.proofs.Runs.{linked_nil, linked_one, closes_at_end, follows_in}
use Rattle.chains.proofs.Links.{Link, AllLinks, DoublyLinked, link_nonzero, links_cons, links_snoc, links_one, links_first, few_links, prev_of_next}
use Rattle.chains.proofs.OneChain.{open_run, closed_run, closed_next, forward}

-- ---- the two walks, step by step

module _ (a : Arena) (f o s : ℕ) where
  pub start_stop : at a.prev s ≡ 0 → start_of a (suc f) o s ≡ s
  unfolding start_of
  start_stop e = rw (eq-eqb (at a.prev s) 0 e, start_of)

  pub start_round : at a.prev s ≢ 0 → at a.prev s ≡ o → start_of a (suc f) o s ≡ o
  unfolding start_of
  start_round d e = rw (ne_eqb (at a.prev s) 0 d, eq-eqb (at a.prev s) o e, start_of)

  pub start_on : at a.prev s ≢ 0 → at a.prev s ≢ o → start_of a (suc f) o s ≡ start_of a f o (at a.prev s)
  unfolding start_of
  start_on d e = rw (ne_eqb (at a.prev s) 0 d, ne_eqb (at a.prev s) o e, start_of)

-- from s along next, until there is none or the first comes again
unfoldable pub along : (ℕ → ℕ) → ℕ → ℕ → ℕ → List ℕ
along next zero first s = s ∷ []
along next (suc steps) first s = s ∷ elim (eqb (next s) 0 || eqb (next s) first) [ true ↦ [] | false ↦ along next steps first (next s) ]

module _ (next : ℕ → ℕ) (f first s : ℕ) where
  pub along_none : next s ≡ 0 → along next (suc f) first s ≡ s ∷ []
  unfolding along
  along_none e = rw (eq-eqb (next s) 0 e)

  pub along_closed : next s ≢ 0 → next s ≡ first → along next (suc f) first s ≡ s ∷ []
  unfolding along
  along_closed d e = rw (ne_eqb (next s) 0 d, eq-eqb (next s) first e)

  pub along_on : next s ≢ 0 → next s ≢ first → along next (suc f) first s ≡ s ∷ along next f first (next s)
  unfolding along
  along_on d e = rw (ne_eqb (next s) 0 d, ne_eqb (next s) first e)

pub along_first : (next : ℕ → ℕ) (f first s z : ℕ) → first_or z (along next f first s) ≡ s
unfolding along first_or
along_first next zero first s z = refl
along_first next (suc f) first s z = refl

pub along_some : (next : ℕ → ℕ) (f first s : ℕ) → along next f first s ≢ []
unfolding along
along_some next zero first s e = cons≢nil e
along_some next (suc f) first s e = cons≢nil e

-- the chain of the link o, from its start, or from o if it is closed
unfoldable pub chain_from : Arena → ℕ → List ℕ
chain_from a o = let s = start_of a (stack_length a) o o in along (at a.next) (stack_length a) s s

pub opened≢closed : opened ≡ closed → ⊥
opened≢closed e = let z : ◌≡◌ {A = ℕ} 0 1 = cc in omega arith

module _ (a : Arena) (linked : DoublyLinked a) where
  abbrev next : ℕ → ℕ
  next s = at a.next s

  abbrev prev : ℕ → ℕ
  prev s = at a.prev s

  -- ---- back along prev

  -- it ends at a link s without prev, from which next leads to o; or it is back at o, and o is on a closed chain
  record Starts (o s : ℕ) : Type 0 where
    before : List ℕ
    run : Linked (at a.next) before o
    links : AllLinks a before
    first : at a.prev (first_or o before) ≡ 0
    is : s ≡ first_or o before

  record Around (o s : ℕ) : Type 0 where
    ring : List ℕ
    closes : IsClosed a ring
    has : In o ring
    is : s ≡ o

  start_found : (o f : ℕ) (xs : List ℕ) → Linked next xs o → AllLinks a (xs ++ o ∷ []) → Once (xs ++ o ∷ []) → stack_length a ≤ f + length xs →
      Starts o (start_of a f o (first_or o xs)) ⊎ Around o (start_of a f o (first_or o xs))
  unfolding first_or Linked
  start_found o zero xs l al once fuel = absurd (omega (arith, few_links a (xs ++ o ∷ []) once al, length-append xs (o ∷ [])))
  start_found o (suc f) xs l al once fuel = go (ℕ_discrete (prev s) 0) (start_found o f (prev s ∷ xs))
    where
      s : ℕ
      s = first_or o xs

      hs : Link a s
      hs = links_first a o xs (λ x i. al x (in_left x xs (o ∷ []) i)) (al o (in_right o xs (o ∷ []) (in_here o [])))

      Goal : ℕ → Type 0
      Goal x = Starts o x ⊎ Around o x

      go : Dec (prev s ≡ 0) →
          (Linked next (prev s ∷ xs) o → AllLinks a ((prev s ∷ xs) ++ o ∷ []) → Once ((prev s ∷ xs) ++ o ∷ []) → stack_length a ≤ f + length (prev s ∷ xs) → Goal (start_of a f o (first_or o (prev s ∷ xs)))) →
          Goal (start_of a (suc f) o s)
      go (yes e) ih = rw (start_stop a f o s e) (inl (record { before = xs; run = l; links = λ x i. al x (in_left x xs (o ∷ []) i); first = e; is = refl }))
      go (no d) ih = (more (dec_le 1 (count p (xs ++ o ∷ []))))
        where
          p : ℕ
          p = prev s

          hp : Link a p
          hp = (linked.prev s hs d).0

          np : next p ≡ s
          np = (linked.prev s hs d).1

          -- the walk is back at o
          ring : p ≡ o → IsClosed a (xs ++ o ∷ [])
          ring e =
              record {
                some = concat-ne-nil o xs;
                links = al;
                once = once;
                linked = rw (first_append 0 xs (o ∷ [])) (linked_join next xs (o ∷ []) (first_or o xs) l (ap next (sym e) ∙ np, tt));
              }

          more : Dec (In p (xs ++ o ∷ [])) → Goal (start_of a (suc f) o s)
          more (yes i) =
              let e : p ≡ o = closes_at_end next xs o p l once i np in
              rw (start_round a f o s d e) (inr (record { ring = xs ++ o ∷ []; closes = ring e; has = rw e at i; is = refl }))
          more (no i) =
              let e : p ≢ o = λ z. i (in_right p xs (o ∷ []) (rw z (in_here o []))) in
              rw (start_on a f o s d e) (ih (np, l) (links_cons a p (xs ++ o ∷ []) hp al) (once_cons p (xs ++ o ∷ []) once i) (omega arith))

  -- ---- forth along next

  record Found (first : ℕ) (c : List ℕ) : Type 0 where
    end : ℕ
    ends : (end ≡ 0) ⊎ (end ≡ first)
    run : Linked (at a.next) c end
    links : AllLinks a c
    once : Once c

  along_found : (first f : ℕ) (xs : List ℕ) (s : ℕ) → Linked next xs s → first_or s xs ≡ first → AllLinks a (xs ++ s ∷ []) → Once (xs ++ s ∷ []) → stack_length a ≤ f + length xs →
      Found first (xs ++ along next f first s)
  along_found first zero xs s l hd al once fuel = absurd (omega (arith, few_links a (xs ++ s ∷ []) once al, length-append xs (s ∷ [])))
  along_found first (suc f) xs s l hd al once fuel = go (ℕ_discrete t 0) (ℕ_discrete t first) (along_found first f (xs ++ s ∷ []) t)
    where
      t : ℕ
      t = next s

      hs : Link a s
      hs = al s (in_right s xs (s ∷ []) (in_here s []))

      to : (z : ℕ) → t ≡ z → Linked next (xs ++ s ∷ []) z
      to z e = linked_join next xs (s ∷ []) z (unfold first_or in l) (linked_one next s z e)

      stop : (z : ℕ) → t ≡ z → (z ≡ 0) ⊎ (z ≡ first) → Found first (xs ++ s ∷ [])
      stop z e k = record { end = z; ends = k; run = to z e; links = al; once = once }

      go : Dec (t ≡ 0) → Dec (t ≡ first) →
          (Linked next (xs ++ s ∷ []) t → first_or t (xs ++ s ∷ []) ≡ first → AllLinks a ((xs ++ s ∷ []) ++ t ∷ []) → Once ((xs ++ s ∷ []) ++ t ∷ []) → stack_length a ≤ f + length (xs ++ s ∷ []) →
          Found first ((xs ++ s ∷ []) ++ along next f first t)) →
          Found first (xs ++ along next (suc f) first s)
      go (yes e) k ih = rw (along_none next f first s e) (stop 0 e (inl refl))
      go (no d) (yes e) ih = rw (along_closed next f first s d e) (stop first e (inr refl))
      go (no d) (no e) ih =
          rw (along_on next f first s d e)
          (rw (append_assoc xs (s ∷ []) (along next f first t)) at
          (ih (to t refl) (first_append t xs (s ∷ []) ∙ (unfold first_or in hd)) (links_snoc a (xs ++ s ∷ []) t al ht) (once_snoc (xs ++ s ∷ []) t once new) (omega (arith, length-append xs (s ∷ [])))))
        where
          ht : Link a t
          ht = (linked.next s hs d).0

          -- t comes again only if two links have it as their next
          new : In t (xs ++ s ∷ []) → ⊥
          new i =
              let q = follows_in next xs s t l i (λ z. e (z ∙ hd)) in
              let hq : Link a q.0 = al q.0 (in_left q.0 xs (s ∷ []) q.1) in
              let same : q.0 ≡ s = sym (prev_of_next a linked q.0 t hq ht q.2) ∙ prev_of_next a linked s t hs ht refl in
              let again : In s xs = rw same at q.1 in
              omega (arith, once s, count_append s xs (s ∷ []), count_here s [])

  -- ---- both together

  -- c is the chain that the link o is on, and starts with o if it is closed
  pub record ChainOf (o : ℕ) (c : List ℕ) : Type 0 where
    pub kind : Kind
    pub chain : IsChain a kind c
    pub once : Once c
    pub has : In o c
    pub first : kind ≡ closed → first_or 0 c ≡ o

  abbrev from : ℕ → List ℕ
  from s = along (at a.next) (stack_length a) s s

  found : (s : ℕ) → Link a s → Found s (from s)
  found s h = along_found s (stack_length a) [] s (linked_nil next s) (unfold first_or in refl) (links_one a s h) (once_one s) (omega arith)

  in_from : (s : ℕ) → In s (from s)
  in_from s = rw (along_first next (stack_length a) s s 0) at (in_first 0 (from s) (along_some next (stack_length a) s s))

  from_start : (o s : ℕ) → Link a o → Starts o s → ChainOf o (from s)
  unfolding IsChain
  from_start o s ho st = go (found s hs)
    where
      hs : Link a s
      hs = rw st.is (links_first a o st.before st.links ho)

      no_prev_lem : at a.prev s ≡ 0
      no_prev_lem = ap prev st.is ∙ st.first

      go : Found s (from s) → ChainOf o (from s)
      go q = done q.ends
        where
          chain : q.end ≡ 0 → IsOpen a (from s)
          chain e =
              record { some = along_some next (stack_length a) s s; links = q.links; starts = rw (along_first next (stack_length a) s s 0) no_prev_lem; linked = rw e at q.run }

          done : (q.end ≡ 0) ⊎ (q.end ≡ s) → ChainOf o (from s)
          done (inl e) =
              record {
                kind = opened;
                chain = chain e;
                once = q.once;
                has = forward a linked (open_run a (chain e)) st.before o st.run st.links ho (rw (← st.is) (in_from s));
                first = λ e. absurd (opened≢closed e);
              }
          done (inr e) =
              let u = end_follows next (from s) q.end q.run (along_some next (stack_length a) s s) in
              absurd (link_nonzero a u.0 (q.links u.0 u.1) (sym (prev_of_next a linked u.0 s (q.links u.0 u.1) hs (u.2 ∙ e)) ∙ no_prev_lem))

  from_ring : (o s : ℕ) → Link a o → Around o s → ChainOf o (from s)
  unfolding IsChain
  from_ring o s ho st = go (found s (rw st.is ho))
    where
      hd : first_or 0 (from s) ≡ s
      hd = along_first next (stack_length a) s s 0

      -- what next leads to from a link of the closed chain stays on it
      stays : (r : List ℕ) (z : ℕ) → Linked next r z → AllLinks a r → In (first_or 0 r) st.ring → (x : ℕ) → In x r → In x st.ring
      stays r z l al i x j =
          let w = in_split x r j in
          let u = w.0 in
          let v = w.1 in
          let e : r ≡ u ++ x ∷ v = w.2 in
          let split : Linked next u (first_or z (x ∷ v)) = (linked_split next u (x ∷ v) z (rw e at l)).0 in
          let start : In (first_or (first_or 0 (x ∷ v)) u) st.ring = rw (first_append 0 u (x ∷ v)) at (rw e at i) in
          forward a linked (closed_run a st.closes) u x (unfold first_or in split) (λ y k. al y (rw e (in_left y u (x ∷ v) k))) (al x j) (unfold first_or in start)

      go : Found s (from s) → ChainOf o (from s)
      go q = done q.ends
        where
          done : (q.end ≡ 0) ⊎ (q.end ≡ s) → ChainOf o (from s)
          done (inl e) =
              let u = end_follows next (from s) q.end q.run (along_some next (stack_length a) s s) in
              absurd (closed_next a linked st.closes u.0 (stays (from s) q.end q.run q.links (rw (hd, st.is) st.has) u.0 u.1) (u.2 ∙ e))
          done (inr e) =
              record {
                kind = closed;
                chain = record { some = along_some next (stack_length a) s s; links = q.links; once = q.once; linked = subst (λ y. Linked next (from s) y) (e ∙ sym hd) q.run };
                once = q.once;
                has = subst (λ y. In y (from s)) st.is (in_from s);
                first = λ k. hd ∙ st.is;
              }

  pub chain_of : (o : ℕ) → Link a o → ChainOf o (chain_from a o)
  unfolding chain_from first_or
  chain_of o ho = go (start_found o (stack_length a) [] (linked_nil next o) (links_one a o ho) (once_one o) (omega arith))
    where
      s : ℕ
      s = start_of a (stack_length a) o o

      go : Starts o (start_of a (stack_length a) o o) ⊎ Around o (start_of a (stack_length a) o o) → ChainOf o (from (start_of a (stack_length a) o o))
      go (inl st) = from_start o s ho st
      go (inr st) = from_ring o s ho st
