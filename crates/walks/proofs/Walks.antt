-- The walk from a link gives its chain, each link once, from the link to the chain's end and then from before the link back to its beginning, then
-- none. The links after the start are a run along next; those before it, backwards, are a run along prev; and since there are no more of them than
-- the link count, which is how many steps may advance, the steps last. Assumes nothing.
use Prim.Native.Nat.{ℕ, suc, ◌+◌, ◌-◌, ◌≤◌}
use mathlib.Core.Path.{◌≡◌, refl, sym, ap, subst, ◌∙◌}
use mathlib.Core.List.{List, [], ◌∷◌, ◌++◌, reverse, reverse_aux}
use native.Mathlib.Omega.{arith}
use native.Mathlib.Nat.{zero-add}
use lib.ListN.{length, length-append}
use Rattle.definitions.specs.Columns.{at, count, first_or, Linked}
use Rattle.definitions.specs.Arena.{Arena, stack_length, link_count, link_slots}
use Rattle.statements.specs.Chains.{Kind, opened, closed, IsOpen, IsClosed, IsChain}
use Rattle.definitions.specs.Check.{WellFormed}
use Rattle.definitions.specs.Walk.{walk, walked, start_at, walk_from}
use Rattle.definitions.proofs.Slots.{count_nil, count_here, count_append}
use Rattle.definitions.proofs.Count.{In, Once, in_here, in_there, in_split, in_left, in_right, once_among, shorter}
use Rattle.definitions.proofs.LinkCount.{in_links}
use Rattle.definitions.proofs.Linked.{first_append, linked_split}
use Rattle.chains.proofs.Links.{Link, AllLinks, DoublyLinked, well_formed_linked, link_nonzero, links_first, prev_of_next}
use Rattle.chains.proofs.Find.{chain_from, chain_of, opened≢closed}
use Rattle.statements.specs.WalkOrder.{Walks}
use Rattle.walks.proofs.Steps.{over, ahead, turns, closes, behind}

module _ (a : Arena) (o : ℕ) where
  -- along next from x to the end z of its run; R is what comes then
  along_next : (z : ℕ) (R : ℕ → ℕ → List ℕ) → ((k left y : ℕ) → Link a y → at a.next y ≡ z → walked a (suc k) (walk o y 0 (suc left)) ≡ y ∷ R k left)
      → (x : ℕ) (xs : List ℕ) (k left : ℕ) → Linked (at a.next) (x ∷ xs) z → AllLinks a (x ∷ xs) → (In o xs → ⊥) → walked a (length (x ∷ xs) + k) (walk o x 0 (length (x ∷ xs) + left)) ≡ x ∷ xs ++ R k left
  unfolding Linked first_or
  along_next z R turn x [] k left run links out =
      let e : length (x ∷ []) + k ≡ suc k = omega arith in
      let f : length (x ∷ []) + left ≡ suc left = omega arith in
      rw (e, f) (turn k left x (links x (in_here x [])) run.0)
  along_next z R turn x (y ∷ ys) k left run links out =
      let e : length (x ∷ y ∷ ys) + k ≡ suc (length (y ∷ ys) + k) = omega arith in
      let f : length (x ∷ y ∷ ys) + left ≡ suc (length (y ∷ ys) + left) = omega arith in
      let rest = along_next z R turn y ys k left run.1 (λ s i. links s (in_there s x (y ∷ ys) i)) (λ i. out (in_there o y ys i)) in
      let ly = links y (in_there y x (y ∷ ys) (in_here y ys)) in
      rw (e, f)
      (ahead a (length (y ∷ ys) + k) o x (length (y ∷ ys) + left) (links x (in_here x (y ∷ ys))) (λ q. link_nonzero a y ly (sym run.0 ∙ q)) (λ q. out (rw (sym q ∙ run.0) (in_here y ys)))
      ∙ ap (λ (l : List ℕ). x ∷ l) (rw run.0 rest))

  -- along prev
  along_prev : (xs : List ℕ) (k left : ℕ) → Linked (at a.prev) xs 0 → AllLinks a xs → walked a (length xs + k) (walk o (first_or 0 xs) 1 (length xs + left)) ≡ xs
  unfolding Linked first_or
  along_prev [] k left run links = over a (0 + k) o 1 (0 + left)
  along_prev (x ∷ xs) k left run links =
      let e : length (x ∷ xs) + k ≡ suc (length xs + k) = omega arith in
      let f : length (x ∷ xs) + left ≡ suc (length xs + left) = omega arith in
      let rest = along_prev xs k left run.1 (λ s i. links s (in_there s x xs i)) in
      rw (e, f) (behind a (length xs + k) o x (length xs + left) (links x (in_here x xs)) ∙ ap (λ (l : List ℕ). x ∷ l) (rw run.0 rest))

-- how often a slot stands in a list does not depend on its direction
count_reversed : (s : ℕ) (xs acc : List ℕ) → count s (reverse_aux xs acc) ≡ count s xs + count s acc
unfolding count
count_reversed s [] acc = sym (zero-add _)
count_reversed s (x ∷ xs) acc = omega (arith, count_reversed s xs (x ∷ acc))

pub count_reverse : (s : ℕ) (xs : List ℕ) → count s (reverse xs) ≡ count s xs
count_reverse s xs = omega (arith, count_reversed s xs [], count_nil s)

module _ (a : Arena) (linked : DoublyLinked a) (o : ℕ) (lo : Link a o) where
  -- a run along next to o, backwards, is a run along prev from the prev of o
  backwards : (xs acc : List ℕ) → AllLinks a xs → Linked (at a.next) xs o → at a.prev (first_or o xs) ≡ first_or 0 acc → Linked (at a.prev) acc 0
      → Linked (at a.prev) (reverse_aux xs acc) 0 × (at a.prev o ≡ first_or 0 (reverse_aux xs acc))
  unfolding Linked first_or
  backwards [] acc links run e back = (back, e)
  backwards (x ∷ xs) acc links run e back =
      let rest : AllLinks a xs = λ s i. links s (in_there s x xs i) in
      backwards xs (x ∷ acc) rest run.1 (prev_of_next a linked x (first_or o xs) (links x (in_here x xs)) (links_first a o xs rest lo) run.0) (e, back)

module _ (limit : ℕ) (a : Arena) (ok : WellFormed limit a) (o : ℕ) (lo : Link a o) where
  linked : DoublyLinked a
  linked = well_formed_linked ok

  -- different links are no more than the link count
  enough : (ss : List ℕ) → Once ss → AllLinks a ss → length ss ≤ link_count a
  enough ss once links =
      let all = link_slots a.generation (stack_length a) in
      rw ok.links (shorter ss all (once_among ss all once (λ x i. in_links a.generation (stack_length a) x (links x i))))

  -- a chain in the order of the walk, that is walked with any steps and advances that last
  walks_in : (k : Kind) (us vs : List ℕ) → IsChain a k (us ++ o ∷ vs) → (k ≡ closed → us ≡ []) → Once (us ++ o ∷ vs) → AllLinks a (us ++ o ∷ vs)
      → ((steps left : ℕ) → walked a (length (o ∷ vs) + (length (reverse us) + steps)) (walk o o 0 (length (o ∷ vs) + (length (reverse us) + left))) ≡ o ∷ vs ++ reverse us) → Walks a o (walk_from a o)
  walks_in k us vs chain round once links gives =
      rw same (record { order = record { kind = k; before = us; after = vs; chain = chain; round = round; order = refl }; links = links'; once = once'; then_none = reached })
    where
      ss : List ℕ
      ss = o ∷ vs ++ reverse us

      as_often : (s : ℕ) → count s ss ≡ count s (us ++ o ∷ vs)
      as_often s = omega (arith, count_append s (o ∷ vs) (reverse us), count_append s us (o ∷ vs), count_reverse s us)

      once' : Once ss
      once' s = omega (arith, as_often s, once s)

      links' : AllLinks a ss
      links' s i = links s (omega (arith, as_often s))

      reached : (steps : ℕ) → length ss ≤ steps → walked a steps (start_at a o) ≡ ss
      reached steps h =
          let size = length-append (o ∷ vs) (reverse us) in
          let e : steps ≡ length (o ∷ vs) + (length (reverse us) + (steps - length ss)) = omega arith in
          let f : link_count a ≡ length (o ∷ vs) + (length (reverse us) + (link_count a - length ss)) = omega (arith, enough ss once' links') in
          ap (λ (n : ℕ). walked a n (walk o o 0 (link_count a))) e ∙ (ap (λ (n : ℕ). walked a (length (o ∷ vs) + (length (reverse us) + (steps - length ss))) (walk o o 0 n)) f ∙ gives (steps - length ss) (link_count a - length ss))

      same : walk_from a o ≡ ss
      same = reached (link_count a) (enough ss once' links')

  -- o does not come again after it
  no_more : (us vs : List ℕ) → Once (us ++ o ∷ vs) → In o vs → ⊥
  no_more us vs once i = omega (arith, once o, count_append o us (o ∷ vs), count_here o vs)

  open_walks : (us vs : List ℕ) → IsOpen a (us ++ o ∷ vs) → Once (us ++ o ∷ vs) → Walks a o (walk_from a o)
  unfolding IsChain Linked first_or
  open_walks us vs chain once = walks_in opened us vs chain (λ e. absurd (opened≢closed e)) once chain.links gives
    where
      split : Linked (at a.next) us o × Linked (at a.next) (o ∷ vs) 0
      split = linked_split (at a.next) us (o ∷ vs) 0 chain.linked

      back : Linked (at a.prev) (reverse us) 0 × (at a.prev o ≡ first_or 0 (reverse us))
      back = backwards a linked o lo us [] (λ s i. chain.links s (in_left s us (o ∷ vs) i)) split.0 (rw (← first_append 0 us (o ∷ vs)) chain.starts) tt

      gives : (steps left : ℕ) → walked a (length (o ∷ vs) + (length (reverse us) + steps)) (walk o o 0 (length (o ∷ vs) + (length (reverse us) + left))) ≡ o ∷ vs ++ reverse us
      gives steps left =
          let behind-o = along_prev a o (reverse us) steps left back.0 (λ s i. chain.links s (in_left s us (o ∷ vs) (omega (arith, count_reverse s us)))) in
          along_next a o 0 (λ k left. walked a k (walk o (at a.prev o) 1 left)) (λ k left y ly e. turns a k o y left ly lo e) o vs (length (reverse us) + steps) (length (reverse us) + left) split.1
          (λ s i. chain.links s (in_right s us (o ∷ vs) i))
          (no_more us vs once)
          ∙ ap (λ (l : List ℕ). o ∷ vs ++ l) (rw back.1 behind-o)

  closed_walks : (vs : List ℕ) → IsClosed a (o ∷ vs) → Walks a o (walk_from a o)
  unfolding IsChain first_or
  closed_walks vs chain = walks_in closed [] vs chain (λ e. refl) chain.once chain.links gives
    where
      gives : (steps left : ℕ) → walked a (length (o ∷ vs) + (0 + steps)) (walk o o 0 (length (o ∷ vs) + (0 + left))) ≡ o ∷ vs ++ []
      gives steps left =
          along_next a o o (λ k left. []) (λ k left y ly e. closes a k o y left ly lo e ∙ ap (λ (l : List ℕ). y ∷ l) (over a k o 0 left)) o vs (0 + steps) (0 + left) chain.linked chain.links
          (no_more [] vs chain.once)

  by_kind : (k : Kind) (c : List ℕ) → IsChain a k c → Once c → In o c → (k ≡ closed → first_or 0 c ≡ o) → Walks a o (walk_from a o)
  unfolding IsChain first_or
  by_kind opened c chain once has first = let s = in_split o c has in open_walks s.0 s.1 (rw s.2 at chain) (rw s.2 at once)
  by_kind closed [] chain once has first = absurd (chain.some refl)
  by_kind closed (x ∷ xs) chain once has first = closed_walks xs (subst (λ y. IsClosed a (y ∷ xs)) (first refl) chain)

  pub walk_gives_chain : Walks a o (walk_from a o)
  walk_gives_chain = let c = chain_of a linked o lo in by_kind c.kind (chain_from a o) c.chain c.once c.has c.first
