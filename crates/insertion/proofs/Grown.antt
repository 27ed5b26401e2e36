-- What putting a link t between u and v does to chains, whatever the kind: chains that hold neither stay and there are no others without t; the
-- chain of u gets t behind u, the chain of v gets it before v, two chains are joined around it, one is closed by it, or it is alone. Assumes nothing.
use Prim.Native.Nat.{ℕ}
use mathlib.Core.Path.{◌≡◌, refl, sym, ap, subst, ◌∙◌}
use mathlib.Core.Logic.{inl, inr}
use mathlib.Core.List.{List, [], ◌∷◌, ◌++◌, append_assoc}
use native.Mathlib.Omega.{arith}
use Rattle.definitions.specs.Columns.{at, count, first_or, last_or, Linked}
use Rattle.definitions.specs.Arena.{Arena}
use Rattle.statements.specs.Chains.{Kind, opened, closed, IsOpen, IsClosed, IsChain, Like}
use Rattle.definitions.proofs.Slots.{count_append, count_here}
use Rattle.definitions.proofs.Count.{In, Once, in_here, in_there, in_left, in_right, in_cases, in_append, once_cons, once_one, not_in_nil}
use Rattle.definitions.proofs.Linked.{first_append, in_first, in_last, linked_join, linked_split, linked_last, linked_agree}
use Rattle.chains.proofs.Runs.{linked_nil, linked_cons, linked_one, linked_first, linked_rest}
use Rattle.chains.proofs.Links.{Link, AllLinks, DoublyLinked, link_nonzero, prev_of_next, links_one}
use Rattle.chains.proofs.OneChain.{chain_run, chain_links, run_next, run_prev, one_chain}
use Rattle.kept.proofs.PutIn.{PutIn, off_new}
use Rattle.insertion.proofs.Chains.{by_last, agree_chain, turned, chain_once}

some_cons : (x : ℕ) (xs : List ℕ) → (x ∷ xs ≡ []) → ⊥
some_cons x xs e = let z : ◌≡◌ {A = ℕ} 0 1 = cc in omega arith

some_middle : (c : List ℕ) (x : ℕ) (xs : List ℕ) → (c ++ x ∷ xs ≡ []) → ⊥
some_middle [] x xs e = some_cons x xs e
some_middle (y ∷ c) x xs e = some_cons y (c ++ x ∷ xs) e

module _ (a b : Arena) (la : DoublyLinked a) (lb : DoublyLinked b) (t u v : ℕ) (p : PutIn a b t u v) where
  abbrev N : ℕ → ℕ
  N s = at a.next s

  abbrev M : ℕ → ℕ
  M s = at b.next s

  no_t : (xs : List ℕ) → AllLinks a xs → In t xs → ⊥
  no_t xs h i = off_new p t (h t i) refl

  same_next : (s : ℕ) → Link a s → (s ≡ u → ⊥) → N s ≡ M s
  same_next s l d = sym (p.next.other s (off_new p s l) d)

  same_prev : (s : ℕ) → Link a s → (s ≡ v → ⊥) → at b.prev s ≡ at a.prev s
  same_prev s l d = p.prev.other s (off_new p s l) d

  -- ---- chains without u and v stay, and those without t were there

  pub stays_chain : (k : Kind) (c : List ℕ) → IsChain a k c → (In u c → ⊥) → (In v c → ⊥) → IsChain b k c
  stays_chain k c h off-u off-v =
      let links = chain_links a k c h in
      agree_chain a b k c h (λ s i. p.stays s (links s i)) (λ s i. same_next s (links s i) (λ e. off-u (rw e at i))) (λ s i. same_prev s (links s i) (λ e. off-v (rw e at i)))

  pub was_chain : (k : Kind) (c : List ℕ) → IsChain b k c → (In t c → ⊥) → IsChain a k c × (In u c → ⊥) × (In v c → ⊥)
  was_chain k c h off =
      let run = (chain_run b k c h).1 in
      let links = chain_links b k c h in
      let t_some : t ≡ 0 → ⊥ = link_nonzero b t p.new in
      let off-u : In u c → ⊥ = λ i. (let e = p.next.back (link_nonzero b u (links u i)) in off (rw e at (run_next b run u i (λ z. t_some (sym e ∙ z))))) in
      let off-v : In v c → ⊥ = λ i. (let e = p.prev.back (link_nonzero b v (links v i)) in off (rw e at (run_prev b lb run v i (λ z. t_some (sym e ∙ z))))) in
      let was : (s : ℕ) → In s c → Link a s = λ s i. p.was s (links s i) (λ e. off (rw e at i)) in (
        agree_chain b a k c h was (λ s i. sym (same_next s (was s i) (λ e. off-u (rw e at i)))) (λ s i. sym (same_prev s (was s i) (λ e. off-v (rw e at i)))),
        off-u,
        off-v,
      )

  -- ---- a list that holds t and what another holds

  grown_links : (new old : List ℕ) → ((x : ℕ) → count x new ≡ count x (t ∷ old)) → AllLinks a old → AllLinks b new
  grown_links new old e h s i = elim (in_cases s t old (rw (e s) at i)) [ inl q ↦ rw q p.new | inr j ↦ p.stays s (h s j) ]

  grown_once : (new old : List ℕ) → ((x : ℕ) → count x new ≡ count x (t ∷ old)) → AllLinks a old → Once old → Once new
  grown_once new old e h o x = rw (e x) (once_cons t old o (no_t old h) x)

  -- ---- runs of next through t

  onward : (d : List ℕ) (z : ℕ) → Linked N d z → AllLinks a d → (In u d → ⊥) → v ≡ first_or z d → Linked M (t ∷ d) z
  onward d z l h off e = linked_cons M t d z (p.next.here ∙ e) (linked_agree N M d z (λ s i. same_next s (h s i) (λ q. off (rw q at i))) l)

  through : (c d : List ℕ) (z : ℕ) → (u ≡ 0 → ⊥) → Linked N c u → Linked N d z → AllLinks a c → AllLinks a d → (In u c → ⊥) → (In u d → ⊥) → v ≡ first_or z d → Linked M (c ++ u ∷ t ∷ d) z
  unfolding first_or
  through c d z some lc ld hc hd off_c off_d e =
      linked_join M c (u ∷ t ∷ d) z (linked_agree N M c u (λ s i. same_next s (hc s i) (λ q. off_c (rw q at i))) lc)
      (linked_cons M u (t ∷ d) z (p.next.back some) (onward d z ld hd off_d e))

  count_put : (c d : List ℕ) (x : ℕ) → count x (c ++ u ∷ t ∷ d) ≡ count x (t ∷ c ++ u ∷ d)
  unfolding count
  count_put c d x = omega (arith, count_append x c (u ∷ t ∷ d), count_append x c (u ∷ d))

  -- ---- t behind u, in the same chain

  pub behind : Link a u → v ≡ N u → (k : Kind) (c d : List ℕ) → IsChain a k (c ++ u ∷ d) → IsChain b k (c ++ u ∷ t ∷ d)
  behind lu e k c d h = go k h
    where
      once : Once (c ++ u ∷ d)
      once = chain_once a la k (c ++ u ∷ d) h

      links : AllLinks a (c ++ u ∷ d)
      links = chain_links a k (c ++ u ∷ d) h

      hc : AllLinks a c
      hc s i = links s (in_left s c (u ∷ d) i)

      hd : AllLinks a d
      hd s i = links s (in_right s c (u ∷ d) (in_there s u d i))

      off_c : In u c → ⊥
      off_c i = omega (arith, once u, count_append u c (u ∷ d), count_here u d)

      off_d : In u d → ⊥
      off_d i = omega (arith, once u, count_append u c (u ∷ d), count_here u d)

      ahead : (z : ℕ) → Linked N (c ++ u ∷ d) z → Linked M (c ++ u ∷ t ∷ d) z
      ahead z l =
          let s = linked_split N c (u ∷ d) z l in
          through c d z (link_nonzero a u lu) (unfold first_or in s.0) (linked_rest N u d z s.1) hc hd off_c off_d (e ∙ linked_first N u d z s.1)

      first : first_or 0 (c ++ u ∷ d) ≡ first_or 0 (c ++ u ∷ t ∷ d)
      first = unfold first_or in first_append 0 c (u ∷ d) ∙ sym (first_append 0 c (u ∷ t ∷ d))

      -- the first of an open chain has no prev, and v has one
      starts : at a.prev (first_or 0 (c ++ u ∷ d)) ≡ 0 → at b.prev (first_or 0 (c ++ u ∷ d)) ≡ 0
      starts z =
          let l = links (first_or 0 (c ++ u ∷ d)) (in_first 0 (c ++ u ∷ d) (some_middle c u d)) in
          same_prev (first_or 0 (c ++ u ∷ d)) l (λ q. link_nonzero a u lu (sym (prev_of_next a la u (first_or 0 (c ++ u ∷ d)) lu l (sym e ∙ sym q)) ∙ z)) ∙ z

      go : (k : Kind) → IsChain a k (c ++ u ∷ d) → IsChain b k (c ++ u ∷ t ∷ d)
      go opened h = unfold IsChain in record {
        some = some_middle c u (t ∷ d);
        links = grown_links (c ++ u ∷ t ∷ d) (c ++ u ∷ d) (count_put c d) links;
        starts = rw (← first) (starts h.starts);
        linked = ahead 0 h.linked;
      }
      go closed h = unfold IsChain in record {
        some = some_middle c u (t ∷ d);
        links = grown_links (c ++ u ∷ t ∷ d) (c ++ u ∷ d) (count_put c d) links;
        once = grown_once (c ++ u ∷ t ∷ d) (c ++ u ∷ d) (count_put c d) links once;
        linked = rw (← first) (ahead (first_or 0 (c ++ u ∷ d)) h.linked);
      }

  -- ---- t alone

  alone_links : AllLinks b (t ∷ [])
  alone_links = links_one b t p.new

  pub alone : u ≡ 0 → v ≡ 0 → IsOpen b (t ∷ [])
  unfolding first_or
  alone e f = record { some = some_cons t []; links = alone_links; starts = p.prev.here ∙ e; linked = linked_one M t 0 (p.next.here ∙ f) }

  pub alone_closed : v ≡ t → IsClosed b (t ∷ [])
  unfolding first_or
  alone_closed f = record { some = some_cons t []; links = alone_links; once = once_one t; linked = linked_one M t t (p.next.here ∙ f) }

  -- ---- t before v, in the same chain: v is the first of an open chain, or of a closed one, or t goes behind the link before v

  pub in_front : u ≡ 0 → (d : List ℕ) → IsOpen a (v ∷ d) → IsOpen b (t ∷ v ∷ d)
  unfolding first_or
  in_front e d h = record {
    some = some_cons t (v ∷ d);
    links = grown_links (t ∷ v ∷ d) (v ∷ d) (λ x. refl) h.links;
    starts = p.prev.here ∙ e;
    linked = onward (v ∷ d) 0 h.linked h.links (λ i. link_nonzero a u (h.links u i) e) refl;
  }

  inside : Link a v → u ≡ at a.prev v → (k : Kind) (y : ℕ) (ys d : List ℕ) → IsChain a k (y ∷ ys ++ v ∷ d) → IsChain b k (y ∷ ys ++ t ∷ v ∷ d)
  unfolding first_or
  inside lv e k y ys d h =
      let run = chain_run a k (y ∷ ys ++ v ∷ d) h in
      let ahead : N (last_or y ys) ≡ v = linked_last N y ys v (linked_split N (y ∷ ys) (v ∷ d) run.0 run.1.linked).0 in
      let last : Link a (last_or y ys) = run.1.links (last_or y ys) (in_left (last_or y ys) (y ∷ ys) (v ∷ d) (in_last y ys)) in
      let same : u ≡ last_or y ys = e ∙ prev_of_next a la (last_or y ys) v last lv ahead in
      let w = by_last y ys in
      let list : y ∷ ys ≡ w.0 ++ u ∷ [] = w.1 ∙ ap (λ (x : ℕ). w.0 ++ x ∷ []) (sym same) in
      let old : IsChain a k (w.0 ++ u ∷ v ∷ d) = rw (append_assoc w.0 (u ∷ []) (v ∷ d)) at (subst (λ (l : List ℕ). IsChain a k (l ++ v ∷ d)) list h) in
      let new : IsChain b k (w.0 ++ u ∷ t ∷ v ∷ d) = behind (rw same last) (sym ahead ∙ ap N (sym same)) k w.0 (v ∷ d) old in
      subst (λ (l : List ℕ). IsChain b k (l ++ t ∷ v ∷ d)) (sym list) (rw (append_assoc w.0 (u ∷ []) (t ∷ v ∷ d)) new)

  pub before : Link a v → u ≡ at a.prev v → (k : Kind) (c d : List ℕ) → IsChain a k (c ++ v ∷ d) → IsChain b k (c ++ t ∷ v ∷ d)
  unfolding IsChain first_or
  before lv e opened [] d h = in_front (e ∙ h.starts) d h
  before lv e closed [] d h =
      let last : Link a (last_or v d) = h.links (last_or v d) (in_last v d) in
      let back : at a.prev v ≡ last_or v d = prev_of_next a la (last_or v d) v last lv (linked_last N v d v h.linked) in
      let same : u ≡ last_or v d = e ∙ back in
      let w = by_last v d in
      let list : v ∷ d ≡ w.0 ++ u ∷ [] = w.1 ∙ ap (λ (x : ℕ). w.0 ++ x ∷ []) (sym same) in
      rw list (turned b (w.0 ++ u ∷ []) t (rw (append_assoc w.0 (u ∷ []) (t ∷ [])) (behind (rw same last) (sym (linked_last N v d v h.linked) ∙ ap N (sym same)) closed w.0 [] (rw (← list) h))))
  before lv e opened (y ∷ ys) d h = inside lv e opened y ys d h
  before lv e closed (y ∷ ys) d h = inside lv e closed y ys d h

  -- ---- two open chains, joined or closed

  pub joins : Link a u → Link a v → (c d : List ℕ) → IsOpen a (c ++ u ∷ []) → IsOpen a (v ∷ d) → ((c ++ u ∷ []) ≡ v ∷ d → ⊥) → IsOpen b (c ++ u ∷ t ∷ v ∷ d)
  unfolding first_or
  joins lu lv c d h g differ = record {
    some = some_middle c u (t ∷ v ∷ d);
    links = grown_links (c ++ u ∷ t ∷ v ∷ d) ((c ++ u ∷ []) ++ v ∷ d) counted (λ s i. elim (in_append s (c ++ u ∷ []) (v ∷ d) i) [ inl j ↦ h.links s j | inr j ↦ g.links s j ]);
    starts = rw first (same_prev _ (h.links _ first_in) (λ q. shared v (rw q at first_in) (in_here v d)) ∙ h.starts);
    linked = through c (v ∷ d) 0 (link_nonzero a u lu) (linked_split N c (u ∷ []) 0 h.linked).0 g.linked (λ s i. h.links s (in_left s c (u ∷ []) i)) g.links
        (λ i. omega (arith, chain_once a la opened (c ++ u ∷ []) (unfold IsChain in h) u, count_append u c (u ∷ []), count_here u [])) (λ i. shared u (in_right u c (u ∷ []) (in_here u [])) i) refl;
  }
    where
      shared : (x : ℕ) → In x (c ++ u ∷ []) → In x (v ∷ d) → ⊥
      shared x i j = differ (unfold IsChain Like in (one_chain a la opened opened (c ++ u ∷ []) (v ∷ d) h g x i j).1)

      first_in : In (first_or 0 (c ++ u ∷ [])) (c ++ u ∷ [])
      first_in = in_first 0 (c ++ u ∷ []) (some_middle c u [])

      first : first_or 0 (c ++ u ∷ t ∷ v ∷ d) ≡ first_or 0 (c ++ u ∷ [])
      first = unfold first_or in first_append 0 c (u ∷ t ∷ v ∷ d) ∙ sym (first_append 0 c (u ∷ []))

      counted : (x : ℕ) → count x (c ++ u ∷ t ∷ v ∷ d) ≡ count x (t ∷ (c ++ u ∷ []) ++ v ∷ d)
      counted x = rw (append_assoc c (u ∷ []) (v ∷ d)) (count_put c (v ∷ d) x)

  closes_run : Link a u → (c : List ℕ) → IsOpen a (c ++ u ∷ []) → first_or 0 (c ++ u ∷ []) ≡ v → IsClosed b (c ++ u ∷ t ∷ [])
  unfolding first_or
  closes_run lu c h e =
      let once = chain_once a la opened (c ++ u ∷ []) (unfold IsChain in h) in
      let first : first_or 0 (c ++ u ∷ t ∷ []) ≡ v = first_append 0 c (u ∷ t ∷ []) ∙ sym (first_append 0 c (u ∷ [])) ∙ e in
      record {
        some = some_middle c u (t ∷ []);
        links = grown_links (c ++ u ∷ t ∷ []) (c ++ u ∷ []) (count_put c []) h.links;
        once = grown_once (c ++ u ∷ t ∷ []) (c ++ u ∷ []) (count_put c []) h.links once;
        linked = rw first (through c [] v (link_nonzero a u lu) (linked_split N c (u ∷ []) 0 h.linked).0 (linked_nil N v) (λ s i. h.links s (in_left s c (u ∷ []) i)) (λ s i. absurd (not_in_nil s i))
            (λ i. omega (arith, once u, count_append u c (u ∷ []), count_here u [])) (not_in_nil u) refl);
      }

  pub closes : Link a u → (c : List ℕ) → IsOpen a c → first_or 0 c ≡ v → last_or 0 c ≡ u → IsClosed b (c ++ t ∷ [])
  unfolding last_or
  closes lu [] h e f = absurd (h.some refl)
  closes lu (y ∷ ys) h e f =
      let w = by_last y ys in
      let list : y ∷ ys ≡ w.0 ++ u ∷ [] = w.1 ∙ ap (λ (x : ℕ). w.0 ++ x ∷ []) f in
      let new = closes_run lu w.0 (subst (IsOpen a) list h) (ap (first_or 0) (sym list) ∙ e) in
      subst (λ (l : List ℕ). IsClosed b (l ++ t ∷ [])) (sym list) (rw (append_assoc w.0 (u ∷ []) (t ∷ [])) new)
