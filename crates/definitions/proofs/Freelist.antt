-- Laws of the freelist: a walk that 6 to 10 do not refuse goes along a list that holds each free slot once, and a walk along such a list
-- is not refused. A walk that ends in a slot that names itself meets no slot twice, since from each slot there is only one way to the end;
-- so it is no longer than the free slots, and as it is no shorter it holds each of them. Assumes nothing.
use Prim.Native.Nat.{ℕ, zero, suc, ◌+◌, ◌≤◌, ◌<◌}
use mathlib.Core.Path.{◌≡◌, refl, sym, ap, ◌∙◌}
use mathlib.Core.Logic.{◌⊎◌, inl, inr, ⊎_elim}
use mathlib.Core.Bool.{cond}
use mathlib.Core.List.{List, [], ◌∷◌, ◌++◌}
use native.Mathlib.Omega.{arith}
use native.Mathlib.Decide.{dec_le}
use lib.ListN.{length, length-append}
use lib.Dec.{eqb, ltb}
use borrow.Author.Tests.{eqb-true, eqb-false, ltb-false, not-false}
use Rattle.definitions.specs.Columns.{at, count, first_or, last_or, Linked}
use Rattle.definitions.specs.Arena.{Arena, stack_length, link_count, root, link_slots, free_slots}
use Rattle.definitions.specs.Check.{freelist_walk, counts_of, Freelist}
use Rattle.definitions.proofs.Tests.{by_test, pass, tests}
use Rattle.definitions.proofs.Slots.{links_and_free}
use Rattle.definitions.proofs.Shaped.{counts_verdict}
use Rattle.definitions.proofs.Count.{In, Once, in_here, in_there, in_cases, in_split, not_in_nil, once_nil, once_one, once_cons, once_rest, once_first, once_among, shorter, as_many, count_free, only_free}

-- ---- the way from a slot to one that names itself

-- from s on next leads from each slot of the list to the one after it; the last one, and no other, leads to itself
unfoldable pub EndsInItself : (ℕ → ℕ) → ℕ → List ℕ → Type 0
EndsInItself next s [] = next s ≡ s
EndsInItself next s (t ∷ ts) = (next s ≡ t) × (t ≡ s → ⊥) × EndsInItself next t ts

module _ (next : ℕ → ℕ) where
  -- there is only one
  one_way : (s t : ℕ) (xs ys : List ℕ) → s ≡ t → EndsInItself next s xs → EndsInItself next t ys → xs ≡ ys
  unfolding EndsInItself
  one_way s t [] [] e p q = refl
  one_way s t [] (y ∷ ys) e p q = absurd (q.1 (sym q.0 ∙ (sym (ap next e) ∙ (p ∙ e))))
  one_way s t (x ∷ xs) [] e p q = absurd (p.1 (sym p.0 ∙ (ap next e ∙ (q ∙ sym e))))
  one_way s t (x ∷ xs) (y ∷ ys) e p q =
      let h : x ≡ y = sym p.0 ∙ (ap next e ∙ q.0) in
      let rest = one_way x y xs ys h p.2 q.2 in
      cc

  ends_from : (s t : ℕ) (us vs : List ℕ) → EndsInItself next s (us ++ t ∷ vs) → EndsInItself next t vs
  unfolding EndsInItself
  ends_from s t [] vs p = p.2
  ends_from s t (u ∷ us) vs p = ends_from u t us vs p.2

  pub ends_once : (s : ℕ) (xs : List ℕ) → EndsInItself next s xs → Once (s ∷ xs)
  ends_once s [] p = once_one s
  ends_once s (t ∷ ts) p = once_cons s (t ∷ ts) (ends_once t ts (unfold EndsInItself in p.2)) twice
    where
      twice : In s (t ∷ ts) → ⊥
      twice i =
          let cut = in_split s (t ∷ ts) i in
          let short = one_way s s (t ∷ ts) cut.1 refl p (ends_from s s cut.0 cut.1 (rw (← cut.2) p)) in
          omega (arith, ap length cut.2, length-append cut.0 (s ∷ cut.1), ap length short)

  pub ends_linked : (s : ℕ) (xs : List ℕ) → EndsInItself next s xs → Linked next (s ∷ xs) (last_or 0 (s ∷ xs))
  unfolding EndsInItself Linked first_or last_or
  ends_linked s [] p = (p, tt)
  ends_linked s (t ∷ ts) p = (p.0, ends_linked t ts p.2)

  pub linked_ends : (s : ℕ) (xs : List ℕ) → Once (s ∷ xs) → Linked next (s ∷ xs) (last_or 0 (s ∷ xs)) → EndsInItself next s xs
  unfolding EndsInItself Linked first_or last_or
  linked_ends s [] once p = p.0
  linked_ends s (t ∷ ts) once p =
      (p.0, (λ e. once_first s (t ∷ ts) once (rw e (in_here s ts))), linked_ends t ts (once_rest s (t ∷ ts) once) p.1)

-- ---- the walk

-- slot s is in the stack and free
abbrev pub IsFree : List ℕ → ℕ → ℕ → Type 0
IsFree gs n s = (1 ≤ s) × (s ≤ n) × (at gs s ≡ 0)

module _ (ns gs : List ℕ) (n : ℕ) where
  -- the slots after s that a walk from s along free slots visits, no fewer than there are free ones after those visited before
  pub record Visits (s visited : ℕ) (rest : List ℕ) : Type 0 where
    pub ends : EndsInItself (at ns) s rest
    pub free : (x : ℕ) → In x (s ∷ rest) → IsFree gs n x
    pub enough : length (free_slots gs n) ≤ visited + length (s ∷ rest)

  all_free : (s : ℕ) (rest : List ℕ) → IsFree gs n s → ((x : ℕ) → In x rest → IsFree gs n x) → (x : ℕ) → In x (s ∷ rest) → IsFree gs n x
  all_free s rest here later x i = elim (in_cases x s rest i) [ inl e ↦ rw e here | inr j ↦ later x j ]

  pub visits_of_walk : (left s visited : ℕ) → freelist_walk ns gs n left s visited ≡ 0 → (rest : List ℕ) × Visits s visited rest
  unfolding freelist_walk EndsInItself
  visits_of_walk zero s visited e = absurd (omega arith)
  visits_of_walk (suc left) s visited e =
      let six = pass _ _ _ tt e in
      let seven = pass _ _ _ tt six.1 in
      let eight = pass _ _ _ tt seven.1 in
      let here : IsFree gs n s = (omega (arith, eqb-false s 0 six.0), ltb-false n s seven.0, eqb-true _ _ (not-false _ eight.0)) in
      by_test (eqb (at ns s) s)
      (λ t. last here (eqb-true _ _ t) (rw t at eight.1))
      (λ t. more here (eqb-false _ _ t) (visits_of_walk left (at ns s) (visited + 1) (rw t at eight.1)))
    where
      last : IsFree gs n s → at ns s ≡ s → ◌≡◌ {A = ℕ} (cond (ltb (visited + 1) (length (free_slots gs n))) 10 0) 0 → (rest : List ℕ) × Visits s visited rest
      last here t ten =
          ([], record { ends = t; free = all_free s [] here (λ x i. absurd (not_in_nil x i)); enough = ltb-false _ _ (pass _ _ _ tt ten).0 })

      more : IsFree gs n s → (at ns s ≡ s → ⊥) → (rest : List ℕ) × Visits (at ns s) (visited + 1) rest → (rest : List ℕ) × Visits s visited rest
      more here t r =
          (at ns s ∷ r.0, record { ends = (refl, t, r.1.ends); free = all_free s (at ns s ∷ r.0) here r.1.free; enough = omega (arith, r.1.enough) })

  pub walk_of_visits : (left s visited : ℕ) (rest : List ℕ) → Visits s visited rest → length rest < left → 0 ≡ freelist_walk ns gs n left s visited
  unfolding freelist_walk EndsInItself
  walk_of_visits zero s visited rest v l = absurd (omega arith)
  walk_of_visits (suc left) s visited [] v l =
      let here = v.free s (in_here s []) in
      let some : s ≡ 0 → ⊥ = λ z. omega arith in
      let enough = v.enough in
      let self = v.ends in
      search tests depth 20
  walk_of_visits (suc left) s visited (t ∷ ts) v l =
      let here = v.free s (in_here s (t ∷ ts)) in
      let some : s ≡ 0 → ⊥ = λ z. omega arith in
      let onward : at ns s ≡ t = v.ends.0 in
      let other : at ns s ≡ s → ⊥ = λ e. v.ends.1 (sym onward ∙ e) in
      let rest : 0 ≡ freelist_walk ns gs n left (at ns s) (visited + 1) = rw onward (walk_of_visits left t (visited + 1) ts record { ends = v.ends.2; free = λ x i. v.free x (in_there x s (t ∷ ts) i); enough = omega (arith, v.enough) } (omega arith)) in
      search tests depth 20

-- ---- a list of the free slots, each once

module _ (gs : List ℕ) (n : ℕ) where
  -- fs holds free slots only
  abbrev pub FreeOnly : List ℕ → Type 0
  FreeOnly fs = (x : ℕ) → In x fs → IsFree gs n x

  -- fs holds each free slot once
  abbrev pub EachFree : List ℕ → Type 0
  EachFree fs = (x : ℕ) → 1 ≤ x → x ≤ n → at gs x ≡ 0 → count x fs ≡ 1

  pub free_once : (fs : List ℕ) → FreeOnly fs → EachFree fs → Once fs
  free_once fs free each x =
      elim (dec_le 1 (count x fs)) [ yes i ↦ (let f = free x i in omega (arith, each x f.0 f.1 f.2)) | no i ↦ omega arith ]

  -- no list without repetition holds more than another holds that has each of them
  no_more : (fs ts : List ℕ) → FreeOnly fs → Once fs → EachFree ts → (x : ℕ) → count x fs ≤ count x ts
  no_more fs ts free once each = once_among fs ts once (λ x i. let f = free x i in omega (arith, each x f.0 f.1 f.2))

  -- free slots without repetition, no fewer than there are
  pub each_free : (fs : List ℕ) → FreeOnly fs → Once fs → length (free_slots gs n) ≤ length fs → EachFree fs
  each_free fs free once enough x p l g = as_many fs (free_slots gs n) (no_more fs (free_slots gs n) free once (count_free gs n)) enough x ∙ count_free gs n x p l g

  pub length_free : (fs : List ℕ) → FreeOnly fs → EachFree fs → length fs ≡ length (free_slots gs n)
  length_free fs free each =
      let all = free_slots gs n in
      omega (arith, shorter fs all (no_more fs all free (free_once fs free each) (count_free gs n)), shorter all fs (no_more all fs (only_free gs n) (free_once all (only_free gs n) (count_free gs n)) each))

-- ---- 4 to 10 of an arena

-- what rule 5 leaves of the rest: no root and no free slot, or the walk
root_or_none : (s free walked : ℕ) → cond (eqb s 0) (cond (eqb free 0) 0 5) (cond (eqb free 0) 5 walked) ≡ 0 → ((s ≡ 0) × (free ≡ 0)) ⊎ (walked ≡ 0)
root_or_none s free walked e =
    by_test (eqb s 0)
    (λ z. by_test (eqb free 0) (λ f. inl (eqb-true s 0 z, eqb-true free 0 f)) (λ f. absurd (omega (arith, rw (z, f) at e))))
    (λ z. by_test (eqb free 0) (λ f. absurd (omega (arith, rw (z, f) at e))) (λ f. inr (rw (z, f) at e)))

-- of 4 to 10 that do not refuse: the link count, and no root and no free slot or a walk of some number of visits
counts_parts : (ns gs : List ℕ) (n m s : ℕ) → counts_of ns gs n m s ≡ 0 → (m ≡ length (link_slots gs n)) × (((s ≡ 0) × (length (free_slots gs n) ≡ 0)) ⊎ ((left : ℕ) × (freelist_walk ns gs n left s 0 ≡ 0)))
unfolding counts_of
counts_parts ns gs n m s e =
    let four = pass _ _ _ tt e in
    (eqb-true _ _ (not-false _ four.0), ⊎_elim inl (λ walked. inr (_, walked)) (root_or_none s _ _ four.1))

module _ (a : Arena) where
  abbrev free : List ℕ
  free = free_slots a.generation (stack_length a)

  abbrev VisitsFromRoot : List ℕ → Type 0
  VisitsFromRoot rest = Visits a.next a.generation (stack_length a) (root a) 0 rest

  no_slot_is_free : root a ≡ 0 → length free ≡ 0 → Freelist a []
  unfolding first_or Linked
  no_slot_is_free z e =
      let only : FreeOnly a.generation (stack_length a) [] = λ x i. absurd (not_in_nil x i) in
      record { starts = sym z; linked = tt; free = only; once = each_free _ _ [] only once_nil (omega arith) }

  freelist_of_visits : (rest : List ℕ) → VisitsFromRoot rest → Freelist a (root a ∷ rest)
  unfolding first_or
  freelist_of_visits rest v = record {
    starts = refl;
    linked = ends_linked (at a.next) (root a) rest v.ends;
    free = v.free;
    once = each_free _ _ (root a ∷ rest) v.free (ends_once (at a.next) (root a) rest v.ends) (omega (arith, v.enough));
  }

  visits_of_freelist : (s : ℕ) (rest : List ℕ) → Freelist a (s ∷ rest) → VisitsFromRoot rest
  unfolding first_or
  visits_of_freelist s rest h =
      let once = free_once _ _ (s ∷ rest) h.free h.once in
      rw (← h.starts)
      record {
        ends = linked_ends (at a.next) s rest once h.linked;
        free = h.free;
        enough = omega (arith, length_free _ _ (s ∷ rest) h.free h.once);
      }

  pub links_counted : counts_verdict a ≡ 0 → link_count a ≡ length (link_slots a.generation (stack_length a))
  links_counted e = (counts_parts a.next a.generation (stack_length a) (link_count a) (root a) e).0

  pub freelist_of_counts : counts_verdict a ≡ 0 → (fs : List ℕ) × Freelist a fs
  freelist_of_counts e =
      elim (counts_parts a.next a.generation (stack_length a) (link_count a) (root a) e).1 [
        | inl h ↦ ([], no_slot_is_free h.0 h.1)
        | inr walked ↦ (let v = visits_of_walk _ _ _ walked.0 (root a) 0 walked.1 in (root a ∷ v.0, freelist_of_visits v.0 v.1))
      ]

  pub counts_of_freelist : link_count a ≡ length (link_slots a.generation (stack_length a)) → (fs : List ℕ) → Freelist a fs → 0 ≡ counts_verdict a
  unfolding counts_of first_or
  counts_of_freelist m [] h =
      let none : root a ≡ 0 = sym h.starts in
      let no_free : length free ≡ 0 = sym (length_free _ _ [] h.free h.once) in
      search tests depth 20
  counts_of_freelist m (s ∷ rest) h =
      let size = length_free a.generation (stack_length a) (s ∷ rest) h.free h.once in
      let some : root a ≡ 0 → ⊥ = λ z. omega (arith, h.starts, (h.free s (in_here s rest)).0) in
      let some-free : length free ≡ 0 → ⊥ = λ z. omega arith in
      let walked = walk_of_visits a.next a.generation (stack_length a) (stack_length a + 2) (root a) 0 rest (visits_of_freelist s rest h) (omega (arith, links_and_free a.generation (stack_length a))) in
      search tests depth 20

-- ---- the root is none, or is in the stack

pub root_within : (a : Arena) (fs : List ℕ) → Freelist a fs → root a ≤ stack_length a
unfolding first_or
root_within a [] f = let e = f.starts in omega arith
root_within a (s ∷ fs) f = let e = f.starts in omega (arith, (f.free s (in_here s fs)).1)
