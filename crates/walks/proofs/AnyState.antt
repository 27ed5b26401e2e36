-- Walks over any arena, with any state words: a step answers a link or none (`step_answers_links`), and after none it answers none ever after
-- (`none_after_none`). A walk that was started answers its slots, and then none ever after (`walk_then_none`). Assumes nothing.
use Prim.Native.Nat.{ℕ, zero, suc, ◌+◌, ◌-◌, ◌≤◌}
use mathlib.Core.Path.{◌≡◌, refl, sym, ap, ◌∙◌}
use mathlib.Core.Logic.{◌⊎◌, inl, inr}
use mathlib.Core.Bool.{false, not}
use mathlib.Core.List.{List, [], ◌∷◌, ◌++◌}
use native.Mathlib.Omega.{arith}
use native.Mathlib.Nat.{zero-add, suc-add}
use native.Mathlib.Decide.{ℕ_discrete}
use lib.ListN.{length, replicate, get_or}
use lib.Dec.{eqb}
use borrow.Author.Tests.{ne_eqb}
use Rattle.definitions.specs.Columns.{at}
use Rattle.definitions.specs.Arena.{Arena, stack_length, link_count, is_link}
use Rattle.definitions.specs.Read.{Pointer, pointer}
use Rattle.definitions.specs.Walk.{Walk, walk, Stepped, none, onward, step, start_at, walked, walk_from}
use Rattle.definitions.proofs.Tests.{by_test}
use Rattle.definitions.proofs.Columns.{at_zero}
use Rattle.definitions.proofs.Slots.{allocated_free}
use Rattle.definitions.proofs.Count.{In, in_cases, not_in_nil}
use Rattle.definitions.proofs.Steps.{step_spent, step_ends, step_answers}
use Rattle.chains.proofs.Links.{Link, AllLinks, link_nonzero, links_nil, links_cons}
use Rattle.statements.specs.Answers.{answers}

module _ (a : Arena) where
  -- slot 0 is no link
  pub none_no_link : is_link a 0 ≡ false
  none_no_link = allocated_free a.generation (stack_length a) 0 (at_zero a.generation)

  -- a step that answers a link
  pub record Answered (w : Walk) : Type 0 where
    pub link : Link a w.position
    pub some : w.left ≡ 0 → ⊥
    pub is : step a w ≡ record { answer = pointer w.position (at a.generation w.position); state = onward a w }

  -- a walk that has ended: no advance is left, or its position is no link
  abbrev pub Ended : Walk → Type 0
  Ended w = (w.left ≡ 0) ⊎ (is_link a w.position ≡ false)

  pub answered_or_ended : (w : Walk) → Answered w ⊎ Ended w
  answered_or_ended w =
      elim (ℕ_discrete w.left 0) [
        | yes z ↦ inr (inl z)
        | no d ↦ by_test (is_link a w.position) (λ h. inl (record { link = h; some = d; is = sym (step_answers a w _ _ d h refl refl) })) (λ h. inr (inr h))
      ]

  -- a walk that has ended answers none, and has ended afterwards
  pub ended_stays : (w : Walk) → Ended w → (v : Walk) × Ended v × (step a w ≡ none v)
  ended_stays w (inl z) = (w, inl z, sym (step_spent a w z))
  ended_stays w (inr h) =
      elim (ℕ_discrete w.left 0) [
        | yes z ↦ (w, inl z, sym (step_spent a w z))
        | no d ↦ (walk w.start 0 w.direction (w.left - 1), inr none_no_link, sym (step_ends a w d h))
      ]

  -- ---- one step

  -- whatever the state words are, a step answers a link or none
  pub step_answers_links : (w : Walk) → ((step a w).answer ≡ pointer 0 0) ⊎ (Link a (step a w).answer.slot × ((step a w).answer.generation ≡ at a.generation (step a w).answer.slot))
  step_answers_links w =
      elim (answered_or_ended w) [
        | inl h ↦ rw h.is (inr (h.link, refl))
        | inr e ↦ inl (ap (λ (r : Stepped). r.answer) (ended_stays w e).2)
      ]

  -- each step lowers the advances left
  pub onward_left : (w : Walk) → (onward a w).left ≡ w.left - 1
  unfolding onward
  onward_left w =
      by_test (not (eqb w.direction 0)) (λ d. rw d refl)
      (λ d. by_test (eqb (at a.next w.position) 0) (λ z. rw (d, z) refl)
      (λ z. by_test (eqb (at a.next w.position) w.start) (λ r. rw (d, z, r) refl) (λ r. rw (d, z, r) refl)))

  -- ---- a whole walk

  pub walked_on : (m : ℕ) (w : Walk) → Answered w → walked a (suc m) w ≡ w.position ∷ walked a m (onward a w)
  unfolding walked
  walked_on m w h = rw (h.is, ne_eqb _ _ (link_nonzero a w.position h.link)) refl

  pub walked_none : (m : ℕ) (w : Walk) → Ended w → walked a m w ≡ []
  unfolding walked
  walked_none zero w e = refl
  walked_none (suc m) w e = rw (ended_stays w e).2 refl

  -- it answers links alone
  pub walked_links : (m : ℕ) (w : Walk) → AllLinks a (walked a m w)
  walked_links zero w = unfold walked in links_nil a
  walked_links (suc m) w =
      elim (answered_or_ended w) [
        | inl h ↦ rw (walked_on m w h) (links_cons a w.position (walked a m (onward a w)) h.link (walked_links m (onward a w)))
        | inr e ↦ rw (walked_none (suc m) w e) (links_nil a)
      ]

  -- ---- none, ever after

  pub none_after_end : (k : ℕ) (w : Walk) → Ended w → answers a k w ≡ replicate k 0
  unfolding answers
  none_after_end zero w e = refl
  none_after_end (suc k) w e = let s = ended_stays w e in rw s.2 (ap (λ (l : List ℕ). 0 ∷ l) (none_after_end k s.0 s.1))

  -- whatever the state words are, a step that answers none is followed by none
  pub none_after_none : (k : ℕ) (w : Walk) → (step a w).answer.slot ≡ 0 → answers a k (step a w).state ≡ replicate k 0
  none_after_none k w z =
      elim (answered_or_ended w) [
        | inl h ↦ absurd (link_nonzero a w.position h.link (rw h.is at z))
        | inr e ↦ let s = ended_stays w e in rw s.2 (none_after_end k s.0 s.1)
      ]

  -- the answers of a walk, step by step: its slots, then none
  pub walked_then_none : (m k : ℕ) (w : Walk) → w.left ≤ m → answers a (length (walked a m w) + k) w ≡ walked a m w ++ replicate k 0
  walked_then_none zero k w h = unfold walked in rw zero-add (none_after_end k w (inl (omega arith)))
  walked_then_none (suc m) k w h = go (answered_or_ended w) (walked_then_none m k (onward a w))
    where
      go : Answered w ⊎ Ended w →
          ((onward a w).left ≤ m → answers a (length (walked a m (onward a w)) + k) (onward a w) ≡ walked a m (onward a w) ++ replicate k 0) →
          answers a (length (walked a (suc m) w) + k) w ≡ walked a (suc m) w ++ replicate k 0
      go (inr e) ih = rw (walked_none (suc m) w e, zero-add) (none_after_end k w e)
      go (inl s) ih = unfold answers in rw (walked_on m w s, suc-add, s.is) (ap (λ (l : List ℕ). w.position ∷ l) (ih (omega (arith, onward_left w, s.some))))

  -- as of a walk that was started
  pub walk_then_none : (o k : ℕ) → answers a (length (walk_from a o) + k) (start_at a o) ≡ walk_from a o ++ replicate k 0
  walk_then_none o k = walked_then_none (link_count a) k (start_at a o) (omega arith)

  -- so every slot that is answered is a link or none, one none is followed by another, and a whole walk by none
  pub answers_are_links : (k : ℕ) (w : Walk) (s : ℕ) → In s (answers a k w) → (s ≡ 0) ⊎ Link a s
  unfolding answers
  answers_are_links zero w s i = absurd (not_in_nil s i)
  answers_are_links (suc k) w s i = go (in_cases s (step a w).answer.slot (answers a k (step a w).state) i) (step_answers_links w) (answers_are_links k (step a w).state s)
    where
      go : (s ≡ (step a w).answer.slot) ⊎ In s (answers a k (step a w).state)
          → ((step a w).answer ≡ pointer 0 0) ⊎ (Link a (step a w).answer.slot × ((step a w).answer.generation ≡ at a.generation (step a w).answer.slot))
          → (In s (answers a k (step a w).state) → (s ≡ 0) ⊎ Link a s) → (s ≡ 0) ⊎ Link a s
      go (inl e) (inl n) later = inl (e ∙ ap (λ (p : Pointer). p.slot) n)
      go (inl e) (inr l) later = inr (rw e l.0)
      go (inr j) l later = later j

  pub none_again : (w : Walk) → (step a w).answer.slot ≡ 0 → (step a (step a w).state).answer.slot ≡ 0
  unfolding answers
  none_again w z = ap (λ (l : List ℕ). get_or l 0 0) (none_after_none 1 w z)

  pub walk_then_one_none : (o : ℕ) → answers a (length (walk_from a o) + 1) (start_at a o) ≡ walk_from a o ++ 0 ∷ []
  walk_then_one_none o = walk_then_none o 1
