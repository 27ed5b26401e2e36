-- The slots that the rest of a walk answers, step by step. Assumes nothing.
use Prim.Native.Nat.{ℕ, zero, suc, ◌+◌, ◌≤◌}
use mathlib.Core.Path.{◌≡◌, refl, sym, ap, ◌∙◌}
use mathlib.Core.Logic.{◌⊎◌, inl, inr}
use mathlib.Core.Bool.{true}
use mathlib.Core.List.{[], ◌∷◌}
use native.Mathlib.Omega.{arith}
use lib.ListN.{length}
use lib.Dec.{eqb, ltb}
use borrow.Author.Tests.{eq-eqb, ne_eqb, le-ltb}
use Rattle.std.specs.Prelude.{◌≢◌, Option, Some, None, is_some, IfSome, MatchOption}
use Rattle.definitions.specs.Arena.{Arena, is_link, capacity_limit}
use Rattle.definitions.specs.Check.{verdict}
use Rattle.definitions.specs.Read.{Pointer}
use Rattle.definitions.specs.Walk.{Walk, Stepped, step, walked}
use Rattle.definitions.proofs.Tests.{by_test}
use Rattle.well_formed.proofs.WellFormed.{well_formed_if_passes}
use Rattle.walks.proofs.AnyState.{Answered, Ended, answered_or_ended, ended_stays, onward_left, step_answers_links}
use Rattle.ptr.specs.declared.Ptr.{Ptr}
use Rattle.chain_iterators.specs.declared.ChainPtrAdvancer.{ChainPtrAdvancer}
use Rattle.chain_iterators.specs.Walk.{walk_of, stepped_of, OnChain}
use Rattle.chain_iterators.proofs.Chain.{step_on_chain}
use Rattle.chain_ahead.specs.Ahead.{slots_ahead}
use Rattle.chain_ahead.specs.Rest.{rest_of}
use Rattle.chain_ahead.specs.declared.ChainWalk.{ChainWalk}

-- no walk answers more slots than it makes steps
walked_short : (a : Arena) (m : ℕ) (w : Walk) → length (walked a m w) ≤ m
unfolding walked
walked_short a zero w = omega arith
walked_short a (suc m) w =
    by_test (eqb (step a w).answer.slot 0)
    (λ e. rw e (omega arith))
    (λ e. rw e (omega (arith, walked_short a m (step a w).state)))

module _ (a : Arena) (w : Walk) where
  ahead_short : length (slots_ahead a w) ≤ w.left
  ahead_short = walked_short a w.left w

  -- a step that answers a slot lowers the advances left
  step_lowers : ((step a w).answer.slot ≡ 0 → ⊥) → w.left ≡ suc (step a w).state.left
  step_lowers d = go (answered_or_ended a w)
    where
      go : Answered a w ⊎ Ended a w → w.left ≡ suc (step a w).state.left
      go (inl h) = let some = h.some in rw h.is (omega (arith, onward_left a w))
      go (inr e) = absurd (d (ap (λ (r : Stepped). r.answer.slot) (ended_stays a w e).2))

  none_ahead : (m : ℕ) → (step a w).answer.slot ≡ 0 → walked a m w ≡ []
  unfolding walked
  none_ahead zero z = refl
  none_ahead (suc m) z = rw (eq-eqb _ _ z) refl

  one_ahead : (m : ℕ) → ((step a w).answer.slot ≡ 0 → ⊥) → walked a (suc m) w ≡ (step a w).answer.slot ∷ walked a m (step a w).state
  unfolding walked
  one_ahead m d = rw (ne_eqb _ _ d) refl

  -- the step r was made, and answered none
  module _ (r : Stepped) (e : r ≡ step a w) where
    ahead_none : r.answer.slot ≡ 0 → slots_ahead a w ≡ []
    ahead_none z = none_ahead w.left (rw e at z)

    -- or it answered a slot
    ahead_some : (r.answer.slot ≡ 0 → ⊥) → slots_ahead a w ≡ r.answer.slot ∷ slots_ahead a r.state
    ahead_some d = let f = rw e at d in ap (λ (m : ℕ). walked a m w) (step_lowers f) ∙ rw e (one_ahead (step a w).state.left f)

  -- the code's step
  module _ (v : ChainPtrAdvancer) where
    pub advanced_on_chain : verdict capacity_limit a ≡ 0 → (o : Option Ptr) → stepped_of o v ≡ step a w → OnChain a w.position → OnChain a v.ptr.0
    advanced_on_chain ok None e on = step_on_chain (well_formed_if_passes capacity_limit a ok) w e on
    advanced_on_chain ok (Some p) e on = step_on_chain (well_formed_if_passes capacity_limit a ok) w e on

    pub advanced : (o : Option Ptr) → stepped_of o v ≡ step a w → IfSome o (λ (p : Ptr). p.inx.0 ≢ 0) → MatchOption o (slots_ahead a w ≡ []) (λ (p : Ptr). slots_ahead a w ≡ p.inx.0 ∷ slots_ahead a (walk_of v))
    advanced None e some = ahead_none (stepped_of None v) e refl
    advanced (Some p) e some = ahead_some (stepped_of (Some p) v) e some

    pub answers_link : (o : Option Ptr) → stepped_of o v ≡ step a w → IfSome o (λ (p : Ptr). p.inx.0 ≢ 0) → IfSome o (λ (p : Ptr). is_link a p.inx.0 ≡ true)
    answers_link None e some = tt
    answers_link (Some p) e some =
        elim (step_answers_links a w) [
          | inl none ↦ absurd (some (ap (λ (s : Stepped). s.answer.slot) e ∙ ap (λ (q : Pointer). q.slot) none))
          | inr link ↦ rw (← e) at link.0
        ]

-- the rest answers no more links than it has advances left
pub rest_short : (u : ChainWalk) → length (rest_of u) ≤ u.walk.max_advances
rest_short u = ahead_short _ _

-- a step that answers a link leaves one less
pub one_less : (u v : ChainWalk) (o : Option Ptr) → MatchOption o (rest_of u ≡ []) (λ (p : Ptr). rest_of u ≡ p.inx.0 ∷ rest_of v) → true ≡ is_some o → length (rest_of u) ≡ length (rest_of v) + 1
one_less u v None none y = cc
one_less u v (Some p) some y = omega (arith, ap length some)

-- where the advances left have room, so do the links
pub ahead_fits : (a : Arena) (w : Walk) (room : ℕ) → w.left ≤ room → ltb room w.left ≡ ltb room (length (slots_ahead a w))
ahead_fits a w room h = let short = ahead_short a w in le-ltb room w.left h ∙ sym (le-ltb room (length (slots_ahead a w)) (omega arith))
