-- What goes with 11: `broken_slot_is_lowest` says that rule 11 fails at that slot and on that side, and at no lower slot; `names_lowest` that every call hands this on, and
-- names no slot with any other number; `lowest_broken_is_one` that no other slot and side are like that. Assumes nothing.
use Prim.Native.Nat.{ℕ, ◌<◌}
use mathlib.Core.Path.{◌≡◌, refl, sym, ap, subst, ◌∙◌}
use mathlib.Core.Logic.{◌⊎◌, inl, inr, ◌↔◌}
use mathlib.Core.Bool.{Bool, true, false, true≢false}
use mathlib.Core.List.{List}
use native.Mathlib.Omega.{arith}
use native.Mathlib.Decide.{ℕ_discrete, dec_le}
use lib.Dec.{eqb}
use borrow.Author.Tests.{eqb-true}
use Rattle.definitions.specs.Columns.{at}
use Rattle.definitions.specs.Arena.{Arena, stack_length}
use Rattle.definitions.specs.Check.{names_back, verdict, FailsAt, side_at, broken_slot, broken_side}
use Rattle.definitions.specs.Reply.{Reply}
use Rattle.definitions.specs.Calls.{Call, reply_to}
use Rattle.definitions.proofs.Tests.{by_test}
use Rattle.definitions.proofs.Slots.{allocated_some}
use Rattle.definitions.proofs.Interlinks.{names_back_lem, does_name_back, fine_link, fine_parts}
use Rattle.definitions.proofs.Broken.{Lowest, lowest_broken, first_lowest, slot_with_eleven, side_with_eleven, slot_without, side_without}
use Rattle.statements.specs.BrokenSlot.{PrevFine, NextFine, LowestBroken, NamesLowest}
use Rattle.well_formed.proofs.Verdict.{eleven_broken, fails_at_links}
use Rattle.well_formed.proofs.Eleven.{ButForNeighbours, eleven_exactly}
use Rattle.every_call.proofs.OwnReplies.{Own, refused, done, own_reply}

-- ---- the definitions

module _ (limit : ℕ) (a : Arena) (x : ℕ) (low : Lowest a.prev a.next a.generation (stack_length a) (stack_length a) x) where
  abbrev side : ℕ
  side = side_at a.prev a.next a.generation (stack_length a) x

  abbrev prev_names : Bool
  prev_names = names_back a.next a.generation (stack_length a) x (at a.prev x)

  -- the prev names the slot back, so its next does not
  next_fails : prev_names ≡ true → NextFine a x → ⊥
  next_fails p fine = true≢false (sym (fine_link _ _ _ _ x p (does_name_back _ _ _ x _ fine)) ∙ low.fails)

  side_is_next : prev_names ≡ true → side ≡ 2
  unfolding side_at
  side_is_next p = rw p refl

  side_is_prev : prev_names ≡ false → side ≡ 1
  unfolding side_at
  side_is_prev p = rw p refl

  is_lowest : LowestBroken a x side
  is_lowest = record {
    link = fails_at_links limit a x low.fails;
    sides = by_test prev_names (λ p. inr (side_is_next p)) (λ p. inl (side_is_prev p));
    prev = λ e fine. by_test prev_names (λ p. omega (arith, side_is_next p)) (λ p. true≢false (sym (does_name_back _ _ _ x _ fine) ∙ p));
    next = λ e. by_test prev_names (λ p. (names_back_lem _ _ _ x _ p, next_fails p)) (λ p. absurd (omega (arith, side_is_prev p)));
    lower = λ y h link.
        let sides = fine_parts _ _ _ _ y (low.lower y (allocated_some _ _ y link) h) link in
        (names_back_lem _ _ _ y _ sides.0, names_back_lem _ _ _ y _ sides.1);
  }

module _ (limit : ℕ) (a : Arena) where
  eleven_lowest : verdict limit a ≡ 11 → LowestBroken a (broken_slot limit a) (broken_side limit a)
  eleven_lowest e = rw (side_with_eleven limit a e, slot_with_eleven limit a e) (is_lowest limit a (lowest_broken limit a) (first_lowest _ _ _ _ (eleven_broken limit a e)))

  pub broken_slot_is_lowest : (verdict limit a ≡ 11 → LowestBroken a (broken_slot limit a) (broken_side limit a)) × ((verdict limit a ≡ 11 → ⊥) → (broken_slot limit a ≡ 0) × (broken_side limit a ≡ 0))
  broken_slot_is_lowest = (eleven_lowest, λ other. (slot_without limit a other, side_without limit a other))

-- ---- no other slot and side

module _ (a : Arena) where
  -- a broken slot is not fine on both sides
  not_fine : (s d : ℕ) → LowestBroken a s d → PrevFine a s × NextFine a s → ⊥
  not_fine s d l fine = go l.sides
    where
      go : (d ≡ 1) ⊎ (d ≡ 2) → ⊥
      go (inl e) = l.prev e fine.0
      go (inr e) = (l.next e).1 fine.1

  not_lower : (s t d e : ℕ) → LowestBroken a s d → LowestBroken a t e → s < t → ⊥
  not_lower s t d e l m h = not_fine s d l (m.lower s h l.link)

  same_side : (s d e : ℕ) → LowestBroken a s d → LowestBroken a s e → d ≡ e
  same_side s d e l m = go l.sides m.sides
    where
      go : (d ≡ 1) ⊎ (d ≡ 2) → (e ≡ 1) ⊎ (e ≡ 2) → d ≡ e
      go (inl p) (inl q) = p ∙ sym q
      go (inl p) (inr q) = absurd (l.prev p (m.next q).0)
      go (inr p) (inl q) = absurd (m.prev q (l.next p).0)
      go (inr p) (inr q) = p ∙ sym q

  pub lowest_broken_is_one : (s t d e : ℕ) → LowestBroken a s d → LowestBroken a t e → (s ≡ t) × (d ≡ e)
  lowest_broken_is_one s t d e l m = go (ℕ_discrete s t)
    where
      go : Dec (s ≡ t) → (s ≡ t) × (d ≡ e)
      go (yes q) = (q, same_side t d e (rw q at l) m)
      go (no q) = elim (dec_le s t) [ yes h ↦ absurd (not_lower s t d e l m (omega arith)) | no h ↦ absurd (not_lower t s e d m l (omega arith)) ]

-- ---- every call

-- a call's own reply has another number than 11, and names no slot
pub record NamesNone (r : Reply) : Type 0 where
  pub other : r.number ≡ 11 → ⊥
  pub broken : r.broken ≡ 0
  pub side : r.side ≡ 0

own_names_none : (a : Arena) (l : List ℕ) (r : Reply) → Own a l r → NamesNone r
own_names_none a l r (refused k n above) = record { other = λ e. omega arith; broken = refl; side = refl }
own_names_none a l r (done true fs b m) = record { other = λ e. omega (arith, e); broken = refl; side = refl }
own_names_none a l r (done false fs b m) = record { other = λ e. omega (arith, e); broken = refl; side = refl }

module _ (limit top : ℕ) (c : Call) (a : Arena) (l : List ℕ) where
  -- a call answers 11 exactly where the check does
  pub eleven_by_call : ((reply_to limit top c a l).number ≡ 11) ↔ (verdict limit a ≡ 11)
  unfolding reply_to
  eleven_by_call =
      by_test (eqb (verdict limit a) 0)
      (λ t. rw t (λ e. absurd ((own_names_none a l _ (own_reply a l top c)).other e), λ v. absurd (omega (arith, eqb-true (verdict limit a) 0 t))))
      (λ t. rw t (λ e. e, λ e. e))

  pub names_lowest : NamesLowest a (reply_to limit top c a l)
  unfolding reply_to
  names_lowest =
      by_test (eqb (verdict limit a) 0)
      (λ t. let own = own_names_none a l _ (own_reply a l top c) in rw t (record { eleven = λ e. absurd (own.other e); other = λ d. (own.broken, own.side) }))
      (λ t. rw t (record { eleven = (broken_slot_is_lowest limit a).0; other = (broken_slot_is_lowest limit a).1 }))

  pub names_lowest_by_contract : (r : Reply) → r ≡ reply_to limit top c a l → NamesLowest a r
  names_lowest_by_contract r p = subst (λ (s : Reply). NamesLowest a s) (sym p) names_lowest

  pub eleven_by_contract : (r : Reply) → r ≡ reply_to limit top c a l → (r.number ≡ 11) ↔ (ButForNeighbours limit a × ((s : ℕ) × FailsAt a s))
  eleven_by_contract r p = (
    λ e. (eleven_exactly limit a).0 (eleven_by_call.0 (ap (λ (s : Reply). s.number) (sym p) ∙ e)),
    λ h. ap (λ (s : Reply). s.number) p ∙ eleven_by_call.1 ((eleven_exactly limit a).1 h),
  )
