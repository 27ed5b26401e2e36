-- The laws by which an export meets its promise: one where the check refused, one where it passed. Assumes nothing.
use Prim.Native.Nat.{ℕ}
use mathlib.Core.Path.{◌≡◌, refl, sym, ◌∙◌}
use mathlib.Core.List.{List, []}
use native.Mathlib.Omega.{arith}
use lib.ListN.{length, replicate}
use native.Mathlib.Decide.{ℕ_discrete}
use borrow.Author.Tests.{ne_eqb}
use Rattle.definitions.specs.Arena.{Arena, capacity_limit, largest_generation, header_words}
use Rattle.definitions.specs.Check.{verdict, WellFormed}
use Rattle.definitions.specs.Reply.{Reply, reply}
use Rattle.definitions.specs.Calls.{Call, Check, accepted, reply_to}
use Rattle.definitions.proofs.Broken.{slot_without, side_without}
use Rattle.definitions.proofs.Shaped.{Shaped, shaped}
use Rattle.definitions.proofs.Fields.{fields_of, fields_length}
use Rattle.well_formed.proofs.WellFormed.{well_formed_if_passes}
use Rattle.refusals.specs.declared.Refusal.{Refusal}
use Rattle.refusals.specs.Refusal.{refused}
use Rattle.chain_arena.specs.Checks.{Refuses}
use Rattle.chain_arena.proofs.Verdict.{numbered}
use Rattle.answers.specs.declared.Answer.{Answer}
use Rattle.answers.specs.Answered.{Verdict, replied, Answered}
use Rattle.answers.specs.Words.{answer_of, refusal_answer}

-- ---- an export, and the function in it that makes the check and gives a result

-- an arena that the check refused: the reply is that of the refusal, with as many further fields as the call has, all 0; all that was lent is as it was
pub replies_refused : {a : Arena} {r : Refusal} → Refuses a r → (c : Call) (l : List ℕ) → refused r (fields_of c) a l ≡ reply_to capacity_limit largest_generation c a l
unfolding reply_to
replies_refused {a} {r} h c l =
    rw (ne_eqb (verdict capacity_limit a) 0 (λ v. numbered r (h.number ∙ v)), fields_length largest_generation c a l, ← h.number, ← h.broken, ← h.side) refl

-- an arena that passed: the reply is the call's own
pub replies_passed : (a : Arena) → verdict capacity_limit a ≡ 0 → (c : Call) (l : List ℕ) (s : Reply) → s ≡ accepted largest_generation c a l → s ≡ reply_to capacity_limit largest_generation c a l
unfolding reply_to
replies_passed a e c l s q = rw e q

-- ---- the check itself

pub verdict_passed : (a : Arena) → verdict capacity_limit a ≡ 0 → Verdict a (answer_of 0)
verdict_passed a e =
    let other : verdict capacity_limit a ≡ 11 → ⊥ = λ v. omega arith in
    record { number = sym e; broken = sym (slot_without capacity_limit a other); side = sym (side_without capacity_limit a other) }

pub verdict_refused : {a : Arena} {r : Refusal} → Refuses a r → Verdict a (refusal_answer r)
verdict_refused h = record { number = h.number; broken = h.broken; side = h.side }

-- it answers its number, slot and side
module _ {a : Arena} {r : Answer} (h : Verdict a r) where
  pub answers_check : (l : List ℕ) → Answered Check a l r [] a l
  unfolding reply_to accepted
  answers_check l = elim (ℕ_discrete (verdict capacity_limit a) 0) [
    | yes e ↦ rw (h.number, h.broken, h.side, e, slot_without capacity_limit a (other e), side_without capacity_limit a (other e)) refl
    | no d ↦ rw (ne_eqb (verdict capacity_limit a) 0 d, h.number, h.broken, h.side) refl
  ]
    where
      other : verdict capacity_limit a ≡ 0 → verdict capacity_limit a ≡ 11 → ⊥
      other e v = omega arith

-- ---- an export that keeps the check's answer, and asks for its number

module _ {a : Arena} {r : Answer} (h : Verdict a r) where
  -- the check answered 0: its verdict is 0, the arena is well formed, and its columns and header have their lengths
  pub passed : r.number ≡ 0 → verdict capacity_limit a ≡ 0
  passed e = sym h.number ∙ e

  pub whole : r.number ≡ 0 → WellFormed capacity_limit a
  whole e = well_formed_if_passes capacity_limit a (passed e)

  pub is_shaped : r.number ≡ 0 → Shaped capacity_limit a
  is_shaped e = shaped capacity_limit a (passed e)

  pub header_length : r.number ≡ 0 → length a.header ≡ header_words
  header_length e = (is_shaped e).header

  -- an arena that passed: what the export replied is the definition's where it is the call's own reply
  pub answers_told : r.number ≡ 0 → {s : Answer} (c : Call) (l fields : List ℕ) (left : Arena) (back : List ℕ) → replied s fields left back ≡ accepted largest_generation c a l → Answered c a l s fields left back
  unfolding reply_to
  answers_told e c l fields left back q = rw (passed e) q

  -- so it is with the answer s that `Answer::of` makes of the call's own number k
  pub answers_passed : r.number ≡ 0 → {k : ℕ} {s : Answer} → (s.number ≡ k) × (s.broken ≡ 0) × (s.side ≡ 0) → (c : Call) (l fields : List ℕ) (left : Arena) (back : List ℕ) → reply k fields left back ≡ accepted largest_generation c a l → Answered c a l s fields left back
  answers_passed e o c l fields left back q = answers_told e c l fields left back (rw (o.0, o.1, o.2) q)

  -- an arena that the check refused: number, slot and side are the check's, the further fields 0, and all that was lent is as it was
  pub answers_refused : (r.number ≡ 0 → ⊥) → (c : Call) (l : List ℕ) → Answered c a l r (replicate (fields_of c) 0) a l
  unfolding reply_to
  answers_refused d c l =
      rw (ne_eqb (verdict capacity_limit a) 0 (λ v. d (h.number ∙ v)), fields_length largest_generation c a l, ← h.number, ← h.broken, ← h.side) refl
