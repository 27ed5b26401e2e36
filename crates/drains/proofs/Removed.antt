-- One removal, word by word. Assumes nothing.
use Prim.Native.Nat.{ℕ, ◌≤◌}
use mathlib.Core.Path.{◌≡◌, refl, ◌∙◌}
use mathlib.Core.Bool.{true, false}
use mathlib.Core.List.{List}
use native.Mathlib.Omega.{arith}
use lib.ListN.{length}
use lib.Dec.{eqb}
use Rattle.definitions.specs.Columns.{at, put}
use Rattle.definitions.specs.Arena.{Arena, header_words, stack_length, current, is_link, with_header}
use Rattle.definitions.specs.Check.{WellFormed, Neighbour}
use Rattle.definitions.specs.Edit.{next_generation}
use Rattle.definitions.specs.Remove.{joined, vacated, removed}
use Rattle.definitions.proofs.Columns.{at_put_same, at_put_other}
use Rattle.definitions.proofs.Slots.{allocated_yes, allocated_some, allocated_within, allocated_live, allocated_free}
use Rattle.definitions.proofs.Tests.{by_test}
use Rattle.definitions.proofs.Header.{four_words}
use Rattle.kept.proofs.Removal.{removed_other}
use Rattle.statements.specs.DrainsChain.{Untouched}

-- the columns and the header of the arena that is left
module _ (top : ℕ) (a : Arena) (s : ℕ) where
  prev_left : (removed top a s).prev ≡ put (put a.prev (at a.next s) (at a.prev s)) s 0
  unfolding removed vacated joined
  prev_left = by_test (eqb s (stack_length a)) (λ e. rw e refl) (λ e. rw e refl)

  next_left : (f : ℕ) × ((removed top a s).next ≡ put (put a.next (at a.prev s) (at a.next s)) s f)
  unfolding removed vacated joined
  next_left = by_test (eqb s (stack_length a)) (λ e. rw e (_, refl)) (λ e. rw e (_, refl))

  pub generation_left : (removed top a s).generation ≡ put a.generation s 0
  unfolding removed vacated joined
  generation_left = by_test (eqb s (stack_length a)) (λ e. rw e refl) (λ e. rw e refl)

  pub payload_left : (removed top a s).payload ≡ put a.payload s 0
  unfolding removed vacated joined
  payload_left = by_test (eqb s (stack_length a)) (λ e. rw e refl) (λ e. rw e refl)

  pub header_left : length a.header ≡ header_words → (stack_length (removed top a s) ≤ stack_length a) × (current (removed top a s) ≡ next_generation top (current a)) × (length (removed top a s).header ≡ header_words)
  unfolding removed vacated
  header_left four = four_words Left a.header four (λ n k r g. by_test (eqb s n) (λ e. rw e (omega arith, refl, refl)) (λ e. rw e (omega arith, refl, refl)))
    where
      Left : List ℕ → Type 0
      Left h =
          let b = with_header a h in
          (stack_length (removed top b s) ≤ stack_length b) × (current (removed top b s) ≡ next_generation top (current b)) × (length (removed top b s).header ≡ header_words)

module _ (limit top : ℕ) (a : Arena) (ok : WellFormed limit a) (s : ℕ) (link : is_link a s ≡ true) where
  zero_at : at (removed top a s).generation s ≡ 0
  zero_at =
      rw (generation_left top a s)
      (at_put_same a.generation s 0 (λ z. omega (arith, allocated_some _ _ s link)) (omega (arith, allocated_within _ _ s link, ok.within, ok.generation_length)))

  -- slot s is a link no more, and no slot becomes one
  pub removed_gone : is_link (removed top a s) s ≡ false
  removed_gone = allocated_free _ _ s zero_at

  pub removed_was : (x : ℕ) → is_link (removed top a s) x ≡ true → (is_link a x ≡ true) × (x ≡ s → ⊥)
  removed_was x lx =
      let other : x ≡ s → ⊥ = λ e. allocated_live _ _ x lx (rw e zero_at) in
      let live : at a.generation x ≡ 0 → ⊥ = λ z. allocated_live _ _ x lx (rw (generation_left top a s) (at_put_other a.generation s x 0 other ∙ z)) in
      (allocated_yes _ _ x (omega (arith, allocated_within _ _ x lx, header_left top a s ok.header)) live, other)

  -- another link that does not name it has no word changed
  pub removed_untouched : (x : ℕ) → is_link a x ≡ true → (x ≡ s → ⊥) → (at a.prev x ≡ s → ⊥) → (at a.next x ≡ s → ⊥) → Untouched a (removed top a s) x
  removed_untouched x lx other before after =
      let some : x ≡ 0 → ⊥ = λ z. omega (arith, allocated_some _ _ x lx) in
      let f = (next_left top a s).0 in
      record {
        link = removed_other limit top a ok s x link lx other;
        prev =
            rw (prev_left top a s)
            (at_put_other (put a.prev (at a.next s) (at a.prev s)) s x 0 other
            ∙ at_put_other a.prev (at a.next s) x (at a.prev s) (λ e. before (named a.prev (ok.next s link) x some e)));
        next =
            rw (next_left top a s).1
            (at_put_other (put a.next (at a.prev s) (at a.next s)) s x f other
            ∙ at_put_other a.next (at a.prev s) x (at a.next s) (λ e. after (named a.next (ok.prev s link) x some e)));
        generation = rw (generation_left top a s) (at_put_other a.generation s x 0 other);
        payload = rw (payload_left top a s) (at_put_other a.payload s x 0 other);
      }
    where
      -- a neighbour of s names it back
      named : (back : List ℕ) {y : ℕ} → Neighbour a back s y → (x : ℕ) → (x ≡ 0 → ⊥) → x ≡ y → at back x ≡ s
      named back h x some e = rw e (h (λ z. some (e ∙ z))).1
