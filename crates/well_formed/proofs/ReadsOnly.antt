-- The verdict, and the slot and side that go with it, depend only on the words that the check reads (REFERENCE, Check): the header, the lengths of the columns, the generation and next
-- words of the stack, and the prev words of its links. Two arenas that agree on those words have the same links and free slots; the freelist walk
-- reads next and generation of slots that it has found to be in the stack; and rule 11, as it is defined, reads prev and next of links only. Assumes nothing.
use Prim.Native.Nat.{ℕ, zero, suc, ◌+◌, ◌≤◌}
use mathlib.Core.Path.{◌≡◌, refl, sym, ap, ◌∙◌}
use mathlib.Core.Bool.{true, cond, not}
use mathlib.Core.List.{List}
use native.Mathlib.Omega.{arith}
use native.Mathlib.Decide.{dec_le, ℕ_discrete}
use lib.ListN.{length, get_or}
use borrow.Author.Tests.{lt-ltb}
use Rattle.definitions.specs.Columns.{at, first_or, slots_from, keep}
use Rattle.definitions.specs.Arena.{Arena, arena, stack_length, link_count, root, allocated, link_slots, free_slots, is_link}
use Rattle.definitions.specs.Check.{misshapen, freelist_walk, names_back, neighbours_fine, all_fine, counts_of, verdict, broken_slots, side_at, broken_slot, broken_side, SameRead}
use Rattle.definitions.proofs.Tests.{by_test}
use Rattle.definitions.proofs.Slots.{allocated_past, allocated_within}
use Rattle.definitions.proofs.Count.{keep_agree}
use Rattle.definitions.proofs.Shaped.{Shaped, counts_verdict, interlinks_fine, passed_counts, passed_links, passes}
use Rattle.definitions.proofs.Broken.{lowest_broken, first_lowest, slot_with_eleven, side_with_eleven, slot_without, side_without}
use Rattle.well_formed.proofs.Verdict.{eleven_broken, fails_at_links}

-- two columns agree on the slots up to n
abbrev AgreeTo : ℕ → List ℕ → List ℕ → Type 0
AgreeTo n xs ys = (s : ℕ) → s ≤ n → at xs s ≡ at ys s

module _ (gs hs : List ℕ) (n : ℕ) (generation : AgreeTo n gs hs) where
  same_allocated : (s : ℕ) → allocated gs n s ≡ allocated hs n s
  same_allocated s = elim (dec_le s n) [ yes l ↦ (unfold allocated in rw (generation s l) refl) | no l ↦ allocated_past gs n s (omega arith) ∙ sym (allocated_past hs n s (omega arith)) ]

  same_links : link_slots gs n ≡ link_slots hs n
  unfolding link_slots
  same_links = keep_agree _ _ (slots_from 1 n) (λ s i. same_allocated s)

  same_free : free_slots gs n ≡ free_slots hs n
  unfolding free_slots
  same_free = keep_agree _ _ (slots_from 1 n) (λ s i. ap not (same_allocated s))

  module _ (ns ms : List ℕ) (next : AgreeTo n ns ms) where
    same_walk : (left s visited : ℕ) → freelist_walk ns gs n left s visited ≡ freelist_walk ms hs n left s visited
    unfolding freelist_walk
    same_walk zero s visited = refl
    same_walk (suc left) s visited =
        elim (dec_le s n) [
          | yes l ↦ rw (generation s l, next s l, same_free, same_walk left (at ms s) (visited + 1)) refl
          | no l ↦ rw (lt-ltb n s (omega arith)) refl
        ]

    pub same_counts : (m s : ℕ) → counts_of ns gs n m s ≡ counts_of ms hs n m s
    unfolding counts_of
    same_counts m s = rw (same_links, same_free, same_walk (n + 2) s 0) refl

    module _ (ps qs : List ℕ) (prev : (s : ℕ) → allocated gs n s ≡ true → at ps s ≡ at qs s) where
      pub same_names_back : (bs cs : List ℕ) (x s : ℕ) → ((t : ℕ) → allocated gs n t ≡ true → at bs t ≡ at cs t) → names_back bs gs n x s ≡ names_back cs hs n x s
      unfolding names_back
      same_names_back bs cs x s agree =
          by_test (allocated gs n s) (λ e. rw (← same_allocated s, agree s e) refl) (λ e. rw (← same_allocated s, e) refl)

      pub same_fine : (x : ℕ) → neighbours_fine ps ns gs n x ≡ neighbours_fine qs ms hs n x
      unfolding neighbours_fine
      same_fine x =
          by_test (allocated gs n x)
          (λ e. rw (← same_allocated x, e, prev x e, next x (allocated_within gs n x e), same_names_back ns ms x (at qs x) (λ t f. next t (allocated_within gs n t f)), same_names_back ps qs x (at ms x) prev) refl)
          (λ e. rw (← same_allocated x, e) refl)

      same_all_fine : (k : ℕ) → all_fine ps ns gs n k ≡ all_fine qs ms hs n k
      unfolding all_fine
      same_all_fine zero = refl
      same_all_fine (suc k) = rw (same_fine (suc k), same_all_fine k) refl

-- two arenas of one header that agree on the words of the stack which are read
module _ (a b : Arena) (header : a.header ≡ b.header) (generation : AgreeTo (stack_length a) a.generation b.generation) (next : AgreeTo (stack_length a) a.next b.next)
    (prev : (s : ℕ) → is_link a s ≡ true → at a.prev s ≡ at b.prev s) where
  same_counts_verdict : counts_verdict a ≡ counts_verdict b
  same_counts_verdict =
      same_counts a.generation b.generation (stack_length a) generation a.next b.next next (link_count a) (root a)
      ∙ ap (λ (h : List ℕ). counts_of b.next b.generation (get_or h 0 0) (get_or h 1 0) (get_or h 2 0)) header

  same_interlinks : interlinks_fine a ≡ interlinks_fine b
  same_interlinks =
      same_all_fine a.generation b.generation (stack_length a) generation a.next b.next next a.prev b.prev prev (stack_length a)
      ∙ ap (λ (h : List ℕ). all_fine b.prev b.next b.generation (get_or h 0 0) (get_or h 0 0)) header

  -- so the second passes where the first does, however long its columns are, if its stack fits into them
  pub passes_in_columns : (limit other : ℕ) → Shaped other b → verdict limit a ≡ 0 → verdict other b ≡ 0
  passes_in_columns limit other shaped e = passes other b shaped (sym same_counts_verdict ∙ passed_counts limit a e) (sym same_interlinks ∙ passed_links limit a e)

same_shape : (a b : Arena) → SameRead a b → (limit : ℕ) → misshapen limit a ≡ misshapen limit b
unfolding misshapen
same_shape a b same limit = rw (same.header, same.prev_length, same.next_length, same.generation_length, same.payload_length) refl

pub verdict_reads_only : (limit : ℕ) (a b : Arena) → SameRead a b → verdict limit a ≡ verdict limit b
unfolding verdict
verdict_reads_only limit a b same =
    rw (same_counts_verdict a b same.header same.generation same.next same.prev, same_interlinks a b same.header same.generation same.next same.prev, same_shape a b same limit, same.header, same.prev_length)
    refl

-- slot and side: the slots at which rule 11 fails are the same, and at the first of them prev is read alike, since that is a link
module _ (a b : Arena) (same : SameRead a b) where
  same_broken_slots : broken_slots a.prev a.next a.generation (stack_length a) ≡ broken_slots b.prev b.next b.generation (stack_length b)
  unfolding broken_slots
  same_broken_slots =
      keep_agree _ _ (slots_from 1 (stack_length a)) (λ s i. ap not (same_fine a.generation b.generation (stack_length a) same.generation a.next b.next same.next a.prev b.prev same.prev s))
      ∙ ap (λ (h : List ℕ). keep (λ x. not (neighbours_fine b.prev b.next b.generation (get_or h 0 0) x)) (slots_from 1 (get_or h 0 0))) same.header

  same_side : (x : ℕ) → is_link a x ≡ true → side_at a.prev a.next a.generation (stack_length a) x ≡ side_at b.prev b.next b.generation (stack_length b) x
  unfolding side_at
  same_side x link =
      rw (same.prev x link, same_names_back a.generation b.generation (stack_length a) same.generation a.next b.next same.next a.prev b.prev same.prev a.next b.next x (at b.prev x) (λ t f. same.next t (allocated_within a.generation (stack_length a) t f)))
      (ap (λ (h : List ℕ). cond (names_back b.next b.generation (get_or h 0 0) x (at b.prev x)) 2 1) same.header)

  pub broken_reads_only : (limit : ℕ) → (broken_slot limit a ≡ broken_slot limit b) × (broken_side limit a ≡ broken_side limit b)
  broken_reads_only limit = elim (ℕ_discrete (verdict limit a) 11) [
    | yes e ↦ (
      slot_with_eleven limit a e ∙ ap (first_or 0) same_broken_slots ∙ sym (slot_with_eleven limit b (there e)),
      side_with_eleven limit a e ∙ same_side (lowest_broken limit a) (link e) ∙ ap (λ (s : ℕ). side_at b.prev b.next b.generation (stack_length b) s) (ap (first_or 0) same_broken_slots) ∙ sym (side_with_eleven limit b (there e)),
    )
    | no d ↦ (slot_without limit a d ∙ sym (slot_without limit b (λ e. d (here e))), side_without limit a d ∙ sym (side_without limit b (λ e. d (here e))))
  ]
    where
      there : verdict limit a ≡ 11 → verdict limit b ≡ 11
      there e = sym (verdict_reads_only limit a b same) ∙ e

      here : verdict limit b ≡ 11 → verdict limit a ≡ 11
      here e = verdict_reads_only limit a b same ∙ e

      link : verdict limit a ≡ 11 → is_link a (lowest_broken limit a) ≡ true
      link e = fails_at_links limit a _ (first_lowest _ _ _ _ (eleven_broken limit a e)).fails

-- so a payload column of the same length may hold any words
pub payloads_are_not_read : (limit : ℕ) (ps ns gs vs ws h : List ℕ) → length vs ≡ length ws → verdict limit (arena ps ns gs vs h) ≡ verdict limit (arena ps ns gs ws h)
payloads_are_not_read limit ps ns gs vs ws h e =
    verdict_reads_only limit (arena ps ns gs vs h) (arena ps ns gs ws h)
    (record {
      header = refl;
      prev_length = refl;
      next_length = refl;
      generation_length = refl;
      payload_length = e;
      generation = λ s i. refl;
      next = λ s i. refl;
      prev = λ s i. refl;
    })
