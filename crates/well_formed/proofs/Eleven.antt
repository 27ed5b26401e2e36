-- When 11 comes: exactly where everything that a well formed arena is asked holds but for the neighbours, and rule 11 fails at some slot. Assumes nothing.
use Prim.Native.Nat.{ℕ, ◌≤◌}
use mathlib.Core.Path.{◌≡◌, refl, sym, ◌∙◌}
use mathlib.Core.Logic.{◌↔◌}
use mathlib.Core.Bool.{Bool, true, false, cond, not, ◌||◌}
use mathlib.Core.List.{List}
use native.Mathlib.Omega.{arith}
use lib.ListN.{length}
use lib.Dec.{eqb, ltb, lit≤}
use borrow.Author.Tests.{eqb-true, not-false}
use Rattle.definitions.specs.Arena.{Arena, capacity, header_words, stack_length, link_count, current, link_slots}
use Rattle.definitions.specs.Check.{misshapen, verdict, FailsAt, Freelist}
use Rattle.definitions.proofs.Slots.{links_and_free, allocated_within, allocated_some}
use Rattle.definitions.proofs.Freelist.{links_counted, freelist_of_counts, counts_of_freelist}
use Rattle.definitions.proofs.Shaped.{Shaped, counts_verdict, interlinks_fine, first_three, verdict_of_shaped}
use Rattle.definitions.proofs.Interlinks.{not_all_fine}
use Rattle.well_formed.proofs.Verdict.{eleven_fails, fails_at_links}
use Rattle.definitions.proofs.Numbers.{counts_at_most_10}

-- a test that refuses with less than 11, or goes on
goes_on : (t : Bool) (k x : ℕ) → k ≤ 10 → cond t k x ≡ 11 → (t ≡ false) × (x ≡ 11)
goes_on true k x h e = absurd (omega arith)
goes_on false k x h e = (refl, e)

none_of_three : (t u v : Bool) → t ≡ false → u ≡ false → v ≡ false → cond {A = ℕ} t 1 (cond u 2 (cond v 3 0)) ≡ 0
none_of_three t u v p q r = rw (p, q, r) refl

module _ (limit : ℕ) (a : Arena) where
  -- all that `WellFormed` says but for the neighbours
  abbrev pub ButForNeighbours : Type 0
  ButForNeighbours =
      (length a.header ≡ header_words)
      × (capacity a ≤ limit)
      × (length a.next ≡ capacity a)
      × (length a.generation ≡ capacity a)
      × (length a.payload ≡ capacity a)
      × (2 ≤ current a)
      × (stack_length a ≤ capacity a)
      × (link_count a ≡ length (link_slots a.generation (stack_length a)))
      × ((fs : List ℕ) × Freelist a fs)

  until_eleven : verdict limit a ≡ 11 → Shaped limit a × (counts_verdict a ≡ 0)
  unfolding verdict
  until_eleven e =
      let one = goes_on (misshapen limit a) 1 _ (lit≤ tt) e in
      let two = goes_on (ltb (current a) 2) 2 _ (lit≤ tt) one.1 in
      let three = goes_on (ltb (capacity a) (link_count a) || ltb (capacity a) (stack_length a)) 3 _ (lit≤ tt) two.1 in
      let four = goes_on (not (eqb (counts_verdict a) 0)) (counts_verdict a) _ (counts_at_most_10 _ _ _ _ _) three.1 in
      (first_three limit a 0 (none_of_three _ _ _ one.0 two.0 three.0), eqb-true (counts_verdict a) 0 (not-false _ four.0))

  pub eleven_exactly : (verdict limit a ≡ 11) ↔ (ButForNeighbours × ((s : ℕ) × FailsAt a s))
  eleven_exactly = (there, back)
    where
      there : verdict limit a ≡ 11 → ButForNeighbours × ((s : ℕ) × FailsAt a s)
      there e =
          let found = until_eleven e in
          let h = found.0 in
          ((h.header, h.small, h.next_length, h.generation_length, h.payload_length, h.generation, h.within, links_counted a found.1, freelist_of_counts a found.1), eleven_fails limit a e)

      back : ButForNeighbours × ((s : ℕ) × FailsAt a s) → verdict limit a ≡ 11
      back ((header, small, ns, gs, vs, generation, within, links, (fs, free)), (s, fails)) =
          let h : Shaped limit a = record {
            header = header;
            small = small;
            next_length = ns;
            generation_length = gs;
            payload_length = vs;
            generation = generation;
            links_within = omega (arith, links, within, links_and_free a.generation (stack_length a));
            within = within;
          } in
          let link = fails_at_links limit a s fails in
          let broken : interlinks_fine a ≡ false = not_all_fine _ _ _ _ (stack_length a) s (allocated_some _ _ s link) (allocated_within _ _ s link) fails in
          let counts : counts_verdict a ≡ 0 = sym (counts_of_freelist a links fs free) in
          sym (verdict_of_shaped limit a h) ∙ rw (counts, broken) refl
