-- What refusals 1 to 3 say of the verdict. Assumes nothing.
use Prim.Native.Nat.{ℕ, ◌≤◌}
use mathlib.Core.Path.{◌≡◌, sym}
use mathlib.Core.Bool.{Bool, true, false, cond, ◌||◌}
use lib.ListN.{length}
use lib.Dec.{ltb}
use Rattle.definitions.specs.Arena.{Arena, capacity, header_words, stack_length, link_count, current}
use Rattle.definitions.specs.Check.{misshapen, verdict}
use Rattle.definitions.proofs.Shaped.{Shaped, sized, first_three}
use Rattle.base_arena.specs.Shape.{shape_of}

module _ (limit : ℕ) (a : Arena) where
  -- refusal 1 did not come
  pub header_if_sized : misshapen limit a ≡ false → length a.header ≡ header_words
  header_if_sized e = (sized limit a e).header

  -- refusals 1 to 3 did not come: the shape says none
  pub shaped_if_accepted : shape_of limit a ≡ 0 → Shaped limit a
  unfolding shape_of
  shaped_if_accepted e = first_three limit a 0 e

  -- nor do they where the sizes, the generation and both counts are as they must be
  pub shaped_if_within : misshapen limit a ≡ false → 2 ≤ current a → link_count a ≤ capacity a → stack_length a ≤ capacity a → Shaped limit a
  shaped_if_within e generation links stack =
      let sizes = sized limit a e in
      record {
        header = sizes.header;
        small = sizes.small;
        next_length = sizes.next_length;
        generation_length = sizes.generation_length;
        payload_length = sizes.payload_length;
        generation = generation;
        links_within = links;
        within = stack;
      }

  -- one of them came, and is the verdict
  pub shape_refused : (k : ℕ) → k ≡ shape_of limit a → (k ≡ 0 → ⊥) → verdict limit a ≡ k
  unfolding shape_of verdict
  shape_refused k e h = go (misshapen limit a) (ltb (current a) 2) (ltb (capacity a) (link_count a) || ltb (capacity a) (stack_length a)) _ e
    where
      go : (t u v : Bool) (rest : ℕ) → k ≡ cond t 1 (cond u 2 (cond v 3 0)) → cond t 1 (cond u 2 (cond v 3 rest)) ≡ k
      go true u v rest q = sym q
      go false true v rest q = sym q
      go false false true rest q = sym q
      go false false false rest q = absurd (h q)
