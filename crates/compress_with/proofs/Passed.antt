-- An arena that passed the check can be compressed, and its parts make the definition's reply. Assumes nothing.
use Prim.Native.Nat.{ℕ, ◌*◌, ◌≤◌, ◌<◌}
use mathlib.Core.Path.{◌≡◌, refl, ap, ◌∙◌}
use mathlib.Core.Bool.{Bool}
use mathlib.Core.List.{List, []}
use native.Mathlib.Omega.{arith}
use native.Mathlib.Decide.{ℕ_discrete}
use lib.ListN.{length, get_or, length-set}
use lib.Seq.{set-set, get_or-set_same, get_or-set_other}
use borrow.Author.Tests.{lt-ltb, le-ltb}
use Rattle.definitions.specs.Columns.{at, written}
use Rattle.definitions.specs.Arena.{Arena, capacity_limit, header_words, stack_length, link_count, current, with_current, with_header, link_slots}
use Rattle.definitions.specs.Check.{verdict, Neighbour}
use Rattle.definitions.specs.Reply.{reply}
use Rattle.definitions.specs.Compress.{compress_generation, relocate, moves_of, compress_with}
use Rattle.definitions.proofs.Slots.{allocated_within}
use Rattle.well_formed.proofs.WellFormed.{well_formed_if_passes}
use Rattle.renaming.proofs.CompressWith.{moves_read}
use Rattle.compress_moves.specs.Moves.{Renewed, Compressible}

-- a neighbour is none, or a slot of the stack
neighbour_within : (a : Arena) (back : List ℕ) (x s : ℕ) → Neighbour a back x s → s ≤ stack_length a
neighbour_within a back x s h = go (ℕ_discrete s 0)
  where
    go : Dec (s ≡ 0) → s ≤ stack_length a
    go (yes z) = omega arith
    go (no d) = allocated_within a.generation (stack_length a) s (h d).0

pub compressible : (a : Arena) {r : ℕ} → verdict capacity_limit a ≡ 0 → 4 * link_count a ≤ r → Compressible a.prev a.next a.generation a.payload (stack_length a) (link_count a) r
compressible a v h =
    let ok = well_formed_if_passes capacity_limit a v in
    record {
      small = omega (arith, ok.within, ok.small);
      prev_within = ok.within;
      next_within = omega (arith, ok.within, ok.next_length);
      generation_within = omega (arith, ok.within, ok.generation_length);
      payload_within = omega (arith, ok.within, ok.payload_length);
      prev = λ o e. neighbour_within a a.next o (at a.prev o) (ok.prev o e);
      next = λ o e. neighbour_within a a.prev o (at a.next o) (ok.next o e);
      counted = ok.links;
      room = h;
    }

pub refused : (top : ℕ) (reset : Bool) (a : Arena) (report : List ℕ) → length report < 4 * link_count a → reply 14 [] a report ≡ compress_with top reset a report
unfolding compress_with
refused top reset a report h = rw (lt-ltb _ _ h) refl

-- ---- the arena in its new generation

module _ (a : Arena) (passed : verdict capacity_limit a ≡ 0) (g : ℕ) where
  abbrev h : List ℕ
  h = with_current g a.header

  four : length a.header ≡ header_words
  four = (well_formed_if_passes capacity_limit a passed).header

  word : (i : ℕ) → (i ≡ 3 → ⊥) → get_or (with_current g a.header) i 0 ≡ get_or a.header i 0
  word i d = get_or-set_other a.header 3 i g 0 d

  stack : get_or (with_current g a.header) 0 0 ≡ stack_length a
  stack = word 0 (λ z. omega arith)

  links : get_or (with_current g a.header) 1 0 ≡ link_count a
  links = word 1 (λ z. omega arith)

  new : get_or (with_current g a.header) 3 0 ≡ g
  new = get_or-set_same a.header 3 g 0 (omega (arith, four))

  -- it is compressed as it would be in the old one
  same_relocation : (w : List ℕ) → relocate w g (with_header a (with_current g a.header)) ≡ relocate w g a
  unfolding relocate
  same_relocation w = rw (stack, set-set a.header 3 g g) refl

module _ {top : ℕ} {reset : Bool} {a : Arena} {k : ℕ} {h : List ℕ} (passed : verdict capacity_limit a ≡ 0) (renewed : Renewed top reset a k h) where
  abbrev b : Arena
  b = with_header a h

  pub header_words_stay : length h ≡ header_words
  header_words_stay =
      let g = compress_generation top reset a in
      ap length renewed.header ∙ (length-set a.header 3 g ∙ four a passed g)

  module _ (report : List ℕ) (room : 4 * link_count a ≤ length report) where
    pub compressible_again : Compressible a.prev a.next a.generation a.payload (stack_length b) (link_count b) (length report)
    compressible_again =
        let g = compress_generation top reset a in
        rw (renewed.header, stack a passed g, links a passed g) (compressible a passed room)

    pub compressed : {left : Arena} {told : List ℕ}
        → left ≡ relocate (link_slots a.generation (stack_length b)) (current b) b
        → told ≡ written (moves_of b (current b) 1 (link_slots a.generation (stack_length b))) report
        → reply k [] left told ≡ compress_with top reset a report
    unfolding compress_with
    compressed moved reported =
        let g = compress_generation top reset a in
        let w = link_slots a.generation (stack_length a) in
        rw (le-ltb _ _ room, renewed.number, moved, reported, renewed.header, stack a passed g, new a passed g, same_relocation a passed g w, moves_read (with_header a (with_current g a.header)) a g 1 w refl)
        refl
