-- The links of an arena that passed the check, laid out in its columns, in the new generation and with the slots after them popped: that is the definition's
-- canonical arena, and the where-from column is the definition's. Assumes nothing.
use Prim.Native.Nat.{ℕ, zero, suc, ◌+◌, ◌-◌, ◌≤◌, ◌<◌}
use mathlib.Core.Path.{◌≡◌, refl, sym, ap, ◌∙◌}
use mathlib.Core.Logic.{◌≢◌}
use mathlib.Core.Bool.{Bool, false}
use mathlib.Core.List.{List, [], ◌++◌, append_assoc}
use native.Mathlib.Omega.{arith}
use native.Mathlib.Decide.{dec_le}
use lib.ListN.{length, get_or, take, drop, replicate, length-append, length-take, length-replicate, length-set, take-append-drop}
use lib.Seq.{get_or-set_same, get_or-set_other, set-get_or, length-take-le}
use Rattle.definitions.specs.Columns.{at, settled}
use Rattle.definitions.specs.Arena.{Arena, arena, capacity_limit, capacity, stack_length, link_count, with_stack_length, with_link_count, with_root, with_current, with_header, is_link}
use Rattle.definitions.specs.Check.{WellFormed, verdict}
use Rattle.definitions.specs.Reply.{reply}
use Rattle.definitions.specs.Compress.{Laying, laid_out, compress_generation, compressed_header, canonical_arena, compress_canonical}
use Rattle.definitions.proofs.Tests.{by_test, not_eq, not_ne}
use Rattle.definitions.proofs.Slots.{links_and_free}
use Rattle.definitions.proofs.Parts.{at_take, at_append_left, at_append_right, same_words}
use Rattle.well_formed.proofs.WellFormed.{well_formed_if_passes}
use Rattle.chains.proofs.Links.{Link, DoublyLinked, well_formed_linked}
use Rattle.demand3.proofs.Carried.{Room, Carried, same_stack}
use Rattle.demand3.proofs.Equivalence.{well_formed_room}
use Rattle.demand3.proofs.Loops.{between_end, end_links, end_only}
use Rattle.base_freelist.specs.Popped.{popped}
use Rattle.base_freelist.proofs.Settled.{settled_over}
use Rattle.compress_moves.specs.Moves.{Renewed}
use Rattle.canonical_exchange.specs.Lent.{Lent, lent, front}
use Rattle.canonical_layout.specs.Held.{Held}
use Rattle.canonical_layout.specs.Steps.{Stacked, LaidIn}
use Rattle.compress_moves.specs.Shrunk.{shrunk, Shrinkable}

at_zeros : (k s : ℕ) → at (replicate k 0) s ≡ 0
unfolding at
at_zeros k zero = refl
at_zeros zero (suc s) = refl
at_zeros (suc k) (suc zero) = refl
at_zeros (suc k) (suc (suc s)) = at_zeros k (suc s)

-- ---- what the check says

module _ (limit : ℕ) (a : Arena) (ok : WellFormed limit a) where
  abbrev m : ℕ
  m = link_count a

  abbrev n : ℕ
  n = stack_length a

  pub links_few : link_count a ≤ stack_length a
  links_few = omega (arith, ok.links, links_and_free a.generation n)

  module _ (where_from : List ℕ) (c : Lent) (laid : LaidIn a where_from c) where
    abbrev l : Laying
    l = laid_out a

    abbrev b : Arena
    b = (laid_out a).slots

    abbrev room : Room a
    room = well_formed_room ok

    linked : DoublyLinked a
    linked = well_formed_linked ok

    carried : Carried a (laid_out a).slots (laid_out a).from
    carried = laid.laid.between.state.carried

    held : Held (laid_out a).slots (laid_out a).from (front (stack_length a) c)
    held = laid.laid.held

    stack : stack_length (laid_out a).slots ≡ stack_length a
    stack = same_stack a b l.from carried

    -- ---- slots 1 to m are the links

    all : (laid_out a).i ≡ suc (link_count a)
    all = between_end a linked room l laid.laid.between laid.laid.none ok.links

    is_link_lem : (s : ℕ) → 1 ≤ s → s ≤ link_count a → Link (laid_out a).slots s
    is_link_lem s h k = end_links a linked room l laid.laid.between laid.laid.none s h (omega (arith, all))

    is_free : (s : ℕ) → link_count a < s → is_link (laid_out a).slots s ≡ false
    is_free s h =
        by_test (is_link (laid_out a).slots s) (λ e. absurd (omega (arith, all, end_only a linked room l laid.laid.between laid.laid.none s e))) (λ e. e)

    -- ---- a column whose words at links are those of the column Y

    module _ (X Y old : List ℕ) (long : length (take (stack_length a) X) ≡ stack_length (laid_out a).slots) (room : stack_length a ≤ length Y)
        (same : (s : ℕ) → Link (laid_out a).slots s → at (take (stack_length a) X) s ≡ at Y s) (rest : drop (stack_length a) X ≡ drop (stack_length a) old) where
      long_enough : stack_length a ≤ length X
      long_enough = omega (arith, length-take n X, long, stack)

      front_same : take (link_count a) X ≡ take (link_count a) Y
      front_same =
          let x = length-take-le m X (omega (arith, links_few, long_enough)) in
          let y = length-take-le m Y (omega (arith, links_few, room)) in
          same_words (take m X) (take m Y) (x ∙ sym y)
          (λ s h k.
          let low : s ≤ m = omega (arith, x) in
          at_take m X s low ∙ (sym (at_take n X s (omega (arith, links_few))) ∙ (same s (is_link_lem s h low) ∙ sym (at_take m Y s low))))

      popped_settled : popped (link_count a) (stack_length a) X ≡ settled (stack_length a) (take (link_count a) Y) old
      popped_settled = rw front_same (settled_over n (take m Y) X old rest)

    -- ---- the where-from column

    from_long : stack_length a ≤ length (laid_out a).from
    from_long = omega (arith, carried.size)

    pub where_from_settled : c.where_from ≡ settled (stack_length a) (take (link_count a) (laid_out a).from) where_from
    unfolding settled
    where_from_settled =
        let size = length-take-le m l.from (omega (arith, links_few, from_long)) in
        let ws = take n c.where_from in
        let zeros : List ℕ = replicate (n - m) 0 in
        let new = take m l.from ++ zeros in
        let long : length ws ≡ n = held.from_long ∙ stack in
        let new-long : length new ≡ n = length-append (take m l.from) zeros ∙ omega (arith, size, length-replicate {A = ℕ} (n - m) 0, links_few) in
        let front : ws ≡ new = same_words ws new (long ∙ sym new-long) (λ s h k. reads s h (omega (arith, long)) (dec_le s m)) in
        rw size (sym (take-append-drop n c.where_from) ∙ (rw (front, laid.rest.where_from) (append_assoc (take m l.from) zeros (drop n where_from))))
      where
        reads : (s : ℕ) → 1 ≤ s → s ≤ stack_length a → Dec (s ≤ link_count a) → at (take n c.where_from) s ≡ at (take m l.from ++ replicate (n - m) 0) s
        reads s h k (yes low) =
            let size = length-take-le m l.from (omega (arith, links_few, from_long)) in
            held.who s (is_link_lem s h low) ∙ (sym (at_take m l.from s low) ∙ sym (at_append_left (take m l.from) _ s (omega (arith, size))))
        reads s h k (no high) =
            let size = length-take-le m l.from (omega (arith, links_few, from_long)) in
            let place : length (take m l.from) + (s - m) ≡ s = omega (arith, size) in
            held.nobody s (is_free s (omega arith)) ∙
            sym (ap (at (take m l.from ++ replicate (n - m) 0)) (sym place) ∙ (at_append_right (take m l.from) (replicate (n - m) 0) (s - m) (omega arith) ∙ at_zeros (n - m) (s - m)))

    -- ---- the arena

    module _ (g : ℕ) (h : List ℕ) (renewed : h ≡ with_current g a.header) where
      word : (i : ℕ) → i ≢ 3 → get_or h i 0 ≡ get_or a.header i 0
      word i d = ap (λ (x : List ℕ). get_or x i 0) renewed ∙ get_or-set_other a.header 3 i g 0 d

      new_generation : get_or h 3 0 ≡ g
      new_generation = ap (λ (x : List ℕ). get_or x 3 0) renewed ∙ get_or-set_same a.header 3 g 0 (omega (arith, ok.header))

      words : (X Y : List ℕ) → length Y ≡ length X → stack_length a ≤ length Y → stack_length a ≤ length X
      words X Y e k = omega arith

      pub can_shrink : Shrinkable (arena c.prev c.next a.generation c.payload h)
      can_shrink =
          let stays = word 0 (λ z. omega arith) in
          record {
            header = ap length renewed ∙ (length-set a.header 3 g ∙ ok.header);
            room = record {
              prev = rw stays (omega (arith, length-take n c.prev, held.prev_long, stack));
              next = rw stays (omega (arith, length-take n c.next, held.next_long, stack));
              generation = rw stays room.generation;
              payload = rw stays (omega (arith, length-take n c.payload, held.payload_long, stack));
            };
            links = rw (stays, word 1 (λ z. omega arith)) links_few;
          }

      same_header : with_stack_length (link_count a) (with_root 0 h) ≡ compressed_header (link_count a) g a.header
      same_header =
          let links : get_or (with_root 0 (with_current g a.header)) 1 0 ≡ m =
          get_or-set_other (with_current g a.header) 2 1 0 0 (λ z. omega arith) ∙ get_or-set_other a.header 3 1 g 0 (λ z. omega arith) in
          rw renewed (ap (with_stack_length m) (sym (ap (λ (x : ℕ). with_link_count x (with_root 0 (with_current g a.header))) (sym links) ∙ set-get_or (with_root 0 (with_current g a.header)) 1 0)))

      pub shrunk_canonical : shrunk (arena c.prev c.next a.generation c.payload h) ≡ canonical_arena g a
      unfolding shrunk canonical_arena
      shrunk_canonical =
          rw (
            word 0 (λ z. omega arith),
            word 1 (λ z. omega arith),
            new_generation,
            popped_settled c.prev b.prev a.prev held.prev_long (omega (arith, carried.prev.size, room.prev)) held.prev laid.rest.prev,
            popped_settled c.next b.next a.next held.next_long (omega (arith, carried.next.size, room.next)) held.next laid.rest.next,
            popped_settled c.payload b.payload a.payload held.payload_long (omega (arith, carried.payload.size, room.payload)) held.payload laid.rest.payload,
            same_header,
          )
          refl

-- ---- the call

pub stacked_if_passed : (a : Arena) (where_from : List ℕ) → verdict capacity_limit a ≡ 0 → length where_from ≡ capacity a → Stacked a where_from
stacked_if_passed a where_from passed e =
    let ok = well_formed_if_passes capacity_limit a passed in
    record {
      header = omega (arith, ok.header);
      layable = record { linked = well_formed_linked ok; room = well_formed_room ok; small = omega (arith, ok.within, ok.small) };
      room = omega (arith, ok.within);
    }

pub refused : (top : ℕ) (reset : Bool) (a : Arena) (where_from : List ℕ) → (length where_from ≡ capacity a → ⊥) → reply 14 [] a where_from ≡ compress_canonical top reset a where_from
unfolding compress_canonical
refused top reset a where_from d = rw (not_ne (length where_from) (capacity a) d) refl

-- a is laid out, in the arena b, whose generation is then renewed, so that it has the header h
module _ {top : ℕ} {reset : Bool} {a : Arena} (b : Arena) {k : ℕ} {h : List ℕ} (where_from ws : List ℕ) (passed : verdict capacity_limit a ≡ 0) (laid : LaidIn a where_from (lent b.prev b.next b.payload ws))
    (others : (b.generation ≡ a.generation) × (b.header ≡ a.header)) (renewed : (ps ns gs vs : List ℕ) → Renewed top reset (arena ps ns gs vs b.header) k h) where
  now_renewed : Renewed top reset a k h
  now_renewed = rw others.1 at (renewed a.prev a.next a.generation a.payload)

  pub shrinkable : Shrinkable (with_header b h)
  shrinkable =
      rw others.0 (can_shrink capacity_limit a (well_formed_if_passes capacity_limit a passed) where_from (lent b.prev b.next b.payload ws) laid (compress_generation top reset a) h now_renewed.header)

  pub compressed : {left : Arena} → length where_from ≡ capacity a → left ≡ shrunk (with_header b h) → reply k [] left ws ≡ compress_canonical top reset a where_from
  unfolding compress_canonical
  compressed e shrinks =
      let ok = well_formed_if_passes capacity_limit a passed in
      let c = lent b.prev b.next b.payload ws in
      rw (not_eq (length where_from) (capacity a) e, now_renewed.number, shrinks, others.0, shrunk_canonical capacity_limit a ok where_from c laid (compress_generation top reset a) h now_renewed.header, where_from_settled capacity_limit a ok where_from c laid)
      refl
