-- Whatever order lists the links once each: laying them out in it renames every link once, payloads go along and neighbours get their new names,
-- slots 1 to n and no others are links, and the arena left is well formed. A neighbour goes where its old slot stands in the order, so that who came
-- from whom is read back from the order. Assumes nothing.
use Prim.Native.Nat.{ℕ, ◌≤◌}
use mathlib.Core.Path.{◌≡◌, refl, sym, ap, ◌∙◌}
use mathlib.Core.Logic.{◌≢◌}
use mathlib.Core.List.{List, [], ◌∷◌, map}
use native.Mathlib.Omega.{arith}
use native.Mathlib.Decide.{ℕ_discrete}
use lib.ListN.{length, get_or, length-map}
use Rattle.definitions.specs.Columns.{at, first_or, slots_from, settled, Linked}
use Rattle.definitions.specs.Arena.{Arena, capacity, stack_length, link_count, root, current}
use Rattle.statements.specs.Chains.{Renaming}
use Rattle.definitions.specs.Check.{Neighbour, Freelist, WellFormed}
use Rattle.definitions.specs.Compress.{compressed_header, place, relocate}
use Rattle.definitions.proofs.Header.{four_words}
use Rattle.definitions.proofs.Columns.{at_zero}
use Rattle.definitions.proofs.Slots.{allocated_yes, count_slots_in, length_slots}
use Rattle.definitions.proofs.Count.{in_slots, not_in_nil}
use Rattle.definitions.proofs.Parts.{at_map, settled_reads, length_settled}
use Rattle.chains.proofs.Links.{Link, DoublyLinked, link_some, link_within, well_formed_linked}
use Rattle.renaming.proofs.Place.{place_none, place_found, place_at}
use Rattle.renaming.proofs.Orders.{OrderOf, order_size, order_within, order_no_zero, order_at, order_once}

-- the header after a compression of n links, word by word
pub compressed_header_lem : (n g : ℕ) (h : List ℕ) → length h ≡ 4 → compressed_header n g h ≡ n ∷ n ∷ 0 ∷ g ∷ []
compressed_header_lem n g h e = four_words (λ (h : List ℕ). compressed_header n g h ≡ n ∷ n ∷ 0 ∷ g ∷ []) h e (λ a b c d. refl)

-- a column that is filled from the order
pub filled_reads : (n : ℕ) (f : ℕ → ℕ) (w old : List ℕ) (s : ℕ) → 1 ≤ s → s ≤ length w → at (settled n (map f w) old) s ≡ f (at w s)
filled_reads n f w old s h l = settled_reads n (map f w) old s (omega (arith, length-map w f)) ∙ at_map f w s h l

filled_length : (n : ℕ) (f : ℕ → ℕ) (w old : List ℕ) → length w ≤ n → n ≤ length old → length (settled n (map f w) old) ≡ length old
filled_length n f w old h l = length_settled n (map f w) old (omega (arith, length-map w f)) l

module _ (a : Arena) (w : List ℕ) (order : OrderOf a w) where
  -- ---- places

  -- where none is, and where the link of slot s is: there and back
  pub place_zero : place w 0 ≡ 0
  place_zero = place_none w 0 (order_no_zero a w order)

  pub place_back : (s : ℕ) → 1 ≤ s → s ≤ length w → place w (at w s) ≡ s
  place_back s h l = place_at w s h l (omega (arith, order_once a w order s h l))

  -- a neighbour, none or a link, goes to the slot that came from it
  pub place_came : (o : ℕ) → (o ≢ 0 → Link a o) → (place w o ≤ length w) × (at w (place w o) ≡ o)
  place_came o h = go (ℕ_discrete o 0)
    where
      go : Dec (o ≡ 0) → (place w o ≤ length w) × (at w (place w o) ≡ o)
      go (yes e) = let z : place w o ≡ 0 = ap (place w) e ∙ place_zero in (omega (arith, z), rw z (at_zero w ∙ sym e))
      go (no d) = let r = place_found w o (omega (arith, order.each o (h d))) in (r.1, r.2)

  -- one side, prev or next, of the new slots: X and its opposite Y renamed. What X names is in slots 1 to n, and names back in Y
  side : (X Y X' Y' : List ℕ) → ((s : ℕ) → 1 ≤ s → s ≤ length w → at X' s ≡ place w (at X (at w s))) → ((s : ℕ) → 1 ≤ s → s ≤ length w → at Y' s ≡ place w (at Y (at w s))) →
      ((x : ℕ) → Link a x → Neighbour a Y x (at X x)) → (s : ℕ) → 1 ≤ s → s ≤ length w → at X' s ≢ 0 → (1 ≤ at X' s) × (at X' s ≤ length w) × (at Y' (at X' s) ≡ s)
  side X Y X' Y' readX read_y fine s h l d =
      let o = at X (at w s) in
      let there : o ≢ 0 = λ e. d (readX s h l ∙ (ap (place w) e ∙ place_zero)) in
      let link = fine (at w s) (order_at a w order s h l) there in
      let came = place_came o (λ z. link.0) in
      let some : 1 ≤ at X' s = omega (arith, d) in
      let within : at X' s ≤ length w = omega (arith, readX s h l, came.0) in (
        some,
        within,
        read_y (at X' s) some within ∙ (ap (λ (p : ℕ). place w (at Y (at w p))) (readX s h l) ∙ (ap (λ (x : ℕ). place w (at Y x)) came.1 ∙ (ap (place w) link.1 ∙ place_back s h l))),
      )

  module _ (g : ℕ) where
    abbrev b : Arena
    b = relocate w g a

    -- ---- the words of the new slots

    pub new_prev : (s : ℕ) → 1 ≤ s → s ≤ length w → at (relocate w g a).prev s ≡ place w (at a.prev (at w s))
    unfolding relocate
    new_prev s h l = filled_reads (stack_length a) (λ o. place w (at a.prev o)) w a.prev s h l

    pub new_next : (s : ℕ) → 1 ≤ s → s ≤ length w → at (relocate w g a).next s ≡ place w (at a.next (at w s))
    unfolding relocate
    new_next s h l = filled_reads (stack_length a) (λ o. place w (at a.next o)) w a.next s h l

    pub new_generation : (s : ℕ) → 1 ≤ s → s ≤ length w → at (relocate w g a).generation s ≡ g
    unfolding relocate
    new_generation s h l = filled_reads (stack_length a) (λ o. g) w a.generation s h l

    pub new_payload : (s : ℕ) → 1 ≤ s → s ≤ length w → at (relocate w g a).payload s ≡ at a.payload (at w s)
    unfolding relocate
    new_payload s h l = filled_reads (stack_length a) (λ o. at a.payload o) w a.payload s h l

    -- ---- the renaming

    module _ (linked : DoublyLinked a) where
      pub any_order_renames : Renaming a (relocate w g a) w (length w)
      any_order_renames =
          record {
            size = refl;
            each = order.each;
            only = order.only;
            payload = new_payload;
            prev = λ s h l. rw (new_prev s h l) (place_came (at a.prev (at w s)) (λ z. (linked.prev (at w s) (order_at a w order s h l) z).0));
            next = λ s h l. rw (new_next s h l) (place_came (at a.next (at w s)) (λ z. (linked.next (at w s) (order_at a w order s h l) z).0));
          }

    -- ---- slots 1 to n are the links

    module _ (words : length a.header ≡ 4) where
      pub new_header : (relocate w g a).header ≡ length w ∷ length w ∷ 0 ∷ g ∷ []
      unfolding relocate
      new_header = compressed_header_lem (length w) g a.header words

      pub new_stack : stack_length (relocate w g a) ≡ length w
      new_stack = ap (λ (h : List ℕ). get_or h 0 0) new_header

      pub new_count : link_count (relocate w g a) ≡ length w
      new_count = ap (λ (h : List ℕ). get_or h 1 0) new_header

      pub new_root : root (relocate w g a) ≡ 0
      new_root = ap (λ (h : List ℕ). get_or h 2 0) new_header

      pub new_current : current (relocate w g a) ≡ g
      new_current = ap (λ (h : List ℕ). get_or h 3 0) new_header

      pub links_within : (s : ℕ) → Link b s → (1 ≤ s) × (s ≤ length w)
      links_within s h = (link_some b s h, omega (arith, link_within b s h, new_stack))

      pub links_fill : 1 ≤ g → (s : ℕ) → 1 ≤ s → s ≤ length w → Link b s
      links_fill g1 s h l = allocated_yes b.generation (stack_length b) s (omega (arith, new_stack)) (λ z. omega (arith, new_generation s h l, z))

      pub slots_in_order : 1 ≤ g → OrderOf b (slots_from 1 (length w))
      slots_in_order g1 =
          record {
            each = λ o h. let r = links_within o h in count_slots_in o 1 (length w) r.0 (omega (arith, r.1));
            only = λ o i. let r = in_slots o 1 (length w) i in links_fill g1 o r.0 (omega (arith, r.1));
          }

      -- ---- rule 11

      pub any_order_linked : 1 ≤ g → DoublyLinked a → DoublyLinked b
      any_order_linked g1 linked =
          record {
            prev = λ s h d. let r = links_within s h in named b.next (at b.prev s) s (side a.prev a.next b.prev b.next new_prev new_next linked.prev s r.0 r.1 d);
            next = λ s h d. let r = links_within s h in named b.prev (at b.next s) s (side a.next a.prev b.next b.prev new_next new_prev linked.next s r.0 r.1 d);
          }
        where
          named : (back : List ℕ) (p s : ℕ) → (1 ≤ p) × (p ≤ length w) × (at back p ≡ s) → Link b p × (at back p ≡ s)
          named back p s q = (links_fill g1 p q.0 q.1, q.2)

    -- ---- the check

    module _ (limit : ℕ) (ok : WellFormed limit a) (g2 : 2 ≤ g) where
      pub same_capacity : capacity (relocate w g a) ≡ capacity a
      unfolding relocate
      same_capacity = filled_length (stack_length a) (λ o. place w (at a.prev o)) w a.prev (order_within a w order) ok.within

      lengths : (length (relocate w g a).next ≡ capacity a) × (length (relocate w g a).generation ≡ capacity a) × (length (relocate w g a).payload ≡ capacity a)
      unfolding relocate
      lengths = (
        filled_length (stack_length a) (λ o. place w (at a.next o)) w a.next (order_within a w order) (omega (arith, ok.within, ok.next_length)) ∙ ok.next_length,
        filled_length (stack_length a) (λ o. g) w a.generation (order_within a w order) (omega (arith, ok.within, ok.generation_length)) ∙ ok.generation_length,
        filled_length (stack_length a) (λ o. at a.payload o) w a.payload (order_within a w order) (omega (arith, ok.within, ok.payload_length)) ∙ ok.payload_length,
      )

      no_free : Freelist b []
      unfolding first_or
      no_free =
          record {
            starts = sym (new_root ok.header);
            linked = unfold Linked in tt;
            free = λ s i. absurd (not_in_nil s i);
            once = λ s h l z. absurd (omega (arith, new_generation s h (omega (arith, new_stack ok.header)), z));
          }

      pub any_order_well_formed : WellFormed limit (relocate w g a)
      any_order_well_formed =
          let linked = any_order_linked ok.header (omega arith) (well_formed_linked ok) in
          record {
            header = ap length (new_header ok.header);
            small = omega (arith, same_capacity, ok.small);
            next_length = lengths.0 ∙ sym same_capacity;
            generation_length = lengths.1 ∙ sym same_capacity;
            payload_length = lengths.2 ∙ sym same_capacity;
            generation = omega (arith, new_current ok.header);
            within = omega (arith, new_stack ok.header, same_capacity, ok.within, order_within a w order);
            links = new_count ok.header ∙ (sym (length_slots 1 (length w)) ∙ order_size b (slots_from 1 (length w)) (slots_in_order ok.header (omega arith)));
            freelist = ([], no_free);
            prev = linked.prev;
            next = linked.next;
          }
