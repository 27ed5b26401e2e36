-- What the call gives: which number comes when, that a refusal changes nothing, that what is found is the small arena of its index at the front of the columns,
-- and that every small arena comes, at one index and no other. Assumes nothing.
use Prim.Native.Nat.{ℕ, ◌≤◌, ◌<◌}
use mathlib.Core.Path.{◌≡◌, refl, sym, ap, ◌∙◌}
use mathlib.Core.Logic.{◌⊎◌, inl, inr, ◌↔◌}
use mathlib.Core.Bool.{true, false}
use mathlib.Core.List.{List, [], ◌∷◌}
use native.Mathlib.Omega.{arith}
use native.Mathlib.Decide.{dec_lt}
use lib.ListN.{length, get_or}
use lib.Seq.{take_at}
use borrow.Author.Tests.{lt-ltb, le-ltb}
use Rattle.definitions.specs.Columns.{written}
use Rattle.definitions.specs.Arena.{Arena, capacity, stack_length}
use Rattle.definitions.specs.Check.{misshapen, verdict, WellFormed}
use Rattle.definitions.specs.Reply.{Reply, reply, refusal}
use Rattle.definitions.proofs.Tests.{by_test}
use Rattle.definitions.proofs.Slots.{allocated_within}
use Rattle.definitions.proofs.Shaped.{Shaped, sized, shaped}
use Rattle.definitions.proofs.Written.{length_written, written_reads, written_rest}
use Rattle.well_formed.proofs.WellFormed.{well_formed_if_passes}
use Rattle.well_formed.proofs.ReadsOnly.{passes_in_columns}
use Rattle.statements.specs.SmallArenas.{IsSmall, entry, lent_part, behind, GivesSmall}
use Rattle.all_small.specs.SmallArenas.{small_arenas}
use Rattle.all_small.specs.SmallArena.{laid_in, small_arena}
use Rattle.all_small.proofs.SmallArenas.{small_arenas_at, small_arenas_lem}
use Rattle.all_small.proofs.Determined.{none_twice}

ninety : length small_arenas ≡ 90
ninety = small_arenas_lem.size

module _ (limit : ℕ) (a : Arena) (index : ℕ) where
  -- ---- the four replies, each where it comes

  pub wrong_lengths : misshapen limit a ≡ true → small_arena limit a index ≡ refusal 1 2 a []
  unfolding small_arena
  wrong_lengths m = rw m refl

  module _ (m : misshapen limit a ≡ false) where
    pub past_the_last : 90 ≤ index → small_arena limit a index ≡ reply 0 (0 ∷ 0 ∷ []) a []
    unfolding small_arena
    past_the_last h = rw (m, le-ltb index (length small_arenas) (omega (arith, ninety))) refl

    pub too_short : index < 90 → capacity a < stack_length (entry small_arenas index) → small_arena limit a index ≡ refusal 14 2 a []
    unfolding small_arena
    too_short h l = rw (m, lt-ltb index (length small_arenas) (omega (arith, ninety)), lt-ltb (capacity a) _ l) refl

    pub laid : index < 90 → stack_length (entry small_arenas index) ≤ capacity a
        → small_arena limit a index ≡ reply 0 (1 ∷ stack_length (entry small_arenas index) ∷ []) (laid_in (entry small_arenas index) a) []
    unfolding small_arena
    laid h l = rw (m, lt-ltb index (length small_arenas) (omega (arith, ninety)), le-ltb (capacity a) _ l) refl

    nothing_else : ((index < 90) × (capacity a < stack_length (entry small_arenas index))) ⊎ ((90 ≤ index) ⊎ ((index < 90) × (stack_length (entry small_arenas index) ≤ capacity a)))
    nothing_else = elim (dec_lt index 90) [
      | yes h ↦ elim (dec_lt (capacity a) (stack_length (entry small_arenas index))) [ yes l ↦ inl (h, l) | no l ↦ inr (inr (h, omega arith)) ]
      | no h ↦ inr (inl (omega arith))
    ]

-- the number and the first field of a reply
number_of : Reply → ℕ
number_of r = r.number

found_in : Reply → ℕ
found_in r = get_or r.fields 0 0

-- ---- which number comes when

module _ (limit : ℕ) (a : Arena) (index : ℕ) where
  abbrev e : Arena
  e = entry small_arenas index

  abbrev r : Reply
  r = small_arena limit a index

  -- 1 comes exactly where the lengths of columns and header are wrong, whatever the words and the index are
  pub small_one_exactly : (r.number ≡ 1) ↔ (misshapen limit a ≡ true)
  unfolding number_of
  small_one_exactly = (λ is. by_test (misshapen limit a) (λ m. m) (λ m. absurd (not_one m is)), λ m. ap number_of (wrong_lengths limit a index m))
    where
      not_one : misshapen limit a ≡ false → r.number ≡ 1 → ⊥
      not_one m is = elim (nothing_else limit a index m) [
        | inl s ↦ omega (arith, sym is ∙ ap number_of (too_short limit a index m s.0 s.1))
        | inr (inl p) ↦ omega (arith, sym is ∙ ap number_of (past_the_last limit a index m p))
        | inr (inr f) ↦ omega (arith, sym is ∙ ap number_of (laid limit a index m f.0 f.1))
      ]

  module _ (m : misshapen limit a ≡ false) where
    -- of right lengths 14 comes exactly for columns that are shorter than the stack of the arena of the index
    pub small_fourteen_exactly : (r.number ≡ 14) ↔ ((index < 90) × (capacity a < stack_length e))
    unfolding number_of
    small_fourteen_exactly = (
      λ is. elim (nothing_else limit a index m) [
        | inl s ↦ s
        | inr (inl p) ↦ absurd (omega (arith, sym is ∙ ap number_of (past_the_last limit a index m p)))
        | inr (inr f) ↦ absurd (omega (arith, sym is ∙ ap number_of (laid limit a index m f.0 f.1)))
      ],
      λ s. ap number_of (too_short limit a index m s.0 s.1),
    )

    -- and 0 in every other case
    pub small_done_exactly : (r.number ≡ 0) ↔ ((90 ≤ index) ⊎ ((index < 90) × (stack_length e ≤ capacity a)))
    unfolding number_of
    small_done_exactly = (
      λ is. elim (nothing_else limit a index m) [
        | inl s ↦ absurd (omega (arith, sym is ∙ ap number_of (too_short limit a index m s.0 s.1)))
        | inr d ↦ d
      ],
      λ d. elim d [
        | inl p ↦ ap number_of (past_the_last limit a index m p)
        | inr f ↦ ap number_of (laid limit a index m f.0 f.1)
      ],
    )

    -- an arena is found exactly where there is one of this index and the columns have room for it
    pub small_found_exactly : (get_or r.fields 0 0 ≡ 1) ↔ ((index < 90) × (stack_length e ≤ capacity a))
    unfolding found_in
    small_found_exactly = (
      λ is. elim (nothing_else limit a index m) [
        | inl s ↦ absurd (omega (arith, sym is ∙ ap found_in (too_short limit a index m s.0 s.1)))
        | inr (inl p) ↦ absurd (omega (arith, sym is ∙ ap found_in (past_the_last limit a index m p)))
        | inr (inr f) ↦ f
      ],
      λ f. ap found_in (laid limit a index m f.0 f.1),
    )

  -- where none is found, be it a refusal or not, both fields are 0 and nothing is written
  pub unfound_changes_nothing : (get_or r.fields 0 0 ≡ 1 → ⊥) → (r.fields ≡ 0 ∷ 0 ∷ []) × (r.arena ≡ a)
  unfolding found_in
  unfound_changes_nothing no-arena = by_test (misshapen limit a) (λ m. told (wrong_lengths limit a index m)) (λ m. elim (nothing_else limit a index m) [
    | inl s ↦ told (too_short limit a index m s.0 s.1)
    | inr (inl p) ↦ told (past_the_last limit a index m p)
    | inr (inr f) ↦ absurd (no-arena (ap found_in (laid limit a index m f.0 f.1)))
  ])
    where
      told : {k : ℕ} → r ≡ reply k (0 ∷ 0 ∷ []) a [] → (r.fields ≡ 0 ∷ 0 ∷ []) × (r.arena ≡ a)
      told q = (ap (λ (s : Reply). s.fields) q, ap (λ (s : Reply). s.arena) q)

  -- no reply but a refusal, which is 1 or 14, has another number than 0; and a refusal finds none
  pub refusal_finds_none : (r.number ≡ 0 → ⊥) → (r.fields ≡ 0 ∷ 0 ∷ []) × (r.arena ≡ a)
  unfolding number_of found_in
  refusal_finds_none refused = unfound_changes_nothing (λ is. by_test (misshapen limit a) (λ m. omega (arith, sym is ∙ ap found_in (wrong_lengths limit a index m))) (λ m.
      let f = (small_found_exactly m).0 is in refused (ap number_of (laid limit a index m f.0 f.1))))

-- ---- what is found

-- an arena laid into columns with room for it is what is lent on of them, and the words behind it stay
module _ (limit : ℕ) (e a : Arena) (s : IsSmall limit e) where
  ok : WellFormed limit e
  ok = well_formed_if_passes limit e s.passes

  prev_size : length e.prev ≡ stack_length e
  prev_size = sym s.full

  next_size : length e.next ≡ stack_length e
  next_size = ok.next_length ∙ prev_size

  generation_size : length e.generation ≡ stack_length e
  generation_size = ok.generation_length ∙ prev_size

  payload_size : length e.payload ≡ stack_length e
  payload_size = ok.payload_length ∙ prev_size

  front : lent_part (stack_length e) (laid_in e a) ≡ e
  unfolding lent_part laid_in written
  front =
      rw (take_at e.prev _ (stack_length e) prev_size, take_at e.next _ (stack_length e) next_size, take_at e.generation _ (stack_length e) generation_size, take_at e.payload _ (stack_length e) payload_size)
      refl

  -- the columns as a whole are the same arena, with room above the stack
  with_room : misshapen limit a ≡ false → stack_length e ≤ capacity a → verdict limit (laid_in e a) ≡ 0
  unfolding laid_in
  with_room m room =
      let z = sized limit a m in
      let fits : Shaped limit (laid_in e a) = record {
        header = ok.header;
        small = rw (length_written e.prev a.prev (omega (arith, prev_size))) z.small;
        next_length = rw (length_written e.prev a.prev (omega (arith, prev_size)), length_written e.next a.next (omega (arith, next_size, z.next_length))) z.next_length;
        generation_length = rw (length_written e.prev a.prev (omega (arith, prev_size)), length_written e.generation a.generation (omega (arith, generation_size, z.generation_length))) z.generation_length;
        payload_length = rw (length_written e.prev a.prev (omega (arith, prev_size)), length_written e.payload a.payload (omega (arith, payload_size, z.payload_length))) z.payload_length;
        generation = ok.generation;
        links_within = rw (length_written e.prev a.prev (omega (arith, prev_size))) (omega (arith, (shaped limit e s.passes).links_within, s.full));
        within = rw (length_written e.prev a.prev (omega (arith, prev_size))) room;
      } in
      passes_in_columns e (laid_in e a) refl
      (λ x l. sym (written_reads e.generation a.generation x (omega (arith, generation_size))))
      (λ x l. sym (written_reads e.next a.next x (omega (arith, next_size))))
      (λ x l. sym (written_reads e.prev a.prev x (omega (arith, prev_size, allocated_within _ _ x l))))
      limit limit fits s.passes

  gives : (t : Reply) → t ≡ reply 0 (1 ∷ stack_length e ∷ []) (laid_in e a) [] → GivesSmall limit e a t
  unfolding laid_in behind
  gives t q = rw q record {
    number = refl;
    fields = refl;
    lent_on = front;
    small = s;
    stays =
        rw (
          written_rest e.prev a.prev (stack_length e) (omega (arith, prev_size)),
          written_rest e.next a.next (stack_length e) (omega (arith, next_size)),
          written_rest e.generation a.generation (stack_length e) (omega (arith, generation_size)),
          written_rest e.payload a.payload (stack_length e) (omega (arith, payload_size)),
        )
        refl;
  }

-- what is found is the small arena of the index
pub gives_small : (limit : ℕ) → 3 ≤ limit → (a : Arena) (index : ℕ) → misshapen limit a ≡ false → index < 90 → stack_length (entry small_arenas index) ≤ capacity a
    → GivesSmall limit (entry small_arenas index) a (small_arena limit a index)
gives_small limit h a index m i room =
    gives limit (entry small_arenas index) a ((small_arenas_at limit h).small index (omega (arith, ninety))) (small_arena limit a index) (laid limit a index m i room)

-- and the columns as a whole, lent on with the header, pass the check too: they hold it with room above the stack
pub held_with_room : (limit : ℕ) → 3 ≤ limit → (a : Arena) (index : ℕ) → misshapen limit a ≡ false → index < 90 → stack_length (entry small_arenas index) ≤ capacity a
    → verdict limit (small_arena limit a index).arena ≡ 0
held_with_room limit h a index m i room =
    rw (laid limit a index m i room) (with_room limit (entry small_arenas index) a ((small_arenas_at limit h).small index (omega (arith, ninety))) m room)

-- every small arena comes, at some index, in all columns that have room for it
pub every_small_comes : (limit : ℕ) → 3 ≤ limit → (e : Arena) → IsSmall limit e
    → (index : ℕ) × (index < 90) × ((a : Arena) → misshapen limit a ≡ false → stack_length e ≤ capacity a → GivesSmall limit e a (small_arena limit a index))
every_small_comes limit h e s =
    let place = (small_arenas_at limit h).every e s in
    let below : place.0 < 90 = omega (arith, place.1, ninety) in (
      place.0,
      below,
      λ a m room. rw place.2 at (gives_small limit h a place.0 m below (rw place.2 room)),
    )

-- what is given at an index is the entry of that index
given_entry : (limit : ℕ) → 3 ≤ limit → (e a : Arena) (i : ℕ) → misshapen limit a ≡ false → GivesSmall limit e a (small_arena limit a i) → (i < 90) × (e ≡ entry small_arenas i)
given_entry limit h e a i m v =
    let is : get_or (small_arena limit a i).fields 0 0 ≡ 1 = ap (λ (fs : List ℕ). get_or fs 0 0) v.fields in
    let f = (small_found_exactly limit a i m).0 is in
    let w = gives_small limit h a i m f.0 f.1 in
    let same : stack_length e ≡ stack_length (entry small_arenas i) = ap (λ (fs : List ℕ). get_or fs 1 0) (sym v.fields ∙ w.fields) in
    (f.0, sym v.lent_on ∙ ap (λ (n : ℕ). lent_part n (small_arena limit a i).arena) same ∙ w.lent_on)

-- and none comes at two indexes
pub none_comes_twice : (limit : ℕ) → 3 ≤ limit → (e : Arena) (i j : ℕ) (a b : Arena) → misshapen limit a ≡ false → misshapen limit b ≡ false
    → GivesSmall limit e a (small_arena limit a i) → GivesSmall limit e b (small_arena limit b j) → i ≡ j
none_comes_twice limit h e i j a b m n v w =
    let f = given_entry limit h e a i m v in
    let g = given_entry limit h e b j n w in
    none_twice (small_arenas_at limit h) i j (omega (arith, f.0, ninety)) (omega (arith, g.0, ninety)) (sym f.1 ∙ g.1)

-- what is told of the stack fits into the columns, whatever was told
pub told_within : {number found n : ℕ} {b : Arena} (limit : ℕ) (a : Arena) (index : ℕ) → reply number (found ∷ n ∷ []) b [] ≡ small_arena limit a index → n ≤ capacity a
told_within {n = n} limit a index q =
    by_test (misshapen limit a) (λ m. none (wrong_lengths limit a index m)) (λ m. elim (nothing_else limit a index m) [
      | inl s ↦ none (too_short limit a index m s.0 s.1)
      | inr (inl p) ↦ none (past_the_last limit a index m p)
      | inr (inr f) ↦ omega (arith, f.1, length_told (laid limit a index m f.0 f.1))
    ])
  where
    length_told : {k x y : ℕ} {b : Arena} → small_arena limit a index ≡ reply k (x ∷ y ∷ []) b [] → n ≡ y
    length_told p = ap (λ (r : Reply). get_or r.fields 1 0) (q ∙ p)

    none : {k : ℕ} → small_arena limit a index ≡ reply k (0 ∷ 0 ∷ []) a [] → n ≤ capacity a
    none p = omega (arith, length_told p)
