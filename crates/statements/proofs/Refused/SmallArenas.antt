-- All small arenas: for each field of `IsSmall`, `AllSmall` and `GivesSmall` something small that it refuses, and for each word of the order two arenas of which it decides. Then each
-- of the three in its full range, and what each definition means without its name.
use Prim.Native.Nat.{ℕ, zero, suc, ◌≤◌, ◌<◌}
use mathlib.Core.Path.{◌≡◌, refl, sym, ap, ◌∙◌}
use mathlib.Core.Logic.{◌↔◌}
use mathlib.Core.Bool.{true, false, true≢false}
use mathlib.Core.List.{List, [], ◌∷◌, ◌++◌, map}
use native.Mathlib.Omega.{arith}
use lib.ListN.{length, get_or, take, drop, take-append-drop}
use lib.Dec.{eqb, ltb}
use borrow.Author.Tests.{ltb-true, eqb-true, lt-ltb, le-ltb, eq-eqb, ne_eqb}
use Rattle.definitions.specs.Columns.{at, slots_from, keep}
use Rattle.definitions.specs.Arena.{Arena, arena, capacity_limit, capacity, stack_length, root, current, allocated, link_slots, free_slots, is_link}
use Rattle.definitions.specs.Check.{misshapen, names_back, neighbours_fine, all_fine, counts_of, verdict}
use Rattle.definitions.specs.Reply.{Reply, reply}
use Rattle.statements.specs.SmallArenas.{IsSmall, slot_words, order_words, earlier, before, entry, tally, AllSmall, lent_part, behind, GivesSmall}
use Rattle.definitions.proofs.Tests.{by_test}
use Rattle.definitions.proofs.Slots.{allocated_some, allocated_within}

-- ---- small arenas, each wrong in one word

abbrev Small : Arena → Type 0
Small a = IsSmall capacity_limit a

-- an arena without slots; a link alone in its stack, with this prev, next, generation and payload; a free slot alone in its stack, with this prev and payload
abbrev none : Arena
none = arena [] [] [] [] (0 ∷ 0 ∷ 0 ∷ 2 ∷ [])

abbrev link : ℕ → ℕ → ℕ → ℕ → Arena
link p n g v = arena (p ∷ []) (n ∷ []) (g ∷ []) (v ∷ []) (1 ∷ 1 ∷ 0 ∷ 2 ∷ [])

abbrev free : ℕ → ℕ → Arena
free p v = arena (p ∷ []) (1 ∷ []) (0 ∷ []) (v ∷ []) (1 ∷ 0 ∷ 1 ∷ 2 ∷ [])

-- a link whose next does not name it back
pub is_small_passes_refused : Small (link 0 1 2 1) → ⊥
unfolding verdict misshapen counts_of free_slots link_slots keep allocated slots_from at all_fine neighbours_fine names_back
is_small_passes_refused w = omega (arith, w.passes)

-- a column of one word above an empty stack, and a stack of four links
pub is_small_full_refused : Small (arena (0 ∷ []) (0 ∷ []) (0 ∷ []) (0 ∷ []) (0 ∷ 0 ∷ 0 ∷ 2 ∷ [])) → ⊥
is_small_full_refused w = omega (arith, w.full)

pub is_small_short_refused : Small (arena (0 ∷ 0 ∷ 0 ∷ 0 ∷ []) (0 ∷ 0 ∷ 0 ∷ 0 ∷ []) (2 ∷ 2 ∷ 2 ∷ 2 ∷ []) (1 ∷ 2 ∷ 3 ∷ 4 ∷ []) (4 ∷ 4 ∷ 0 ∷ 2 ∷ [])) → ⊥
is_small_short_refused w = omega (arith, w.short)

-- another generation, of the header and of a link
pub is_small_current_two_refused : Small (arena [] [] [] [] (0 ∷ 0 ∷ 0 ∷ 3 ∷ [])) → ⊥
is_small_current_two_refused w = omega (arith, w.current_two)

pub is_small_generation_two_refused : Small (link 0 0 3 1) → ⊥
unfolding allocated at
is_small_generation_two_refused w = omega (arith, w.generation_two 1 refl)

-- a payload that is not the link's slot; a free slot with a prev, and with a payload
pub is_small_payload_own_refused : Small (link 0 0 2 0) → ⊥
unfolding allocated at
is_small_payload_own_refused w = omega (arith, w.payload_own 1 refl)

pub is_small_prev_unread_refused : Small (free 1 0) → ⊥
unfolding allocated at
is_small_prev_unread_refused w = omega (arith, w.prev_unread 1 refl)

pub is_small_payload_unread_refused : Small (free 0 1) → ⊥
unfolding allocated at
is_small_payload_unread_refused w = omega (arith, w.payload_unread 1 refl)

-- and the arena without slots is small: it has no link, and no word
no_link : {A : Type 0} (s : ℕ) → is_link none s ≡ true → A
no_link s l = absurd (omega (arith, allocated_some [] 0 s l, allocated_within [] 0 s l))

no_word : (s : ℕ) → at [] s ≡ 0
unfolding at
no_word zero = refl
no_word (suc s) = refl

pub is_small_none : Small none
unfolding verdict misshapen counts_of free_slots link_slots keep slots_from all_fine
is_small_none = record {
  passes = refl;
  full = refl;
  short = omega arith;
  current_two = refl;
  generation_two = λ s l. no_link s l;
  payload_own = λ s l. no_link s l;
  prev_unread = λ s l. no_word s;
  payload_unread = λ s l. no_word s;
}

-- ---- which comes first

-- two slots of this root, with generation, prev and next of each; link count and payloads are not looked at
abbrev two : ℕ → ℕ → ℕ → ℕ → ℕ → ℕ → ℕ → Arena
two r g p n h q m = arena (p ∷ q ∷ []) (n ∷ m ∷ []) (g ∷ h ∷ []) (0 ∷ 0 ∷ []) (2 ∷ 0 ∷ r ∷ 2 ∷ [])

-- the shorter stack, though its root is larger; the smaller root, though a slot has larger words; the smaller generation, though its next is larger; the smaller
-- prev, though its next is larger; and slot 1 before slot 2
pub before_computed :
    (before (free 0 0) (two 0 2 0 0 2 0 0) ≡ true)
    × (before (two 1 0 0 1 2 0 0) (two 2 0 0 1 0 0 1) ≡ true)
    × (before (two 2 0 0 1 0 0 1) (two 2 2 0 0 0 0 2) ≡ true)
    × (before (two 0 2 0 2 2 1 0) (two 0 2 1 1 2 0 0) ≡ true)
    × (before (two 0 2 0 0 2 2 2) (two 0 2 1 1 2 0 0) ≡ true)
unfolding before order_words slot_words slots_from earlier at
before_computed = (refl, refl, refl, refl, refl)

-- ---- lists, whatever follows their first entries

-- two free slots, of root 2; a free slot and a link, of root 1
abbrev frees : Arena
frees = arena (0 ∷ 0 ∷ []) (1 ∷ 1 ∷ []) (0 ∷ 0 ∷ []) (0 ∷ 0 ∷ []) (2 ∷ 0 ∷ 2 ∷ 2 ∷ [])

abbrev free_and_link : Arena
free_and_link = arena (0 ∷ 0 ∷ []) (1 ∷ 0 ∷ []) (0 ∷ 2 ∷ []) (0 ∷ 2 ∷ []) (2 ∷ 1 ∷ 1 ∷ 2 ∷ [])

-- 89 arenas; and two arenas without slots
pub all_small_size_refused : (arenas : List Arena) → length arenas ≡ 89 → AllSmall capacity_limit arenas → ⊥
all_small_size_refused arenas e w = omega (arith, w.size)

pub all_small_by_length_refused : (rest : List Arena) → AllSmall capacity_limit (none ∷ none ∷ rest) → ⊥
unfolding tally
all_small_by_length_refused rest w = omega (arith, ap (λ (l : List ℕ). get_or l 0 0) w.by_length)

-- a link before the arena without slots, an arena twice, and root 2 before root 1, though by their slots they would come so
pub all_small_rising_refused : (rest : List Arena) → AllSmall capacity_limit (link 0 0 2 1 ∷ none ∷ rest) → ⊥
unfolding entry before order_words slot_words slots_from earlier at
all_small_rising_refused rest w = true≢false (sym (w.rising 0 1 (omega arith) (omega arith)))

pub all_small_rising_twice_refused : (rest : List Arena) → AllSmall capacity_limit (none ∷ none ∷ rest) → ⊥
unfolding entry before order_words slot_words slots_from earlier at
all_small_rising_twice_refused rest w = true≢false (sym (w.rising 0 1 (omega arith) (omega arith)))

pub all_small_rising_root_refused : (rest : List Arena) → AllSmall capacity_limit (frees ∷ free_and_link ∷ rest) → ⊥
unfolding entry before order_words slot_words slots_from earlier at
all_small_rising_root_refused rest w = true≢false (sym (w.rising 0 1 (omega arith) (omega arith)))

-- an arena that is not small
pub all_small_small_refused : (rest : List Arena) → AllSmall capacity_limit (link 0 0 2 0 ∷ rest) → ⊥
unfolding entry
all_small_small_refused rest w = is_small_payload_own_refused (w.small 0 (omega arith))

-- a list in which the arena without slots is missing
pub all_small_every_refused : (arenas : List Arena) → ((i : ℕ) → i < length arenas → entry arenas i ≡ none → ⊥) → AllSmall capacity_limit arenas → ⊥
all_small_every_refused arenas missing w = let place = w.every none is_small_none in missing place.0 place.1 place.2

-- ---- replies that give a lone link, in columns of two words

abbrev held : Arena
held = arena (5 ∷ 6 ∷ []) (5 ∷ 6 ∷ []) (5 ∷ 6 ∷ []) (5 ∷ 6 ∷ []) (5 ∷ 6 ∷ 7 ∷ 8 ∷ [])

-- a reply with this number, found, length, payload of the link, root, and payload behind the link
abbrev giving : ℕ → ℕ → ℕ → ℕ → ℕ → ℕ → Reply
giving k found n v r rest = reply k (found ∷ n ∷ []) (arena (0 ∷ 6 ∷ []) (0 ∷ 6 ∷ []) (2 ∷ 6 ∷ []) (v ∷ rest ∷ []) (1 ∷ 1 ∷ r ∷ 2 ∷ [])) []

abbrev Gives : Reply → Type 0
Gives r = GivesSmall capacity_limit (link 0 0 2 1) held r

pub gives_small_computed : Small (link 0 0 2 1) → Gives (giving 0 1 1 1 0 6)
unfolding lent_part behind
gives_small_computed s = record { number = refl; fields = refl; lent_on = refl; small = s; stays = refl }

pub gives_small_number_refused : Gives (giving 14 1 1 1 0 6) → ⊥
gives_small_number_refused w = omega (arith, w.number)

-- found 0, and another length
pub gives_small_fields_refused : Gives (giving 0 0 1 1 0 6) → ⊥
gives_small_fields_refused w = omega (arith, ap (λ (l : List ℕ). get_or l 0 0) w.fields)

pub gives_small_fields_length_refused : Gives (giving 0 1 2 1 0 6) → ⊥
gives_small_fields_length_refused w = omega (arith, ap (λ (l : List ℕ). get_or l 1 0) w.fields)

-- another payload, and another root
pub gives_small_lent_on_refused : Gives (giving 0 1 1 7 0 6) → ⊥
unfolding lent_part
gives_small_lent_on_refused w = omega (arith, ap (λ (a : Arena). get_or a.payload 0 0) w.lent_on)

pub gives_small_lent_on_header_refused : Gives (giving 0 1 1 1 1 6) → ⊥
unfolding lent_part
gives_small_lent_on_header_refused w = omega (arith, ap (λ (a : Arena). root a) w.lent_on)

-- an arena that is not small
pub gives_small_small_refused : GivesSmall capacity_limit (link 0 0 2 0) held (giving 0 1 1 0 0 6) → ⊥
gives_small_small_refused w = is_small_payload_own_refused w.small

-- a word behind it is cleared
pub gives_small_stays_refused : Gives (giving 0 1 1 1 0 0) → ⊥
unfolding behind
gives_small_stays_refused w = omega (arith, ap (λ (l : List (List ℕ)). get_or (get_or l 3 []) 0 0) w.stays)

-- ---- in full, for every slot, arena, list and reply

-- no less than this, and no more, as every small arena is said to be listed
pub is_small_whole : (limit : ℕ) (a : Arena) →
    IsSmall limit a
    ↔ ((verdict limit a ≡ 0)
    × (stack_length a ≡ capacity a)
    × (stack_length a ≤ 3)
    × (current a ≡ 2)
    × ((s : ℕ) → is_link a s ≡ true → at a.generation s ≡ 2)
    × ((s : ℕ) → is_link a s ≡ true → at a.payload s ≡ s)
    × ((s : ℕ) → is_link a s ≡ false → at a.prev s ≡ 0)
    × ((s : ℕ) → is_link a s ≡ false → at a.payload s ≡ 0))
is_small_whole limit a = (
  λ d. (d.passes, d.full, d.short, d.current_two, d.generation_two, d.payload_own, d.prev_unread, d.payload_unread),
  λ h. record { passes = h.0; full = h.1; short = h.2; current_two = h.3; generation_two = h.4; payload_own = h.5; prev_unread = h.6; payload_unread = h.7 },
)

-- a list is said to be whole, and no other one is: no less than this, and no more
pub all_small_whole : (limit : ℕ) (arenas : List Arena) →
    AllSmall limit arenas
    ↔ ((length arenas ≡ 90)
    × (tally arenas 0 ≡ 1)
    × (tally arenas 1 ≡ 3)
    × (tally arenas 2 ≡ 13)
    × (tally arenas 3 ≡ 73)
    × ((i j : ℕ) → i < j → j < length arenas → before (entry arenas i) (entry arenas j) ≡ true)
    × ((i : ℕ) → i < length arenas → IsSmall limit (entry arenas i))
    × ((a : Arena) → IsSmall limit a → (i : ℕ) × (i < length arenas) × (entry arenas i ≡ a)))
all_small_whole limit arenas = (
  λ d. (d.size, of d.by_length 0, of d.by_length 1, of d.by_length 2, of d.by_length 3, d.rising, d.small, d.every),
  λ h. record { size = h.0; by_length = rw (h.1, h.2, h.3, h.4) refl; rising = h.5; small = h.6; every = h.7 },
)
  where
    of : map (tally arenas) (0 ∷ 1 ∷ 2 ∷ 3 ∷ []) ≡ 1 ∷ 3 ∷ 13 ∷ 73 ∷ [] → (n : ℕ) → get_or (tally arenas 0 ∷ tally arenas 1 ∷ tally arenas 2 ∷ tally arenas 3 ∷ []) n 0 ≡ get_or (1 ∷ 3 ∷ 13 ∷ 73 ∷ []) n 0
    of e n = ap (λ (l : List ℕ). get_or l n 0) e

pub gives_small_whole : (limit : ℕ) (e a : Arena) (r : Reply) →
    GivesSmall limit e a r
    ↔ ((r.number ≡ 0)
    × (r.fields ≡ 1 ∷ stack_length e ∷ [])
    × (take (stack_length e) r.arena.prev ≡ e.prev)
    × (take (stack_length e) r.arena.next ≡ e.next)
    × (take (stack_length e) r.arena.generation ≡ e.generation)
    × (take (stack_length e) r.arena.payload ≡ e.payload)
    × (r.arena.header ≡ e.header)
    × IsSmall limit e
    × (drop (stack_length e) r.arena.prev ≡ drop (stack_length e) a.prev)
    × (drop (stack_length e) r.arena.next ≡ drop (stack_length e) a.next)
    × (drop (stack_length e) r.arena.generation ≡ drop (stack_length e) a.generation)
    × (drop (stack_length e) r.arena.payload ≡ drop (stack_length e) a.payload))
unfolding lent_part behind
gives_small_whole limit e a r = (
  λ d. (
    d.number,
    d.fields,
    ap (λ (b : Arena). b.prev) d.lent_on,
    ap (λ (b : Arena). b.next) d.lent_on,
    ap (λ (b : Arena). b.generation) d.lent_on,
    ap (λ (b : Arena). b.payload) d.lent_on,
    ap (λ (b : Arena). b.header) d.lent_on,
    d.small,
    ap (λ (l : List (List ℕ)). get_or l 0 []) d.stays,
    ap (λ (l : List (List ℕ)). get_or l 1 []) d.stays,
    ap (λ (l : List (List ℕ)). get_or l 2 []) d.stays,
    ap (λ (l : List (List ℕ)). get_or l 3 []) d.stays,
  ),
  λ h. record {
    number = h.0;
    fields = h.1;
    lent_on = rw (h.2, h.3, h.4, h.5, h.6) refl;
    small = h.7;
    stays = rw (h.8, h.9, h.10, h.11) refl;
  },
)

-- the fields leave no choice: every word that is left is known
pub gives_small_determines : (limit : ℕ) (e a : Arena) (r : Reply) → GivesSmall limit e a r →
    (r.arena.prev ≡ e.prev ++ drop (stack_length e) a.prev)
    × (r.arena.next ≡ e.next ++ drop (stack_length e) a.next)
    × (r.arena.generation ≡ e.generation ++ drop (stack_length e) a.generation)
    × (r.arena.payload ≡ e.payload ++ drop (stack_length e) a.payload)
    × (r.arena.header ≡ e.header)
gives_small_determines limit e a r w = let h = (gives_small_whole limit e a r).0 w in (joined h.2 h.8, joined h.3 h.9, joined h.4 h.10, joined h.5 h.11, h.6)
  where
    joined : {now front rest : List ℕ} → take (stack_length e) now ≡ front → drop (stack_length e) now ≡ rest → now ≡ front ++ rest
    joined {now} p q = sym (take-append-drop (stack_length e) now) ∙ rw (p, q) refl

-- ---- what the definitions mean

pub slot_words_whole : (a : Arena) (s : ℕ) (ss : List ℕ) →
    (slot_words a [] ≡ []) × (slot_words a (s ∷ ss) ≡ at a.generation s ∷ at a.prev s ∷ at a.next s ∷ slot_words a ss)
unfolding slot_words
slot_words_whole a s ss = (refl, refl)

pub order_words_whole : (a : Arena) → order_words a ≡ stack_length a ∷ root a ∷ slot_words a (slots_from 1 (stack_length a))
unfolding order_words
order_words_whole a = refl

-- two lists that share a beginning, be it empty, after which both have a word, and that of the first is smaller
abbrev Parted : List ℕ → List ℕ → Type 0
Parted xs ys = (shared : List ℕ) × (x : ℕ) × (y : ℕ) × (us : List ℕ) × (vs : List ℕ) × (xs ≡ shared ++ x ∷ us) × (ys ≡ shared ++ y ∷ vs) × (x < y)

pub earlier_whole : (xs ys : List ℕ) → (earlier xs ys ≡ true) ↔ Parted xs ys
unfolding earlier
earlier_whole xs ys = (parts xs ys, λ h. rw (h.5, h.6) (smaller h.0 h.1 h.2 h.3 h.4 h.7))
  where
    smaller : (shared : List ℕ) (x y : ℕ) (us vs : List ℕ) → x < y → earlier (shared ++ x ∷ us) (shared ++ y ∷ vs) ≡ true
    smaller [] x y us vs l = rw (lt-ltb x y l) refl
    smaller (z ∷ zs) x y us vs l = rw (le-ltb z z (omega arith), eq-eqb z z refl) (smaller zs x y us vs l)

    longer : (x y : ℕ) (xs ys : List ℕ) → x ≡ y → Parted xs ys → Parted (x ∷ xs) (y ∷ ys)
    longer x y xs ys q (shared, u, v, us, vs, d, e, l) = (x ∷ shared, u, v, us, vs, rw d refl, rw (q, e) refl, l)

    parts : (xs ys : List ℕ) → earlier xs ys ≡ true → Parted xs ys
    parts [] ys e = absurd (true≢false (sym e))
    parts (x ∷ xs) [] e = absurd (true≢false (sym e))
    parts (x ∷ xs) (y ∷ ys) e =
        by_test (ltb x y) (λ l. ([], x, y, xs, ys, refl, refl, ltb-true x y l))
        (λ l. by_test (eqb x y) (λ q. longer x y xs ys (eqb-true x y q) (parts xs ys (rw (l, q) at e))) (λ q. absurd (true≢false (sym (rw (l, q) at e)))))

pub before_whole : (a b : Arena) → before a b ≡ earlier (order_words a) (order_words b)
unfolding before
before_whole a b = refl

pub entry_whole : (a : Arena) (arenas : List Arena) (i : ℕ) →
    (entry [] i ≡ arena [] [] [] [] []) × (entry (a ∷ arenas) 0 ≡ a) × (entry (a ∷ arenas) (suc i) ≡ entry arenas i)
unfolding entry
entry_whole a arenas i = (refl, refl, refl)

pub tally_whole : (a : Arena) (arenas : List Arena) (n : ℕ) →
    (tally [] n ≡ 0) × (stack_length a ≡ n → tally (a ∷ arenas) n ≡ suc (tally arenas n)) × ((stack_length a ≡ n → ⊥) → tally (a ∷ arenas) n ≡ tally arenas n)
unfolding tally
tally_whole a arenas n = (refl, λ e. rw (eq-eqb (stack_length a) n e) (omega arith), λ e. rw (ne_eqb (stack_length a) n e) (omega arith))

pub lent_on_whole : (n : ℕ) (a : Arena) →
    lent_part n a ≡ arena (take n a.prev) (take n a.next) (take n a.generation) (take n a.payload) a.header
unfolding lent_part
lent_on_whole n a = refl

pub behind_whole : (n : ℕ) (a : Arena) → behind n a ≡ drop n a.prev ∷ drop n a.next ∷ drop n a.generation ∷ drop n a.payload ∷ []
unfolding behind
behind_whole n a = refl
