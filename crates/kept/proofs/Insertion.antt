-- Insertion keeps an arena well formed, and puts the link where it says. Both sides of the interlinks are the law of one column; one link more; the
-- freelist loses its first slot, or stays where the stack grows. Assumes nothing.
use Prim.Native.Nat.{ℕ, ◌+◌, ◌≤◌, ◌<◌}
use mathlib.Core.Path.{◌≡◌, refl, sym, ap, ◌∙◌}
use mathlib.Core.Logic.{◌⊎◌, inl, inr}
use mathlib.Core.Bool.{true, false, cond, true≢false}
use mathlib.Core.List.{List, [], ◌∷◌}
use native.Mathlib.Omega.{arith}
use native.Mathlib.Decide.{ℕ_discrete}
use lib.ListN.{length}
use lib.Dec.{eqb}
use borrow.Author.Tests.{eqb-false, eq-eqb, ne_eqb}
use Rattle.definitions.specs.Columns.{at, put, first_or, last_or, Linked}
use Rattle.definitions.specs.Arena.{Arena, arena, allocated, with_header}
use Rattle.definitions.specs.Check.{WellFormed, Freelist}
use Rattle.definitions.proofs.Tests.{by_test}
use Rattle.definitions.proofs.Columns.{length_put, at_put_same, at_put_other}
use Rattle.definitions.proofs.Slots.{allocated_yes, allocated_past, allocated_free, allocated_some, allocated_within, allocated_live, count_here, count_there}
use Rattle.definitions.proofs.Count.{In, in_here, in_there}
use Rattle.definitions.proofs.Linked.{linked_agree}
use Rattle.definitions.proofs.LinkCount.{one_link_fewer}
use Rattle.chains.proofs.Links.{Link, well_formed_linked}
use Rattle.definitions.proofs.Header.{four_words}
use Rattle.definitions.specs.Insert.{InsertKind, Place, nowhere, between, place_of, new_slot, is_full, root_after, header_after, inserted, insert_at, insert, Coded, kind, unknown, insert_coded}
use Rattle.kept.proofs.PutInColumn.{Column, column, put_in}
use Rattle.kept.proofs.PutIn.{Gap, joined, apart, itself, u_within, v_within, PutIn, fits_if_placed, gap_of}

-- an arena whose header is taken apart; t is no link, and u and v are a gap
module _ (limit : ℕ) (ps ns gs vs : List ℕ) (n k r g t u v x : ℕ) (ok : WellFormed limit (arena ps ns gs vs (n ∷ k ∷ r ∷ g ∷ []))) (gap : Gap (arena ps ns gs vs (n ∷ k ∷ r ∷ g ∷ [])) t u v)
    (some : t ≡ 0 → ⊥) (fits : t ≤ length ps) (free : allocated gs n t ≡ false) where
  abbrev old : Arena
  old = arena ps ns gs vs (n ∷ k ∷ r ∷ g ∷ [])

  abbrev gs' : List ℕ
  gs' = put gs t g

  -- the stack is m slots long now, and its root is o
  abbrev after : ℕ → ℕ → Arena
  after m o = arena (put (put ps t u) v t) (put (put ns t v) u t) gs' (put vs t x) (m ∷ (k + 1) ∷ o ∷ g ∷ [])

  -- a slot of the gap, or t, is no free slot
  side_live : (s : ℕ) → (s ≡ 0) ⊎ Link old s → (y : ℕ) → 1 ≤ y → at gs y ≡ 0 → y ≡ s → ⊥
  side_live s (inl z) y p q e = omega arith
  side_live s (inr l) y p q e = allocated_live gs n s l (ap (at gs) (sym e) ∙ q)

  u_live : Gap old t u v → (y : ℕ) → 1 ≤ y → at gs y ≡ 0 → (y ≡ t → ⊥) → y ≡ u → ⊥
  u_live (joined lu lv e f) y p q d = side_live u (inr lu) y p q
  u_live (apart lu lv e f) y p q d = side_live u lu y p q
  u_live (itself e f) y p q d = λ h. d (h ∙ e)

  -- u is t exactly if v is
  not_t : (s : ℕ) → (s ≡ 0) ⊎ Link old s → s ≡ t → ⊥
  not_t s (inl z) e = some (sym e ∙ z)
  not_t s (inr l) e = true≢false (sym l ∙ ap (allocated gs n) e ∙ free)

  both_t : Gap old t u v → ((u ≡ t → v ≡ t) × (v ≡ t → u ≡ t))
  both_t (joined lu lv e f) = (λ h. absurd (not_t u (inr lu) h), λ h. absurd (not_t v (inr lv) h))
  both_t (apart lu lv e f) = (λ h. absurd (not_t u lu h), λ h. absurd (not_t v lv h))
  both_t (itself e f) = (λ h. f, λ h. e)

  prevs : Column ps (put (put ps t u) v t) t u v
  prevs = column ps t u v some fits (v_within old (length ps) t ok.within fits u v gap) (both_t gap).1

  nexts : Column ns (put (put ns t v) u t) t v u
  nexts = column ns t v u some (rw ok.next_length fits) (rw ok.next_length (u_within old (length ps) t ok.within fits u v gap)) (both_t gap).0

  generation_t : at gs' t ≡ g
  generation_t = at_put_same gs t g some (rw ok.generation_length fits)

  live_g : g ≡ 0 → ⊥
  live_g z = omega (arith, ok.generation)

  module _ (m : ℕ) (more : n ≤ m) (has-t : t ≤ m) (left : (y : ℕ) → y ≤ m → (y ≡ t → ⊥) → y ≤ n) (m-fits : m ≤ length ps) where
    new : allocated gs' m t ≡ true
    new = allocated_yes gs' m t has-t (λ z. live_g (sym generation_t ∙ z))

    off_t : (y : ℕ) → allocated gs n y ≡ true → y ≡ t → ⊥
    off_t y l e = true≢false (sym l ∙ ap (allocated gs n) e ∙ free)

    stays : (y : ℕ) → allocated gs n y ≡ true → allocated gs' m y ≡ true
    stays y l =
        allocated_yes gs' m y (omega (arith, allocated_within gs n y l)) (λ z. allocated_live gs n y l (sym (at_put_other gs t y g (off_t y l)) ∙ z))

    was : (y : ℕ) → allocated gs' m y ≡ true → (y ≡ t → ⊥) → allocated gs n y ≡ true
    was y l d = allocated_yes gs n y (left y (allocated_within gs' m y l) d) (λ z. allocated_live gs' m y l (at_put_other gs t y g d ∙ z))

    there : (s : ℕ) → (s ≡ 0) ⊎ Link old s → (s ≡ 0 → ⊥) → allocated gs' m s ≡ true
    there s (inl z) d = absurd (d z)
    there s (inr l) d = stays s l

    u_there : Gap old t u v → (u ≡ 0 → ⊥) → allocated gs' m u ≡ true
    u_there (joined lu lv e f) = there u (inr lu)
    u_there (apart lu lv e f) = there u lu
    u_there (itself e f) = λ d. rw e new

    v_there : Gap old t u v → (v ≡ 0 → ⊥) → allocated gs' m v ≡ true
    v_there (joined lu lv e f) = there v (inr lv)
    v_there (apart lu lv e f) = there v lv
    v_there (itself e f) = λ d. rw f new

    u_gap : Gap old t u v → allocated gs n u ≡ true → (at ns u ≡ 0) ⊎ (at ns u ≡ v)
    u_gap (joined lu lv e f) l = inr e
    u_gap (apart lu lv e f) l = inl e
    u_gap (itself e f) l = absurd (off_t u l e)

    v_gap : Gap old t u v → allocated gs n v ≡ true → (at ps v ≡ 0) ⊎ (at ps v ≡ u)
    v_gap (joined lu lv e f) l = inr f
    v_gap (apart lu lv e f) l = inl f
    v_gap (itself e f) l = absurd (off_t v l f)

    after_put_in : (o : ℕ) → PutIn old (after m o) t u v
    after_put_in o = record { fresh = free; new = new; stays = stays; was = was; prev = prevs; next = nexts }

    after_keeps : (o : ℕ) (fs : List ℕ) → Freelist (after m o) fs → WellFormed limit (after m o)
    after_keeps o fs list =
        let size : length (put (put ps t u) v t) ≡ length ps = length_put (put ps t u) v t ∙ length_put ps t u in
        record {
          header = refl;
          small = rw size ok.small;
          next_length = length_put (put ns t v) u t ∙ length_put ns t v ∙ ok.next_length ∙ sym size;
          generation_length = length_put gs t g ∙ ok.generation_length ∙ sym size;
          payload_length = length_put vs t x ∙ ok.payload_length ∙ sym size;
          generation = ok.generation;
          within = rw size m-fits;
          links = omega (arith, ok.links, one_link_fewer gs' gs m n t new was (λ y l. (stays y l, off_t y l)));
          freelist = (fs, list);
          prev = put_in (allocated gs n) (allocated gs' m) t free new stays was (allocated_some gs n) ps ns _ _ u v prevs nexts (u_there gap) (u_gap gap) ok.prev;
          next = put_in (allocated gs n) (allocated gs' m) t free new stays was (allocated_some gs n) ns ps _ _ v u nexts prevs (v_there gap) (v_gap gap) ok.next;
        }

    free_next : (y : ℕ) → 1 ≤ y → at gs y ≡ 0 → (y ≡ t → ⊥) → at ns y ≡ at (put (put ns t v) u t) y
    free_next y p q d = sym (nexts.other y d (u_live gap y p q d))

    free_was : (y : ℕ) → at gs' y ≡ 0 → at gs y ≡ 0
    free_was y z = elim (ℕ_discrete y t) [ yes e ↦ absurd (live_g (sym generation_t ∙ ap (at gs') (sym e) ∙ z)) | no d ↦ sym (at_put_other gs t y g d) ∙ z ]

    free_off : (y : ℕ) → at gs' y ≡ 0 → y ≡ t → ⊥
    free_off y z e = live_g (sym generation_t ∙ ap (at gs') (sym e) ∙ z)

    -- t is past the stack: the freelist stays
    list_stays : (fs : List ℕ) → Freelist old fs → n < t → Freelist (after m r) fs
    list_stays fs l past =
        let off : (y : ℕ) → In y fs → y ≡ t → ⊥ = λ y i e. omega (arith, (l.free y i).1) in
        record {
          starts = l.starts;
          linked = linked_agree (at ns) _ fs _ (λ y i. free_next y (l.free y i).0 (l.free y i).2 (off y i)) l.linked;
          free = λ y i. let q = l.free y i in (q.0, omega (arith, q.1), at_put_other gs t y g (off y i) ∙ q.2);
          once = λ y p q z. l.once y p (left y q (free_off y z)) (free_was y z);
        }

    -- t is the root: it leaves the freelist
    list_shrinks : (rest : List ℕ) → Freelist old (t ∷ rest) → at ns t ≡ first_or t rest → Linked (at ns) rest (last_or 0 rest) → n ≡ m
        → Freelist (after m (cond (eqb (at ns t) t) 0 (at ns t))) rest
    list_shrinks rest l ahead linked same = record {
      starts = first rest off ahead;
      linked = linked_agree (at ns) _ rest _ (λ y i. let q = l.free y (in_there y t rest i) in free_next y q.0 q.2 (off y i)) linked;
      free = λ y i. let q = l.free y (in_there y t rest i) in (q.0, omega (arith, q.1), at_put_other gs t y g (off y i) ∙ q.2);
      once = λ y p q z. sym (count_there y t rest (free_off y z)) ∙ l.once y p (omega arith) (free_was y z);
    }
      where
        off : (y : ℕ) → In y rest → y ≡ t → ⊥
        off y i e =
            let q = l.free t (in_here t rest) in
            omega (arith, l.once t q.0 q.1 q.2, count_here t rest, rw e at i)

        first : (rest : List ℕ) → ((y : ℕ) → In y rest → y ≡ t → ⊥) → at ns t ≡ first_or t rest → first_or 0 rest ≡ cond (eqb (at ns t) t) 0 (at ns t)
        first [] off e = unfold first_or in rw (eq-eqb (at ns t) t e) refl
        first (y ∷ ys) off e = unfold first_or in rw (e, ne_eqb y t (off y (in_here y ys))) refl

-- a freelist is empty, or starts with the root
root_first : (ns : List ℕ) (r : ℕ) (fs : List ℕ) → first_or 0 fs ≡ r → (r ≡ 0 → ⊥) → Linked (at ns) fs (last_or 0 fs)
    → (rest : List ℕ) × (fs ≡ r ∷ rest) × (at ns r ≡ first_or r rest) × Linked (at ns) rest (last_or 0 rest)
unfolding first_or Linked last_or
root_first ns r [] e d l = absurd (d (sym e))
root_first ns r (x ∷ []) e d l = ([], rw e refl, rw (← e) l.0, tt)
root_first ns r (x ∷ y ∷ ys) e d l = (y ∷ ys, rw e refl, rw (← e) l.0, l.1)

-- what is said of the arena with the link in it
abbrev pub Inserted : ℕ → Arena → ℕ → ℕ → ℕ → Type 0
Inserted limit a u v x = WellFormed limit (inserted a u v x) × PutIn a (inserted a u v x) (new_slot a) u v

module _ (limit : ℕ) (ps ns gs vs : List ℕ) (n k r g u v x : ℕ) (ok : WellFormed limit (arena ps ns gs vs (n ∷ k ∷ r ∷ g ∷ []))) where
  abbrev before : Arena
  before = arena ps ns gs vs (n ∷ k ∷ r ∷ g ∷ [])

  -- the stack grows by the slot after it
  grown : eqb r 0 ≡ true → Gap before (n + 1) u v → n < length ps → Inserted limit before u v x
  unfolding inserted new_slot header_after
  grown e gap room =
      let some : n + 1 ≡ 0 → ⊥ = λ z. omega arith in
      let fits : n + 1 ≤ length ps = omega arith in
      let free = allocated_past gs n (n + 1) (omega arith) in
      let left : (y : ℕ) → y ≤ n + 1 → (y ≡ n + 1 → ⊥) → y ≤ n = λ y l d. omega arith in
      let fs = ok.freelist.0 in
      let list = list_stays limit ps ns gs vs n k r g (n + 1) u v x ok gap some fits free (n + 1) (omega arith) (omega arith) left fits fs ok.freelist.1 (omega arith) in
      rw e (
        after_keeps limit ps ns gs vs n k r g (n + 1) u v x ok gap some fits free (n + 1) (omega arith) (omega arith) left fits r fs list,
        after_put_in limit ps ns gs vs n k r g (n + 1) u v x ok gap some fits free (n + 1) (omega arith) (omega arith) left fits r,
      )

  -- the root is taken
  popped : eqb r 0 ≡ false → Gap before r u v → Inserted limit before u v x
  unfolding inserted new_slot header_after root_after
  popped e gap =
      let some = eqb-false r 0 e in
      let f = ok.freelist.1 in
      let q = root_first ns r ok.freelist.0 f.starts some f.linked in
      let rest = q.0 in
      let list : Freelist before (r ∷ rest) = rw q.1 at f in
      let at-r = list.free r (in_here r rest) in
      let fits : r ≤ length ps = omega (arith, at-r.1, ok.within) in
      let free = allocated_free gs n r at-r.2 in
      let left : (y : ℕ) → y ≤ n → (y ≡ r → ⊥) → y ≤ n = λ y l d. l in
      let o = cond (eqb (at ns r) r) 0 (at ns r) in
      let shorter = list_shrinks limit ps ns gs vs n k r g r u v x ok gap some fits free n (omega arith) at-r.1 left ok.within rest list q.2 q.3 refl in
      rw e (
        after_keeps limit ps ns gs vs n k r g r u v x ok gap some fits free n (omega arith) at-r.1 left ok.within o rest shorter,
        after_put_in limit ps ns gs vs n k r g r u v x ok gap some fits free n (omega arith) at-r.1 left ok.within o,
      )

  either : is_full before ≡ false → Gap before (new_slot before) u v → Inserted limit before u v x
  unfolding new_slot is_full
  either room gap =
      by_test (eqb r 0) (λ e. grown e (rw e at gap) (let d = eqb-false n (length ps) (rw e at room) in omega (arith, ok.within)))
      (λ e. popped e (rw e at gap))

module _ (limit : ℕ) (a : Arena) (ok : WellFormed limit a) where
  pub inserted_keeps : (u v x : ℕ) → is_full a ≡ false → Gap a (new_slot a) u v → Inserted limit a u v x
  inserted_keeps u v x room gap = four_words Keeps a.header ok.header (λ n k r g. λ w. either limit a.prev a.next a.generation a.payload n k r g u v x w) ok room gap
    where
      Keeps : List ℕ → Type 0
      Keeps h = let b = with_header a h in WellFormed limit b → is_full b ≡ false → Gap b (new_slot b) u v → Inserted limit b u v x

  at_place : (p : Place) (x : ℕ) (l : List ℕ) → ((u v : ℕ) → p ≡ between u v → Gap a (new_slot a) u v) → WellFormed limit (insert_at a p x l).arena
  unfolding insert_at
  at_place nowhere x l gap = ok
  at_place (between u v) x l gap = by_test (is_full a) (λ e. rw e ok) (λ e. rw e (inserted_keeps u v x e (gap u v refl)).0)

  pub insert_keeps : (k : InsertKind) (x : ℕ) (l : List ℕ) → WellFormed limit (insert a k x l).arena
  unfolding insert
  insert_keeps k x l = at_place (place_of a (new_slot a) k) x l (λ u v e. gap_of a (well_formed_linked ok) (new_slot a) k u v (fits_if_placed a (new_slot a) k u v e))

  -- whatever the code
  pub insert_coded_keeps : (k : Coded) (x : ℕ) (l : List ℕ) → WellFormed limit (insert_coded a k x l).arena
  unfolding insert_coded
  insert_coded_keeps unknown x l = ok
  insert_coded_keeps (kind k) x l = insert_keeps k x l
