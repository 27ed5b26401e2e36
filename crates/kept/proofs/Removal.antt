-- Removal keeps an arena well formed. The slot's neighbours name each other, so that the side laws hold for the links that are left; one link is
-- fewer; the freelist, which the slot is not on, stays if the slot is popped, and gets the slot in front otherwise. Assumes nothing.
use Prim.Native.Nat.{ℕ, suc, ◌-◌, ◌≤◌}
use mathlib.Core.Path.{◌≡◌, refl, sym, ap, ◌∙◌}
use mathlib.Core.Logic.{◌⊎◌, inl, inr}
use mathlib.Core.Bool.{true, false, cond}
use mathlib.Core.List.{List, [], ◌∷◌}
use native.Mathlib.Omega.{arith}
use native.Mathlib.Decide.{ℕ_discrete}
use lib.ListN.{length}
use lib.Dec.{eqb}
use borrow.Author.Tests.{eqb-true, eq-eqb, ne_eqb}
use Rattle.definitions.specs.Columns.{at, put, count, first_or, last_or, Linked}
use Rattle.definitions.specs.Arena.{Arena, arena, allocated, is_link, with_header}
use Rattle.definitions.specs.Check.{WellFormed, Freelist}
use Rattle.definitions.specs.Read.{Pointer, stale}
use Rattle.definitions.specs.Edit.{next_generation}
use Rattle.definitions.specs.Remove.{joined, vacated, removed, remove}
use Rattle.definitions.proofs.Tests.{by_test}
use Rattle.definitions.proofs.Columns.{length_put, at_put_same, at_put_other}
use Rattle.definitions.proofs.Slots.{allocated_yes, allocated_some, allocated_within, allocated_live, count_here, count_there}
use Rattle.definitions.proofs.Count.{In, in_here, in_cases, none_of}
use Rattle.definitions.proofs.Linked.{linked_agree, linked_in_front}
use Rattle.definitions.proofs.LinkCount.{one_link_fewer}
use Rattle.definitions.proofs.Pointers.{fresh_link}
use Rattle.kept.proofs.Neighbours.{taken_out}
use Rattle.kept.proofs.Edits.{either_keeps, links_within, long_prev, long_next}
use Rattle.definitions.proofs.Header.{four_words}
use Rattle.kept.proofs.Header.{next_generation_two_lem}

-- link s of an arena whose header is taken apart
module _ (limit top : ℕ) (ps ns gs vs : List ℕ) (n k r g s : ℕ) (ok : WellFormed limit (arena ps ns gs vs (n ∷ k ∷ r ∷ g ∷ []))) (ls : allocated gs n s ≡ true) where
  abbrev before : Arena
  before = arena ps ns gs vs (n ∷ k ∷ r ∷ g ∷ [])

  -- the columns afterwards, with f in the next of slot s
  abbrev ps' : List ℕ
  ps' = put (put ps (at ns s) (at ps s)) s 0

  abbrev ns' : ℕ → List ℕ
  ns' f = put (put ns (at ps s) (at ns s)) s f

  abbrev gs' : List ℕ
  gs' = put gs s 0

  s_some : s ≡ 0 → ⊥
  s_some e = omega (arith, allocated_some gs n s ls)

  zero_at_s : at gs' s ≡ 0
  zero_at_s = at_put_same gs s 0 s_some (omega (arith, allocated_within gs n s ls, ok.within, ok.generation_length))

  -- a free slot is not s, and keeps its words
  free_off : (x : ℕ) → at gs x ≡ 0 → x ≡ s → ⊥
  free_off x free e = allocated_live gs n s ls (ap (at gs) (sym e) ∙ free)

  free_next : (f x : ℕ) → 1 ≤ x → at gs x ≡ 0 → at (ns' f) x ≡ at ns x
  free_next f x some free =
      at_put_other (put ns (at ps s) (at ns s)) s x f (free_off x free)
      ∙ at_put_other ns (at ps s) x (at ns s) (λ e. allocated_live gs n (at ps s) (ok.prev s ls (λ z. omega arith)).0 (ap (at gs) (sym e) ∙ free))

  free_before : (x : ℕ) → at gs' x ≡ 0 → (x ≡ s → ⊥) → at gs x ≡ 0
  free_before x free d = sym (at_put_other gs s x 0 d) ∙ free

  still_linked : (f : ℕ) (fs : List ℕ) → Freelist before fs → Linked (at (ns' f)) fs (last_or 0 fs)
  still_linked f fs l = linked_agree (at ns) (at (ns' f)) fs _ (λ x i. let q = l.free x i in sym (free_next f x q.0 q.2)) l.linked

  -- m slots are left, among them all but s
  module _ (m : ℕ) (fewer : m ≤ n) (left : (x : ℕ) → x ≤ n → (x ≡ s → ⊥) → x ≤ m) where
    stays : (x : ℕ) → allocated gs n x ≡ true → (x ≡ s → ⊥) → allocated gs' m x ≡ true
    stays x l d =
        allocated_yes gs' m x (left x (allocated_within gs n x l) d)
        (λ e. allocated_live gs n x l (sym (at_put_other gs s x 0 d) ∙ e))

    was : (x : ℕ) → allocated gs' m x ≡ true → (allocated gs n x ≡ true) × (x ≡ s → ⊥)
    was x l =
        let d : x ≡ s → ⊥ = λ e. allocated_live gs' m x l (ap (at gs') e ∙ zero_at_s) in (
          allocated_yes gs n x (omega (arith, allocated_within gs' m x l)) (λ e. allocated_live gs' m x l (at_put_other gs s x 0 d ∙ e)),
          d,
        )

    -- the arena with f in the next of slot s and t for a root is well formed once it has a freelist
    abbrev after : ℕ → ℕ → Arena
    after f t = arena ps' (ns' f) gs' (put vs s 0) (m ∷ (k - 1) ∷ t ∷ next_generation top g ∷ [])

    after_keeps : (f t : ℕ) (fs : List ℕ) → Freelist (after f t) fs → WellFormed limit (after f t)
    after_keeps f t fs free =
        let size : length ps' ≡ length ps = length_put (put ps (at ns s) (at ps s)) s 0 ∙ length_put ps (at ns s) (at ps s) in
        record {
          header = refl;
          small = rw size ok.small;
          next_length = length_put (put ns (at ps s) (at ns s)) s f ∙ length_put ns (at ps s) (at ns s) ∙ ok.next_length ∙ sym size;
          generation_length = length_put gs s 0 ∙ ok.generation_length ∙ sym size;
          payload_length = length_put vs s 0 ∙ ok.payload_length ∙ sym size;
          generation = next_generation_two_lem top g ok.generation;
          within = rw size (omega (arith, ok.within));
          links = omega (arith, ok.links, one_link_fewer gs gs' n m s ls stays was);
          freelist = (fs, free);
          prev = taken_out (allocated gs n) n (links_within limit _ ok) ps ns (long_prev limit _ ok) (long_next limit _ ok) ok.prev s ls (allocated gs' m) was stays 0 f;
          next = taken_out (allocated gs n) n (links_within limit _ ok) ns ps (long_next limit _ ok) (long_prev limit _ ok) ok.next s ls (allocated gs' m) was stays f 0;
        }

    still_free : (fs : List ℕ) → Freelist before fs → (x : ℕ) → In x fs → (1 ≤ x) × (x ≤ m) × (at gs' x ≡ 0)
    still_free fs l x i =
        let q = l.free x i in
        (q.0, left x q.1 (free_off x q.2), at_put_other gs s x 0 (free_off x q.2) ∙ q.2)

    -- s is popped: the freelist stays
    list_stays : (fs : List ℕ) → Freelist before fs → suc m ≤ s → Freelist (after 0 r) fs
    list_stays fs l past = record {
      starts = l.starts;
      linked = still_linked 0 fs l;
      free = still_free fs l;
      once = λ x some within free. l.once x some (omega arith) (free_before x free (λ e. omega arith));
    }

    -- s is freed: it stands in front, and leads on to the root that was, or to itself where none was
    abbrev f : ℕ
    f = cond (eqb r 0) s r

    s_points : at (ns' f) s ≡ f
    s_points = at_put_same (put ns (at ps s) (at ns s)) s f s_some (rw length_put (omega (arith, allocated_within gs n s ls, long_next limit _ ok)))

    list_grows : (fs : List ℕ) → Freelist before fs → s ≤ m → Freelist (after f s) (s ∷ fs)
    list_grows fs l within-m = record {
      starts = unfold first_or in refl;
      linked = linked_in_front (at (ns' f)) s fs (s_points ∙ first fs l.starts l.free) (still_linked f fs l);
      free = λ x i. free x (in_cases x s fs i);
      once = λ x some within z. once x (ℕ_discrete x s) some within z;
    }
      where
        first : (fs : List ℕ) → first_or 0 fs ≡ r → ((x : ℕ) → In x fs → (1 ≤ x) × (x ≤ n) × (at gs x ≡ 0)) → f ≡ first_or s fs
        first [] starts some = unfold first_or in rw (eq-eqb r 0 (sym starts)) refl
        first (x ∷ xs) starts some = unfold first_or in rw (ne_eqb r 0 (λ z. omega (arith, some x (in_here x xs)))) (sym starts)

        free : (x : ℕ) → (x ≡ s) ⊎ In x fs → (1 ≤ x) × (x ≤ m) × (at gs' x ≡ 0)
        free x (inl e) = rw e (allocated_some gs n s ls, within-m, zero_at_s)
        free x (inr i) = still_free fs l x i

        once : (x : ℕ) → Dec (x ≡ s) → 1 ≤ x → x ≤ m → at gs' x ≡ 0 → count x (s ∷ fs) ≡ 1
        once x (yes e) some within z = rw e (omega (arith, count_here s fs, none_of s fs (λ i. free_off s (l.free s i).2 refl)))
        once x (no d) some within z = count_there x s fs d ∙ l.once x some (omega arith) (free_before x z d)

  -- what is said of the arena that is left: it is well formed, and the links but s are its links
  abbrev Left : Arena → Type 0
  Left b = WellFormed limit b × ((x : ℕ) → allocated gs n x ≡ true → (x ≡ s → ⊥) → is_link b x ≡ true)

  popped_keeps : s ≡ n → Left (arena ps' (ns' 0) gs' (put vs s 0) ((n - 1) ∷ (k - 1) ∷ r ∷ next_generation top g ∷ []))
  popped_keeps e =
      let some = allocated_some gs n s ls in
      let left : (x : ℕ) → x ≤ n → (x ≡ s → ⊥) → x ≤ n - 1 = λ x i d. omega arith in
      let list = list_stays (n - 1) (omega arith) left ok.freelist.0 ok.freelist.1 (omega arith) in
      (after_keeps (n - 1) (omega arith) left 0 r ok.freelist.0 list, stays (n - 1) (omega arith) left)

  freed_keeps : Left (arena ps' (ns' (cond (eqb r 0) s r)) gs' (put vs s 0) (n ∷ (k - 1) ∷ s ∷ next_generation top g ∷ []))
  freed_keeps =
      let left : (x : ℕ) → x ≤ n → (x ≡ s → ⊥) → x ≤ n = λ x i d. i in
      let list = list_grows n (omega arith) left ok.freelist.0 ok.freelist.1 (allocated_within gs n s ls) in
      (after_keeps n (omega arith) left (cond (eqb r 0) s r) s (s ∷ ok.freelist.0) list, stays n (omega arith) left)

module _ (limit top : ℕ) (a : Arena) (ok : WellFormed limit a) where
  removed_leaves : (s : ℕ) → is_link a s ≡ true → WellFormed limit (removed top a s) × ((x : ℕ) → is_link a x ≡ true → (x ≡ s → ⊥) → is_link (removed top a s) x ≡ true)
  unfolding removed vacated joined
  removed_leaves s ls = four_words Leaves a.header ok.header computed ok ls
    where
      Leaves : List ℕ → Type 0
      Leaves h =
          let b = with_header a h in
          WellFormed limit b → is_link b s ≡ true → WellFormed limit (removed top b s) × ((x : ℕ) → is_link b x ≡ true → (x ≡ s → ⊥) → is_link (removed top b s) x ≡ true)

      computed : (n k r g : ℕ) → Leaves (n ∷ k ∷ r ∷ g ∷ [])
      computed n k r g w l =
          by_test (eqb s n) (λ e. rw e (popped_keeps limit top a.prev a.next a.generation a.payload n k r g s w l (eqb-true s n e)))
          (λ e. rw e (freed_keeps limit top a.prev a.next a.generation a.payload n k r g s w l))

  pub removed_keeps : (s : ℕ) → is_link a s ≡ true → WellFormed limit (removed top a s)
  removed_keeps s ls = (removed_leaves s ls).0

  -- every other link is one still
  pub removed_other : (s x : ℕ) → is_link a s ≡ true → is_link a x ≡ true → (x ≡ s → ⊥) → is_link (removed top a s) x ≡ true
  removed_other s x ls lx d = (removed_leaves s ls).1 x lx d

  taken : (p : Pointer) → stale a p ≡ false → WellFormed limit (removed top a p.slot)
  taken p fresh = removed_keeps p.slot (fresh_link a p fresh)

  pub remove_keeps : (p : Pointer) (l : List ℕ) → WellFormed limit (remove top a p l).arena
  unfolding remove
  remove_keeps p l = search (either_keeps, taken)
