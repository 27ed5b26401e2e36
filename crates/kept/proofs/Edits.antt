-- Connect, break and exchange keep an arena well formed. They write prev and next of links only, so that the freelist stays, and each link's
-- neighbours name it back by the laws of one side (`Neighbours`), used for prev and again, mirrored, for next. Assumes nothing.
use Prim.Native.Nat.{ℕ, ◌≤◌}
use mathlib.Core.Path.{◌≡◌, refl, sym, ap, ◌∙◌}
use mathlib.Core.Bool.{Bool, true, false, cond, not, ◌||◌}
use mathlib.Core.List.{List}
use lib.ListN.{length}
use borrow.Author.Tests.{eqb-true, eqb-false, not-false}
use Rattle.definitions.specs.Columns.{at, put}
use Rattle.definitions.specs.Arena.{Arena, capacity, stack_length, is_link, with_links}
use Rattle.definitions.specs.Check.{WellFormed}
use Rattle.definitions.specs.Reply.{Reply}
use Rattle.definitions.specs.Read.{Pointer, stale}
use Rattle.definitions.specs.Edit.{no_next, no_prev, connect, break_prev, break_next, exchange_next}
use Rattle.definitions.proofs.Tests.{neither_first, neither_second}
use Rattle.definitions.proofs.Columns.{length_put, at_put_other}
use Rattle.definitions.proofs.Slots.{allocated_some, allocated_within, allocated_live}
use Rattle.definitions.proofs.Linked.{linked_agree}
use Rattle.definitions.proofs.Pointers.{fresh_link}
use Rattle.kept.proofs.Neighbours.{Side, tied, untied, traded}

-- a reply that branches keeps what both branches keep
pub either_keeps : (limit : ℕ) (t : Bool) (r s : Reply) → (t ≡ true → WellFormed limit r.arena) → (t ≡ false → WellFormed limit s.arena) → WellFormed limit (cond t r s).arena
either_keeps limit true r s u v = u refl
either_keeps limit false r s u v = v refl

module _ (limit : ℕ) (a : Arena) (ok : WellFormed limit a) where
  pub links_within : (x : ℕ) → is_link a x ≡ true → (1 ≤ x) × (x ≤ stack_length a)
  links_within x l = (allocated_some a.generation (stack_length a) x l, allocated_within a.generation (stack_length a) x l)

  pub long_prev : stack_length a ≤ length a.prev
  long_prev = ok.within

  pub long_next : stack_length a ≤ length a.next
  long_next = rw ok.next_length ok.within

  -- other words in the link columns: they have the same lengths, free slots keep their next, and each link's neighbours name it back
  pub relinked : (ps ns : List ℕ) → length ps ≡ capacity a → length ns ≡ capacity a → ((s : ℕ) → at a.generation s ≡ 0 → at ns s ≡ at a.next s)
      → Side (is_link a) ps ns → Side (is_link a) ns ps → WellFormed limit (with_links a ps ns)
  relinked ps ns lp ln same prev next = record {
    header = ok.header;
    small = rw lp ok.small;
    next_length = ln ∙ sym lp;
    generation_length = ok.generation_length ∙ sym lp;
    payload_length = ok.payload_length ∙ sym lp;
    generation = ok.generation;
    within = rw lp ok.within;
    links = ok.links;
    freelist = let fs = ok.freelist.0 in let f = ok.freelist.1 in (
      fs,
      record {
        starts = f.starts;
        linked = linked_agree (at a.next) (at ns) fs _ (λ s i. sym (same s (f.free s i).2)) f.linked;
        free = f.free;
        once = f.once;
      },
    );
    prev = prev;
    next = next;
  }

  -- a write at a link leaves the free slots
  off_free : (xs : List ℕ) (t v s : ℕ) → is_link a t ≡ true → at a.generation s ≡ 0 → at (put xs t v) s ≡ at xs s
  off_free xs t v s l free = at_put_other xs t s v (λ e. allocated_live a.generation (stack_length a) t l (ap (at a.generation) (sym e) ∙ free))

  -- s, that has no next, and t, that has no prev, are joined
  tied_keeps : (s t : ℕ) → is_link a s ≡ true → is_link a t ≡ true → at a.next s ≡ 0 → at a.prev t ≡ 0 → WellFormed limit (with_links a (put a.prev t s) (put a.next s t))
  tied_keeps s t ls lt bare-s bare-t =
      relinked (put a.prev t s) (put a.next s t) (length_put a.prev t s) (length_put a.next s t ∙ ok.next_length)
      (λ x free. off_free a.next s t x ls free)
      (tied (is_link a) (stack_length a) links_within a.prev a.next long_prev long_next ok.prev t s lt ls bare-s)
      (tied (is_link a) (stack_length a) links_within a.next a.prev long_next long_prev ok.next s t ls lt bare-t)

  -- s and its next t are parted
  untied_keeps : (s t : ℕ) → is_link a s ≡ true → is_link a t ≡ true → at a.next s ≡ t → at a.prev t ≡ s → WellFormed limit (with_links a (put a.prev t 0) (put a.next s 0))
  untied_keeps s t ls lt ahead back =
      relinked (put a.prev t 0) (put a.next s 0) (length_put a.prev t 0) (length_put a.next s 0 ∙ ok.next_length)
      (λ x free. off_free a.next s 0 x ls free)
      (untied (is_link a) (stack_length a) links_within a.prev a.next long_prev long_next ok.prev t s lt ahead)
      (untied (is_link a) (stack_length a) links_within a.next a.prev long_next long_prev ok.next s t ls back)

  -- s and t trade their nexts d and e
  traded_keeps : (s t d e : ℕ) → is_link a s ≡ true → is_link a t ≡ true → is_link a d ≡ true → is_link a e ≡ true
      → at a.next s ≡ d → at a.next t ≡ e → at a.prev d ≡ s → at a.prev e ≡ t → WellFormed limit (with_links a (put (put a.prev d t) e s) (put (put a.next s e) t d))
  traded_keeps s t d e ls lt ld le ahead-s ahead-t back_s back-t =
      relinked (put (put a.prev d t) e s) (put (put a.next s e) t d) (length_put (put a.prev d t) e s ∙ length_put a.prev d t)
      (length_put (put a.next s e) t d ∙ length_put a.next s e ∙ ok.next_length)
      (λ x free. off_free (put a.next s e) t d x lt free ∙ off_free a.next s e x ls free)
      (traded (is_link a) (stack_length a) links_within a.prev a.next long_prev long_next ok.prev d e s t ld le ls lt ahead-s ahead-t)
      (traded (is_link a) (stack_length a) links_within a.next a.prev long_next long_prev ok.next s t d e ls lt ld le back_s back-t)

  -- ---- the calls: a refusal leaves the arena, and what was accepted had the facts

  connected : (p q : Pointer) → stale a p ≡ false → not (no_next a p) ≡ false → stale a q ≡ false → not (no_prev a q) ≡ false
      → WellFormed limit (with_links a (put a.prev q.slot p.slot) (put a.next p.slot q.slot))
  connected p q fp np fq nq = tied_keeps p.slot q.slot (fresh_link a p fp) (fresh_link a q fq) (eqb-true _ _ (not-false _ np)) (eqb-true _ _ (not-false _ nq))

  pub connect_keeps : (p q : Pointer) (l : List ℕ) → WellFormed limit (connect a p q l).arena
  unfolding connect
  connect_keeps p q l = search (either_keeps, connected) depth 8

  broken_prev : (p : Pointer) → stale a p ≡ false → no_prev a p ≡ false → WellFormed limit (with_links a (put a.prev p.slot 0) (put a.next (at a.prev p.slot) 0))
  broken_prev p fp some =
      let r = ok.prev p.slot (fresh_link a p fp) (eqb-false _ _ some) in
      untied_keeps (at a.prev p.slot) p.slot r.0 (fresh_link a p fp) r.1 refl

  pub break_prev_keeps : (p : Pointer) (l : List ℕ) → WellFormed limit (break_prev a p l).arena
  unfolding break_prev
  break_prev_keeps p l = search (either_keeps, broken_prev) depth 8

  broken_next : (p : Pointer) → stale a p ≡ false → no_next a p ≡ false → WellFormed limit (with_links a (put a.prev (at a.next p.slot) 0) (put a.next p.slot 0))
  broken_next p fp some =
      let r = ok.next p.slot (fresh_link a p fp) (eqb-false _ _ some) in
      untied_keeps p.slot (at a.next p.slot) (fresh_link a p fp) r.0 refl r.1

  pub break_next_keeps : (p : Pointer) (l : List ℕ) → WellFormed limit (break_next a p l).arena
  unfolding break_next
  break_next_keeps p l = search (either_keeps, broken_next) depth 8

  exchanged : (p q : Pointer) → (stale a p || stale a q) ≡ false → (no_next a p || no_next a q) ≡ false
      → WellFormed limit (with_links a (put (put a.prev (at a.next p.slot) q.slot) (at a.next q.slot) p.slot) (put (put a.next p.slot (at a.next q.slot)) q.slot (at a.next p.slot)))
  exchanged p q fresh some =
      let lp = fresh_link a p (neither_first _ _ fresh) in
      let lq = fresh_link a q (neither_second (stale a p) _ fresh) in
      let d = ok.next p.slot lp (eqb-false _ _ (neither_first _ _ some)) in
      let e = ok.next q.slot lq (eqb-false _ _ (neither_second (no_next a p) _ some)) in
      traded_keeps p.slot q.slot (at a.next p.slot) (at a.next q.slot) lp lq d.0 e.0 refl refl d.1 e.1

  pub exchange_next_keeps : (p q : Pointer) (l : List ℕ) → WellFormed limit (exchange_next a p q l).arena
  unfolding exchange_next
  exchange_next_keeps p q l = search (either_keeps, exchanged) depth 8
