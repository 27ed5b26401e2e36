-- What is due of a chain: `due_in_walk_order` and `due_counted` for the two calls that answer it, `twelve_exactly`, `nineteen_exactly`, `fourteen_exactly` and
-- `done_exactly` for their numbers, `counts_agree`, `windows_part`, `windows_part_a_chain` and `counts_add_up` for two windows of which each goes on where the other ends. Assumes nothing.
use Prim.Native.Nat.{ℕ, ◌+◌, ◌≤◌, ◌<◌}
use mathlib.Core.Path.{◌≡◌, refl, sym, ap₂, ◌∙◌}
use mathlib.Core.Logic.{◌⊎◌, inl, inr, ◌↔◌}
use mathlib.Core.Bool.{Bool, true, false, cond, ◌&&◌, ◌||◌, true≢false}
use mathlib.Core.List.{List, [], ◌∷◌}
use native.Mathlib.Omega.{arith}
use lib.ListN.{length}
use lib.Dec.{eqb, leb, ltb}
use borrow.Author.Tests.{eq-eqb, eqb-true, eqb-false, ltb-true, ltb-false, leb-true, leb-false, lt-ltb, le-ltb, le-leb, lt-leb}
use Rattle.definitions.specs.Columns.{at, count, keep, written}
use Rattle.definitions.specs.Arena.{Arena, is_link}
use Rattle.definitions.specs.Check.{verdict, WellFormed}
use Rattle.definitions.specs.Clock.{frame_dots, is_window, due, due_slots, due_count, due_events}
use Rattle.definitions.specs.Read.{Pointer, stale}
use Rattle.definitions.specs.Walk.{walk_from}
use Rattle.definitions.specs.Calls.{DueCount, DueEvents, accepted, reply_to}
use Rattle.definitions.proofs.Count.{keep_has, keep_lacks}
use Rattle.definitions.proofs.Pointers.{fresh_link}
use Rattle.definitions.proofs.Tests.{by_test, both_first, both_second, not_second}
use Rattle.statements.specs.FrameClock.{DueIn, Thinned, DueOf, CountsDue, ReportsDue, WindowsPart, ChainParted}
use Rattle.walks.proofs.Walks.{walk_gives_chain}
use Rattle.well_formed.proofs.WellFormed.{well_formed_if_passes}

-- ---- the test and its meaning

module _ (from to v : ℕ) where
  -- the test of the window alone, for a dot of the frame
  in_window : v < 89342 → (from ≤ to → (from ≤ v) × (v < to)) → (to < from → (from ≤ v) ⊎ (v < to)) → due from to v ≡ true
  unfolding due
  in_window dot straight crossing =
      by_test (ltb to from)
      (λ t. elim (crossing (ltb-true to from t)) [
        | inl h ↦ rw (lt-ltb v frame_dots dot, t, le-leb from v h) refl
        | inr h ↦ rw (lt-ltb v frame_dots dot, t, lt-leb from v (omega (arith, ltb-true to from t)), lt-ltb v to h) refl
      ])
      (λ t. let ends = straight (ltb-false to from t) in rw (lt-ltb v frame_dots dot, t, le-leb from v ends.0, lt-ltb v to ends.1) refl)

  pub due_if : DueIn from to v → due from to v ≡ true
  due_if d = in_window d.dot d.straight d.crossing

  abbrev inside : Bool
  inside = cond (ltb to from) (leb from v || ltb v to) (leb from v && ltb v to)

  pub only_if_due : due from to v ≡ true → DueIn from to v
  unfolding due
  only_if_due e =
      let within : inside ≡ true = both_second (ltb v frame_dots) inside e in
      record {
        dot = ltb-true v frame_dots (both_first (ltb v frame_dots) inside e);
        straight = λ h.
            let ends : (leb from v && ltb v to) ≡ true = rw (le-ltb to from h) at within in
            (leb-true from v (both_first (leb from v) (ltb v to) ends), ltb-true v to (both_second (leb from v) (ltb v to) ends));
        crossing = λ h.
            let ends : (leb from v || ltb v to) ≡ true = rw (lt-ltb to from h) at within in
            by_test (leb from v) (λ t. inl (leb-true from v t)) (λ t. inr (ltb-true v to (rw t at ends)));
      }

  pub not_if_not_due : due from to v ≡ false → DueIn from to v → ⊥
  not_if_not_due e d = true≢false (sym (due_if d) ∙ e)

fails : (from to v : ℕ) → (DueIn from to v → ⊥) → due from to v ≡ false
fails from to v not = by_test (due from to v) (λ e. absurd (not (only_if_due from to v e))) (λ e. e)

-- what a test keeps is what is left by what it means
thinned_keep : (P : ℕ → Type 0) (test : ℕ → Bool) → ((x : ℕ) → test x ≡ true → P x) → ((x : ℕ) → test x ≡ false → P x → ⊥) → (xs : List ℕ) → Thinned P (keep test xs) xs
unfolding Thinned keep
thinned_keep P test sound complete [] = refl
thinned_keep P test sound complete (x ∷ xs) =
    by_test (test x)
    (λ e. inl (sound x e, (keep test xs, rw e refl, thinned_keep P test sound complete xs)))
    (λ e. inr (complete x e, rw e (thinned_keep P test sound complete xs)))

-- ---- the two calls

pub due_of : (limit : ℕ) (a : Arena) → WellFormed limit a → (o : ℕ) → is_link a o ≡ true → (from to : ℕ) → DueOf a o from to (due_slots a o from to)
unfolding due_slots
due_of limit a ok o link from to = record {
  chain = walk_from a o;
  order = (walk_gives_chain limit a ok o link).order;
  due = thinned_keep _ _ (λ s. only_if_due from to (at a.payload s)) (λ s. not_if_not_due from to (at a.payload s)) (walk_from a o);
}

module _ (a : Arena) (p : Pointer) (from to : ℕ) where
  count_done : (l : List ℕ) → (due_count a p from to l).number ≡ 0 → (stale a p ≡ false) × ((due_count a p from to l).fields ≡ length (due_slots a p.slot from to) ∷ []) × ((due_count a p from to l).arena ≡ a)
  unfolding due_count
  count_done l e =
      by_test (stale a p)
      (λ s. absurd (omega (arith, rw s at e)))
      (λ s. by_test (is_window from to) (λ w. (s, rw (s, w) refl, rw (s, w) refl)) (λ w. absurd (omega (arith, rw (s, w) at e))))

  events_done :
      (report : List ℕ) → (due_events a p from to report).number ≡ 0
      → (stale a p ≡ false) × ((due_events a p from to report).fields ≡ length (due_slots a p.slot from to) ∷ []) × ((due_events a p from to report).back ≡ written (due_slots a p.slot from to) report) × ((due_events a p from to report).arena ≡ a)
  unfolding due_events
  events_done report e =
      by_test (stale a p)
      (λ s. absurd (omega (arith, rw s at e)))
      (λ s. by_test (is_window from to)
      (λ w. by_test (ltb (length report) (length (walk_from a p.slot))) (λ t. absurd (omega (arith, rw (s, w, t) at e))) (λ t. (s, rw (s, w, t) refl, rw (s, w, t) refl, rw (s, w, t) refl)))
      (λ w. absurd (omega (arith, rw (s, w) at e))))

module _ (limit top : ℕ) (a : Arena) (p : Pointer) (from to : ℕ) where
  -- whenever the call answers 0, on whatever arena
  pub due_counted : (l : List ℕ) → (reply_to limit top (DueCount p from to) a l).number ≡ 0 → CountsDue a p.slot from to (reply_to limit top (DueCount p from to) a l)
  unfolding reply_to accepted
  due_counted l e =
      by_test (eqb (verdict limit a) 0)
      (λ v.
      let did = count_done a p from to l (rw v at e) in
      rw v (record {
        slots = due_slots a p.slot from to;
        due = due_of limit a (well_formed_if_passes limit a (eqb-true (verdict limit a) 0 v)) p.slot (fresh_link a p did.0) from to;
        fields = did.1;
        left = did.2;
      }))
      (λ v. absurd (eqb-false (verdict limit a) 0 v (rw v at e)))

  pub due_in_walk_order :
      (report : List ℕ) → (reply_to limit top (DueEvents p from to) a report).number ≡ 0 → ReportsDue a p.slot from to report (reply_to limit top (DueEvents p from to) a report)
  unfolding reply_to accepted
  due_in_walk_order report e =
      by_test (eqb (verdict limit a) 0)
      (λ v.
      let did = events_done a p from to report (rw v at e) in
      rw v (record {
        slots = due_slots a p.slot from to;
        due = due_of limit a (well_formed_if_passes limit a (eqb-true (verdict limit a) 0 v)) p.slot (fresh_link a p did.0) from to;
        fields = did.1;
        back = did.2;
        left = did.3;
      }))
      (λ v. absurd (eqb-false (verdict limit a) 0 v (rw v at e)))

  -- both calls count the same
  pub counts_agree :
      (l report : List ℕ) → (reply_to limit top (DueCount p from to) a l).number ≡ 0 → (reply_to limit top (DueEvents p from to) a report).number ≡ 0
      → (reply_to limit top (DueCount p from to) a l).fields ≡ (reply_to limit top (DueEvents p from to) a report).fields
  unfolding reply_to accepted
  counts_agree l report e f =
      by_test (eqb (verdict limit a) 0)
      (λ v. rw v ((count_done a p from to l (rw v at e)).1 ∙ sym (events_done a p from to report (rw v at f)).1))
      (λ v. absurd (eqb-false (verdict limit a) 0 v (rw v at e)))

-- ---- the numbers, where the check has passed

-- 12 comes exactly where the pointer is stale, whatever the ends and the report are
module _ (limit top : ℕ) (a : Arena) (p : Pointer) (from to : ℕ) (passes : verdict limit a ≡ 0) where
  pub twelve_exactly : (l report : List ℕ) →
      (((reply_to limit top (DueCount p from to) a l).number ≡ 12) ↔ (stale a p ≡ true))
      × (((reply_to limit top (DueEvents p from to) a report).number ≡ 12) ↔ (stale a p ≡ true))
  unfolding reply_to accepted due_count due_events
  twelve_exactly l report =
      rw (eq-eqb (verdict limit a) 0 passes) (
        (
          λ is. by_test (stale a p) (λ s. s) (λ s. absurd (by_test (is_window from to) (λ w. omega (arith, rw (s, w) at is)) (λ w. omega (arith, rw (s, w) at is)))),
          λ s. rw s refl,
        ),
        (
          λ is. by_test (stale a p)
              (λ s. s)
              (λ s. absurd (by_test (is_window from to)
              (λ w. by_test (ltb (length report) (length (walk_from a p.slot))) (λ t. omega (arith, rw (s, w, t) at is)) (λ t. omega (arith, rw (s, w, t) at is)))
              (λ w. omega (arith, rw (s, w) at is)))),
          λ s. rw s refl,
        ),
      )

-- the others, where the pointer is good

module _ (limit top : ℕ) (a : Arena) (p : Pointer) (from to : ℕ) (passes : verdict limit a ≡ 0) (good : stale a p ≡ false) where
  no_window : (is_window from to ≡ false) ↔ ((89342 ≤ from) ⊎ (89342 < to))
  unfolding is_window
  no_window = (
    λ e. by_test (ltb from frame_dots) (λ t. inr (leb-false to frame_dots (rw t at e))) (λ t. inl (ltb-false from frame_dots t)),
    λ h. elim h [ inl past ↦ rw (le-ltb from frame_dots past) refl | inr past ↦ not_second (ltb from frame_dots) (leb to frame_dots) (lt-leb to frame_dots past) ],
  )

  count_says : (l : List ℕ) → (reply_to limit top (DueCount p from to) a l).number ≡ cond (is_window from to) 0 19
  unfolding reply_to accepted due_count
  count_says l = rw (eq-eqb (verdict limit a) 0 passes, good) (by_test (is_window from to) (λ w. rw w refl) (λ w. rw w refl))

  events_say : (report : List ℕ) → (reply_to limit top (DueEvents p from to) a report).number ≡ cond (is_window from to) (cond (ltb (length report) (length (walk_from a p.slot))) 14 0) 19
  unfolding reply_to accepted due_events
  events_say report =
      rw (eq-eqb (verdict limit a) 0 passes, good)
      (by_test (is_window from to)
      (λ w. by_test (ltb (length report) (length (walk_from a p.slot))) (λ t. rw (w, t) refl) (λ t. rw (w, t) refl))
      (λ w. rw w refl))

  -- 19 comes exactly where the ends make no window of the frame, whatever the report is
  nineteen : {n k : ℕ} → n ≡ cond (is_window from to) k 19 → (k ≡ 19 → ⊥) → (n ≡ 19) ↔ ((89342 ≤ from) ⊎ (89342 < to))
  nineteen e other = (
    λ is. by_test (is_window from to) (λ w. absurd (other (rw w at (sym e ∙ is)))) no_window.0,
    λ h. e ∙ rw (no_window.1 h) refl,
  )

  pub nineteen_exactly : (l report : List ℕ) →
      (((reply_to limit top (DueCount p from to) a l).number ≡ 19) ↔ ((89342 ≤ from) ⊎ (89342 < to)))
      × (((reply_to limit top (DueEvents p from to) a report).number ≡ 19) ↔ ((89342 ≤ from) ⊎ (89342 < to)))
  nineteen_exactly l report = (
    nineteen (count_says l) (λ e. omega (arith, e)),
    nineteen (events_say report) (λ e. by_test (ltb (length report) (length (walk_from a p.slot))) (λ t. omega (arith, rw t at e)) (λ t. omega (arith, rw t at e))),
  )

  -- and in a window 14 exactly where the report has fewer words than the walk has links, however few are due
  pub fourteen_exactly : from < 89342 → to ≤ 89342 → (report : List ℕ) → ((reply_to limit top (DueEvents p from to) a report).number ≡ 14) ↔ (length report < length (walk_from a p.slot))
  unfolding is_window
  fourteen_exactly h k report =
      let says : (reply_to limit top (DueEvents p from to) a report).number ≡ cond (ltb (length report) (length (walk_from a p.slot))) 14 0 =
      rw (lt-ltb from frame_dots h, le-leb to frame_dots k) at (events_say report)
      in (
        λ is. by_test (ltb (length report) (length (walk_from a p.slot))) (ltb-true (length report) _) (λ t. absurd (omega (arith, rw t at (sym says ∙ is)))),
        λ few. says ∙ rw (lt-ltb (length report) _ few) refl,
      )

  -- and 0 exactly where none of these comes, so that there is no other number
  a_window : (is_window from to ≡ true) ↔ ((from < 89342) × (to ≤ 89342))
  unfolding is_window
  a_window = (
    λ e. (ltb-true from frame_dots (both_first (ltb from frame_dots) (leb to frame_dots) e), leb-true to frame_dots (both_second (ltb from frame_dots) (leb to frame_dots) e)),
    λ h. rw (lt-ltb from frame_dots h.0, le-leb to frame_dots h.1) refl,
  )

  pub done_exactly : (l report : List ℕ) →
      (((reply_to limit top (DueCount p from to) a l).number ≡ 0) ↔ ((from < 89342) × (to ≤ 89342)))
      × (((reply_to limit top (DueEvents p from to) a report).number ≡ 0) ↔ ((from < 89342) × (to ≤ 89342) × (length (walk_from a p.slot) ≤ length report)))
  done_exactly l report = (
    (
      λ is. by_test (is_window from to) a_window.0 (λ w. absurd (omega (arith, rw w at (sym (count_says l) ∙ is)))),
      λ h. count_says l ∙ rw (a_window.1 h) refl,
    ),
    (
      λ is. by_test (is_window from to)
          (λ w. by_test (ltb (length report) (length (walk_from a p.slot)))
          (λ t. absurd (omega (arith, rw (w, t) at (sym (events_say report) ∙ is))))
          (λ t. ((a_window.0 w).0, (a_window.0 w).1, ltb-false (length report) _ t)))
          (λ w. absurd (omega (arith, rw w at (sym (events_say report) ∙ is)))),
      λ h. events_say report ∙ rw (a_window.1 (h.0, h.1), le-ltb (length report) _ h.2) refl,
    ),
  )

-- ---- two windows

module _ {f t : ℕ} (v : ℕ) (before : f < t) where
  one_of : v < 89342 → DueIn f t v ⊎ DueIn t f v
  one_of dot =
      by_test (leb f v)
      (λ from. by_test (ltb v t)
      (λ to. inl (record { dot = dot; straight = λ h. (leb-true f v from, ltb-true v t to); crossing = λ h. absurd (omega arith) }))
      (λ past. inr (record { dot = dot; straight = λ h. absurd (omega arith); crossing = λ h. inl (ltb-false v t past) })))
      (λ early. inr (record { dot = dot; straight = λ h. absurd (omega arith); crossing = λ h. inr (leb-false f v early) }))

  not_in_both : DueIn f t v → DueIn t f v → ⊥
  not_in_both d e =
      let ends = d.straight (omega arith) in
      elim (e.crossing before) [ inl h ↦ omega (arith, ends.1) | inr h ↦ omega (arith, ends.0) ]

module _ {f t : ℕ} (other : f ≡ t → ⊥) where
  -- two windows between the same two dots, one of which crosses the end of the frame
  pub windows_part : WindowsPart f t
  windows_part =
      by_test (ltb f t)
      (λ b. record { either = λ v. one_of v (ltb-true f t b); not_both = λ v. not_in_both v (ltb-true f t b) })
      (λ b.
      let after : t < f = omega (arith, ltb-false f t b) in
      record { either = λ v dot. turned (one_of v after dot); not_both = λ v d e. not_in_both v after e d })
    where
      turned : {P Q : Type 0} → P ⊎ Q → Q ⊎ P
      turned (inl p) = inr p
      turned (inr q) = inl q

  -- so each link of a chain whose payload is a dot is due in one of the two, and no other link is
  pub windows_part_a_chain : (a : Arena) (o : ℕ) → ChainParted a (walk_from a o) (due_slots a o f t) (due_slots a o t f)
  unfolding due_slots
  windows_part_a_chain a o = record {
    once = λ s dot. elim (windows_part.either (at a.payload s) dot) [
      | inl d ↦ ap₂ ◌+◌ (has f t s (due_if f t _ d)) (lacks t f s (fails t f _ (λ e. windows_part.not_both _ d e))) ∙ omega arith
      | inr d ↦ ap₂ ◌+◌ (lacks f t s (fails f t _ (λ e. windows_part.not_both _ e d))) (has t f s (due_if t f _ d)) ∙ omega arith
    ];
    never = λ s past. ap₂ ◌+◌ (lacks f t s (fails f t _ (λ d. omega (arith, d.dot)))) (lacks t f s (fails t f _ (λ d. omega (arith, d.dot))));
  }
    where
      has : (from to s : ℕ) → due from to (at a.payload s) ≡ true → count s (keep (λ x. due from to (at a.payload x)) (walk_from a o)) ≡ count s (walk_from a o)
      has from to s e = keep_has _ s (walk_from a o) e

      lacks : (from to s : ℕ) → due from to (at a.payload s) ≡ false → count s (keep (λ x. due from to (at a.payload x)) (walk_from a o)) ≡ 0
      lacks from to s e = keep_lacks _ s (walk_from a o) e

-- and of the counts: together they are as many as the chain has links whose payloads are dots
sum_kept :
    (one two all : ℕ → Bool) → ((x : ℕ) → ((one x ≡ true) × (two x ≡ false) × (all x ≡ true)) ⊎ (((one x ≡ false) × (two x ≡ true) × (all x ≡ true)) ⊎ ((one x ≡ false) × (two x ≡ false) × (all x ≡ false))))
    → (xs : List ℕ) → length (keep one xs) + length (keep two xs) ≡ length (keep all xs)
unfolding keep
sum_kept one two all each [] = refl
sum_kept one two all each (x ∷ xs) =
    elim (each x) [
      | inl h ↦ rw (h.0, h.1, h.2) (omega (arith, sum_kept one two all each xs))
      | inr h ↦ elim h [ inl g ↦ rw (g.0, g.1, g.2) (omega (arith, sum_kept one two all each xs)) | inr g ↦ rw (g.0, g.1, g.2) (sum_kept one two all each xs) ]
    ]

pub counts_add_up :
    {f t : ℕ} → (f ≡ t → ⊥) → (a : Arena) (o : ℕ) → length (due_slots a o f t) + length (due_slots a o t f) ≡ length (keep (λ s. ltb (at a.payload s) 89342) (walk_from a o))
unfolding due_slots
counts_add_up {f} {t} other a o = sum_kept _ _ _ each (walk_from a o)
  where
    each :
        (x : ℕ) → let v = at a.payload x in
        ((due f t v ≡ true) × (due t f v ≡ false) × (ltb v 89342 ≡ true)) ⊎ (((due f t v ≡ false) × (due t f v ≡ true) × (ltb v 89342 ≡ true)) ⊎ ((due f t v ≡ false) × (due t f v ≡ false) × (ltb v 89342 ≡ false)))
    each x =
        let v = at a.payload x in
        let part = windows_part other in
        by_test (ltb v 89342)
        (λ dot. elim (part.either v (ltb-true v 89342 dot)) [
          | inl d ↦ inl (due_if f t v d, fails t f v (λ e. part.not_both v d e), dot)
          | inr d ↦ inr (inl (fails f t v (λ e. part.not_both v e d), due_if t f v d, dot))
        ])
        (λ past. inr (inr (fails f t v (λ d. not_before v past d.dot), fails t f v (λ d. not_before v past d.dot), past)))
      where
        not_before : (v : ℕ) → ltb v 89342 ≡ false → v < 89342 → ⊥
        not_before v past h = omega (arith, ltb-false v 89342 past)
