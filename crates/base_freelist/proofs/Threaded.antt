-- Laws of a freelist that is listed from its highest slot down: what is listed once the slots above slot i are passed. Assumes nothing.
use Prim.Native.Nat.{ℕ, zero, suc, ◌+◌, ◌-◌, ◌≤◌, ◌<◌}
use mathlib.Core.Path.{◌≡◌, refl, ap, ◌∙◌}
use mathlib.Core.Bool.{not, cond}
use mathlib.Core.List.{List, [], ◌∷◌}
use native.Mathlib.Omega.{arith}
use native.Mathlib.Nat.{sub_self, sub-zero}
use native.Mathlib.Numerals.{add-one}
use lib.Dec.{eqb}
use lib.ListN.{get_or, set, drop}
use lib.Seq.{set_comm, drop-set-lt}
use borrow.Author.Tests.{ne_eqb}
use Rattle.definitions.specs.Columns.{at, put, first_or, slots_from, keep}
use Rattle.definitions.specs.Arena.{allocated, free_slots}
use Rattle.definitions.specs.Remove.{threaded}
use Rattle.definitions.proofs.Slots.{allocated_yes, allocated_free}
use Rattle.definitions.proofs.Count.{In, in_here, in_there, in_slots, in_keep}

-- ---- threading a list of slots into the next column

pub put_comm : (xs : List ℕ) (s t v u : ℕ) → (s ≡ t → ⊥) → put (put xs s v) t u ≡ put (put xs t u) s v
unfolding put
put_comm xs zero t v u d = refl
put_comm xs (suc i) zero v u d = refl
put_comm xs (suc i) (suc j) v u d = set_comm xs i j v u (λ e. d (ap suc e))

-- a slot that is not on the list may be written before or after
pub threaded_put : (ns fs : List ℕ) (s v : ℕ) → (In s fs → ⊥) → threaded (put ns s v) fs ≡ put (threaded ns fs) s v
unfolding threaded
threaded_put ns [] s v out = refl
threaded_put ns (t ∷ fs) s v out =
    let apart : s ≡ t → ⊥ = λ e. out (rw e (in_here t fs)) in
    rw (put_comm ns s t v (first_or t fs) apart) (threaded_put (put ns t (first_or t fs)) fs s v (λ i. out (in_there s t fs i)))

-- words past slot n are left alone, if no slot of the list is past it
put_drop : (n : ℕ) (xs : List ℕ) (s v : ℕ) → s ≤ n → drop n (put xs s v) ≡ drop n xs
unfolding put
put_drop n xs zero v l = refl
put_drop n xs (suc i) v l = drop-set-lt n xs i v l

pub threaded_drop : (n : ℕ) (ns fs : List ℕ) → ((s : ℕ) → In s fs → s ≤ n) → drop n (threaded ns fs) ≡ drop n ns
unfolding threaded
threaded_drop n ns [] f = refl
threaded_drop n ns (s ∷ fs) f =
    threaded_drop n (put ns s (first_or s fs)) fs (λ t i. f t (in_there t s fs i)) ∙ put_drop n ns s (first_or s fs) (f s (in_here s fs))

-- ---- the free slots above slot i, of a stack of m slots

abbrev pub free_above : List ℕ → ℕ → ℕ → List ℕ
free_above gs m i = keep (λ s. not (allocated gs m s)) (slots_from (suc i) (m - i))

module _ (gs : List ℕ) (m : ℕ) where
  none_above : free_above gs m m ≡ []
  unfolding keep slots_from
  none_above = rw (sub_self m) refl

  all_above : free_above gs m 0 ≡ free_slots gs m
  unfolding free_slots
  all_above = rw (sub-zero m) refl

  slots_above : (i : ℕ) → i < m → slots_from (suc i) (m - i) ≡ suc i ∷ slots_from (suc (suc i)) (m - suc i)
  unfolding slots_from
  slots_above i h = let e : m - i ≡ suc (m - suc i) = omega arith in rw e refl

  free_more : (i : ℕ) → i < m → at gs (suc i) ≡ 0 → free_above gs m i ≡ suc i ∷ free_above gs m (suc i)
  unfolding keep
  free_more i h g = rw (slots_above i h, allocated_free gs m (suc i) g) refl

  free_same : (i : ℕ) → i < m → (at gs (suc i) ≡ 0 → ⊥) → free_above gs m i ≡ free_above gs m (suc i)
  unfolding keep
  free_same i h g = rw (slots_above i h, allocated_yes gs m (suc i) h g) refl

-- which slots they are
pub in_free_above : (gs : List ℕ) (m i x : ℕ) → In x (free_above gs m i) → i < x
in_free_above gs m i x h = let run = in_slots x (suc i) (m - i) (in_keep _ x _ h).1 in omega arith

pub in_free : (gs : List ℕ) (m x : ℕ) → In x (free_slots gs m) → x ≤ m
unfolding free_slots
in_free gs m x h = let run = in_slots x 1 m (in_keep _ x _ h).1 in omega arith

-- the first of a list without 0, or z where there is none
first_chosen : (z : ℕ) (fs : List ℕ) → (In 0 fs → ⊥) → cond (eqb (first_or 0 fs) 0) z (first_or 0 fs) ≡ first_or z fs
unfolding first_or
first_chosen z [] out = refl
first_chosen z (x ∷ fs) out = rw (ne_eqb x 0 (λ e. out (rw (← e) (in_here x fs)))) refl

-- ---- listing the free slots of a stack of m slots, when those above slot i are listed and root is the first of them

pub record Relisting (gs old : List ℕ) (m i : ℕ) (ns : List ℕ) (root : ℕ) : Type 0 where
  pub within : i ≤ m
  pub first : root ≡ first_or 0 (free_above gs m i)
  pub threads : ns ≡ threaded old (free_above gs m i)

module _ (gs old : List ℕ) (m : ℕ) where
  pub relisting_starts : Relisting gs old m m old 0
  unfolding first_or threaded
  relisting_starts = record { within = omega arith; first = rw (none_above gs m) refl; threads = rw (none_above gs m) refl }

  passed : (k : ℕ) (ns : List ℕ) (root : ℕ) → Relisting gs old m (suc k) ns root → (get_or gs k 0 ≡ 0 → ⊥) → Relisting gs old m k ns root
  unfolding at
  passed k ns root r g =
      let e = free_same gs m k r.within g in
      record { within = omega arith; first = rw e r.first; threads = rw e r.threads }

  listed : (k : ℕ) (ns : List ℕ) (root v : ℕ) → Relisting gs old m (suc k) ns root → get_or gs k 0 ≡ 0 → v ≡ cond (eqb root 0) (suc k) root → Relisting gs old m k (set ns k v) (suc k)
  unfolding at put first_or threaded
  listed k ns root v r g q =
      let e = free_more gs m k r.within g in
      let above : (s : ℕ) → s ≤ suc k → In s (free_above gs m (suc k)) → ⊥ = λ s h i. let past = in_free_above gs m (suc k) s i in omega arith in
      let word : v ≡ first_or (suc k) (free_above gs m (suc k)) = q ∙ rw r.first (first_chosen (suc k) _ (above 0 (omega arith))) in
      record {
        within = omega arith;
        first = rw e refl;
        threads = rw (e, threaded_put old (free_above gs m (suc k)) (suc k) (first_or (suc k) (free_above gs m (suc k))) (above (suc k) (omega arith)), ← r.threads, ← word) refl;
      }

-- slot i, which the code reads and writes at the place i - 1, is a link, or is free and leads on to the root so far, to itself where there is none
module _ {gs old : List ℕ} {m i : ℕ} {ns : List ℕ} {root : ℕ} (r : Relisting gs old m i ns root) (some : 0 < i) where
  -- the place and the slot after it
  here : Relisting gs old m (suc (i - 1)) ns root
  here = let e : i ≡ suc (i - 1) = omega arith in rw e at r

  pub relisting_passes : (get_or gs (i - 1) 0 ≡ 0 → ⊥) → Relisting gs old m (i - 1) ns root
  relisting_passes g = passed gs old m (i - 1) ns root here g

  pub relisting_lists : {f : ℕ} → get_or gs (i - 1) 0 ≡ 0 → f ≡ cond (eqb root 0) (i - 1 + 1) root → Relisting gs old m (i - 1) (set ns (i - 1) f) (i - 1 + 1)
  relisting_lists {f} g q = rw add-one (listed gs old m (i - 1) ns root f here g (rw add-one at q))

pub relisted :
    {gs old : List ℕ} {m i : ℕ} {ns : List ℕ} {root : ℕ}
    → Relisting gs old m i ns root → i ≤ 0 → (root ≡ first_or 0 (free_slots gs m)) × (ns ≡ threaded old (free_slots gs m))
relisted {gs} {m = m} {i = i} r z =
    let e : free_above gs m i ≡ free_slots gs m = let none : i ≡ 0 = omega arith in rw none (all_above gs m) in
    (rw (← e) r.first, rw (← e) r.threads)
