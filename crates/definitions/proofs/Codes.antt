-- Which codes stand for a kind of insertion: those from 6 to 19, and no other. Assumes nothing.
use Prim.Native.Nat.{ℕ, ◌+◌, ◌≤◌}
use mathlib.Core.Path.{◌≡◌, refl}
use mathlib.Core.Logic.{◌⊎◌, inl, inr}
use mathlib.Core.Bool.{Bool, true, false, cond}
use native.Mathlib.Omega.{arith}
use lib.Dec.{eqb}
use borrow.Author.Tests.{eqb-false, ne_eqb}
use Rattle.definitions.specs.Read.{Pointer}
use Rattle.definitions.specs.Insert.{InsertKind, Coded, kind, unknown, kind_of}

-- no kind has a code up to 5, or one from 20 on
pub no_kind : (code : ℕ) (p q : Pointer) → (code ≤ 5) ⊎ (20 ≤ code) → kind_of code p q ≡ unknown
unfolding kind_of
no_kind code p q outside = rw (
  off 6 (omega arith) (omega arith),
  off 7 (omega arith) (omega arith),
  off 8 (omega arith) (omega arith),
  off 9 (omega arith) (omega arith),
  off 10 (omega arith) (omega arith),
  off 11 (omega arith) (omega arith),
  off 12 (omega arith) (omega arith),
  off 13 (omega arith) (omega arith),
  off 14 (omega arith) (omega arith),
  off 15 (omega arith) (omega arith),
  off 16 (omega arith) (omega arith),
  off 17 (omega arith) (omega arith),
  off 18 (omega arith) (omega arith),
  off 19 (omega arith) (omega arith),
) refl
  where
    off : (k : ℕ) → 6 ≤ k → k ≤ 19 → eqb code k ≡ false
    off k low high = ne_eqb code k (λ e. elim outside [ inl below ↦ omega arith | inr past ↦ omega arith ])

-- the codes from 6 to 19 stand for a kind each
no_other : (k : InsertKind) → kind k ≡ unknown → ⊥
no_other k e = let z : ◌≡◌ {A = ℕ} 0 1 = cc in omega arith

skipped : (t : Bool) (k : InsertKind) (c : Coded) → cond t (kind k) c ≡ unknown → (t ≡ false) × (c ≡ unknown)
skipped true k c e = absurd (no_other k e)
skipped false k c e = (refl, e)

above : (k code : ℕ) → k ≤ code → eqb code k ≡ false → k + 1 ≤ code
above k code low t = let d = eqb-false code k t in omega arith

pub has_kind : (code : ℕ) (p q : Pointer) → 6 ≤ code → code ≤ 19 → kind_of code p q ≡ unknown → ⊥
unfolding kind_of
has_kind code p q low high e =
    let is-6 = skipped _ _ _ e in
    let from-7 = above 6 code low is-6.0 in
    let is-7 = skipped _ _ _ is-6.1 in
    let from-8 = above 7 code from-7 is-7.0 in
    let is-8 = skipped _ _ _ is-7.1 in
    let from-9 = above 8 code from-8 is-8.0 in
    let is-9 = skipped _ _ _ is-8.1 in
    let from-10 = above 9 code from-9 is-9.0 in
    let is-10 = skipped _ _ _ is-9.1 in
    let from-11 = above 10 code from-10 is-10.0 in
    let is-11 = skipped _ _ _ is-10.1 in
    let from-12 = above 11 code from-11 is-11.0 in
    let is-12 = skipped _ _ _ is-11.1 in
    let from-13 = above 12 code from-12 is-12.0 in
    let is-13 = skipped _ _ _ is-12.1 in
    let from-14 = above 13 code from-13 is-13.0 in
    let is-14 = skipped _ _ _ is-13.1 in
    let from-15 = above 14 code from-14 is-14.0 in
    let is-15 = skipped _ _ _ is-14.1 in
    let from-16 = above 15 code from-15 is-15.0 in
    let is-16 = skipped _ _ _ is-15.1 in
    let from-17 = above 16 code from-16 is-16.0 in
    let is-17 = skipped _ _ _ is-16.1 in
    let from-18 = above 17 code from-17 is-17.0 in
    let is-18 = skipped _ _ _ is-17.1 in
    let from-19 = above 18 code from-18 is-18.0 in
    let is-19 = skipped _ _ _ is-18.1 in
    let from-20 = above 19 code from-19 is-19.0 in
    omega (arith, from-20)
