-- A member brought to the front of a list, by exchanging places with who is there: the members stay, and one is taken off. Assumes nothing.
use Prim.Native.Nat.{ℕ, suc, ◌+◌, ◌≤◌}
use mathlib.Core.Path.{◌≡◌, refl, sym, ap}
use mathlib.Core.Logic.{◌≢◌}
use mathlib.Core.Bool.{cond}
use mathlib.Core.List.{List, [], ◌∷◌, ◌++◌}
use native.Mathlib.Omega.{arith}
use native.Mathlib.Decide.{ℕ_discrete}
use lib.ListN.{length}
use lib.Dec.{eqb}
use borrow.Author.Tests.{eq-eqb, ne_eqb}
use Rattle.definitions.specs.Columns.{count}
use Rattle.definitions.proofs.Slots.{count_nil, count_here, count_there, count_append}
use Rattle.definitions.proofs.Count.{In, not_in_nil}

-- y in the place of the first o
unfoldable pub instead : ℕ → ℕ → List ℕ → List ℕ
instead o y [] = []
instead o y (z ∷ r) = cond (eqb z o) (y ∷ r) (z ∷ instead o y r)

-- r is who is in slots i, i+1, and so on. o comes to slot i and who is there goes where o was: this is who is in slots i+1, i+2, and so on then
unfoldable pub bring : ℕ → List ℕ → List ℕ
bring o [] = []
bring o (x ∷ r) = cond (eqb x o) r (instead o x r)

-- one after the other
unfoldable pub brings : List ℕ → List ℕ → List ℕ
brings [] r = r
brings (o ∷ os) r = brings os (bring o r)

module _ (o y z : ℕ) (r : List ℕ) where
  pub instead_here : z ≡ o → instead o y (z ∷ r) ≡ y ∷ r
  unfolding instead
  instead_here e = rw (eq-eqb z o e)

  pub instead_later : z ≢ o → instead o y (z ∷ r) ≡ z ∷ instead o y r
  unfolding instead
  instead_later d = rw (ne_eqb z o d)

module _ (o x : ℕ) (r : List ℕ) where
  pub bring_first : x ≡ o → bring o (x ∷ r) ≡ r
  unfolding bring
  bring_first e = rw (eq-eqb x o e)

  pub bring_later : x ≢ o → bring o (x ∷ r) ≡ instead o x r
  unfolding bring
  bring_later d = rw (ne_eqb x o d)

-- ---- one

instead_count : (x o y : ℕ) (r : List ℕ) → In o r → count x (o ∷ instead o y r) ≡ count x (y ∷ r)
unfolding count
instead_count x o y [] h = absurd (not_in_nil o h)
instead_count x o y (z ∷ r) h = go (ℕ_discrete z o) (instead_count x o y r)
  where
    go : Dec (z ≡ o) → (In o r → count x (o ∷ instead o y r) ≡ count x (y ∷ r)) → count x (o ∷ instead o y (z ∷ r)) ≡ count x (y ∷ z ∷ r)
    go (yes e) ih = rw (instead_here o y z r e, e) (omega arith)
    go (no d) ih = rw (instead_later o y z r d) (omega (arith, ih (omega (arith, count_there o z r (λ e. d (sym e))))))

pub bring_count : (x o : ℕ) (r : List ℕ) → In o r → count x (o ∷ bring o r) ≡ count x r
bring_count x o [] h = absurd (not_in_nil o h)
bring_count x o (y ∷ r) h = go (ℕ_discrete y o)
  where
    go : Dec (y ≡ o) → count x (o ∷ bring o (y ∷ r)) ≡ count x (y ∷ r)
    go (yes e) = rw (bring_first o y r e, e)
    go (no d) = rw (bring_later o y r d) (instead_count x o y r (omega (arith, count_there o y r (λ e. d (sym e)))))

instead_length : (o y : ℕ) (r : List ℕ) → length (instead o y r) ≡ length r
instead_length o y [] = unfold instead in refl
instead_length o y (z ∷ r) = go (ℕ_discrete z o) (instead_length o y r)
  where
    go : Dec (z ≡ o) → length (instead o y r) ≡ length r → length (instead o y (z ∷ r)) ≡ suc (length r)
    go (yes e) ih = rw (instead_here o y z r e)
    go (no d) ih = rw (instead_later o y z r d) (ap suc ih)

pub bring_length : (o : ℕ) (r : List ℕ) → In o r → suc (length (bring o r)) ≡ length r
bring_length o [] h = absurd (not_in_nil o h)
bring_length o (y ∷ r) h = go (ℕ_discrete y o)
  where
    go : Dec (y ≡ o) → suc (length (bring o (y ∷ r))) ≡ suc (length r)
    go (yes e) = rw (bring_first o y r e)
    go (no d) = rw (bring_later o y r d) (ap suc (instead_length o y r))

-- ---- several

pub brings_nil : (r : List ℕ) → brings [] r ≡ r
unfolding brings
brings_nil r = refl

pub brings_cons : (o : ℕ) (os r : List ℕ) → brings (o ∷ os) r ≡ brings os (bring o r)
unfolding brings
brings_cons o os r = refl

-- what is left to bring is there
pub brings_rest : (o : ℕ) (os r : List ℕ) → ((x : ℕ) → count x (o ∷ os) ≤ count x r) → (x : ℕ) → count x os ≤ count x (bring o r)
brings_rest o os r h x =
    omega (arith, h x, bring_count x o r (omega (arith, h o, count_here o os)), count_append x (o ∷ []) os, count_append x (o ∷ []) (bring o r))

pub brings_count : (os r : List ℕ) → ((x : ℕ) → count x os ≤ count x r) → (x : ℕ) → count x os + count x (brings os r) ≡ count x r
unfolding brings
brings_count [] r h x = omega (arith, count_nil x)
brings_count (o ∷ os) r h x =
    let i : In o r = omega (arith, h o, count_here o os) in
    omega (arith, bring_count x o r i, brings_count os (bring o r) (brings_rest o os r h) x, count_append x (o ∷ []) os, count_append x (o ∷ []) (bring o r))

pub brings_length : (os r : List ℕ) → ((x : ℕ) → count x os ≤ count x r) → length os + length (brings os r) ≡ length r
unfolding brings
brings_length [] r h = omega arith
brings_length (o ∷ os) r h =
    let i : In o r = omega (arith, h o, count_here o os) in
    omega (arith, bring_length o r i, brings_length os (bring o r) (brings_rest o os r h))

-- who is in front already stays
pub brings_front : (p r : List ℕ) → brings p (p ++ r) ≡ r
unfolding brings
brings_front [] r = refl
brings_front (x ∷ p) r = rw (bring_first x x (p ++ r) refl) (brings_front p r)
