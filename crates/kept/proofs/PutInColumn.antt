-- One side of the interlinks when a link t is put between u and v: for a column xs (prev or next) and the column ys that names back. Each law is
-- used twice, once for either side, with the columns and u and v in each other's place. Assumes nothing.
use Prim.Native.Nat.{ℕ, ◌≤◌}
use mathlib.Core.Path.{◌≡◌, sym, ap, ◌∙◌}
use mathlib.Core.Logic.{◌⊎◌, inl, inr}
use mathlib.Core.Bool.{Bool, true, false, true≢false}
use mathlib.Core.List.{List}
use native.Mathlib.Omega.{arith}
use native.Mathlib.Decide.{ℕ_discrete}
use lib.ListN.{length}
use Rattle.definitions.specs.Columns.{at, put}
use Rattle.definitions.proofs.Columns.{length_put, at_put_same, at_put_other}
use Rattle.kept.proofs.Neighbours.{Named, Side}

-- the column xs' is xs with u at t and t at v
pub record Column (xs xs' : List ℕ) (t u v : ℕ) : Type 0 where
  pub here : at xs' t ≡ u
  pub back : (v ≡ 0 → ⊥) → at xs' v ≡ t
  pub other : (x : ℕ) → (x ≡ t → ⊥) → (x ≡ v → ⊥) → at xs' x ≡ at xs x

pub column : (xs : List ℕ) (t u v : ℕ) → (t ≡ 0 → ⊥) → t ≤ length xs → v ≤ length xs → (v ≡ t → u ≡ t) → Column xs (put (put xs t u) v t) t u v
column xs t u v some lt lv both = record {
  here = here (ℕ_discrete t v);
  back = λ d. at_put_same (put xs t u) v t d (rw length_put lv);
  other = λ x d e. at_put_other (put xs t u) v x t e ∙ at_put_other xs t x u d;
}
  where
    here : Dec (t ≡ v) → at (put (put xs t u) v t) t ≡ u
    here (yes e) = rw (← e) (at_put_same (put xs t u) t t some (rw length_put lt) ∙ sym (both (sym e)))
    here (no d) = at_put_other (put xs t u) v t t d ∙ at_put_same xs t u some lt

module _ (link still : ℕ → Bool) (t : ℕ) (fresh : link t ≡ false) (new : still t ≡ true)
    (stays : (x : ℕ) → link x ≡ true → still x ≡ true) (was : (x : ℕ) → still x ≡ true → (x ≡ t → ⊥) → link x ≡ true) (some : (x : ℕ) → link x ≡ true → 1 ≤ x) where
  pub put_in : (xs ys xs' ys' : List ℕ) (u v : ℕ) → Column xs xs' t u v → Column ys ys' t v u → ((u ≡ 0 → ⊥) → still u ≡ true)
      → (link u ≡ true → (at ys u ≡ 0) ⊎ (at ys u ≡ v)) → Side link xs ys → Side still xs' ys'
  put_in xs ys xs' ys' u v cx cy there gap side x l = at_t (ℕ_discrete x t)
    where
      other : (x ≡ t → ⊥) → (x ≡ v → ⊥) → Named still ys' x (at xs x)
      other d e named =
          let r = side x (was x l d) named in
          let off_t : at xs x ≡ t → ⊥ = λ q. true≢false (sym r.0 ∙ ap link q ∙ fresh) in
          let off-u : at xs x ≡ u → ⊥ = λ q.
          elim (gap (ap link (sym q) ∙ r.0)) [
            | inl z ↦ omega (arith, some x (was x l d), sym r.1 ∙ ap (at ys) q ∙ z)
            | inr z ↦ e (sym r.1 ∙ ap (at ys) q ∙ z)
          ] in
          (stays (at xs x) r.0, cy.other (at xs x) off_t off-u ∙ r.1)

      at_v : (x ≡ t → ⊥) → Dec (x ≡ v) → Named still ys' x (at xs' x)
      at_v d (yes e) = rw (e, cx.back (λ z. omega (arith, some x (was x l d)))) (λ named. (new, cy.here))
      at_v d (no e) = rw (cx.other x d e) (other d e)

      at_t : Dec (x ≡ t) → Named still ys' x (at xs' x)
      at_t (yes e) = rw (e, cx.here) (λ named. (there named, cy.back named))
      at_t (no d) = at_v d (ℕ_discrete x v)
