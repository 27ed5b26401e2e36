-- Laws of one side of the interlinks, for a column xs (prev or next) and the column ys that names back (next or prev): what an edit of both keeps.
-- Each law is used twice, once for either side, with the two columns and the two slots in each other's place. Assumes nothing.
use Prim.Native.Nat.{ℕ, ◌≤◌}
use mathlib.Core.Path.{◌≡◌, refl, sym, ap, ◌∙◌}
use mathlib.Core.Bool.{Bool, true}
use mathlib.Core.List.{List}
use native.Mathlib.Omega.{arith}
use native.Mathlib.Decide.{ℕ_discrete}
use lib.ListN.{length}
use Rattle.definitions.specs.Columns.{at, put}
use Rattle.definitions.proofs.Columns.{length_put, at_put_same, at_put_other}

-- y, that link x has in one column, is none, or is a link that names x back in the column ys
abbrev pub Named : (ℕ → Bool) → List ℕ → ℕ → ℕ → Type 0
Named link ys x y = (y ≡ 0 → ⊥) → (link y ≡ true) × (at ys y ≡ x)

-- so for every link: one side of the interlinks
abbrev pub Side : (ℕ → Bool) → List ℕ → List ℕ → Type 0
Side link xs ys = (x : ℕ) → link x ≡ true → Named link ys x (at xs x)

-- columns that read the same at links, for a test that holds of the same slots
pub side_agrees : (link same : ℕ → Bool) (xs ys xs' ys' : List ℕ) → Side link xs ys → ((x : ℕ) → same x ≡ true → link x ≡ true) → ((x : ℕ) → link x ≡ true → same x ≡ true)
    → ((x : ℕ) → link x ≡ true → at xs' x ≡ at xs x) → ((x : ℕ) → link x ≡ true → at ys' x ≡ at ys x) → Side same xs' ys'
side_agrees link same xs ys xs' ys' side was stays agree-xs agree-ys x l =
    rw (agree-xs x (was x l)) (λ some. let r = side x (was x l) some in (stays (at xs x) r.0, agree-ys (at xs x) r.0 ∙ r.1))

-- the links stand in slots 1 to n, and the columns are long enough
module _ (link : ℕ → Bool) (n : ℕ) (within : (x : ℕ) → link x ≡ true → (1 ≤ x) × (x ≤ n)) (xs ys : List ℕ) (long-xs : n ≤ length xs) (long-ys : n ≤ length ys) (side : Side link xs ys) where
  written_xs : (s v : ℕ) → link s ≡ true → at (put xs s v) s ≡ v
  written_xs s v l = let w = within s l in at_put_same xs s v (omega arith) (omega arith)

  written_ys : (s v : ℕ) → link s ≡ true → at (put ys s v) s ≡ v
  written_ys s v l = let w = within s l in at_put_same ys s v (omega arith) (omega arith)

  -- s gets the neighbour t, that had none on its other side
  pub tied : (s t : ℕ) → link s ≡ true → link t ≡ true → at ys t ≡ 0 → Side link (put xs s t) (put ys t s)
  tied s t ls lt bare x l = go (ℕ_discrete x s)
    where
      go : Dec (x ≡ s) → Named link (put ys t s) x (at (put xs s t) x)
      go (yes e) = rw (e, written_xs s t ls) (λ some. (lt, written_ys t s lt))
      go (no d) =
          rw (at_put_other xs s x t d) (λ some. let r = side x l some in (
            r.0,
            at_put_other ys t (at xs x) s (λ q. omega (arith, (within x l).0, sym r.1 ∙ ap (at ys) q ∙ bare)) ∙ r.1,
          ))

  -- s and its neighbour t lose each other
  pub untied : (s t : ℕ) → link s ≡ true → at ys t ≡ s → Side link (put xs s 0) (put ys t 0)
  untied s t ls back x l = go (ℕ_discrete x s)
    where
      go : Dec (x ≡ s) → Named link (put ys t 0) x (at (put xs s 0) x)
      go (yes e) = rw (e, written_xs s 0 ls) (λ some. absurd (some refl))
      go (no d) =
          rw (at_put_other xs s x 0 d) (λ some. let r = side x l some in (
            r.0,
            at_put_other ys t (at xs x) 0 (λ q. d (sym r.1 ∙ ap (at ys) q ∙ back)) ∙ r.1,
          ))

  -- s and t trade their neighbours d and e. Where s and t are one slot, so are d and e, and the last write decides
  pub traded : (s t d e : ℕ) → link s ≡ true → link t ≡ true → link d ≡ true → link e ≡ true → at ys d ≡ s → at ys e ≡ t → Side link (put (put xs s e) t d) (put (put ys d t) e s)
  traded s t d e ls lt ld le back_s back-t x l = at_t (ℕ_discrete x t)
    where
      names_s : at (put (put ys d t) e s) e ≡ s
      names_s = let w = within e le in at_put_same (put ys d t) e s (omega arith) (rw length_put (omega arith))

      names_t : Dec (d ≡ e) → at (put (put ys d t) e s) d ≡ t
      names_t (yes q) = ap (at (put (put ys d t) e s)) q ∙ names_s ∙ sym back_s ∙ ap (at ys) q ∙ back-t
      names_t (no q) = at_put_other (put ys d t) e d s q ∙ written_ys d t ld

      at_s : (x ≡ t → ⊥) → Dec (x ≡ s) → Named link (put (put ys d t) e s) x (at (put xs s e) x)
      at_s f (yes q) = rw (q, written_xs s e ls) (λ some. (le, names_s))
      at_s f (no q) =
          rw (at_put_other xs s x e q) (λ some. let r = side x l some in (
            r.0,
            at_put_other (put ys d t) e (at xs x) s (λ h. f (sym r.1 ∙ ap (at ys) h ∙ back-t)) ∙ (at_put_other ys d (at xs x) t (λ h. q (sym r.1 ∙ ap (at ys) h ∙ back_s)) ∙ r.1),
          ))

      at_t : Dec (x ≡ t) → Named link (put (put ys d t) e s) x (at (put (put xs s e) t d) x)
      at_t (yes q) =
          let w = within t lt in
          rw (q, at_put_same (put xs s e) t d (omega arith) (rw length_put (omega arith))) (λ some. (ld, names_t (ℕ_discrete d e)))
      at_t (no q) = rw (at_put_other (put xs s e) t x d q) (at_s q (ℕ_discrete x s))

  -- s is taken out, its neighbours joined; v and w are what stands in its own words
  pub taken_out : (s : ℕ) → link s ≡ true → (still : ℕ → Bool) → ((x : ℕ) → still x ≡ true → (link x ≡ true) × (x ≡ s → ⊥)) → ((x : ℕ) → link x ≡ true → (x ≡ s → ⊥) → still x ≡ true)
      → (v w : ℕ) → Side still (put (put xs (at ys s) (at xs s)) s v) (put (put ys (at xs s) (at ys s)) s w)
  taken_out s ls still was stays v w x l = rw (at_put_other (put xs (at ys s) (at xs s)) s x v (was x l).1) (go (ℕ_discrete x (at ys s)))
    where
      off : x ≡ s → ⊥
      off = (was x l).1

      go : Dec (x ≡ at ys s) → Named still (put (put ys (at xs s) (at ys s)) s w) x (at (put xs (at ys s) (at xs s)) x)
      go (yes e) =
          let here : at (put xs (at ys s) (at xs s)) x ≡ at xs s = rw (← e) (written_xs x (at xs s) (was x l).0) in
          rw here (λ some. let r = side s ls some in
          let away : at xs s ≡ s → ⊥ = λ q. off (e ∙ ap (at ys) (sym q) ∙ r.1) in (
            stays (at xs s) r.0 away,
            at_put_other (put ys (at xs s) (at ys s)) s (at xs s) w away ∙ written_ys (at xs s) (at ys s) r.0 ∙ sym e,
          ))
      go (no e) =
          rw (at_put_other xs (at ys s) x (at xs s) e) (λ some. let r = side x (was x l).0 some in
          let away : at xs x ≡ s → ⊥ = λ q. e (sym r.1 ∙ ap (at ys) q) in (
            stays (at xs x) r.0 away,
            at_put_other (put ys (at xs s) (at ys s)) s (at xs x) w away ∙ (at_put_other ys (at xs s) (at xs x) (at ys s) (λ q. off (sym r.1 ∙ ap (at ys) q ∙ (side s ls (λ z. some (q ∙ z))).1)) ∙ r.1),
          ))
