-- Laws of a slice that is written from the front: `written ws old` has the words ws, and the old words behind them. Assumes nothing.
use Prim.Native.Nat.{ℕ, suc, ◌+◌, ◌-◌, ◌≤◌, ◌<◌}
use mathlib.Core.Path.{◌≡◌, refl, sym, ap, ◌∙◌}
use mathlib.Core.List.{List, [], ◌∷◌, ◌++◌}
use native.Mathlib.Omega.{arith}
use native.Mathlib.Numerals.{add-one}
use lib.ListN.{length, get_or, take, drop, length-append, length-drop, take-append-drop}
use lib.Seq.{sets, sets-eq, take-append_seam, drop-append-add, drop-drop, get_or-append-add, drop-cons, get_or-drop, append_snoc}
use Rattle.definitions.specs.Columns.{at, written}
use Rattle.definitions.proofs.Parts.{at_append_left}

pub written_none : (old : List ℕ) → written [] old ≡ old
unfolding written
written_none old = refl

module _ (ws old : List ℕ) where
  pub length_written : length ws ≤ length old → length (written ws old) ≡ length old
  unfolding written
  length_written room = simp (length-append, length-drop) (omega arith)

  behind : (m : ℕ) → drop (length ws + m) (written ws old) ≡ drop (length ws + m) old
  unfolding written
  behind m = drop-append-add ws (drop (length ws) old) m ∙ drop-drop m (length ws) old

  -- words stored behind those at the front
  pub written_more : (k : ℕ) (vs : List ℕ) → length ws ≡ k → k + length vs ≤ length old → sets (written ws old) k vs ≡ written (ws ++ vs) old
  unfolding written
  written_more k vs e h =
      rw (← e) (sets-eq vs (written ws old) (length ws) (rw (length_written (omega arith)) (omega arith))
      ∙ rw (behind (length vs), take-append_seam ws (drop (length ws) old), ← length-append ws vs) refl)

  -- one word more that is the old one
  pub written_kept : (k : ℕ) → length ws ≡ k → k < length old → written (ws ++ (get_or old k 0 ∷ [])) old ≡ written ws old
  unfolding written
  written_kept k e h =
      rw (← e) (rw (length-append, add-one) (append_snoc ws (get_or old (length ws) 0) (drop (suc (length ws)) old)) ∙ ap (λ (l : List ℕ). ws ++ l) (sym (drop-cons old (length ws) 0 (omega arith))))

  -- the words behind those at the front
  pub written_behind : (j : ℕ) → length ws ≤ j → get_or (written ws old) j 0 ≡ get_or old j 0
  unfolding written
  written_behind j h =
      let e : length ws + (j - length ws) ≡ j = omega arith in
      rw (← e) (get_or-append-add ws (drop (length ws) old) (j - length ws) 0 ∙ get_or-drop (length ws) old (j - length ws) 0)

-- the words at the front
pub written_reads : (ws old : List ℕ) (s : ℕ) → s ≤ length ws → at (written ws old) s ≡ at ws s
unfolding written
written_reads ws old s h = at_append_left ws _ s h

-- the words past those at the front
pub written_rest : (ws old : List ℕ) (n : ℕ) → length ws ≤ n → drop n (written ws old) ≡ drop n old
written_rest ws old n h =
    let e : length ws + (n - length ws) ≡ n = omega arith in
    rw (← e) (behind ws old (n - length ws))

-- a slice is known by its front and the words behind it
pub written_parts : (ws now old : List ℕ) (m : ℕ) → length ws ≡ m → take m now ≡ ws → drop m now ≡ drop m old → now ≡ written ws old
unfolding written
written_parts ws now old m e front rest = sym (take-append-drop m now) ∙ rw (front, rest, e) refl
