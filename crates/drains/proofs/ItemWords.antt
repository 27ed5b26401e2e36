-- The words of a drain's items that no other removal changes: generation and payload are the link's own. Assumes nothing.
use Prim.Native.Nat.{ℕ, zero, suc, ◌+◌, ◌*◌, ◌<◌}
use mathlib.Core.Path.{◌≡◌, refl, ◌∙◌}
use mathlib.Core.List.{List, [], ◌∷◌, ◌++◌}
use native.Mathlib.Omega.{arith}
use lib.ListN.{length, get_or}
use Rattle.definitions.specs.Columns.{at}
use Rattle.definitions.specs.Arena.{Arena}
use Rattle.definitions.specs.Remove.{removed, drain_items}
use Rattle.definitions.proofs.Columns.{at_suc, at_put_other}
use Rattle.definitions.proofs.Count.{In, Once, once_rest, once_first}
use Rattle.definitions.proofs.Parts.{in_at}
use Rattle.drains.proofs.Removed.{generation_left, payload_left}

-- word j of an item is read from a column in which a removal changes the removed slot alone
module _ (top j : ℕ) (column : Arena → List ℕ) (reads : (a : Arena) (s : ℕ) (rest : List ℕ) → get_or (s ∷ at a.generation s ∷ at a.prev s ∷ at a.next s ∷ at a.payload s ∷ rest) j 0 ≡ at (column a) s)
    (stays : (a : Arena) (s x : ℕ) → (x ≡ s → ⊥) → at (column (removed top a s)) x ≡ at (column a) x) where
  word_drained : (a : Arena) (ss rest : List ℕ) → Once ss → (k : ℕ) → k < length ss → get_or (drain_items top a ss ++ rest) (5 * k + j) 0 ≡ at (column a) (get_or ss k 0)
  unfolding drain_items
  word_drained a [] rest once k within = absurd (omega arith)
  word_drained a (s ∷ ss) rest once zero within =
      let e : 5 * 0 + j ≡ j = omega arith in
      rw e (reads a s (drain_items top (removed top a s) ss ++ rest))
  word_drained a (s ∷ ss) rest once (suc k) within =
      let e : 5 * suc k + j ≡ suc (suc (suc (suc (suc (5 * k + j))))) = omega arith in
      let member : In (get_or ss k 0) ss = rw at_suc at (in_at ss (suc k) (omega arith) (omega arith)) in
      rw e
      (word_drained (removed top a s) ss rest (once_rest s ss once) k (omega arith)
      ∙ stays a s (get_or ss k 0) (λ f. once_first s ss once (rw f at member)))

pub generations_drained : (top : ℕ) (a : Arena) (ss rest : List ℕ) → Once ss → (k : ℕ) → k < length ss → get_or (drain_items top a ss ++ rest) (5 * k + 1) 0 ≡ at a.generation (get_or ss k 0)
generations_drained top = word_drained top 1 (λ a. a.generation) (λ a s rest. refl) (λ a s x d. rw (generation_left top a s) (at_put_other a.generation s x 0 d))

pub payloads_drained : (top : ℕ) (a : Arena) (ss rest : List ℕ) → Once ss → (k : ℕ) → k < length ss → get_or (drain_items top a ss ++ rest) (5 * k + 4) 0 ≡ at a.payload (get_or ss k 0)
payloads_drained top = word_drained top 4 (λ a. a.payload) (λ a s rest. refl) (λ a s x d. rw (payload_left top a s) (at_put_other a.payload s x 0 d))
