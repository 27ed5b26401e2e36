-- A run keeps an arena well formed, since each of its commands does; and what comes after some commands is a run on the arena that they left. Assumes
-- nothing.
use Prim.Native.Nat.{ℕ, suc}
use mathlib.Core.Path.{◌≡◌, refl, ap}
use mathlib.Core.List.{List, [], ◌∷◌, ◌++◌}
use lib.ListN.{length}
use Rattle.definitions.specs.Arena.{Arena}
use Rattle.definitions.specs.Check.{WellFormed}
use Rattle.definitions.specs.Run.{Command, apply, applied, answers_of, run}
use Rattle.kept.proofs.Edits.{either_keeps, connect_keeps, break_prev_keeps, break_next_keeps, exchange_next_keeps}
use Rattle.kept.proofs.Removal.{remove_keeps}
use Rattle.kept.proofs.Insertion.{insert_coded_keeps}

-- one command
pub apply_keeps : (limit top : ℕ) (a : Arena) → WellFormed limit a → (c : Command) → WellFormed limit (apply top a c).arena
unfolding apply
apply_keeps limit top a ok c = search (either_keeps, connect_keeps, break_prev_keeps, break_next_keeps, exchange_next_keeps, remove_keeps, insert_coded_keeps) depth 8

-- every list of commands
pub applied_keeps : (limit top : ℕ) (a : Arena) → WellFormed limit a → (cs : List Command) → WellFormed limit (applied top a cs)
unfolding applied
applied_keeps limit top a ok [] = ok
applied_keeps limit top a ok (c ∷ cs) = applied_keeps limit top (apply top a c).arena (apply_keeps limit top a ok c) cs

pub run_keeps : (limit top : ℕ) (a : Arena) → WellFormed limit a → (ws answers : List ℕ) → WellFormed limit (run top a ws answers).arena
unfolding run
run_keeps limit top a ok ws answers = search (either_keeps, applied_keeps)

-- ---- the run of some commands, and then of others

module _ (top : ℕ) where
  -- some commands, and then others
  pub run_goes_on : (a : Arena) (cs ds : List Command) → applied top a (cs ++ ds) ≡ applied top (applied top a cs) ds
  unfolding applied
  run_goes_on a [] ds = refl
  run_goes_on a (c ∷ cs) ds = run_goes_on (apply top a c).arena cs ds

  pub answers_go_on : (a : Arena) (cs ds : List Command) → answers_of top a (cs ++ ds) ≡ answers_of top a cs ++ answers_of top (applied top a cs) ds
  unfolding applied answers_of
  answers_go_on a [] ds = refl
  answers_go_on a (c ∷ cs) ds = ap (λ (l : List ℕ). (apply top a c).number ∷ l) (answers_go_on (apply top a c).arena cs ds)

  -- one answer for each command
  pub an_answer_each : (a : Arena) (cs : List Command) → length (answers_of top a cs) ≡ length cs
  unfolding answers_of
  an_answer_each a [] = refl
  an_answer_each a (c ∷ cs) = ap suc (an_answer_each (apply top a c).arena cs)
