-- The loop over the commands: after i of them the arena and the answers are those of the first i. Assumes nothing.
use Prim.Native.Nat.{ℕ, ◌+◌, ◌/◌, ◌%◌, ◌≤◌, ◌<◌}
use mathlib.Core.List.{List, [], ◌∷◌, ◌++◌, map, map-append, append-nil}
use mathlib.Core.Path.{◌≡◌, refl, ◌∙◌}
use native.Mathlib.Nat.{zero-add}
use native.Mathlib.Numerals.{add-one}
use native.Mathlib.Omega.{arith}
use lib.ListN.{length, set, take, drop, length-set, length-map}
use lib.Seq.{length-take-le}
use Rattle.std.proofs.lemmas.List.{drop_all}
use Rattle.definitions.proofs.Slots.{slots_snoc, length_slots}
use Rattle.definitions.proofs.Tests.{tests}
use Rattle.definitions.proofs.Written.{written_more}
use Rattle.definitions.specs.Arena.{Arena}
use Rattle.definitions.specs.Check.{WellFormed}
use Rattle.definitions.specs.Columns.{slots_from, written}
use Rattle.definitions.specs.Reply.{reply}
use Rattle.definitions.specs.Run.{Command, command_at, command_words, applied, answers_of, run}
use Rattle.kept.proofs.Runs.{run_goes_on, answers_go_on, an_answer_each, applied_keeps}
use Rattle.chain_commands.specs.Commands.{Applied}
use Rattle.chain_run.specs.Ran.{AllApplied}

-- the first i commands of the words ws
abbrev pub first_commands : List ℕ → ℕ → List Command
first_commands ws i = map (command_at ws) (slots_from 0 i)

one_more : (ws : List ℕ) (i : ℕ) → first_commands ws (i + 1) ≡ first_commands ws i ++ (command_at ws i ∷ [])
one_more ws i = rw (add-one i, slots_snoc 0 i, map-append, zero-add i) refl

how_many : (ws : List ℕ) (i : ℕ) → length (first_commands ws i) ≡ i
how_many ws i = length-map (slots_from 0 i) (command_at ws) ∙ length_slots 0 i

-- after i commands of the words ws on the arena a₀, with the answers told
pub record Going (top : ℕ) (a₀ : Arena) (ws old : List ℕ) (i : ℕ) (a : Arena) (told : List ℕ) : Type 0 where
  pub within : i ≤ length ws / command_words
  pub arena : a ≡ applied top a₀ (first_commands ws i)
  pub answers : told ≡ written (answers_of top a₀ (first_commands ws i)) old
  pub many : length told ≡ length old

module _ (top : ℕ) (a₀ : Arena) (ws old : List ℕ) where
  pub starts : Going top a₀ ws old 0 a₀ old
  unfolding applied answers_of written slots_from
  starts = record {
    within = omega arith;
    arena = refl;
    answers = refl;
    many = refl;
  }

  -- each arena on the way is well formed
  pub passes : (limit i : ℕ) (a : Arena) (told : List ℕ) → WellFormed limit a₀ → Going top a₀ ws old i a told → WellFormed limit a
  passes limit i a told ok g = rw g.arena (applied_keeps limit top a₀ ok (first_commands ws i))

  pub goes_on : (i : ℕ) (a : Arena) (told : List ℕ) (r : ℕ) (b : Arena) → Going top a₀ ws old i a told → i < length ws / command_words → length ws / command_words ≤ length old
      → Applied top a (command_at ws i) r b → Going top a₀ ws old (i + 1) b (set told i r)
  unfolding applied answers_of
  goes_on i a told r b g l room s =
      let before = answers_of top a₀ (first_commands ws i) in
      let count : length before ≡ i = an_answer_each top a₀ (first_commands ws i) ∙ how_many ws i in
      record {
        within = omega arith;
        arena = s.arena ∙ rw (one_more ws i, run_goes_on top a₀ (first_commands ws i) (command_at ws i ∷ []), ← g.arena) refl;
        answers =
            rw (one_more ws i, answers_go_on top a₀ (first_commands ws i) (command_at ws i ∷ []), ← g.arena, ← s.answer, g.answers)
            (written_more before old i (r ∷ []) count (omega arith));
        many = length-set told i r ∙ g.many;
      }

  -- the answers stand at the front of the words that were lent for them
  pub ends :
      (n i : ℕ) (a : Arena) (told : List ℕ) → Going top a₀ ws (take n old) i a told → n ≡ length ws / command_words → n ≤ length old → length (take n old) ≤ i
      → AllApplied top a₀ ws old a (told ++ drop n old)
  unfolding written
  ends n i a told g e room h =
      let size : length (take n old) ≡ n = length-take-le n old room in
      let last : i ≡ n = omega (arith, g.within) in
      let xs = answers_of top a₀ (first_commands ws n) in
      let count : length xs ≡ n = an_answer_each top a₀ (first_commands ws n) ∙ how_many ws n in
      let none : drop (length xs) (take n old) ≡ [] = drop_all (length xs) (take n old) (omega arith) in
      let whole : told ≡ xs = rw last at g.answers ∙ rw none (append-nil xs) in
      record { arena = rw (← e) (rw last at g.arena); answers = rw (← e, whole, count) refl }

-- a run whose commands are whole and have an answer word each
pub ran : (top : ℕ) (a : Arena) (ws old : List ℕ) (left : Arena) (told : List ℕ) → length ws % command_words ≡ 0 → length ws / command_words ≤ length old → AllApplied top a ws old left told
    → reply 0 [] left told ≡ run top a ws old
unfolding run
ran top a ws old left told whole room s = rw (s.arena, s.answers) (search tests depth 20)
