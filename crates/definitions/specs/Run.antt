-- A run of edits on an arena that passed the check (REFERENCE, Run).
use Rattle.std.specs.Prelude.{ℕ, ◌+◌, ◌*◌, ◌/◌, ◌%◌, cond, not, List, [], ◌∷◌, map, length, get_or, eqb, ltb}
use Rattle.definitions.specs.Columns.{slots_from, written}
use Rattle.definitions.specs.Arena.{Arena}
use Rattle.definitions.specs.Reply.{Reply, reply, refusal}
use Rattle.definitions.specs.Read.{Pointer, pointer}
use Rattle.definitions.specs.Edit.{connect, break_prev, break_next, exchange_next}
use Rattle.definitions.specs.Remove.{remove}
use Rattle.definitions.specs.Insert.{kind_of, insert_coded}

-- a code, two pointers and a payload
pub record Command : Type 0 where
  pub code : ℕ
  pub first : Pointer
  pub second : Pointer
  pub payload : ℕ

-- the number of words of a command
abbrev pub command_words : ℕ
command_words = 6

-- command i, from 0, of the words ws: the code, slot and generation of the first pointer and of the second, the payload (REFERENCE, Run)
abbrev pub command_at : List ℕ → ℕ → Command
command_at ws i =
    let w = command_words * i in
    record {
      code = get_or ws w 0;
      first = pointer (get_or ws (w + 1) 0) (get_or ws (w + 2) 0);
      second = pointer (get_or ws (w + 3) 0) (get_or ws (w + 4) 0);
      payload = get_or ws (w + 5) 0;
    }

-- one command by its code: connect is 1, the breaks are 2 (prev) and 3 (next), exchange is 4, remove is 5, the kinds of insertion are 6 to 19, and any
-- other code is answered 16. Breaks and remove look at the first pointer alone, and only insertions look at the payload (REFERENCE, Run)
unfoldable pub apply : ℕ → Arena → Command → Reply
apply top a c =
    cond (eqb c.code 1) (connect a c.first c.second [])
    (cond (eqb c.code 2) (break_prev a c.first [])
    (cond (eqb c.code 3) (break_next a c.first [])
    (cond (eqb c.code 4) (exchange_next a c.first c.second [])
    (cond (eqb c.code 5) (remove top a c.first []) (insert_coded a (kind_of c.code c.first c.second) c.payload [])))))

-- a list of commands applied one after the other, each on what the one before it left: the arena in the end, and the number of each
unfoldable pub applied : ℕ → Arena → List Command → Arena
applied top a [] = a
applied top a (c ∷ cs) = applied top (apply top a c).arena cs

unfoldable pub answers_of : ℕ → Arena → List Command → List ℕ
answers_of top a [] = []
answers_of top a (c ∷ cs) = (apply top a c).number ∷ answers_of top (apply top a c).arena cs

-- the commands of the words ws
abbrev pub commands_of : List ℕ → List Command
commands_of ws = map (command_at ws) (slots_from 0 (length ws / command_words))

-- 16 if the words are no whole commands, then 14 if the answers are fewer than the commands. Else all are applied, and the numbers fill the answers
-- from the front; these are handed back (REFERENCE, Run)
unfoldable pub run : ℕ → Arena → List ℕ → List ℕ → Reply
run top a ws answers =
    cond (not (eqb (length ws % command_words) 0)) (refusal 16 0 a answers)
    (cond (ltb (length answers) (length ws / command_words)) (refusal 14 0 a answers)
    (reply 0 [] (applied top a (commands_of ws)) (written (answers_of top a (commands_of ws)) answers)))
