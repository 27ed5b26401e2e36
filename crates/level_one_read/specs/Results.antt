-- What a call that reads found, as words (REFERENCE, Replies).
use Rattle.std.specs.Prelude.{ℕ, Bool, cond, List, [], ◌∷◌}

-- 1 for yes, 0 for no
abbrev pub yes_words : Bool → List ℕ
yes_words b = cond b 1 0 ∷ []
