-- Words of a column by slot, and lists of slots. The word of slot s has index s − 1 (REFERENCE, Arena).
use Rattle.std.specs.Prelude.{ℕ, zero, suc, ◌+◌, ◌-◌, ◌≡◌, Bool, cond, List, [], ◌∷◌, ◌++◌, length, get_or, set, drop, replicate, eqb}

-- the word of column xs at slot s; 0 for slot 0 and for a slot that the column does not reach
unfoldable pub at : List ℕ → ℕ → ℕ
at xs zero = 0
at xs (suc i) = get_or xs i 0

-- column xs with v at slot s; unchanged for slot 0 and for a slot that the column does not reach
unfoldable pub put : List ℕ → ℕ → ℕ → List ℕ
put xs zero v = xs
put xs (suc i) v = set xs i v

-- how often x stands in a list
unfoldable pub count : ℕ → List ℕ → ℕ
count x [] = 0
count x (y ∷ ys) = cond (eqb x y) 1 0 + count x ys

-- the first of a list, and its last; z where it is empty
unfoldable pub first_or : ℕ → List ℕ → ℕ
first_or z [] = z
first_or z (x ∷ xs) = x

unfoldable pub last_or : ℕ → List ℕ → ℕ
last_or z [] = z
last_or z (x ∷ xs) = last_or x xs

-- next leads from each member of a list to the one after it, and from the last one to z
unfoldable pub Linked : (ℕ → ℕ) → List ℕ → ℕ → Type 0
Linked next [] z = Unit {0}
Linked next (s ∷ ss) z = (next s ≡ first_or z ss) × Linked next ss z

-- k slots from s on, in rising order
unfoldable pub slots_from : ℕ → ℕ → List ℕ
slots_from s zero = []
slots_from s (suc k) = s ∷ slots_from (suc s) k

-- the members of a list that pass a test, in their order
unfoldable pub keep : (ℕ → Bool) → List ℕ → List ℕ
keep test [] = []
keep test (x ∷ xs) = cond (test x) (x ∷ keep test xs) (keep test xs)

-- a lent slice that is filled from its front with the words ws; the words after them stay (REFERENCE, Replies)
unfoldable pub written : List ℕ → List ℕ → List ℕ
written ws old = ws ++ drop (length ws) old

-- a column that gets the words ws from slot 1 on and 0 in the slots after them up to n, the old stack length; the words above n stay
unfoldable pub settled : ℕ → List ℕ → List ℕ → List ℕ
settled n ws old = ws ++ (replicate (n - length ws) 0 ++ drop n old)
