-- One command is its code's edit. Assumes nothing.
use Prim.Native.Nat.{ℕ, ◌≤◌, ◌<◌}
use mathlib.Core.Bool.{false}
use mathlib.Core.List.{List, []}
use mathlib.Core.Logic.{◌≢◌}
use mathlib.Core.Path.{◌≡◌, refl, sym, ap, ◌∙◌}
use native.Mathlib.Omega.{arith}
use native.Mathlib.Decide.{ℕ_discrete}
use lib.Dec.{eqb}
use borrow.Author.Tests.{ne_eqb}
use Rattle.std.specs.Prelude.{Result, Ok, Err}
use Rattle.definitions.specs.Arena.{Arena}
use Rattle.definitions.specs.Edit.{connect, exchange_next}
use Rattle.definitions.specs.Remove.{remove}
use Rattle.definitions.specs.Insert.{kind_of, insert_coded}
use Rattle.definitions.specs.Reply.{Reply}
use Rattle.definitions.specs.Run.{Command, apply}
use Rattle.links.specs.Links.{removal_reply}
use Rattle.links.specs.declared.InvalidationResult.{InvalidationResult}
use Rattle.links.specs.declared.InvalidationResult.TheVariants.{Success, GenerationOverflow, InvalidPtr}
use Rattle.ptr.specs.declared.Ptr.{Ptr}
use Rattle.ptr.specs.Pointers.{pointer_words}
use Rattle.refusals.specs.declared.Refusal.{Refusal}
use Rattle.refusals.specs.Refusal.{no_words, result_reply}
use Rattle.chain_edits.specs.Edits.{break_side}
use Rattle.chain_commands.specs.Commands.{Applied}

removal_leaves : (r : InvalidationResult) (a : Arena) (l : List ℕ) → (removal_reply r a l).arena ≡ a
removal_leaves (Success x) a l = refl
removal_leaves (GenerationOverflow x) a l = refl
removal_leaves InvalidPtr a l = refl

result_leaves : {A : Type 0} (words : A → List ℕ) (fields : ℕ) (r : Result A Refusal) (a : Arena) (l : List ℕ) → (result_reply words fields r a l).arena ≡ a
result_leaves words fields (Ok x) a l = refl
result_leaves words fields (Err r) a l = refl

-- ---- what each command does

module _ (top : ℕ) (a : Arena) (c : Command) where
  pub connects : 0 < c.code → c.code < 2 → connect a c.first c.second [] ≡ apply top a c
  unfolding apply
  connects low high = let is : c.code ≡ 1 = omega arith in rw is refl

  pub breaks : 2 ≤ c.code → c.code < 4 → break_side a c.first (eqb c.code 3) ≡ apply top a c
  unfolding apply
  breaks low high = elim (ℕ_discrete c.code 3) [ yes three ↦ rw three refl | no other ↦ rw (two other) refl ]
    where
      two : c.code ≢ 3 → c.code ≡ 2
      two other = omega arith

  pub exchanges : 4 ≤ c.code → c.code < 5 → exchange_next a c.first c.second [] ≡ apply top a c
  unfolding apply
  exchanges low high = let is : c.code ≡ 4 = omega arith in rw is refl

  replied : {r : ℕ} {left : Arena} (o : Reply) → o ≡ apply top a c → r ≡ o.number → left ≡ o.arena → Applied top a c r left
  replied o e number arena = record { answer = number ∙ ap (λ (x : Reply). x.number) e; arena = arena ∙ ap (λ (x : Reply). x.arena) e }

  -- an edit of interlinks answers and leaves what it replies
  pub edit : (y : Result (Unit {0}) Refusal) {left : Arena} → result_reply no_words 0 y left [] ≡ apply top a c → Applied top a c (result_reply no_words 0 y left []).number left
  edit y {left} e = replied (result_reply no_words 0 y left []) e refl (sym (result_leaves no_words 0 y left []))

  -- a removal answers and leaves what it replies
  pub removal : c.code ≡ 5 → (x : InvalidationResult) {left : Arena} {r : ℕ} → removal_reply x left [] ≡ remove top a c.first [] → ((b : Arena) (l : List ℕ) → r ≡ (removal_reply x b l).number) → Applied top a c r left
  unfolding apply
  removal code x {left} e number = replied (removal_reply x left []) (e ∙ rw code refl) (number left []) (sym (removal_leaves x left []))

  -- insertions have the codes from 6 on, and are refused with 16 where the code stands for no kind
  pub insertion : c.code ≢ 0 → 5 ≤ c.code → c.code ≢ 5 → (y : Result Ptr Refusal) {left : Arena} → result_reply pointer_words 2 y left [] ≡ insert_coded a (kind_of c.code c.first c.second) c.payload [] → Applied top a c (result_reply pointer_words 2 y left []).number left
  unfolding apply
  insertion zero high five y {left} e = replied (result_reply pointer_words 2 y left []) (e ∙ sym others) refl (sym (result_leaves pointer_words 2 y left []))
    where
      off : (k : ℕ) → k < 6 → eqb c.code k ≡ false
      off k low = ne_eqb c.code k (λ z. omega arith)

      others : apply top a c ≡ insert_coded a (kind_of c.code c.first c.second) c.payload []
      others = rw (off 1 (omega arith), off 2 (omega arith), off 3 (omega arith), off 4 (omega arith), off 5 (omega arith)) refl

  -- code 0 is unknown
  pub no_code : c.code ≡ 0 → Applied top a c 16 a
  unfolding apply kind_of insert_coded
  no_code e = record { answer = rw e refl; arena = rw e refl }
