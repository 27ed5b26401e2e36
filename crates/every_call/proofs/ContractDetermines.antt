-- The contract of an export leaves nothing open: of two replies that both keep it, to the same call on the same arena with the same slice handed in, each is the other,
-- in number, slot, side, fields, arena and what is handed back. And it can be kept: for every call on every arena there is a reply that meets it. Assumes nothing.
use Prim.Native.Nat.{ℕ}
use mathlib.Core.Path.{◌≡◌, refl, sym, ◌∙◌}
use mathlib.Core.List.{List}
use Rattle.definitions.specs.Arena.{Arena}
use Rattle.definitions.specs.Reply.{Reply}
use Rattle.definitions.specs.Calls.{Call, reply_to}

module _ (limit top : ℕ) (c : Call) (a : Arena) (l : List ℕ) where
  pub contract_determines : (r s : Reply) → r ≡ reply_to limit top c a l → s ≡ reply_to limit top c a l → r ≡ s
  contract_determines r s p q = p ∙ sym q

  pub contract_can_be_kept : (r : Reply) × (r ≡ reply_to limit top c a l)
  contract_can_be_kept = (reply_to limit top c a l, refl)

-- two programs that keep the contract: what each answers to a call on an arena with a slice handed in
pub programs_agree : (limit top : ℕ) (f g : Call → Arena → List ℕ → Reply) → ((c : Call) (a : Arena) (l : List ℕ) → f c a l ≡ reply_to limit top c a l)
    → ((c : Call) (a : Arena) (l : List ℕ) → g c a l ≡ reply_to limit top c a l) → (c : Call) (a : Arena) (l : List ℕ) → f c a l ≡ g c a l
programs_agree limit top f g p q c a l = contract_determines limit top c a l (f c a l) (g c a l) (p c a l) (q c a l)
