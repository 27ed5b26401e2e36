-- Demand 1, that a refused call has changed nothing (REFERENCE, Demands): `refusal_changes_nothing` says of every call that a reply that is neither 0
-- nor 100 leaves the arena, columns and header, as it was, and hands back the lent slice, or the state of a walk, as it was handed in. Assumes nothing.
use Prim.Native.Nat.{ℕ}
use mathlib.Core.Path.{refl}
use mathlib.Core.Logic.{inl, inr}
use mathlib.Core.Bool.{Bool, true, false}
use mathlib.Core.List.{List, []}
use lib.Dec.{eqb}
use Rattle.definitions.specs.Arena.{Arena}
use Rattle.definitions.specs.Check.{verdict}
use Rattle.definitions.specs.Reply.{Reply, reply}
use Rattle.definitions.specs.Edit.{done_number}
use Rattle.definitions.specs.Run.{Command, apply}
use Rattle.definitions.specs.Calls.{Call, reply_to}
use Rattle.definitions.proofs.Tests.{by_test}
use Rattle.statements.specs.Demand3.{Accepted}
use Rattle.statements.specs.EveryCall.{Unchanged}
use Rattle.every_call.proofs.OwnReplies.{Own, refused, done, own_reply, own_command}

is_accepted : (over : Bool) (fs : List ℕ) (b : Arena) (m : List ℕ) → Accepted (reply (done_number over) fs b m)
is_accepted true fs b m = inr refl
is_accepted false fs b m = inl refl

own_unchanged : (a : Arena) (l : List ℕ) (r : Reply) → Own a l r → Unchanged a l r
own_unchanged a l r (refused k n above) = record { arena = λ no. refl; back = λ no. refl }
own_unchanged a l r (done over fs b m) = record { arena = λ no. absurd (no (is_accepted over fs b m)); back = λ no. absurd (no (is_accepted over fs b m)) }

pub refusal_changes_nothing : (limit top : ℕ) (c : Call) (a : Arena) (l : List ℕ) → Unchanged a l (reply_to limit top c a l)
unfolding reply_to
refusal_changes_nothing limit top c a l =
    by_test (eqb (verdict limit a) 0)
    (λ t. rw t (own_unchanged a l _ (own_reply a l top c)))
    (λ t. rw t (record { arena = λ no. refl; back = λ no. refl }))

-- and of a command of a run
pub refused_command : (top : ℕ) (a : Arena) (c : Command) → Unchanged a [] (apply top a c)
refused_command top a c = own_unchanged a [] _ (own_command top a c)
