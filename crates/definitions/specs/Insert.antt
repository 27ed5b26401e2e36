-- Insertion of a link at one of fourteen places, in an arena that passed the check (REFERENCE, Insert).
use Rattle.std.specs.Prelude.{ℕ, ◌+◌, Bool, cond, not, ◌&&◌, List, [], ◌∷◌, eqb}
use Rattle.definitions.specs.Columns.{at, put}
use Rattle.definitions.specs.Arena.{
  Arena,
  arena,
  capacity,
  stack_length,
  link_count,
  root,
  current,
  with_stack_length,
  with_link_count,
  with_root,
  is_link,
}
use Rattle.definitions.specs.Reply.{Reply, reply, refusal}
use Rattle.definitions.specs.Read.{Pointer, stale}

-- a link as a kind names it: by pointer, or by slot, whatever its generation
pub data Named : Type 0 where
  by_pointer : Pointer → Named
  by_slot : ℕ → Named

unfoldable pub slot_of : Named → ℕ
slot_of (by_pointer p) = p.slot
slot_of (by_slot s) = s

-- there is such a link
unfoldable pub is_there : Arena → Named → Bool
is_there a (by_pointer p) = not (stale a p)
is_there a (by_slot s) = is_link a s

-- the kinds in their order, with the links that they name. Each kind that names links stands for two of the fourteen: by pointer and by slot
-- (REFERENCE, Insert)
pub data InsertKind : Type 0 where
  Disconnected SingleLinkCyclic : InsertKind
  ChainEnd ChainStart NextTo PrevTo : Named → InsertKind
  AtInterlink Bridge : Named → Named → InsertKind

-- what the code of a kind stands for, if it stands for any
pub data Coded : Type 0 where
  kind : InsertKind → Coded
  unknown : Coded

-- the kind of a code, with two pointers of which it takes both, the first, or none; of a pointer a kind by slot takes the slot (REFERENCE, Insert)
unfoldable pub kind_of : ℕ → Pointer → Pointer → Coded
kind_of code p q =
    cond (eqb code 6) (kind Disconnected)
    (cond (eqb code 7) (kind SingleLinkCyclic)
    (cond (eqb code 8) (kind (ChainEnd (by_pointer p)))
    (cond (eqb code 9) (kind (ChainEnd (by_slot p.slot)))
    (cond (eqb code 10) (kind (ChainStart (by_pointer p)))
    (cond (eqb code 11) (kind (ChainStart (by_slot p.slot)))
    (cond (eqb code 12) (kind (NextTo (by_pointer p)))
    (cond (eqb code 13) (kind (NextTo (by_slot p.slot)))
    (cond (eqb code 14) (kind (PrevTo (by_pointer p)))
    (cond (eqb code 15) (kind (PrevTo (by_slot p.slot)))
    (cond (eqb code 16) (kind (AtInterlink (by_pointer p) (by_pointer q)))
    (cond (eqb code 17) (kind (AtInterlink (by_slot p.slot) (by_slot q.slot)))
    (cond (eqb code 18) (kind (Bridge (by_pointer p) (by_pointer q)))
    (cond (eqb code 19) (kind (Bridge (by_slot p.slot) (by_slot q.slot))) unknown)))))))))))))

-- where the new link goes: behind slot u and before slot v, either of them 0 for none; or nowhere
pub data Place : Type 0 where
  nowhere : Place
  between : ℕ → ℕ → Place

unfoldable pub place_if : Bool → ℕ → ℕ → Place
place_if fits u v = cond fits (between u v) nowhere

-- the place that a kind names in the arena; nowhere where what it asks does not hold. t is the slot of the new link (REFERENCE, Insert)
unfoldable pub place_of : Arena → ℕ → InsertKind → Place
place_of a t Disconnected = between 0 0
place_of a t SingleLinkCyclic = between t t
place_of a t (ChainEnd p) = place_if (is_there a p && eqb (at a.next (slot_of p)) 0) (slot_of p) 0
place_of a t (ChainStart p) = place_if (is_there a p && eqb (at a.prev (slot_of p)) 0) 0 (slot_of p)
place_of a t (NextTo p) = place_if (is_there a p) (slot_of p) (at a.next (slot_of p))
place_of a t (PrevTo p) = place_if (is_there a p) (at a.prev (slot_of p)) (slot_of p)
place_of a t (AtInterlink p q) = place_if ((is_there a p && is_there a q) && eqb (at a.next (slot_of p)) (slot_of q)) (slot_of p) (slot_of q)
place_of a t (Bridge p q) = place_if ((is_there a p && is_there a q) && (eqb (at a.next (slot_of p)) 0 && eqb (at a.prev (slot_of q)) 0)) (slot_of p) (slot_of q)

-- the slot of the new link: the root, or the slot after the stack where there is no root (REFERENCE, Insert)
unfoldable pub new_slot : Arena → ℕ
new_slot a = cond (eqb (root a) 0) (stack_length a + 1) (root a)

-- there is no root, and the stack is as long as the columns
unfoldable pub is_full : Arena → Bool
is_full a = eqb (root a) 0 && eqb (stack_length a) (capacity a)

-- the root after the root was taken: where it pointed, or none where it pointed at itself (REFERENCE, Insert)
unfoldable pub root_after : Arena → ℕ
root_after a = cond (eqb (at a.next (root a)) (root a)) 0 (at a.next (root a))

-- the header with one link more: the root is taken, or where there is none the stack is one slot longer
unfoldable pub header_after : Arena → List ℕ
header_after a =
    let more = with_link_count (link_count a + 1) a.header in
    cond (eqb (root a) 0) (with_stack_length (stack_length a + 1) more) (with_root (root_after a) more)

-- the arena with a link of payload x between u and v, in the new slot and of the current generation: the new slot names u and v, and they name it
-- (REFERENCE, Insert)
unfoldable pub inserted : Arena → ℕ → ℕ → ℕ → Arena
inserted a u v x =
    let t = new_slot a in
    arena (put (put a.prev t u) v t) (put (put a.next t v) u t) (put a.generation t (current a)) (put a.payload t x) (header_after a)

-- 17 if there is no place, then 18 if there is no room. Fields: slot and generation of the new link (REFERENCE, Insert)
unfoldable pub insert_at : Arena → Place → ℕ → List ℕ → Reply
insert_at a nowhere x l = refusal 17 2 a l
insert_at a (between u v) x l = cond (is_full a) (refusal 18 2 a l) (reply 0 (new_slot a ∷ current a ∷ []) (inserted a u v x) l)

unfoldable pub insert : Arena → InsertKind → ℕ → List ℕ → Reply
insert a k x l = insert_at a (place_of a (new_slot a) k) x l

-- 16 where the code stands for no kind; else a link of payload x is inserted where the kind says (REFERENCE, Insert)
unfoldable pub insert_coded : Arena → Coded → ℕ → List ℕ → Reply
insert_coded a unknown x l = refusal 16 2 a l
insert_coded a (kind k) x l = insert a k x l
