-- What a link that was found is like, and that its neighbours are within the stack. Assumes nothing.
use Prim.Native.Nat.{ℕ, ◌≤◌}
use mathlib.Core.Path.{◌≡◌, refl, ap, ap₂}
use mathlib.Core.Bool.{true, false}
use mathlib.Core.List.{List, [], ◌∷◌}
use native.Mathlib.Omega.{arith}
use native.Mathlib.Decide.{ℕ_discrete}
use lib.ListN.{length, get_or}
use Rattle.std.specs.Prelude.{Some, None}
use Rattle.definitions.specs.Columns.{at}
use Rattle.definitions.specs.Arena.{Arena, stack_length, is_link}
use Rattle.definitions.specs.Check.{verdict, names_back}
use Rattle.definitions.specs.Reply.{Reply, reply}
use Rattle.definitions.specs.Read.{Pointer, pointer, stale, get_link, get_link_no_gen}
use Rattle.definitions.proofs.Tests.{by_test}
use Rattle.definitions.proofs.Slots.{allocated_within, allocated_some}
use Rattle.definitions.proofs.Shaped.{shaped, passed_links}
use Rattle.definitions.proofs.Interlinks.{names_back_lem, fine_parts, each_fine}
use Rattle.ptr.specs.declared.Ptr.{Ptr}
use Rattle.ptr.specs.Pointers.{pointer_of}
use Rattle.links.specs.declared.LinkNoGen.{LinkNoGen}
use Rattle.chain_traits.specs.Read.{link_reply, link_no_gen_reply}
use Rattle.chain_traits.proofs.Fresh.{fresh_link}

-- the link l that was found at p: p is not stale, and l has its words
pub record FoundAt (a : Arena) (p : Pointer) (l : LinkNoGen) : Type 0 where
  pub fresh : stale a p ≡ false
  pub prev : l.prev.0 ≡ at a.prev p.slot
  pub next : l.next.0 ≡ at a.next p.slot
  pub payload : l.t ≡ at a.payload p.slot

pub found : (a : Arena) (p : Pointer) (l : LinkNoGen) → link_no_gen_reply (Some l) a [] ≡ get_link_no_gen a p [] → FoundAt a p l
unfolding get_link_no_gen
found a p l e =
    by_test (stale a p)
    (λ s. let z : ◌≡◌ {A = ℕ} 0 12 = ap (λ (r : Reply). r.number) (rw s at e) in absurd (omega arith))
    (λ s.
    let words = ap (λ (r : Reply). r.fields) (rw s at e) in
    record {
      fresh = s;
      prev = ap (λ (ws : List ℕ). get_or ws 0 0) words;
      next = ap (λ (ws : List ℕ). get_or ws 1 0) words;
      payload = ap (λ (ws : List ℕ). get_or ws 2 0) words;
    })

-- found with its neighbours' generations, it is what get_link answers
pub found_link : (a : Arena) (p : Pointer) (l : LinkNoGen) (before after : Ptr) → FoundAt a p l → pointer_of before ≡ pointer l.prev.0 (at a.generation l.prev.0) → pointer_of after ≡ pointer l.next.0 (at a.generation l.next.0) → link_reply (Some (record { prev = before; next = after; t = l.t })) a [] ≡ get_link a p []
unfolding get_link
found_link a p l before after f e g =
    rw (f.fresh, ← f.prev, ← f.next, ← f.payload)
    (ap₂ (λ (b c : Pointer). reply 0 (b.slot ∷ b.generation ∷ c.slot ∷ c.generation ∷ l.t ∷ []) a []) e g)

-- nothing was found at a stale pointer
pub none_found : (a : Arena) (p : Pointer) → link_no_gen_reply None a [] ≡ get_link_no_gen a p [] → link_reply None a [] ≡ get_link a p []
unfolding get_link get_link_no_gen
none_found a p e =
    by_test (stale a p)
    (λ s. rw s refl)
    (λ s. let z : ◌≡◌ {A = ℕ} 12 0 = ap (λ (r : Reply). r.number) (rw s at e) in absurd (omega arith))

-- a neighbour that names back is within the stack, also where there is none
names_back_within : (back gs : List ℕ) (n x s : ℕ) → names_back back gs n x s ≡ true → s ≤ n
names_back_within back gs n x s e = go (ℕ_discrete s 0)
  where
    go : Dec (s ≡ 0) → s ≤ n
    go (yes z) = omega arith
    go (no d) = allocated_within gs n s (names_back_lem back gs n x s e d).0

-- in an arena that passed the check, the neighbours of a link are within the stack
pub neighbours_within : (limit : ℕ) (a : Arena) (x : ℕ) → verdict limit a ≡ 0 → is_link a x ≡ true → (at a.prev x ≤ stack_length a) × (at a.next x ≤ stack_length a)
neighbours_within limit a x v l =
    let n = stack_length a in
    let some = allocated_some a.generation n x l in
    let within = allocated_within a.generation n x l in
    let fine = each_fine a.prev a.next a.generation n n (passed_links limit a v) x some within in
    let sides = fine_parts a.prev a.next a.generation n x fine l in
    (names_back_within a.next a.generation n x (at a.prev x) sides.0, names_back_within a.prev a.generation n x (at a.next x) sides.1)

-- so their generations can be read
pub found_within : (limit : ℕ) (a : Arena) (p : Pointer) (l : LinkNoGen) → verdict limit a ≡ 0 → FoundAt a p l → (l.prev.0 ≤ length a.generation) × (l.next.0 ≤ length a.generation)
found_within limit a p l v f =
    let sides = neighbours_within limit a p.slot v (fresh_link a p f.fresh) in
    let shape = shaped limit a v in
    omega arith
