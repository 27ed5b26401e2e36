-- The replies of connect and exchange_next, by what was read and what was written. Assumes nothing.
use Prim.Native.Nat.{ℕ}
use mathlib.Core.Bool.{false}
use mathlib.Core.List.{List, []}
use mathlib.Core.Logic.{◌≢◌, ◌⊎◌, inl, inr}
use mathlib.Core.Path.{◌≡◌, refl, sym, ◌∙◌}
use borrow.Author.Tests.{eq-eqb, ne_eqb}
use Rattle.definitions.specs.Arena.{Arena, with_links}
use Rattle.definitions.specs.Columns.{at, put}
use Rattle.definitions.specs.Edit.{no_next, connect, exchange_next}
use Rattle.definitions.proofs.Tests.{the_second}
use Rattle.definitions.specs.Read.{Pointer, stale}
use Rattle.definitions.specs.Reply.{reply, refusal}

-- the word x was read as k, and there is one
pub is_some : {k x : ℕ} → k ≡ x → k ≢ 0 → x ≢ 0
is_some e d z = d (e ∙ z)

-- neither link has a neighbour there, and both are written
pub connected : (a : Arena) (p q : Pointer) {x y : ℕ} {ps ns : List ℕ} → stale a p ≡ false → stale a q ≡ false
    → x ≡ at a.next p.slot → y ≡ at a.prev q.slot → x ≡ 0 → y ≡ 0
    → ps ≡ put a.prev q.slot p.slot → ns ≡ put a.next p.slot q.slot → reply 0 [] (with_links a ps ns) [] ≡ connect a p q []
unfolding connect
connected a p q fp fq ex ey zx zy ep en = rw (ep, en, fp, fq, eq-eqb _ 0 (sym ex ∙ zx), eq-eqb _ 0 (sym ey ∙ zy)) refl

-- one of two links has no next
pub none_to_exchange : (a : Arena) (p q : Pointer) {d e : ℕ} → stale a p ≡ false → stale a q ≡ false → d ≡ at a.next p.slot → e ≡ at a.next q.slot → (d ≡ 0) ⊎ ((d ≢ 0) × (e ≡ 0))
    → refusal 13 0 a [] ≡ exchange_next a p q []
unfolding exchange_next
none_to_exchange a p q fp fq ed ee (inl z) = rw (fp, fq, eq-eqb _ 0 (sym ed ∙ z)) refl
none_to_exchange a p q fp fq ed ee (inr (some, z)) = rw (fp, fq, the_second (no_next a p) (no_next a q) (eq-eqb _ 0 (sym ee ∙ z))) refl

-- d and e, the nexts that were read, change places
pub exchanged : (a : Arena) (p q : Pointer) {d e : ℕ} {ps ns : List ℕ} → stale a p ≡ false → stale a q ≡ false
    → d ≡ at a.next p.slot → e ≡ at a.next q.slot → d ≢ 0 → e ≢ 0
    → ps ≡ put (put a.prev d q.slot) e p.slot → ns ≡ put (put a.next p.slot e) q.slot d → reply 0 [] (with_links a ps ns) [] ≡ exchange_next a p q []
unfolding exchange_next
exchanged a p q fp fq ed ee dd de ep en = rw (ep, en, ed, ee, fp, fq, ne_eqb _ 0 (is_some ed dd), ne_eqb _ 0 (is_some ee de)) refl
