-- Insertion by its public call: `done_insert_places` says where the link of an insertion that is done went, `seventeen_exactly_by_call` when it has
-- no place, `full_exactly_by_call` when there is no room, `sixteen_exactly` when there is no such kind, and `insertion_answers` which words an
-- inserting command of a run answers. And arenas that grow: `grown_from_empty` says that an arena without links, after calls of any sort and number,
-- still passes the check, and that its compression keeps to demand 3. Assumes nothing.
use Prim.Native.Nat.{ℕ, ◌≤◌}
use mathlib.Core.Path.{◌≡◌, refl, sym, ap, ◌∙◌}
use mathlib.Core.Logic.{◌⊎◌, inl, inr, ◌↔◌}
use mathlib.Core.Bool.{false}
use mathlib.Core.List.{List, [], ◌∷◌, map}
use native.Mathlib.Omega.{arith}
use native.Mathlib.Decide.{dec_le}
use lib.ListN.{length, take}
use lib.Dec.{eqb}
use borrow.Author.Tests.{eq-eqb, eqb-true, eqb-false, ne_eqb}
use Rattle.definitions.specs.Columns.{at}
use Rattle.definitions.specs.Arena.{Arena, arena, capacity, link_count, current}
use Rattle.definitions.specs.Check.{verdict}
use Rattle.definitions.specs.Reply.{Reply, reply}
use Rattle.definitions.specs.Read.{Pointer}
use Rattle.definitions.specs.Insert.{InsertKind, Place, nowhere, between, place_of, new_slot, is_full, insert_at, insert, Coded, kind, unknown, kind_of, insert_coded}
use Rattle.definitions.specs.Run.{Command, apply}
use Rattle.definitions.specs.Calls.{Insert, accepted, reply_to, Made, arena_after}
use Rattle.definitions.proofs.Codes.{no_kind, has_kind}
use Rattle.definitions.proofs.Tests.{by_test}
use Rattle.statements.specs.Chains.{Chain, Alike, Listing, pieces, Paired, HoldTheSame}
use Rattle.statements.specs.Demand3.{Accepted, Agree, Further, made, compress, Compressed, OfOne, Unmoved}
use Rattle.statements.specs.InsertPlaces.{Makes, AllThere, InsertPlaces}
use Rattle.insertion.proofs.Empty.{empty_passes}
use Rattle.insertion.proofs.NoPlace.{seventeen_exactly}
use Rattle.insertion.proofs.Full.{full_exactly}
use Rattle.insertion.proofs.InsertPlaces.{insert_places, insert_answers}
use Rattle.demand3.proofs.Demand3.{demand_3_at}
use Rattle.every_call.proofs.EveryCallKeeps.{any_calls_keep}
use Rattle.every_call.proofs.CapacityStays.{capacity_after_calls}

-- ---- the public call

-- a kind is never answered 16
not_sixteen : (a : Arena) (x : ℕ) (l : List ℕ) (k : InsertKind) → (insert a k x l).number ≡ 16 → ⊥
unfolding insert insert_at
not_sixteen a x l k = at_place (place_of a (new_slot a) k)
  where
    at_place : (p : Place) → (insert_at a p x l).number ≡ 16 → ⊥
    at_place nowhere e = omega (arith, e)
    at_place (between u v) e = by_test (is_full a) (λ t. omega (arith, rw t at e)) (λ t. omega (arith, rw t at e))

module _ (limit top : ℕ) (a : Arena) (p q : Pointer) (code x : ℕ) (l : List ℕ) where
  abbrev replied : Reply
  replied = reply_to limit top (Insert code p q x) a l

  -- where the check passes the reply is that of the kind, and 16 where the code stands for none
  pub insert_by_call : verdict limit a ≡ 0 → (k : InsertKind) → kind_of code p q ≡ kind k → replied ≡ insert a k x l
  unfolding reply_to accepted insert_coded
  insert_by_call passes k e = rw (eq-eqb (verdict limit a) 0 passes, e) refl

  pub no_such_kind : verdict limit a ≡ 0 → kind_of code p q ≡ unknown → replied ≡ reply 16 (0 ∷ 0 ∷ []) a l
  unfolding reply_to accepted insert_coded
  no_such_kind passes e = rw (eq-eqb (verdict limit a) 0 passes, e) refl

  pub full_exactly_by_call : verdict limit a ≡ 0 → (k : InsertKind) → kind_of code p q ≡ kind k → (replied.number ≡ 18) ↔ ((place_of a (new_slot a) k ≡ nowhere → ⊥) × (link_count a ≡ capacity a))
  full_exactly_by_call passes k e = rw (insert_by_call passes k e) (full_exactly limit a passes k x l)

  -- 17 comes exactly where, of the links that the kind names, one is not there, or there is no chain that it could make with them
  pub seventeen_exactly_by_call : verdict limit a ≡ 0 → (k : InsertKind) → kind_of code p q ≡ kind k → (replied.number ≡ 17) ↔ (AllThere a k → (d : Chain) → Makes a (new_slot a) k d → ⊥)
  seventeen_exactly_by_call passes k e = rw (insert_by_call passes k e) (seventeen_exactly limit a passes k x l)

  -- 16 comes exactly where the code is none of 6 to 19
  pub sixteen_exactly : verdict limit a ≡ 0 → (replied.number ≡ 16) ↔ ((code ≤ 5) ⊎ (20 ≤ code))
  sixteen_exactly passes = (refused, λ outside. ap (λ (r : Reply). r.number) (no_such_kind passes (no_kind code p q outside)))
    where
      by_kind : (c : Coded) → kind_of code p q ≡ c → replied.number ≡ 16 → kind_of code p q ≡ unknown
      by_kind unknown e sixteen = e
      by_kind (kind k) e sixteen = absurd (not_sixteen a x l k (ap (λ (r : Reply). r.number) (sym (insert_by_call passes k e)) ∙ sixteen))

      refused : replied.number ≡ 16 → (code ≤ 5) ⊎ (20 ≤ code)
      refused sixteen = elim (dec_le code 5) [
        | yes low ↦ inl low
        | no over ↦ elim (dec_le 20 code) [
          | yes high ↦ inr high
          | no under ↦ absurd (has_kind code p q (omega arith) (omega arith) (by_kind (kind_of code p q) refl sixteen))
        ]
      ]

  -- what is said of an insertion that is done: its code stands for a kind, the answer is the new pointer, and the link is placed as the kind says
  abbrev Placed : Type 0
  Placed = (k : InsertKind) × (kind_of code p q ≡ kind k) × (replied.fields ≡ new_slot a ∷ current a ∷ []) × InsertPlaces a replied.arena k (new_slot a) x

  passed : replied.number ≡ 0 → verdict limit a ≡ 0
  unfolding reply_to
  passed done = by_test (eqb (verdict limit a) 0) (eqb-true (verdict limit a) 0) (λ t. absurd (eqb-false (verdict limit a) 0 t (rw t at done)))

  placed : (c : Coded) → kind_of code p q ≡ c → replied.number ≡ 0 → Placed
  placed unknown e done = absurd (omega (arith, ap (λ (r : Reply). r.number) (no_such_kind (passed done) e)))
  placed (kind k) e done =
      let same = insert_by_call (passed done) k e in
      let number : (insert a k x l).number ≡ 0 = ap (λ (r : Reply). r.number) (sym same) ∙ done in
      (k, e, rw same (insert_answers a k x l number), rw same (insert_places limit a (passed done) k x l number))

  pub done_insert_places : replied.number ≡ 0 → Placed
  done_insert_places = placed (kind_of code p q) refl

-- ---- in a run

-- a command with the code of a kind answers 0, 17 or 18
module _ (a : Arena) (x : ℕ) where
  abbrev Answered : ℕ → Type 0
  Answered w = (w ≡ 0) ⊎ ((w ≡ 17) ⊎ (w ≡ 18))

  at_place : (p : Place) → Answered (insert_at a p x []).number
  unfolding insert_at
  at_place nowhere = inr (inl refl)
  at_place (between u v) = by_test (is_full a) (λ t. rw t (inr (inr refl))) (λ t. rw t (inl refl))

pub insertion_answers : (top : ℕ) (a : Arena) (c : Command) → 6 ≤ c.code → c.code ≤ 19 → ((apply top a c).number ≡ 0) ⊎ (((apply top a c).number ≡ 17) ⊎ ((apply top a c).number ≡ 18))
unfolding apply
insertion_answers top a c low high = rw (off 1 (omega arith), off 2 (omega arith), off 3 (omega arith), off 4 (omega arith), off 5 (omega arith)) (some_kind (kind_of c.code c.first c.second) refl)
  where
    off : (k : ℕ) → k ≤ 5 → eqb c.code k ≡ false
    off k small = ne_eqb c.code k (λ e. omega arith)

    some_kind : (k : Coded) → kind_of c.code c.first c.second ≡ k → Answered a c.payload (insert_coded a k c.payload []).number
    some_kind (kind k) e = unfold insert_coded insert in at_place a c.payload (place_of a (new_slot a) k)
    some_kind unknown e = absurd (has_kind c.code c.first c.second low high e)

-- ---- from an empty arena on

pub grown_from_empty : (limit top c g : ℕ) (ps ns gs vs : List ℕ) → length ps ≡ c → length ns ≡ c → length gs ≡ c → length vs ≡ c → c ≤ limit → 2 ≤ g → (ms : List Made) →
    let a = arena_after limit top ms (arena ps ns gs vs (0 ∷ 0 ∷ 0 ∷ g ∷ [])) in
    (verdict limit a ≡ 0)
    × ((f : Further) → length f.where_from ≡ c →
    let r = compress limit top f a in
    Accepted r
    × OfOne limit top a r.arena (take (link_count a) r.back) (link_count a) (pieces (at r.arena.next) (link_count a))
    × ((cs ds : List Chain) → Listing a cs → Listing a ds → Paired Alike cs ds)
    × ((b b' : Arena) (col : List ℕ) → Compressed limit top b b' col → link_count a ≡ link_count b → Agree r.arena b' (link_count a) → HoldTheSame a b)
    × ((fs : List Further) → Unmoved limit top r.arena (map made fs) (link_count a)))
grown_from_empty limit top c g ps ns gs vs lp ln lg lv small two ms =
    let a = arena_after limit top ms (arena ps ns gs vs (0 ∷ 0 ∷ 0 ∷ g ∷ [])) in
    let d = demand_3_at limit top in
    let passes = any_calls_keep limit top ms (arena ps ns gs vs (0 ∷ 0 ∷ 0 ∷ g ∷ [])) (empty_passes limit c g ps ns gs vs lp ln lg lv small two) in
    let as_long : capacity a ≡ c = capacity_after_calls limit top ms (arena ps ns gs vs (0 ∷ 0 ∷ 0 ∷ g ∷ [])) ∙ lp in
    let done : (f : Further) → length f.where_from ≡ c → Accepted (compress limit top f a) = λ f long. d.accepted a f passes (long ∙ sym as_long) in
    let compressed : (f : Further) → length f.where_from ≡ c → Compressed limit top a (compress limit top f a).arena (compress limit top f a).back = λ f long.
    record { call = f; accepted = done f long; left = refl; where_from = refl } in (
      passes,
      λ f long. (
        done f long,
        d.one a _ _ (compressed f long),
        d.listings a _ _ (compressed f long),
        λ b b' col other. d.same a b _ b' _ col (compressed f long) other,
        d.unmoved a _ _ (compressed f long),
      ),
    )
