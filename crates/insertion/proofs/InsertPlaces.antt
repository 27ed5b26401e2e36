-- An insertion that is done makes the chain that its kind says, and leaves every other chain and link as it was. Assumes nothing.
use Prim.Native.Nat.{ℕ, ◌≤◌}
use mathlib.Core.Path.{◌≡◌, refl}
use mathlib.Core.Bool.{false}
use mathlib.Core.List.{List, [], ◌∷◌}
use native.Mathlib.Omega.{arith}
use Rattle.definitions.specs.Arena.{Arena, capacity, current}
use Rattle.definitions.specs.Check.{WellFormed, verdict}
use Rattle.definitions.proofs.Tests.{by_test}
use Rattle.definitions.proofs.Columns.{length_put, at_put_same, at_put_other}
use Rattle.well_formed.proofs.WellFormed.{well_formed_if_passes}
use Rattle.chains.proofs.Links.{link_nonzero, link_within, well_formed_linked}
use Rattle.definitions.specs.Insert.{InsertKind, Place, nowhere, between, place_of, new_slot, is_full, inserted, insert_at, insert}
use Rattle.statements.specs.InsertPlaces.{InsertPlaces}
use Rattle.kept.proofs.PutIn.{PutIn, off_new, Fits, fits_if_placed, gap_of}
use Rattle.kept.proofs.Insertion.{inserted_keeps}
use Rattle.insertion.proofs.Places.{makes_one, made_is, others_stay, all_chains}

module _ (limit : ℕ) (a : Arena) (ok : WellFormed limit a) (k : InsertKind) (x : ℕ) where
  abbrev t : ℕ
  t = new_slot a

  inserted_places : (u v : ℕ) → Fits a t k u v → is_full a ≡ false → InsertPlaces a (inserted a u v x) k t x
  unfolding inserted
  inserted_places u v f room =
      let la = well_formed_linked ok in
      let both = inserted_keeps limit a ok u v x room (gap_of a la t k u v f) in
      let b = inserted a u v x in
      let kept : WellFormed limit b = both.0 in
      let in_place : PutIn a b t u v = both.1 in
      let lb = well_formed_linked kept in
      let some = link_nonzero b t in_place.new in
      let fits : t ≤ capacity b = omega (arith, link_within b t in_place.new, kept.within) in
      record {
        made = makes_one a la t u v k f;
        makes = made_is a b la lb t u v in_place k f;
        stay = others_stay a b la lb t u v in_place k f;
        all = all_chains a b la lb t u v in_place k f;
        links = in_place.stays;
        generations = λ s l. at_put_other a.generation t s (current a) (off_new in_place s l);
        payloads = λ s l. at_put_other a.payload t s x (off_new in_place s l);
        fresh = in_place.fresh;
        new = in_place.new;
        only = in_place.was;
        generation = at_put_same a.generation t (current a) some (omega (arith, kept.generation_length, length_put a.generation t (current a)));
        payload = at_put_same a.payload t x some (omega (arith, kept.payload_length, length_put a.payload t x));
      }

  at_place : (p : Place) (l : List ℕ) → ((u v : ℕ) → p ≡ between u v → Fits a t k u v) → (insert_at a p x l).number ≡ 0 → InsertPlaces a (insert_at a p x l).arena k t x
  unfolding insert_at
  at_place nowhere l fits e = absurd (omega arith)
  at_place (between u v) l fits e = by_test (is_full a) (λ q. absurd (omega (arith, rw q at e))) (λ q. rw q (inserted_places u v (fits u v refl) q))

-- where the insertion of a link of payload x is accepted, the new link is in the slot that is answered, and is placed as its kind says
pub insert_places : (limit : ℕ) (a : Arena) → verdict limit a ≡ 0 → (k : InsertKind) (x : ℕ) (l : List ℕ) → (insert a k x l).number ≡ 0 → InsertPlaces a (insert a k x l).arena k (new_slot a) x
unfolding insert
insert_places limit a e k x l done = at_place limit a (well_formed_if_passes limit a e) k x (place_of a (new_slot a) k) l (fits_if_placed a (new_slot a) k) done

-- and what it answers is the new pointer
pub insert_answers : (a : Arena) (k : InsertKind) (x : ℕ) (l : List ℕ) → (insert a k x l).number ≡ 0 → (insert a k x l).fields ≡ new_slot a ∷ current a ∷ []
unfolding insert insert_at
insert_answers a k x l = go (place_of a (new_slot a) k)
  where
    go : (p : Place) → (insert_at a p x l).number ≡ 0 → (insert_at a p x l).fields ≡ new_slot a ∷ current a ∷ []
    go nowhere e = absurd (omega arith)
    go (between u v) e = by_test (is_full a) (λ q. absurd (omega (arith, rw q at e))) (λ q. rw q refl)
