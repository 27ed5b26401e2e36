-- The public call: which compressions are accepted, and what an accepted one left. A refusal's number is 1 to 11 or 14, never 0 or 100. Assumes nothing.
use Prim.Native.Nat.{ℕ, ◌≤◌}
use mathlib.Core.Path.{◌≡◌, refl, sym, ap, ◌∙◌}
use mathlib.Core.Logic.{◌≢◌, ◌⊎◌, inl, inr}
use mathlib.Core.Bool.{Bool, true, false, cond}
use mathlib.Core.List.{List, []}
use native.Mathlib.Omega.{arith}
use native.Mathlib.Decide.{ℕ_discrete}
use lib.ListN.{length, take}
use borrow.Author.Tests.{eq-eqb, ne_eqb}
use Rattle.definitions.specs.Columns.{settled}
use Rattle.definitions.specs.Arena.{Arena, capacity, stack_length, link_count, current}
use Rattle.definitions.specs.Check.{verdict, WellFormed}
use Rattle.definitions.specs.Reply.{Reply, reply, refusal}
use Rattle.definitions.specs.Edit.{overflows, done_number}
use Rattle.definitions.specs.Compress.{raises, compress_generation, compress_number, relocate, compress_canonical}
use Rattle.definitions.specs.Calls.{CompressCanonical, accepted, refused_by_check, reply_to}
use Rattle.statements.specs.Demand3.{Accepted, Further, compress, Compressed}
use Rattle.definitions.proofs.Numbers.{verdict_most}
use Rattle.definitions.proofs.Parts.{take_settled}
use Rattle.well_formed.proofs.WellFormed.{well_formed_if_passes}
use Rattle.renaming.proofs.CompressWith.{compress_generation_two}
use Rattle.demand3.proofs.Order.{canonical_order}
use Rattle.demand3.proofs.Equivalence.{links_laid, canonical_accepted, canonical_refused}

-- ---- the numbers of answers

-- 0, or 100 where the generation overflowed
pub number_accepts : (top : ℕ) (reset : Bool) (a : Arena) → (compress_number top reset a ≡ 0) ⊎ (compress_number top reset a ≡ 100)
unfolding compress_number
number_accepts top reset a = go (raises reset a) (overflows top (current a))
  where
    go : (r o : Bool) → (cond r (done_number o) 0 ≡ 0) ⊎ (cond r (done_number o) 0 ≡ 100)
    go false o = inl refl
    go true false = inl refl
    go true true = inr refl

-- ---- the reply

module _ (limit top : ℕ) (f : Further) (a : Arena) where
  abbrev where_from : List ℕ
  where_from = f.where_from

  abbrev g : ℕ
  g = compress_generation top f.reset a

  pub reply_checked : verdict limit a ≡ 0 → compress limit top f a ≡ compress_canonical top f.reset a f.where_from
  unfolding reply_to accepted
  reply_checked e = rw (eq-eqb (verdict limit a) 0 e)

  pub reply_unchecked : verdict limit a ≢ 0 → compress limit top f a ≡ refused_by_check limit (length (accepted top (CompressCanonical f.reset) a f.where_from).fields) a f.where_from
  unfolding reply_to
  reply_unchecked d = rw (ne_eqb (verdict limit a) 0 d)

  module _ (passed : verdict limit a ≡ 0) where
    ok : WellFormed limit a
    ok = well_formed_if_passes limit a passed

    pub reply_done : length f.where_from ≡ capacity a →
        compress limit top f a ≡
        reply (compress_number top f.reset a) [] (relocate (canonical_order a) (compress_generation top f.reset a) a) (settled (stack_length a) (canonical_order a) f.where_from)
    reply_done e = reply_checked passed ∙ canonical_accepted limit top a ok f.reset where_from e

    pub reply_fourteen : length f.where_from ≢ capacity a → compress limit top f a ≡ refusal 14 0 a f.where_from
    reply_fourteen d = reply_checked passed ∙ canonical_refused limit top a ok f.reset where_from d

    pub done_accepted : length f.where_from ≡ capacity a → Accepted (compress limit top f a)
    done_accepted e = rw (reply_done e) (number_accepts top f.reset a)

    pub fourteen_refused : length f.where_from ≢ capacity a → Accepted (compress limit top f a) → ⊥
    fourteen_refused d r = go (rw (reply_fourteen d) at r)
      where
        go : (◌≡◌ {A = ℕ} 14 0) ⊎ (◌≡◌ {A = ℕ} 14 100) → ⊥
        go (inl e) = omega (arith, e)
        go (inr e) = omega (arith, e)

  pub unchecked_refused : verdict limit a ≢ 0 → Accepted (compress limit top f a) → ⊥
  unchecked_refused d r = go (rw (reply_unchecked d) at r)
    where
      go : (verdict limit a ≡ 0) ⊎ (verdict limit a ≡ 100) → ⊥
      go (inl e) = d e
      go (inr e) = omega (arith, e, verdict_most limit a)

-- ---- what an accepted compression left

pub record Left (limit : ℕ) (a b : Arena) (col : List ℕ) : Type 0 where
  pub ok : WellFormed limit a
  pub g : ℕ
  pub two : 2 ≤ g
  pub is : b ≡ relocate (canonical_order a) g a
  pub from : take (link_count a) col ≡ canonical_order a
  pub size : length (canonical_order a) ≡ link_count a

pub what_is_left : (limit top : ℕ) (a b : Arena) (col : List ℕ) → Compressed limit top a b col → Left limit a b col
what_is_left limit top a b col z = go (ℕ_discrete (verdict limit a) 0) (ℕ_discrete (length z.call.where_from) (capacity a))
  where
    f : Further
    f = z.call

    go : Dec (verdict limit a ≡ 0) → Dec (length z.call.where_from ≡ capacity a) → Left limit a b col
    go (no d) e = absurd (unchecked_refused limit top f a d z.accepted)
    go (yes p) (no d) = absurd (fourteen_refused limit top f a p d z.accepted)
    go (yes p) (yes e) =
        let ok = well_formed_if_passes limit a p in
        let done = reply_done limit top f a p e in
        let size = links_laid limit top a ok f.reset f.where_from in
        record {
          ok = ok;
          g = compress_generation top f.reset a;
          two = compress_generation_two top f.reset a ok.generation;
          is = sym z.left ∙ ap (λ (r : Reply). r.arena) done;
          from = ap (take (link_count a)) (sym z.where_from ∙ ap (λ (r : Reply). r.back) done) ∙
              (ap (λ (n : ℕ). take n (settled (stack_length a) (canonical_order a) f.where_from)) (sym size) ∙ take_settled (stack_length a) (canonical_order a) f.where_from);
          size = size;
        }
