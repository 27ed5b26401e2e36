-- `canonicalize_freelist` keeps an arena well formed. Up to the highest link every slot reads as before, but for the next of free slots: so the
-- links and their neighbours stay, and the free slots below the highest link, in rising order, are the freelist. Assumes nothing.
use Prim.Native.Nat.{ℕ, ◌≤◌}
use mathlib.Core.Path.{◌≡◌, refl, sym, ◌∙◌}
use mathlib.Core.Bool.{true}
use mathlib.Core.List.{List, [], ◌∷◌}
use native.Mathlib.Omega.{arith}
use lib.ListN.{length, take}
use lib.Seq.{length-take-le}
use Rattle.definitions.specs.Columns.{at, first_or, last_or, settled}
use Rattle.definitions.specs.Arena.{Arena, arena, with_header, allocated, link_slots, free_slots}
use Rattle.definitions.specs.Check.{WellFormed, Freelist}
use Rattle.definitions.specs.Remove.{threaded, canonicalize_freelist}
use Rattle.definitions.proofs.Slots.{allocated_yes, allocated_within, allocated_live}
use Rattle.definitions.proofs.Count.{count_free, only_free}
use Rattle.definitions.proofs.Linked.{linked_agree}
use Rattle.definitions.proofs.Freelist.{free_once}
use Rattle.definitions.proofs.LinkCount.{as_many_links}
use Rattle.definitions.proofs.Parts.{at_take, settled_reads, length_settled}
use Rattle.definitions.proofs.Relisted.{links_to_highest, highest_within, length_threaded, threaded_other, threaded_linked}
use Rattle.kept.proofs.Neighbours.{side_agrees}
use Rattle.kept.proofs.Edits.{long_next}
use Rattle.definitions.proofs.Header.{four_words}

-- a column of which the slots up to m stay, in a stack of n slots
module _ (m n : ℕ) (fewer : m ≤ n) (xs old : List ℕ) (long : n ≤ length xs) where
  front : length (take m xs) ≡ m
  front = length-take-le m xs (omega arith)

  front_reads : (s : ℕ) → s ≤ m → at (settled n (take m xs) old) s ≡ at xs s
  front_reads s h = settled_reads n (take m xs) old s (rw front h) ∙ at_take m xs s h

  front_length : n ≤ length old → length (settled n (take m xs) old) ≡ length old
  front_length h = length_settled n (take m xs) old (rw front fewer) h

-- an arena whose header is taken apart
module _ (limit : ℕ) (ps ns gs vs : List ℕ) (n k r g : ℕ) (ok : WellFormed limit (arena ps ns gs vs (n ∷ k ∷ r ∷ g ∷ []))) where
  abbrev m : ℕ
  m = last_or 0 (link_slots gs n)

  abbrev free : List ℕ
  free = free_slots gs m

  m_within : m ≤ n
  m_within = highest_within gs n

  abbrev ps' : List ℕ
  ps' = settled n (take m ps) ps

  abbrev ns' : List ℕ
  ns' = settled n (take m (threaded ns free)) ns

  abbrev gs' : List ℕ
  gs' = settled n (take m gs) gs

  long_gs : n ≤ length gs
  long_gs = rw ok.generation_length ok.within

  gs_reads : (s : ℕ) → s ≤ m → at gs' s ≡ at gs s
  gs_reads = front_reads m n m_within gs gs long_gs

  ns_reads : (s : ℕ) → s ≤ m → at ns' s ≡ at (threaded ns free) s
  ns_reads = front_reads m n m_within (threaded ns free) ns (rw length_threaded (long_next limit _ ok))

  -- the links are the same
  stays : (x : ℕ) → allocated gs n x ≡ true → allocated gs' m x ≡ true
  stays x l =
      let h = links_to_highest gs n x l in
      allocated_yes gs' m x h (λ e. allocated_live gs n x l (sym (gs_reads x h) ∙ e))

  was : (x : ℕ) → allocated gs' m x ≡ true → allocated gs n x ≡ true
  was x l =
      let h = allocated_within gs' m x l in
      let w = m_within in
      allocated_yes gs n x (omega arith) (λ e. allocated_live gs' m x l (gs_reads x h ∙ e))

  -- and their words
  prev_stays : (x : ℕ) → allocated gs n x ≡ true → at ps' x ≡ at ps x
  prev_stays x l = front_reads m n m_within ps ps ok.within x (links_to_highest gs n x l)

  next_stays : (x : ℕ) → allocated gs n x ≡ true → at ns' x ≡ at ns x
  next_stays x l = ns_reads x (links_to_highest gs n x l) ∙ threaded_other ns free x (λ i. allocated_live gs n x l (only_free gs m x i).2)

  relisted : Freelist (arena ps' ns' gs' (settled n (take m vs) vs) (m ∷ k ∷ first_or 0 free ∷ g ∷ [])) free
  relisted = record {
    starts = refl;
    linked =
        linked_agree (at (threaded ns free)) (at ns') free (last_or 0 free) (λ s i. sym (ns_reads s (only_free gs m s i).1))
        (threaded_linked ns free (free_once gs m free (only_free gs m) (count_free gs m)) (λ x i. let q = only_free gs m x i in (q.0, omega (arith, q.1, m_within, long_next limit _ ok))));
    free = λ s i. let q = only_free gs m s i in (q.0, q.1, gs_reads s q.1 ∙ q.2);
    once = λ s some within z. count_free gs m s some within (sym (gs_reads s within) ∙ z);
  }

  listed_keeps : WellFormed limit (arena ps' ns' gs' (settled n (take m vs) vs) (m ∷ k ∷ first_or 0 free ∷ g ∷ []))
  listed_keeps =
      let size : length ps' ≡ length ps = front_length m n m_within ps ps ok.within ok.within in
      let w = m_within in
      record {
        header = refl;
        small = rw size ok.small;
        next_length = front_length m n m_within (threaded ns free) ns (rw length_threaded (long_next limit _ ok)) (long_next limit _ ok) ∙ ok.next_length ∙ sym size;
        generation_length = front_length m n m_within gs gs long_gs long_gs ∙ ok.generation_length ∙ sym size;
        payload_length = front_length m n m_within vs vs (rw ok.payload_length ok.within) (rw ok.payload_length ok.within) ∙ ok.payload_length ∙ sym size;
        generation = ok.generation;
        within = rw size (omega (arith, ok.within));
        links = ok.links ∙ as_many_links gs gs' n m stays was;
        freelist = (free, relisted);
        prev = side_agrees (allocated gs n) (allocated gs' m) ps ns ps' ns' ok.prev was stays prev_stays next_stays;
        next = side_agrees (allocated gs n) (allocated gs' m) ns ps ns' ps' ok.next was stays next_stays prev_stays;
      }

pub canonicalize_freelist_keeps : (limit : ℕ) (a : Arena) → WellFormed limit a → (l : List ℕ) → WellFormed limit (canonicalize_freelist a l).arena
unfolding canonicalize_freelist
canonicalize_freelist_keeps limit a ok l = four_words Keeps a.header ok.header (λ n k r g w. listed_keeps limit a.prev a.next a.generation a.payload n k r g w) ok
  where
    Keeps : List ℕ → Type 0
    Keeps h =
        let b = with_header a h in
        WellFormed limit b → WellFormed limit (canonicalize_freelist b l).arena
