-- The exchange in place is the definition's exchange of two slots, as far as links are concerned. The definition renames slots i and t in every word;
-- the code writes only where a neighbour of the two names them. Where links name each other back that is the same: a link names t exactly if it is a
-- neighbour of the link in t. Neighbours of each other, a free occupant and a single closed link need no case of their own. Assumes nothing.
use Prim.Native.Nat.{ℕ, ◌≤◌}
use mathlib.Core.Path.{◌≡◌, refl, sym, ap, ◌∙◌}
use mathlib.Core.Logic.{◌≢◌}
use mathlib.Core.Bool.{false, true≢false}
use mathlib.Core.List.{List}
use native.Mathlib.Omega.{arith}
use native.Mathlib.Decide.{ℕ_discrete, dec_le}
use lib.ListN.{length}
use borrow.Author.Tests.{le-leb, lt-leb}
use Rattle.definitions.specs.Columns.{at, put}
use Rattle.definitions.specs.Arena.{Arena, stack_length, allocated, is_link}
use Rattle.definitions.specs.Compress.{exchanged, exchange_words, exchange_links, exchange_slots}
use Rattle.definitions.proofs.Tests.{by_test}
use Rattle.definitions.proofs.Columns.{length_put, at_put_same, at_put_other}
use Rattle.chains.proofs.Links.{Link, DoublyLinked, link_some, link_within, link_nonzero}
use Rattle.demand3.proofs.Exchange.{exchanged_i, exchanged_t, exchanged_other, exchanged_within, length_exchange, exchange_reads, exchange_links_reads}
use Rattle.demand3.proofs.Carried.{Room}
use Rattle.canonical_exchange.specs.Lent.{Lent}
use Rattle.canonical_exchange.specs.Exchange.{Inside, held_only, InReach, renamed_words, Exchanged}
use Rattle.canonical_layout.specs.Held.{Held}
use Rattle.canonical_exchange.proofs.Traded.{held_none, held_some}

-- slots in which links can be exchanged, and who is in them: the links name each other back, and somebody is in the slot of a link
pub record Exchangeable (b : Arena) (from : List ℕ) : Type 0 where
  pub room : Room b
  pub size : length from ≡ stack_length b
  pub linked : DoublyLinked b
  pub somebody : (s : ℕ) → Link b s → at from s ≢ 0

length_renamed : (xs back ws : List ℕ) (i t : ℕ) → length (renamed_words xs back ws i t) ≡ length xs
unfolding renamed_words
length_renamed xs back ws i t = length_exchange i t _ ∙ (length_put (put xs (at back t) i) _ t ∙ length_put xs (at back t) i)

-- one column of neighbours X and the other, Y, each naming back what the other names; t is a link, and who is in slot i is nobody or a link
module _ (b : Arena) (X Y : List ℕ) (i t who : ℕ) (i1 : 1 ≤ i) (t1 : 1 ≤ t) (target : Link b t) (fits : stack_length b ≤ length X)
    (nobody : is_link b i ≡ false → who ≡ 0) (somebody : Link b i → who ≢ 0)
    (xy : (s : ℕ) → Link b s → at X s ≢ 0 → Link b (at X s) × (at Y (at X s) ≡ s))
    (yx : (s : ℕ) → Link b s → at Y s ≢ 0 → Link b (at Y s) × (at X (at Y s) ≡ s)) where
  -- a link reads its neighbour's new slot
  pub renamed_reads : (s : ℕ) → Link b s → at (put (put X (at Y t) i) (held_only who (at Y i)) t) s ≡ exchanged i t (at X s)
  renamed_reads s h = by_test (is_link b i) (λ f. held f (ℕ_discrete s (at Y t)) (ℕ_discrete s (at Y i))) (λ f. free f (ℕ_discrete s (at Y t)))
    where
      first : List ℕ
      first = put X (at Y t) i

      some : s ≢ 0
      some = link_nonzero b s h

      long : s ≤ length X
      long = omega (arith, link_within b s h)

      long_then : s ≤ length first
      long_then = omega (arith, long, length_put X (at Y t) i)

      -- s is named by the link u exactly if it names it
      names : (u : ℕ) → Link b u → s ≡ at Y u → at X s ≡ u
      names u hu e = rw e (yx u hu (λ z. some (e ∙ z))).1

      named : (u : ℕ) → 1 ≤ u → at X s ≡ u → s ≡ at Y u
      named u u1 e = rw (← e) (sym (xy s h (λ z. omega (arith, u1, e, z))).1)

      is_link_lem : (u : ℕ) → 1 ≤ u → at X s ≡ u → Link b u
      is_link_lem u u1 e = rw (← e) (xy s h (λ z. omega (arith, u1, e, z))).0

      at_t : s ≡ at Y t → at first s ≡ exchanged i t (at X s)
      at_t e = rw (← e) (at_put_same X s i some long ∙ sym (exchanged_t i t (at X s) (names t target e)))

      elsewhere : s ≢ at Y t → at X s ≢ i → at first s ≡ exchanged i t (at X s)
      elsewhere d e = at_put_other X (at Y t) s i d ∙ sym (exchanged_other i t (at X s) e (λ q. d (named t t1 q)))

      free : is_link b i ≡ false → Dec (s ≡ at Y t) → at (put (put X (at Y t) i) (held_only who (at Y i)) t) s ≡ exchanged i t (at X s)
      free f (yes e) = rw (held_none (at Y i) (nobody f)) (at_put_other first 0 s t some ∙ at_t e)
      free f (no d) = rw (held_none (at Y i) (nobody f)) (at_put_other first 0 s t some ∙ elsewhere d (λ q. true≢false (sym (is_link_lem i i1 q) ∙ f)))

      held : Link b i → Dec (s ≡ at Y t) → Dec (s ≡ at Y i) → at (put (put X (at Y t) i) (held_only who (at Y i)) t) s ≡ exchanged i t (at X s)
      held f d (yes e) = rw (held_some (at Y i) (somebody f), ← e) (at_put_same first s t some long_then ∙ sym (exchanged_i i t (at X s) (names i f e)))
      held f (yes e) (no d) = rw (held_some (at Y i) (somebody f)) (at_put_other first (at Y i) s t d ∙ at_t e)
      held f (no e) (no d) = rw (held_some (at Y i) (somebody f)) (at_put_other first (at Y i) s t d ∙ elsewhere e (λ q. d (named i i1 q)))

module _ (b : Arena) (from : List ℕ) (c : Lent) (sound : Exchangeable b from) (columns : Held b from c)
    (i t : ℕ) (i1 : 1 ≤ i) (il : i ≤ stack_length b) (target : Link b t) where
  abbrev ps : List ℕ
  ps = c.prev

  abbrev ns : List ℕ
  ns = c.next

  abbrev ws : List ℕ
  ws = c.where_from

  abbrev n : ℕ
  n = stack_length b

  abbrev σ : ℕ → ℕ
  σ s = exchanged i t s

  t1 : 1 ≤ t
  t1 = link_some b t target

  tl : t ≤ n
  tl = link_within b t target

  -- what the columns name, they name back
  back_prev : (s : ℕ) → Link b s → at ps s ≢ 0 → Link b (at ps s) × (at ns (at ps s) ≡ s)
  back_prev s h d =
      let e = columns.prev s h in
      let r = sound.linked.prev s h (λ z. d (e ∙ z)) in
      rw e (r.0, columns.next (at b.prev s) r.0 ∙ r.1)

  back_next : (s : ℕ) → Link b s → at ns s ≢ 0 → Link b (at ns s) × (at ps (at ns s) ≡ s)
  back_next s h d =
      let e = columns.next s h in
      let r = sound.linked.next s h (λ z. d (e ∙ z)) in
      rw e (r.0, columns.prev (at b.next s) r.0 ∙ r.1)

  somebody : (s : ℕ) → Link b s → at ws s ≢ 0
  somebody s h z = sound.somebody s h (sym (columns.who s h) ∙ z)

  -- ---- every word that is read or written is in the columns

  names_within : (X : List ℕ) → ((s : ℕ) → Link b s → at X s ≢ 0 → Link b (at X s)) → (s : ℕ) → Link b s → at X s ≤ n
  names_within X fine s h = elim (ℕ_discrete (at X s) 0) [ yes z ↦ omega (arith, z) | no d ↦ link_within b (at X s) (fine s h d) ]

  held_within : (X : List ℕ) → ((s : ℕ) → Link b s → at X s ≢ 0 → Link b (at X s)) → held_only (at ws i) (at X i) ≤ n
  held_within X fine =
      by_test (is_link b i)
      (λ f. rw (held_some (at X i) (somebody i f)) (names_within X fine i f))
      (λ f. rw (held_none (at X i) (columns.nobody i f)) (omega arith))

  inside : (X : List ℕ) → length X ≡ n → Inside X i t
  inside X e = record { i_some = i1; t_some = t1; i_within = omega arith; t_within = omega (arith, tl) }

  pub in_reach : InReach c i t
  in_reach =
      record {
        links = record {
          in_prev = inside ps columns.prev_long;
          in_next = inside ns columns.next_long;
          in_from = inside ws columns.from_long;
          prev0 = rw columns.next_long (names_within ps (λ s h d. (back_prev s h d).0) t target);
          next0 = rw columns.prev_long (names_within ns (λ s h d. (back_next s h d).0) t target);
          prev1 = rw columns.next_long (held_within ps (λ s h d. (back_prev s h d).0));
          next1 = rw columns.prev_long (held_within ns (λ s h d. (back_next s h d).0));
        };
        in_payload = inside c.payload columns.payload_long;
      }

  -- ---- the links are where they were, under their new names

  link_then : (s : ℕ) → is_link (exchange_slots i t b) s ≡ is_link b (exchanged i t s)
  unfolding exchange_slots allocated
  link_then s = go (dec_le s n)
    where
      reads : at (exchange_words i t b.generation) s ≡ at b.generation (σ s)
      reads = exchange_reads i t b.generation i1 t1 (omega (arith, sound.room.generation)) (omega (arith, tl, sound.room.generation)) s

      go : Dec (s ≤ n) → is_link (exchange_slots i t b) s ≡ is_link b (exchanged i t s)
      go (yes l) = rw (reads, le-leb s n l, le-leb (σ s) n (exchanged_within i t s n il tl l)) refl
      go (no l) = let e : σ s ≡ s = exchanged_other i t s (λ z. omega arith) (λ z. omega (arith, tl)) in rw (e, lt-leb s n (omega arith)) refl

  pub comes_to_i : Link (exchange_slots i t b) i
  comes_to_i = link_then i ∙ (ap (is_link b) (exchanged_i i t i refl) ∙ target)

  was_link : (s : ℕ) → Link (exchange_slots i t b) s → Link b (exchanged i t s)
  was_link s h = sym (link_then s) ∙ h

  -- a link column, both ways round
  names_then : (X Y old X' : List ℕ) → length X ≡ n → n ≤ length old → ((s : ℕ) → Link b s → at X s ≡ at old s) →
      ((s : ℕ) → Link b s → at X s ≢ 0 → Link b (at X s) × (at Y (at X s) ≡ s)) → ((s : ℕ) → Link b s → at Y s ≢ 0 → Link b (at Y s) × (at X (at Y s) ≡ s)) →
      X' ≡ renamed_words X Y ws i t → (s : ℕ) → Link (exchange_slots i t b) s → at X' s ≡ at (exchange_links n i t old) s
  unfolding renamed_words
  names_then X Y old X' long room same xy yx e s h =
      let u : Link b (σ s) = was_link s h in
      let renamed = put (put X (at Y t) i) (held_only (at ws i) (at Y i)) t in
      let size : length renamed ≡ n = length_put (put X (at Y t) i) _ t ∙ (length_put X (at Y t) i ∙ long) in
      rw e
      (exchange_reads i t renamed i1 t1 (omega (arith, size)) (omega (arith, size, tl)) s ∙
      (renamed_reads b X Y i t (at ws i) i1 t1 target (omega (arith, long)) (columns.nobody i) (somebody i) xy yx (σ s) u ∙
      (ap (exchanged i t) (same (σ s) u) ∙
      sym (exchange_links_reads i t old i1 t1 (omega arith) (omega (arith, tl)) n room s (link_some (exchange_slots i t b) s h) (within s h)))))
    where
      within : (s : ℕ) → Link (exchange_slots i t b) s → s ≤ n
      within s h = unfold exchange_slots in link_within (exchange_slots i t b) s h

  -- any other column
  words_then : (X old : List ℕ) → length X ≡ n → n ≤ length old → ((s : ℕ) → Link b s → at X s ≡ at old s) → (s : ℕ) → Link (exchange_slots i t b) s →
      at (exchange_words i t X) s ≡ at (exchange_words i t old) s
  words_then X old long room same s h =
      exchange_reads i t X i1 t1 (omega arith) (omega (arith, tl)) s ∙
      (same (σ s) (was_link s h) ∙ sym (exchange_reads i t old i1 t1 (omega arith) (omega (arith, tl)) s))

  pub exchange_holds : (left : Lent) → Exchanged c left i t → Held (exchange_slots i t b) (exchange_words i t from) left
  unfolding exchange_slots
  exchange_holds left x =
      record {
        prev_long = ap length x.prev ∙ (length_renamed ps ns ws i t ∙ columns.prev_long);
        next_long = ap length x.next ∙ (length_renamed ns ps ws i t ∙ columns.next_long);
        payload_long = ap length x.payload ∙ (length_exchange i t c.payload ∙ columns.payload_long);
        from_long = ap length x.from ∙ (length_exchange i t ws ∙ columns.from_long);
        prev = names_then ps ns b.prev left.prev columns.prev_long sound.room.prev columns.prev back_prev back_next x.prev;
        next = names_then ns ps b.next left.next columns.next_long sound.room.next columns.next back_next back_prev x.next;
        payload = rw x.payload (words_then c.payload b.payload columns.payload_long sound.room.payload columns.payload);
        who = rw x.from (words_then ws from columns.from_long (omega (arith, sound.size)) columns.who);
        nobody = λ s h.
            rw x.from
            (exchange_reads i t ws i1 t1 (omega (arith, columns.from_long)) (omega (arith, tl, columns.from_long)) s ∙ columns.nobody (σ s) (sym (link_then s) ∙ h));
      }
