-- What canonical compression keeps: the fields of `Agree`, `LiesFrom`, `OfOne` and `Unmoved`, each with a wrong result that it alone refuses; and what each field
-- of `Demand3` gives at one small arena.
use Prim.Native.Nat.{ℕ, zero, suc, ◌≤◌}
use mathlib.Core.Path.{◌≡◌, refl, sym, ap}
use mathlib.Core.Logic.{inl, inr}
use mathlib.Core.Bool.{Bool, true, false, true≢false}
use mathlib.Core.List.{List, [], ◌∷◌}
use native.Mathlib.Omega.{arith}
use lib.ListN.{length, get_or}
use Rattle.definitions.specs.Columns.{at, put, first_or, last_or, slots_from, keep, settled, Linked}
use Rattle.definitions.specs.Arena.{Arena, arena, allocated, link_slots, free_slots}
use Rattle.definitions.specs.Check.{misshapen, freelist_walk, names_back, neighbours_fine, all_fine, counts_of, verdict}
use Rattle.definitions.specs.Reply.{reply}
use Rattle.definitions.specs.Read.{pointer, stale}
use Rattle.definitions.specs.Edit.{next_generation, overflows, connect}
use Rattle.definitions.specs.Remove.{joined, vacated, removed, remove, threaded, canonicalize_freelist}
use Rattle.definitions.specs.Compress.{raises, compress_generation, compress_number, exchanged, exchange_words, exchange_links, exchange_slots, put_at_i, lowest_from, start_of, lay_chain, lay_chains, laid_out, canonical_arena, compress_canonical}
use Rattle.statements.specs.Chains.{IsOpen, Chain, IsChain, Like, Alike, nth, Listing, OnOneChain, extended, cut, marked, pieces, Paired, HoldTheSame}
use Rattle.definitions.specs.Calls.{Call, Made, Check, Connect, Remove, CanonicalizeFreelist, CompressCanonical, accepted, reply_to, replies_to, arena_after}
use Rattle.statements.specs.Demand3.{Accepted, Every, Agree, Further, LiesFrom, compress, Compressed, OfOne, Unmoved, Demand3}
use Rattle.definitions.proofs.Count.{in_only, in_cases}
use Rattle.statements.proofs.Refused.Chains.{open_of, one, lone, pair, on_one_chain_only, listing_all_refused, renaming_payload_refused}

-- ---- what is accepted

pub accepted_done : Accepted (reply 0 [] lone [])
accepted_done = inl refl

pub accepted_overflow : Accepted (reply 100 [] lone [])
accepted_overflow = inr refl

pub accepted_refusal_refused : Accepted (reply 14 [] lone []) → ⊥
accepted_refusal_refused (inl e) = omega (arith, e)
accepted_refusal_refused (inr e) = omega (arith, e)

pub every_later_refused : Every Accepted (reply 0 [] lone [] ∷ reply 14 [] lone [] ∷ []) → ⊥
unfolding Every
every_later_refused e = accepted_refusal_refused e.1.0

-- ---- words that agree

pub agree_prev_refused : Agree (one 0 0 5 7) (one 1 0 5 7) 1 → ⊥
unfolding at
agree_prev_refused g = omega (arith, g.prev 1 (omega arith) (omega arith))

pub agree_next_refused : Agree (one 0 0 5 7) (one 0 1 5 7) 1 → ⊥
unfolding at
agree_next_refused g = omega (arith, g.next 1 (omega arith) (omega arith))

pub agree_payload_refused : Agree (one 0 0 5 7) (one 0 0 5 8) 1 → ⊥
unfolding at
agree_payload_refused g = omega (arith, g.payload 1 (omega arith) (omega arith))

-- ---- where a chain lies: slot 0 is no slot, slot 2 is above the one link, slot 1 came from elsewhere, and slot 1 does not lead to slot 2

pub lies_from_some_refused : LiesFrom lone [] 0 (open_of []) 0 → ⊥
lies_from_some_refused l = omega (arith, l.some)

pub lies_from_within_refused : LiesFrom lone (0 ∷ 1 ∷ []) 1 (open_of (1 ∷ [])) 2 → ⊥
lies_from_within_refused l = omega (arith, l.within)

pub lies_from_came_refused : LiesFrom lone (2 ∷ []) 1 (open_of (1 ∷ [])) 1 → ⊥
unfolding Like slots_from at
lies_from_came_refused l = omega (arith, ap (λ (c : List ℕ). get_or c 0 0) l.came)

pub lies_from_following_refused : LiesFrom (arena (0 ∷ 0 ∷ []) (0 ∷ 0 ∷ []) (5 ∷ 5 ∷ []) (7 ∷ 8 ∷ []) (2 ∷ 2 ∷ 0 ∷ 5 ∷ [])) (1 ∷ 2 ∷ []) 2 (open_of (1 ∷ 2 ∷ [])) 1 → ⊥
unfolding at
lies_from_following_refused l = omega (arith, l.following 1 (omega arith) (omega arith))

-- ---- one compression

-- the chain of 1 and 3, and slot 2 alone: as it was, and as it is laid out
abbrev split : Arena
split = arena (0 ∷ 0 ∷ 1 ∷ []) (3 ∷ 0 ∷ 0 ∷ []) (5 ∷ 5 ∷ 5 ∷ []) (7 ∷ 8 ∷ 9 ∷ []) (3 ∷ 3 ∷ 0 ∷ 5 ∷ [])

abbrev laid : Arena
laid = arena (0 ∷ 1 ∷ 0 ∷ []) (2 ∷ 0 ∷ 0 ∷ []) (6 ∷ 6 ∷ 6 ∷ []) (7 ∷ 9 ∷ 8 ∷ []) (3 ∷ 3 ∷ 0 ∷ 6 ∷ [])

-- one link, left in its slot, with another header
abbrev leaving : List ℕ → List ℕ → Arena
leaving gs h = arena (0 ∷ 0 ∷ []) (0 ∷ 0 ∷ []) gs (7 ∷ 0 ∷ []) h

module _ (limit top : ℕ) where
  pub of_one_stack_refused : OfOne limit top lone (leaving (6 ∷ 0 ∷ []) (2 ∷ 1 ∷ 0 ∷ 6 ∷ [])) (1 ∷ []) 1 (open_of (1 ∷ []) ∷ []) → ⊥
  of_one_stack_refused o = omega (arith, o.stack)

  pub of_one_links_refused : OfOne limit top lone (leaving (6 ∷ 0 ∷ []) (1 ∷ 2 ∷ 0 ∷ 6 ∷ [])) (1 ∷ []) 1 (open_of (1 ∷ []) ∷ []) → ⊥
  of_one_links_refused o = omega (arith, o.links)

  pub of_one_root_refused : OfOne limit top lone (leaving (6 ∷ 0 ∷ []) (1 ∷ 1 ∷ 1 ∷ 6 ∷ [])) (1 ∷ []) 1 (open_of (1 ∷ []) ∷ []) → ⊥
  of_one_root_refused o = omega (arith, o.root)

  -- slot 1 is free, and slot 2 is a link
  pub of_one_fills_refused : OfOne limit top lone (leaving (0 ∷ 0 ∷ []) (1 ∷ 1 ∷ 0 ∷ 6 ∷ [])) (1 ∷ []) 1 (open_of (1 ∷ []) ∷ []) → ⊥
  unfolding allocated at
  of_one_fills_refused o = true≢false (sym ((o.fills 1).1 (omega arith, omega arith)))

  pub of_one_fills_no_more_refused : OfOne limit top lone (leaving (6 ∷ 6 ∷ []) (2 ∷ 1 ∷ 0 ∷ 6 ∷ [])) (1 ∷ []) 1 (open_of (1 ∷ []) ∷ []) → ⊥
  unfolding allocated at
  of_one_fills_no_more_refused o = omega (arith, ((o.fills 2).0 refl).1)

  -- another payload
  pub of_one_renaming_refused : OfOne limit top lone (one 0 0 6 8) (1 ∷ []) 1 (open_of (1 ∷ []) ∷ []) → ⊥
  of_one_renaming_refused o = renaming_payload_refused o.renaming

  -- nothing is moved: the chain of 1 and 3 does not lie on following slots
  pub of_one_consecutive_refused : (ps : List Chain) → OfOne limit top split split (1 ∷ 2 ∷ 3 ∷ []) 3 ps → ⊥
  unfolding IsChain Linked Like first_or slots_from at allocated
  of_one_consecutive_refused ps o = let c = o.consecutive (open_of (1 ∷ 3 ∷ [])) split_is_open in nowhere c.0 c.1
    where
      split_is_open : IsOpen split (1 ∷ 3 ∷ [])
      split_is_open = record {
        some = λ e. omega (arith, ap length e);
        links = λ s i. elim (in_cases s 1 (3 ∷ []) i) [ inl e ↦ rw e refl | inr j ↦ rw (in_only s 3 j) refl ];
        starts = refl;
        linked = (refl, (refl, tt));
      }

      nowhere : (s : ℕ) → LiesFrom split (1 ∷ 2 ∷ 3 ∷ []) 3 (open_of (1 ∷ 3 ∷ [])) s → ⊥
      nowhere zero l = omega (arith, l.some)
      nowhere (suc zero) l = omega (arith, ap (λ (c : List ℕ). get_or c 1 0) l.came)
      nowhere (suc (suc zero)) l = omega (arith, ap (λ (c : List ℕ). get_or c 0 0) l.came)
      nowhere (suc (suc (suc s))) l = omega (arith, l.within)

  -- a lone link of which no piece is left
  pub of_one_chains_refused : OfOne limit top lone (one 0 0 6 7) (1 ∷ []) 1 [] → ⊥
  of_one_chains_refused o = listing_all_refused o.chains

  -- nothing is moved: the first piece does not end where its chain does
  pub of_one_ends_refused : OfOne limit top split split (1 ∷ 2 ∷ 3 ∷ []) 3 (pieces (at split.next) 3) → ⊥
  unfolding pieces cut extended marked nth at slots_from first_or last_or
  of_one_ends_refused o = omega (arith, o.ends 0 (omega arith) refl)

  -- slot 2 was on the chain of 1 and 2
  pub of_one_every : (b : Arena) (w : List ℕ) (n : ℕ) (ps : List Chain) (o : OfOne limit top pair b w n ps) → (c : OnOneChain pair 2) × (c.chain.members ≡ 1 ∷ 2 ∷ [])
  unfolding allocated at
  of_one_every b w n ps o = (o.every 2 refl, on_one_chain_only (o.every 2 refl))

-- ---- further calls: each of these moves something that no compression may move. The limits are 5 slots and generation 9

abbrev without : List Made → Arena → ℕ → Type 0
without calls b n = Unmoved 5 9 b calls n → ⊥

abbrev call : Call → List ℕ → Made
call c l = record { call = c; hands = l }

-- a link in slot 2 between free slots, of which the last is popped
pub unmoved_stack_refused : without (call CanonicalizeFreelist [] ∷ []) (arena (0 ∷ 0 ∷ 0 ∷ []) (3 ∷ 0 ∷ 3 ∷ []) (0 ∷ 5 ∷ 0 ∷ []) (0 ∷ 7 ∷ 0 ∷ []) (3 ∷ 1 ∷ 1 ∷ 5 ∷ [])) 0
unfolding at put first_or last_or slots_from keep settled allocated link_slots free_slots misshapen freelist_walk names_back neighbours_fine all_fine counts_of verdict threaded canonicalize_freelist accepted reply_to replies_to arena_after
unmoved_stack_refused u = omega (arith, u.stack)

-- slot 2 is removed, and the freelist begins with slot 1 again
pub unmoved_links_refused : without (call (Remove (pointer 2 5)) [] ∷ call CanonicalizeFreelist [] ∷ []) (arena (0 ∷ 0 ∷ 0 ∷ []) (1 ∷ 0 ∷ 0 ∷ []) (0 ∷ 5 ∷ 5 ∷ []) (0 ∷ 7 ∷ 8 ∷ []) (3 ∷ 2 ∷ 1 ∷ 5 ∷ [])) 0
unfolding at put first_or last_or slots_from keep settled allocated link_slots free_slots misshapen freelist_walk names_back neighbours_fine all_fine counts_of verdict stale next_generation overflows joined vacated removed remove threaded canonicalize_freelist accepted reply_to replies_to arena_after
unmoved_links_refused u = omega (arith, u.links)

-- the freelist from 2 on is put in order, and begins with 1
pub unmoved_root_refused : without (call CanonicalizeFreelist [] ∷ []) (arena (0 ∷ 0 ∷ 0 ∷ []) (1 ∷ 1 ∷ 0 ∷ []) (0 ∷ 0 ∷ 5 ∷ []) (0 ∷ 0 ∷ 7 ∷ []) (3 ∷ 1 ∷ 2 ∷ 5 ∷ [])) 0
unfolding at put first_or last_or slots_from keep settled allocated link_slots free_slots misshapen freelist_walk names_back neighbours_fine all_fine counts_of verdict threaded canonicalize_freelist accepted reply_to replies_to arena_after
unmoved_root_refused u = omega (arith, u.root)

-- two lone links are connected
pub unmoved_words_refused : without (call (Connect (pointer 1 5) (pointer 2 5)) (1 ∷ 2 ∷ []) ∷ []) (arena (0 ∷ 0 ∷ []) (0 ∷ 0 ∷ []) (5 ∷ 5 ∷ []) (7 ∷ 8 ∷ []) (2 ∷ 2 ∷ 0 ∷ 5 ∷ [])) 2
unfolding at put slots_from keep allocated link_slots free_slots misshapen freelist_walk names_back neighbours_fine all_fine counts_of verdict stale connect accepted reply_to replies_to arena_after
unmoved_words_refused u = omega (arith, u.words.next 1 (omega arith) (omega arith))

-- the second of two accepted calls hands back another column
pub unmoved_columns_refused : without (call Check (1 ∷ []) ∷ call Check (2 ∷ []) ∷ []) lone 1
unfolding at slots_from keep allocated link_slots free_slots misshapen freelist_walk names_back neighbours_fine all_fine counts_of verdict accepted reply_to replies_to arena_after Every
unmoved_columns_refused u = omega (arith, ap (λ (c : List ℕ). get_or c 0 0) (u.columns.1.0 (inl refl)))

-- ---- demand 3 at the arena above, in 5 slots at most and up to generation 9

abbrev further : Bool → List ℕ → Further
further reset column = record { reset = reset; where_from = column }

-- canonical compression lays the arena out as shown
pub compressed_split : Compressed 5 9 split laid (1 ∷ 3 ∷ 2 ∷ [])
unfolding at put first_or slots_from keep settled allocated link_slots free_slots misshapen freelist_walk names_back neighbours_fine all_fine counts_of verdict next_generation overflows raises compress_generation compress_number exchanged exchange_words exchange_links exchange_slots put_at_i lowest_from start_of lay_chain lay_chains laid_out canonical_arena compress_canonical accepted reply_to
compressed_split = record { call = further false (0 ∷ 0 ∷ 0 ∷ []); accepted = inl refl; left = refl; where_from = refl }

-- the same links elsewhere: the chain of 2 and 1, slot 3 free, and slot 4 alone
abbrev elsewhere : Arena
elsewhere = arena (2 ∷ 0 ∷ 0 ∷ 0 ∷ []) (0 ∷ 1 ∷ 3 ∷ 0 ∷ []) (3 ∷ 3 ∷ 0 ∷ 4 ∷ []) (9 ∷ 7 ∷ 0 ∷ 8 ∷ []) (4 ∷ 3 ∷ 3 ∷ 9 ∷ [])

abbrev laid_elsewhere : Arena
laid_elsewhere = arena (0 ∷ 1 ∷ 0 ∷ 0 ∷ []) (2 ∷ 0 ∷ 0 ∷ 0 ∷ []) (2 ∷ 2 ∷ 2 ∷ 0 ∷ []) (7 ∷ 9 ∷ 8 ∷ 0 ∷ []) (3 ∷ 3 ∷ 0 ∷ 2 ∷ [])

pub compressed_elsewhere : Compressed 5 9 elsewhere laid_elsewhere (2 ∷ 1 ∷ 4 ∷ 0 ∷ [])
unfolding at put first_or slots_from keep settled allocated link_slots free_slots misshapen freelist_walk names_back neighbours_fine all_fine counts_of verdict next_generation overflows raises compress_generation compress_number exchanged exchange_words exchange_links exchange_slots put_at_i lowest_from start_of lay_chain lay_chains laid_out canonical_arena compress_canonical accepted reply_to
compressed_elsewhere = record { call = further false (0 ∷ 0 ∷ 0 ∷ 0 ∷ []); accepted = inr refl; left = refl; where_from = refl }

laid_agree : Agree laid laid_elsewhere 3
unfolding at
laid_agree = record {
  prev = λ s i j. one_to_three 0 1 0 s j;
  next = λ s i j. one_to_three 2 0 0 s j;
  payload = λ s i j. one_to_three 7 9 8 s j;
}
  where
    one_to_three : (x y z s : ℕ) → s ≤ 3 → at (x ∷ y ∷ z ∷ []) s ≡ at (x ∷ y ∷ z ∷ 0 ∷ []) s
    one_to_three x y z zero h = refl
    one_to_three x y z (suc zero) h = refl
    one_to_three x y z (suc (suc zero)) h = refl
    one_to_three x y z (suc (suc (suc zero))) h = refl
    one_to_three x y z (suc (suc (suc (suc s)))) h = absurd (omega arith)

module _ (d : Demand3 5 9) where
  pub demand_3_accepted : (reset : Bool) → Accepted (compress 5 9 (further reset (0 ∷ 0 ∷ 0 ∷ [])) split)
  unfolding at slots_from keep allocated link_slots free_slots misshapen freelist_walk names_back neighbours_fine all_fine counts_of verdict
  demand_3_accepted reset = d.accepted split (further reset (0 ∷ 0 ∷ 0 ∷ [])) refl refl

  pub demand_3_one : OfOne 5 9 split laid (1 ∷ 3 ∷ 2 ∷ []) 3 (open_of (1 ∷ 2 ∷ []) ∷ open_of (3 ∷ []) ∷ [])
  unfolding pieces cut extended marked at slots_from first_or last_or
  demand_3_one = d.one split laid (1 ∷ 3 ∷ 2 ∷ []) compressed_split

  pub demand_3_listings : (cs ds : List Chain) → Listing split cs → Listing split ds → Paired Alike cs ds
  demand_3_listings = d.listings split laid (1 ∷ 3 ∷ 2 ∷ []) compressed_split

  pub demand_3_same : HoldTheSame split elsewhere
  demand_3_same = d.same split elsewhere laid laid_elsewhere (1 ∷ 3 ∷ 2 ∷ []) (2 ∷ 1 ∷ 4 ∷ 0 ∷ []) compressed_split compressed_elsewhere refl laid_agree

  -- after a compression that is refused, for its column has no word, and one with reset
  pub demand_3_unmoved : Unmoved 5 9 laid (call (CompressCanonical false) [] ∷ call (CompressCanonical true) (8 ∷ 8 ∷ 8 ∷ []) ∷ []) 3
  demand_3_unmoved = d.unmoved split laid (1 ∷ 3 ∷ 2 ∷ []) compressed_split (further false [] ∷ further true (8 ∷ 8 ∷ 8 ∷ []) ∷ [])
