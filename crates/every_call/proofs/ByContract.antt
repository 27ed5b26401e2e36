-- What follows for a program of which nothing is known but that it keeps the contract: a refusal has written nothing, what passed the check passes it afterwards, a drain that
-- is done has taken the chain, an insertion that is done has put its link where the kind says, a canonical compression that is done has kept what one compression keeps (the field `one` of demand 3), what is due is counted and reported, no compression looks at a payload, and each answer of a run is one of seven words. Each is a theorem about the definitions,
-- carried over by the contract's one equation. Assumes nothing.
use Prim.Native.Nat.{ℕ, suc, ◌≤◌, ◌<◌, ◌/◌, ◌%◌}
use mathlib.Core.Path.{◌≡◌, sym, ap, subst, ◌∙◌}
use mathlib.Core.Logic.{◌⊎◌, inl, inr, ◌↔◌}
use mathlib.Core.Bool.{Bool, false}
use mathlib.Core.List.{List, [], ◌∷◌, map}
use native.Mathlib.Omega.{arith}
use lib.ListN.{length, take}
use lib.Dec.{eqb}
use Rattle.definitions.specs.Columns.{at, written}
use Rattle.definitions.specs.Arena.{Arena, capacity, capacity_limit, largest_generation, stack_length, link_count, current, link_slots}
use Rattle.definitions.specs.Check.{verdict, WellFormed}
use Rattle.definitions.specs.Reply.{Reply, reply}
use Rattle.definitions.specs.Read.{Pointer, stale}
use Rattle.definitions.specs.Walk.{walk_from}
use Rattle.definitions.specs.Insert.{InsertKind, nowhere, place_of, new_slot, kind, kind_of}
use Rattle.definitions.specs.Run.{Command, command_words, commands_of, apply, applied, answers_of}
use Rattle.definitions.specs.Clock.{Told, line_of_dot, line_dots}
use Rattle.definitions.specs.Calls.{Call, Check, DueCount, DueEvents, Insert, Drain, Run, CompressWith, CompressCanonical, accepted, reply_to, Made, replies_to, arena_after}
use Rattle.definitions.proofs.Tests.{by_test}
use Rattle.definitions.proofs.Count.{In, in_cases, not_in_nil}
use Rattle.statements.specs.Chains.{Chain, pieces}
use Rattle.statements.specs.Demand3.{Accepted, Compressed, OfOne}
use Rattle.statements.specs.DrainsChain.{DrainsChain}
use Rattle.statements.specs.InsertPlaces.{Makes, AllThere, InsertPlaces}
use Rattle.statements.specs.EveryCall.{Unchanged, AnswerWord}
use Rattle.statements.specs.FrameClock.{LinesPart, CountsDue, ReportsDue, SameButPayloads, IgnoresPayloads}
use Rattle.well_formed.proofs.WellFormed.{check_passes_exactly_if_well_formed}
use Rattle.well_formed.proofs.Verdict.{verdict_bound}
use Rattle.drains.proofs.DrainsChain.{done_drain_takes_the_chain}
use Rattle.demand3.proofs.Demand3.{demand_3, demand_3_at}
use Rattle.all_small.specs.SmallArena.{small_arena}
use Rattle.every_call.proofs.RefusalChangesNothing.{refusal_changes_nothing}
use Rattle.every_call.proofs.EveryCallKeeps.{every_call_keeps, any_calls_keep, inside_a_run}
use Rattle.every_call.proofs.RunIsFold.{one_command, reply_of_a_run, calls_of, run_by_calls}
use Rattle.every_call.proofs.FrameLines.{lines_part_the_frame}
use Rattle.every_call.proofs.Due.{due_counted, due_in_walk_order, done_exactly}
use Rattle.every_call.proofs.IgnoresPayloads.{compression_ignores_payloads}
use Rattle.every_call.proofs.WiderLimit.{below_65536, small_below_65536}
use Rattle.every_call.proofs.Insertions.{done_insert_places, seventeen_exactly_by_call, full_exactly_by_call}

module _ (limit top : ℕ) (a : Arena) (l : List ℕ) (r : Reply) where
  pub refusal_by_contract : (c : Call) → r ≡ reply_to limit top c a l → (Accepted r → ⊥) → (r.arena ≡ a) × (r.back ≡ l)
  refusal_by_contract c p refused =
      let u : Unchanged a l r = subst (λ (s : Reply). Unchanged a l s) (sym p) (refusal_changes_nothing limit top c a l) in
      (u.arena refused, u.back refused)

  pub kept_by_contract : (c : Call) → r ≡ reply_to limit top c a l → WellFormed limit a → WellFormed limit r.arena
  kept_by_contract c p ok =
      let left : verdict limit r.arena ≡ 0 =
      subst (λ (s : Reply). verdict limit s.arena ≡ 0) (sym p) (every_call_keeps limit top c a l ((check_passes_exactly_if_well_formed limit a).1 ok))
      in
      (check_passes_exactly_if_well_formed limit r.arena).0 left

  pub drain_by_contract : limit < top → (q : Pointer) → r ≡ reply_to limit top (Drain q) a l → r.number ≡ 0 → DrainsChain limit top a q.slot (walk_from a q.slot) l r
  drain_by_contract enough q p done =
      subst (λ (s : Reply). DrainsChain limit top a q.slot (walk_from a q.slot) l s) (sym p)
      (done_drain_takes_the_chain limit top enough a q l (ap (λ (s : Reply). s.number) (sym p) ∙ done))

  pub insert_by_contract : (code x : ℕ) (p q : Pointer) → r ≡ reply_to limit top (Insert code p q x) a l → r.number ≡ 0 →
      (k : InsertKind) × (kind_of code p q ≡ kind k) × (r.fields ≡ new_slot a ∷ current a ∷ []) × InsertPlaces a r.arena k (new_slot a) x
  insert_by_contract code x p q kept done =
      subst (λ (s : Reply). (k : InsertKind) × (kind_of code p q ≡ kind k) × (s.fields ≡ new_slot a ∷ current a ∷ []) × InsertPlaces a s.arena k (new_slot a) x) (sym kept)
      (done_insert_places limit top a p q code x l (ap (λ (s : Reply). s.number) (sym kept) ∙ done))

  pub seventeen_by_contract : (code x : ℕ) (p q : Pointer) → r ≡ reply_to limit top (Insert code p q x) a l → verdict limit a ≡ 0 → (k : InsertKind) → kind_of code p q ≡ kind k →
      (r.number ≡ 17) ↔ (AllThere a k → (d : Chain) → Makes a (new_slot a) k d → ⊥)
  seventeen_by_contract code x p q kept passes k e = rw kept (seventeen_exactly_by_call limit top a p q code x l passes k e)

  pub full_by_contract : (code x : ℕ) (p q : Pointer) → r ≡ reply_to limit top (Insert code p q x) a l → verdict limit a ≡ 0 → (k : InsertKind) → kind_of code p q ≡ kind k →
      (r.number ≡ 18) ↔ ((place_of a (new_slot a) k ≡ nowhere → ⊥) × (link_count a ≡ capacity a))
  full_by_contract code x p q kept passes k e = rw kept (full_exactly_by_call limit top a p q code x l passes k e)

  pub compressed_by_contract : (reset : Bool) → r ≡ reply_to limit top (CompressCanonical reset) a l → Accepted r → Compressed limit top a r.arena r.back
  compressed_by_contract reset p done =
      record {
        call = record { reset = reset; where_from = l };
        accepted = subst Accepted p done;
        left = ap (λ (s : Reply). s.arena) (sym p);
        where_from = ap (λ (s : Reply). s.back) (sym p);
      }

  pub demand_3_by_contract : (reset : Bool) → r ≡ reply_to limit top (CompressCanonical reset) a l → Accepted r →
      OfOne limit top a r.arena (take (link_count a) r.back) (link_count a) (pieces (at r.arena.next) (link_count a))
  demand_3_by_contract reset p done = (demand_3_at limit top).one a r.arena r.back (compressed_by_contract reset p done)

  -- a run of whole commands with room for their answers
  pub run_by_contract : (ws : List ℕ) → r ≡ reply_to limit top (Run ws) a l → verdict limit a ≡ 0 → length ws % command_words ≡ 0 → length ws / command_words ≤ length l →
      r ≡ reply 0 [] (applied top a (commands_of ws)) (written (answers_of top a (commands_of ws)) l)
  run_by_contract ws p passes whole room = p ∙ reply_of_a_run limit top a ws l passes whole room

  -- and what it leaves and answers is what the calls of its commands would, made one after the other
  pub run_calls_by_contract : (ws : List ℕ) → r ≡ reply_to limit top (Run ws) a l → verdict limit a ≡ 0 → length ws % command_words ≡ 0 → length ws / command_words ≤ length l →
      (r.arena ≡ arena_after limit top (calls_of (commands_of ws)) a) × (r.back ≡ written (map (λ (s : Reply). s.number) (replies_to limit top (calls_of (commands_of ws)) a)) l)
  run_calls_by_contract ws p passes whole room =
      let same = run_by_contract ws p passes whole room in
      let calls = run_by_calls limit top (commands_of ws) a passes in
      (ap (λ (s : Reply). s.arena) same ∙ calls.0, ap (λ (s : Reply). s.back) same ∙ ap (λ (w : List ℕ). written w l) calls.1)

  -- the check answers none but the eleven rules
  pub check_by_contract : r ≡ reply_to limit top Check a l → r.number ≤ 11
  unfolding reply_to accepted
  check_by_contract p = subst (λ (s : Reply). s.number ≤ 11) (sym p) (by_test (eqb (verdict limit a) 0) (λ t. rw t (omega arith)) (λ t. rw t (verdict_bound limit a)))

  -- what is due, counted and reported
  pub due_counted_by_contract : (q : Pointer) (from to : ℕ) → r ≡ reply_to limit top (DueCount q from to) a l → r.number ≡ 0 → CountsDue a q.slot from to r
  due_counted_by_contract q from to p done =
      subst (λ (s : Reply). CountsDue a q.slot from to s) (sym p) (due_counted limit top a q from to l (ap (λ (s : Reply). s.number) (sym p) ∙ done))

  pub due_by_contract : (q : Pointer) (from to : ℕ) → r ≡ reply_to limit top (DueEvents q from to) a l → r.number ≡ 0 → ReportsDue a q.slot from to l r
  due_by_contract q from to p done =
      subst (λ (s : Reply). ReportsDue a q.slot from to l s) (sym p) (due_in_walk_order limit top a q from to l (ap (λ (s : Reply). s.number) (sym p) ∙ done))

  -- when they are done, for a good pointer in an arena that passes the check
  pub count_done_by_contract : (q : Pointer) (from to : ℕ) → r ≡ reply_to limit top (DueCount q from to) a l → verdict limit a ≡ 0 → stale a q ≡ false → (r.number ≡ 0) ↔ ((from < 89342) × (to ≤ 89342))
  count_done_by_contract q from to p passes good = rw p (done_exactly limit top a q from to passes good l l).0

  pub due_done_by_contract : (q : Pointer) (from to : ℕ) → r ≡ reply_to limit top (DueEvents q from to) a l → verdict limit a ≡ 0 → stale a q ≡ false →
      (r.number ≡ 0) ↔ ((from < 89342) × (to ≤ 89342) × (length (walk_from a q.slot) ≤ length l))
  due_done_by_contract q from to p passes good = rw p (done_exactly limit top a q from to passes good l l).1

-- the lines, of any two functions that answer as the two calls without an arena do
pub lines_by_contract : (ofDot dotsOf : ℕ → Told) → ((dot : ℕ) → ofDot dot ≡ line_of_dot dot) → ((line : ℕ) → dotsOf line ≡ line_dots line) → LinesPart ofDot dotsOf
lines_by_contract ofDot dotsOf e f =
    let p = lines_part_the_frame in
    record {
      has_line = λ dot h. let q = p.has_line dot h in (q.0, q.1, e dot ∙ q.2);
      within = λ dot line first last g h. p.within dot line first last (sym (e dot) ∙ g) (sym (f line) ∙ h);
      only = λ dot line first last g from to. e dot ∙ p.only dot line first last (sym (f line) ∙ g) from to;
      begins = f 0 ∙ p.begins;
      follows = λ line first last h g. f (suc line) ∙ p.follows line first last h (sym (f line) ∙ g);
      no_dot = λ dot h. e dot ∙ p.no_dot dot h;
      no_line = λ line h. f line ∙ p.no_line line h;
    }

-- compressions of two arenas that differ in payloads alone
module _ (limit top : ℕ) (reset : Bool) {a b : Arena} (h : SameButPayloads a b) (l : List ℕ) {r s : Reply} where
  pub compress_with_ignores_by_contract :
      r ≡ reply_to limit top (CompressWith reset) a l → s ≡ reply_to limit top (CompressWith reset) b l → IgnoresPayloads a b (link_slots a.generation (stack_length a)) r s
  compress_with_ignores_by_contract p q = rw (p, q) (compression_ignores_payloads limit top reset h l).0

  pub canonical_ignores_by_contract :
      r ≡ reply_to limit top (CompressCanonical reset) a l → s ≡ reply_to limit top (CompressCanonical reset) b l → IgnoresPayloads a b (take (link_count a) r.back) r s
  canonical_ignores_by_contract p q = rw (p, q) (compression_ignores_payloads limit top reset h l).1

-- a program that keeps the port's contract keeps that of 65,535 slots too, on arenas of so many
pub below_65536_by_contract : (c : Call) (a : Arena) (l : List ℕ) (r : Reply) → r ≡ reply_to capacity_limit largest_generation c a l → capacity a ≤ 65535 → r ≡ reply_to 65535 largest_generation c a l
below_65536_by_contract c a l r kept within = kept ∙ sym (below_65536 largest_generation c a l within)

pub small_below_65536_by_contract : (a : Arena) (index : ℕ) (r : Reply) → r ≡ small_arena capacity_limit a index → capacity a ≤ 65535 → r ≡ small_arena 65535 a index
small_below_65536_by_contract a index r kept within = kept ∙ sym (small_below_65536 a index within)

-- demand 3 at the port's own limits
pub demand_3_of_the_port : (a : Arena) (l : List ℕ) (r : Reply) (reset : Bool) → r ≡ reply_to capacity_limit largest_generation (CompressCanonical reset) a l → Accepted r →
    OfOne capacity_limit largest_generation a r.arena (take (link_count a) r.back) (link_count a) (pieces (at r.arena.next) (link_count a))
demand_3_of_the_port a l r reset p done =
    demand_3.one a r.arena r.back (compressed_by_contract capacity_limit largest_generation a l r reset p done)

module _ (limit top : ℕ) (a : Arena) (ok : WellFormed limit a) where
  -- calls made one after the other, and commands of a run
  pub well_formed_after_calls : (ms : List Made) → WellFormed limit (arena_after limit top ms a)
  well_formed_after_calls ms = (check_passes_exactly_if_well_formed limit _).0 (any_calls_keep limit top ms a ((check_passes_exactly_if_well_formed limit a).1 ok))

  pub well_formed_after_commands : (cs : List Command) → WellFormed limit (applied top a cs)
  well_formed_after_commands cs = (check_passes_exactly_if_well_formed limit _).0 (inside_a_run limit top a ((check_passes_exactly_if_well_formed limit a).1 ok) cs)

-- the answers of a run
pub answers_are_words : (top : ℕ) (cs : List Command) (a : Arena) (w : ℕ) → In w (answers_of top a cs) → AnswerWord w
unfolding answers_of
answers_are_words top [] a w i = absurd (not_in_nil w i)
answers_are_words top (c ∷ cs) a w i = go (in_cases w (apply top a c).number (answers_of top (apply top a c).arena cs) i) (answers_are_words top cs (apply top a c).arena w)
  where
    go : (w ≡ (apply top a c).number) ⊎ In w (answers_of top (apply top a c).arena cs) → (In w (answers_of top (apply top a c).arena cs) → AnswerWord w) → AnswerWord w
    go (inl e) later = subst AnswerWord (sym e) (one_command top a c).answer
    go (inr j) later = later j
