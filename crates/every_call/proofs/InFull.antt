-- Every theorem that docs/PROMISES.md quotes, once more on one page and in full: whoever reads this page and the definitions has read all that is proved of them. Each is
-- proved by the theorem that it repeats, so that a theorem that says less than this page is refused. Assumes nothing.
use Prim.Native.Nat.{ℕ, ◌+◌, ◌*◌, ◌≤◌, ◌<◌, ◌/◌, ◌%◌}
use mathlib.Core.Path.{◌≡◌, refl, sym, ap, subst, ◌∙◌}
use mathlib.Core.Logic.{◌⊎◌, inl, inr, ◌↔◌}
use mathlib.Core.Bool.{Bool, true, false}
use mathlib.Core.List.{List, [], ◌∷◌, ◌++◌, map, reverse}
use native.Mathlib.Omega.{arith}
use lib.ListN.{length, replicate, take, get_or}
use lib.Dec.{eqb, ltb}
use borrow.Author.Tests.{eq-eqb, ne_eqb, eqb-true}
use Rattle.definitions.specs.Columns.{at, count, keep, written, settled}
use Rattle.definitions.specs.Arena.{Arena, arena, capacity, stack_length, link_count, current, link_slots, is_link}
use Rattle.definitions.specs.Check.{misshapen, verdict, FailsAt, broken_slot, broken_side, Freelist, WellFormed, SameRead}
use Rattle.definitions.specs.Reply.{Reply, reply}
use Rattle.definitions.specs.Read.{Pointer, pointer, stale}
use Rattle.definitions.specs.Walk.{Walk, start_at, state_of, step, walk_start, walk_step, walk_from}
use Rattle.definitions.specs.Remove.{drain}
use Rattle.definitions.specs.Insert.{InsertKind, nowhere, place_of, new_slot, insert, kind, unknown, kind_of}
use Rattle.definitions.specs.Run.{Command, commands_of, apply, applied, answers_of}
use Rattle.definitions.specs.Compress.{compress_generation, relocate, compress_with, laid_out, canonical_arena, compress_canonical}
use Rattle.definitions.specs.Clock.{Told, told, line_of_dot, line_dots, due_slots}
use Rattle.definitions.specs.Calls.{Call, Made, Check, WalkStart, WalkStep, DueCount, DueEvents, Insert, Drain, Run, CompressWith, CompressCanonical, accepted, reply_to, call_of, replies_to, arena_after}
use Rattle.definitions.proofs.Tests.{by_test, not_eq}
use Rattle.statements.specs.Chains.{IsOpen, IsClosed, Chain, Alike, Listing, OnOneChain, Renaming, pieces, replaced, Paired, HoldTheSame}
use Rattle.statements.specs.Demand3.{Agree, Further, made, Compressed, OfOne, Unmoved, Demand3}
use Rattle.statements.specs.WalkOrder.{Walks}
use Rattle.statements.specs.Answers.{answers}
use Rattle.statements.specs.DrainsChain.{DrainsChain}
use Rattle.statements.specs.InsertPlaces.{Makes, AllThere, InsertPlaces}
use Rattle.statements.specs.BrokenSlot.{LowestBroken, NamesLowest}
use Rattle.statements.specs.EveryCall.{Unchanged, AnswerWord, OneCommand}
use Rattle.statements.specs.SmallArenas.{IsSmall, before, entry, tally, lent_part, behind, AllSmall, GivesSmall}
use Rattle.statements.specs.FrameClock.{LinesPart, CountsDue, ReportsDue, WindowsPart, ChainParted, SameButPayloads, IgnoresPayloads}
use Rattle.well_formed.proofs.WellFormed.{check_passes_exactly_if_well_formed}
use Rattle.all_small.specs.SmallArenas.{small_arenas}
use Rattle.all_small.specs.SmallArena.{small_arena}
use Rattle.all_small.proofs.SmallArenas.{small_arenas_at, small_arenas_lem}
use Rattle.all_small.proofs.Determined.{none_twice, no_other_list}
use Rattle.all_small.proofs.SmallCall.{small_one_exactly, small_fourteen_exactly, small_done_exactly, small_found_exactly, unfound_changes_nothing, refusal_finds_none, gives_small, held_with_room, every_small_comes, none_comes_twice}
use Rattle.every_call.proofs.SmallArenas.{small_refusal_by_contract, small_by_contract, calls_after_small}
use Rattle.well_formed.proofs.ReadsOnly.{verdict_reads_only, broken_reads_only, payloads_are_not_read}
use Rattle.well_formed.proofs.Verdict.{eleven_fails, verdict_bound}
use Rattle.well_formed.proofs.Eleven.{eleven_exactly}
use Rattle.chains.proofs.Links.{well_formed_linked}
use Rattle.demand3.proofs.Equivalence.{well_formed_room}
use Rattle.chains.proofs.Listings.{every_link_on_one_chain, listings_pair}
use Rattle.walks.proofs.Walks.{walk_gives_chain}
use Rattle.walks.proofs.ChainOrder.{walk_open, walk_closed}
use Rattle.walks.proofs.AnyState.{step_answers_links, none_after_none, walk_then_none, answers_are_links, none_again, walk_then_one_none}
use Rattle.kept.proofs.Runs.{run_goes_on, answers_go_on}
use Rattle.insertion.proofs.InsertPlaces.{insert_places, insert_answers}
use Rattle.insertion.proofs.NoPlace.{seventeen_exactly}
use Rattle.insertion.proofs.Full.{full_exactly}
use Rattle.insertion.proofs.Empty.{empty_passes}
use Rattle.drains.proofs.DrainsChain.{drain_takes_the_chain, done_drain_takes_the_chain}
use Rattle.renaming.proofs.Relocated.{any_order_renames, any_order_well_formed}
use Rattle.renaming.proofs.Determined.{renaming_determines}
use Rattle.renaming.proofs.CompressWith.{compress_with_renames, compress_with_keeps}
use Rattle.demand3.proofs.Kept.{compress_canonical_keeps}
use Rattle.demand3.proofs.Equivalence.{exchanges_are_renaming, where_from_lem, links_laid}
use Rattle.demand3.proofs.Computed.{canonical_overflows, canonical_resets, order_preserving_overflows, moving_nothing_is_refused}
use Rattle.demand3.proofs.Demand3.{demand_3, demand_3_at, demand_3_at_65535}
use Rattle.every_call.proofs.RefusalChangesNothing.{refusal_changes_nothing}
use Rattle.every_call.proofs.BrokenSlot.{broken_slot_is_lowest, lowest_broken_is_one, eleven_by_call, names_lowest, names_lowest_by_contract, eleven_by_contract}
use Rattle.every_call.proofs.EveryCallKeeps.{every_call_keeps, any_calls_keep, inside_a_run}
use Rattle.every_call.proofs.CapacityStays.{capacity_stays, capacity_after_calls}
use Rattle.every_call.proofs.RunIsFold.{reply_of_a_run, command_by_call, run_by_calls, one_command}
use Rattle.every_call.proofs.Insertions.{insert_by_call, no_such_kind, sixteen_exactly, seventeen_exactly_by_call, full_exactly_by_call, done_insert_places, insertion_answers, grown_from_empty}
use Rattle.every_call.proofs.FrameLines.{lines_part_the_frame, dot_in_its_line}
use Rattle.every_call.proofs.Due.{due_counted, due_in_walk_order, twelve_exactly, nineteen_exactly, fourteen_exactly, done_exactly, counts_agree, windows_part, windows_part_a_chain, counts_add_up}
use Rattle.every_call.proofs.IgnoresPayloads.{compression_ignores_payloads}
use Rattle.every_call.proofs.WiderLimit.{below_65536, calls_below_65536, small_below_65536, same_within, one_above_the_limit, one_slot_more, one_slot_more_at_65535}
use Rattle.every_call.proofs.ContractDetermines.{contract_determines, contract_can_be_kept, programs_agree}
use Rattle.every_call.proofs.ByContract.{below_65536_by_contract, small_below_65536_by_contract, due_counted_by_contract, due_by_contract, count_done_by_contract, due_done_by_contract, lines_by_contract, compress_with_ignores_by_contract, canonical_ignores_by_contract, refusal_by_contract, kept_by_contract, drain_by_contract, insert_by_contract, seventeen_by_contract, full_by_contract, demand_3_by_contract, demand_3_of_the_port, run_by_contract, run_calls_by_contract, check_by_contract, well_formed_after_calls, well_formed_after_commands, answers_are_words}

-- ---- the check

pub check_passes_exactly_if_well_formed_in_full : (limit : ℕ) (a : Arena) → (verdict limit a ≡ 0) ↔ WellFormed limit a
check_passes_exactly_if_well_formed_in_full = check_passes_exactly_if_well_formed

pub verdict_reads_only_in_full : (limit : ℕ) (a b : Arena) → SameRead a b → verdict limit a ≡ verdict limit b
verdict_reads_only_in_full = verdict_reads_only

pub eleven_fails_in_full : (limit : ℕ) (a : Arena) → verdict limit a ≡ 11 → (s : ℕ) × FailsAt a s
eleven_fails_in_full = eleven_fails

-- 11 comes exactly where the arena is well formed but for the neighbours, and rule 11 fails at some slot
pub eleven_exactly_in_full : (limit : ℕ) (a : Arena) →
    (verdict limit a ≡ 11)
    ↔ (((length a.header ≡ 4)
    × (length a.prev ≤ limit)
    × (length a.next ≡ length a.prev)
    × (length a.generation ≡ length a.prev)
    × (length a.payload ≡ length a.prev)
    × (2 ≤ current a)
    × (stack_length a ≤ length a.prev)
    × (link_count a ≡ length (link_slots a.generation (stack_length a)))
    × ((fs : List ℕ) × Freelist a fs))
    × ((s : ℕ) × FailsAt a s))
eleven_exactly_in_full = eleven_exactly

pub verdict_bound_in_full : (limit : ℕ) (a : Arena) → verdict limit a ≤ 11
verdict_bound_in_full = verdict_bound

-- the check answers the verdict with its slot and side, and so does every call where that is not 0
pub check_answers_the_verdict : (limit top : ℕ) (a : Arena) (l : List ℕ) →
    reply_to limit top Check a l ≡ record { number = verdict limit a; broken = broken_slot limit a; side = broken_side limit a; fields = []; arena = a; back = l }
unfolding reply_to accepted
check_answers_the_verdict limit top a l = by_test (eqb (verdict limit a) 0) passes (λ t. rw t refl)
  where
    passes : eqb (verdict limit a) 0 ≡ true → reply_to limit top Check a l ≡ record { number = verdict limit a; broken = broken_slot limit a; side = broken_side limit a; fields = []; arena = a; back = l }
    passes t =
        let v = eqb-true (verdict limit a) 0 t in
        let none = (broken_slot_is_lowest limit a).1 (λ e. omega arith) in
        rw (none.0, none.1, t, v) refl

pub refused_by_the_check : (limit top : ℕ) (c : Call) (a : Arena) (l : List ℕ) → (verdict limit a ≡ 0 → ⊥) →
    ((reply_to limit top c a l).number ≡ verdict limit a)
    × ((reply_to limit top c a l).broken ≡ broken_slot limit a)
    × ((reply_to limit top c a l).side ≡ broken_side limit a)
    × ((reply_to limit top c a l).arena ≡ a)
    × ((reply_to limit top c a l).back ≡ l)
unfolding reply_to
refused_by_the_check limit top c a l broken = let e = ne_eqb (verdict limit a) 0 broken in (rw e refl, rw e refl, rw e refl, rw e refl, rw e refl)

-- with 11 no lower slot breaks the rule, and the side is the one that breaks it, prev before next; with any other number there is neither
pub broken_slot_is_lowest_in_full : (limit : ℕ) (a : Arena) →
    (verdict limit a ≡ 11 → LowestBroken a (broken_slot limit a) (broken_side limit a)) × ((verdict limit a ≡ 11 → ⊥) → (broken_slot limit a ≡ 0) × (broken_side limit a ≡ 0))
broken_slot_is_lowest_in_full = broken_slot_is_lowest

pub lowest_broken_is_one_in_full : (a : Arena) (s t d e : ℕ) → LowestBroken a s d → LowestBroken a t e → (s ≡ t) × (d ≡ e)
lowest_broken_is_one_in_full = lowest_broken_is_one

pub broken_reads_only_in_full : (a b : Arena) → SameRead a b → (limit : ℕ) → (broken_slot limit a ≡ broken_slot limit b) × (broken_side limit a ≡ broken_side limit b)
broken_reads_only_in_full = broken_reads_only

pub payloads_are_not_read_in_full : (limit : ℕ) (ps ns gs vs ws h : List ℕ) → length vs ≡ length ws → verdict limit (arena ps ns gs vs h) ≡ verdict limit (arena ps ns gs ws h)
payloads_are_not_read_in_full = payloads_are_not_read

-- ---- every call

pub eleven_by_call_in_full : (limit top : ℕ) (c : Call) (a : Arena) (l : List ℕ) → ((reply_to limit top c a l).number ≡ 11) ↔ (verdict limit a ≡ 11)
eleven_by_call_in_full = eleven_by_call

pub names_lowest_in_full : (limit top : ℕ) (c : Call) (a : Arena) (l : List ℕ) → NamesLowest a (reply_to limit top c a l)
names_lowest_in_full = names_lowest

pub refusal_changes_nothing_in_full : (limit top : ℕ) (c : Call) (a : Arena) (l : List ℕ) → Unchanged a l (reply_to limit top c a l)
refusal_changes_nothing_in_full = refusal_changes_nothing

pub every_call_keeps_in_full : (limit top : ℕ) (c : Call) (a : Arena) (l : List ℕ) → verdict limit a ≡ 0 → verdict limit (reply_to limit top c a l).arena ≡ 0
every_call_keeps_in_full = every_call_keeps

pub any_calls_keep_in_full : (limit top : ℕ) (ms : List Made) (a : Arena) → verdict limit a ≡ 0 → verdict limit (arena_after limit top ms a) ≡ 0
any_calls_keep_in_full = any_calls_keep

pub inside_a_run_in_full : (limit top : ℕ) (a : Arena) → verdict limit a ≡ 0 → (cs : List Command) → verdict limit (applied top a cs) ≡ 0
inside_a_run_in_full = inside_a_run

pub capacity_stays_in_full : (limit top : ℕ) (c : Call) (a : Arena) (l : List ℕ) → length (reply_to limit top c a l).arena.prev ≡ length a.prev
capacity_stays_in_full = capacity_stays

pub capacity_after_calls_in_full : (limit top : ℕ) (ms : List Made) (a : Arena) → length (arena_after limit top ms a).prev ≡ length a.prev
capacity_after_calls_in_full = capacity_after_calls

-- ---- a run

pub reply_of_a_run_in_full : (limit top : ℕ) (a : Arena) (ws answers : List ℕ) → verdict limit a ≡ 0 → length ws % 6 ≡ 0 → length ws / 6 ≤ length answers
    → reply_to limit top (Run ws) a answers ≡ reply 0 [] (applied top a (commands_of ws)) (written (answers_of top a (commands_of ws)) answers)
reply_of_a_run_in_full = reply_of_a_run

pub command_by_call_in_full : (limit top : ℕ) (a : Arena) (c : Command) → verdict limit a ≡ 0 → apply top a c ≡ reply_to limit top (call_of c) a []
command_by_call_in_full = command_by_call

pub run_by_calls_in_full : (limit top : ℕ) (cs : List Command) (a : Arena) → verdict limit a ≡ 0 →
    (applied top a cs ≡ arena_after limit top (map (λ (c : Command). record { call = call_of c; hands = [] }) cs) a)
    × (answers_of top a cs ≡ map (λ (r : Reply). r.number) (replies_to limit top (map (λ (c : Command). record { call = call_of c; hands = [] }) cs) a))
run_by_calls_in_full = run_by_calls

pub one_command_in_full : (top : ℕ) (a : Arena) (c : Command) → OneCommand a (apply top a c)
one_command_in_full = one_command

-- the same of the first command of a run
pub one_command_of_a_run : (top : ℕ) (a : Arena) (c : Command) (w : ℕ) → answers_of top a (c ∷ []) ≡ w ∷ [] → AnswerWord w × (((w ≡ 0) ⊎ (w ≡ 100) → ⊥) → applied top a (c ∷ []) ≡ a)
unfolding answers_of applied
one_command_of_a_run top a c w e =
    let same : (apply top a c).number ≡ w = ap (λ (l : List ℕ). get_or l 0 0) e in
    (subst AnswerWord same (one_command top a c).answer, λ refused. (one_command top a c).refused (λ done. refused (rw same at done)))

pub run_goes_on_in_full : (top : ℕ) (a : Arena) (cs ds : List Command) → applied top a (cs ++ ds) ≡ applied top (applied top a cs) ds
run_goes_on_in_full = run_goes_on

pub answers_go_on_in_full : (top : ℕ) (a : Arena) (cs ds : List Command) → answers_of top a (cs ++ ds) ≡ answers_of top a cs ++ answers_of top (applied top a cs) ds
answers_go_on_in_full = answers_go_on

-- ---- walks

pub walk_gives_chain_in_full : (limit : ℕ) (a : Arena) → WellFormed limit a → (o : ℕ) → is_link a o ≡ true → Walks a o (walk_from a o)
walk_gives_chain_in_full = walk_gives_chain

pub walk_open_in_full : (limit : ℕ) (a : Arena) → WellFormed limit a → (p : ℕ) (u v : List ℕ) → IsOpen a (u ++ p ∷ v) → walk_from a p ≡ (p ∷ v) ++ reverse u
walk_open_in_full = walk_open

pub walk_closed_in_full : (limit : ℕ) (a : Arena) → WellFormed limit a → (p : ℕ) (v : List ℕ) → IsClosed a (p ∷ v) → walk_from a p ≡ p ∷ v
walk_closed_in_full = walk_closed

pub step_answers_links_in_full : (a : Arena) (w : Walk) →
    ((step a w).answer ≡ pointer 0 0) ⊎ ((is_link a (step a w).answer.slot ≡ true) × ((step a w).answer.generation ≡ at a.generation (step a w).answer.slot))
step_answers_links_in_full = step_answers_links

pub none_after_none_in_full : (a : Arena) (k : ℕ) (w : Walk) → (step a w).answer.slot ≡ 0 → answers a k (step a w).state ≡ replicate k 0
none_after_none_in_full = none_after_none

pub answers_are_links_in_full : (a : Arena) (k : ℕ) (w : Walk) (s : ℕ) → 1 ≤ count s (answers a k w) → (s ≡ 0) ⊎ (is_link a s ≡ true)
answers_are_links_in_full = answers_are_links

pub none_again_in_full : (a : Arena) (w : Walk) → (step a w).answer.slot ≡ 0 → (step a (step a w).state).answer.slot ≡ 0
none_again_in_full = none_again

-- the public calls start a walk and make its steps
pub walk_start_by_call : (limit top : ℕ) (a : Arena) (p : Pointer) (l : List ℕ) → verdict limit a ≡ 0 → stale a p ≡ false → reply_to limit top (WalkStart p) a l ≡ reply 0 (p.slot ∷ p.slot ∷ 0 ∷ link_count a ∷ []) a l
unfolding reply_to accepted walk_start
walk_start_by_call limit top a p l passes good = rw (eq-eqb (verdict limit a) 0 passes, good) refl

pub walk_step_by_call : (limit top : ℕ) (a : Arena) (l : List ℕ) → verdict limit a ≡ 0 →
    ((reply_to limit top WalkStep a l).fields ≡ (step a (state_of l)).answer.slot ∷ (step a (state_of l)).answer.generation ∷ [])
    × (state_of (reply_to limit top WalkStep a l).back ≡ (step a (state_of l)).state)
unfolding reply_to accepted walk_step
walk_step_by_call limit top a l passes = let e = eq-eqb (verdict limit a) 0 passes in (rw e refl, rw e refl)

-- a step answers a link with its generation, or none; and after none, in the state that is handed back, none
pub step_by_call : (limit top : ℕ) (a : Arena) (l : List ℕ) → verdict limit a ≡ 0 →
    ((reply_to limit top WalkStep a l).fields ≡ 0 ∷ 0 ∷ [])
    ⊎ ((is_link a (get_or (reply_to limit top WalkStep a l).fields 0 0) ≡ true)
    × (get_or (reply_to limit top WalkStep a l).fields 1 0 ≡ at a.generation (get_or (reply_to limit top WalkStep a l).fields 0 0)))
unfolding reply_to accepted walk_step
step_by_call limit top a l passes =
    rw (eq-eqb (verdict limit a) 0 passes)
    (elim (step_answers_links a (state_of l)) [ inl e ↦ inl (ap (λ (p : Pointer). p.slot ∷ p.generation ∷ []) e) | inr h ↦ inr h ])

pub none_again_by_call : (limit top : ℕ) (a : Arena) (l : List ℕ) → verdict limit a ≡ 0 → get_or (reply_to limit top WalkStep a l).fields 0 0 ≡ 0
    → get_or (reply_to limit top WalkStep a (reply_to limit top WalkStep a l).back).fields 0 0 ≡ 0
unfolding reply_to accepted walk_step
none_again_by_call limit top a l passes = rw (eq-eqb (verdict limit a) 0 passes) (none_again a (state_of l))

pub walk_then_one_none_in_full : (a : Arena) (o : ℕ) → answers a (length (walk_from a o) + 1) (start_at a o) ≡ walk_from a o ++ 0 ∷ []
walk_then_one_none_in_full = walk_then_one_none

pub walk_then_none_in_full : (a : Arena) (o k : ℕ) → answers a (length (walk_from a o) + k) (start_at a o) ≡ walk_from a o ++ replicate k 0
walk_then_none_in_full = walk_then_none

-- ---- chains and drains

pub every_link_on_one_chain_in_full : (limit : ℕ) (a : Arena) → WellFormed limit a → (s : ℕ) → is_link a s ≡ true → OnOneChain a s
every_link_on_one_chain_in_full limit a ok = every_link_on_one_chain ok

pub listings_pair_in_full : (a : Arena) (cs ds : List Chain) → Listing a cs → Listing a ds → Paired Alike cs ds
listings_pair_in_full = listings_pair

pub drain_takes_the_chain_in_full :
    (limit top : ℕ) → limit < top → (a : Arena) → WellFormed limit a → (p : Pointer) → stale a p ≡ false → (report : List ℕ) → 5 * length (walk_from a p.slot) ≤ length report
    → DrainsChain limit top a p.slot (walk_from a p.slot) report (drain top a p report)
drain_takes_the_chain_in_full = drain_takes_the_chain

pub done_drain_takes_the_chain_in_full : (limit top : ℕ) → limit < top → (a : Arena) (p : Pointer) (report : List ℕ) → (reply_to limit top (Drain p) a report).number ≡ 0
    → DrainsChain limit top a p.slot (walk_from a p.slot) report (reply_to limit top (Drain p) a report)
done_drain_takes_the_chain_in_full = done_drain_takes_the_chain

-- ---- insertion

pub insert_places_in_full : (limit : ℕ) (a : Arena) → verdict limit a ≡ 0 → (k : InsertKind) (x : ℕ) (l : List ℕ) → (insert a k x l).number ≡ 0 → InsertPlaces a (insert a k x l).arena k (new_slot a) x
insert_places_in_full = insert_places

pub insert_answers_in_full : (a : Arena) (k : InsertKind) (x : ℕ) (l : List ℕ) → (insert a k x l).number ≡ 0 → (insert a k x l).fields ≡ new_slot a ∷ current a ∷ []
insert_answers_in_full = insert_answers

pub full_exactly_in_full : (limit : ℕ) (a : Arena) → verdict limit a ≡ 0 → (k : InsertKind) (x : ℕ) (l : List ℕ)
    → ((insert a k x l).number ≡ 18) ↔ ((place_of a (new_slot a) k ≡ nowhere → ⊥) × (link_count a ≡ capacity a))
full_exactly_in_full = full_exactly

pub seventeen_exactly_in_full : (limit : ℕ) (a : Arena) → verdict limit a ≡ 0 → (k : InsertKind) (x : ℕ) (l : List ℕ)
    → ((insert a k x l).number ≡ 17) ↔ (AllThere a k → (d : Chain) → Makes a (new_slot a) k d → ⊥)
seventeen_exactly_in_full = seventeen_exactly

-- the public call
module _ (limit top : ℕ) (a : Arena) (p q : Pointer) (code x : ℕ) (l : List ℕ) where
  pub insert_by_call_in_full : verdict limit a ≡ 0 → (k : InsertKind) → kind_of code p q ≡ kind k → reply_to limit top (Insert code p q x) a l ≡ insert a k x l
  insert_by_call_in_full = insert_by_call limit top a p q code x l

  pub no_such_kind_in_full : verdict limit a ≡ 0 → kind_of code p q ≡ unknown → reply_to limit top (Insert code p q x) a l ≡ reply 16 (0 ∷ 0 ∷ []) a l
  no_such_kind_in_full = no_such_kind limit top a p q code x l

  pub sixteen_exactly_in_full : verdict limit a ≡ 0 → ((reply_to limit top (Insert code p q x) a l).number ≡ 16) ↔ ((code ≤ 5) ⊎ (20 ≤ code))
  sixteen_exactly_in_full = sixteen_exactly limit top a p q code x l

  pub seventeen_exactly_by_call_in_full : verdict limit a ≡ 0 → (k : InsertKind) → kind_of code p q ≡ kind k
      → ((reply_to limit top (Insert code p q x) a l).number ≡ 17) ↔ (AllThere a k → (d : Chain) → Makes a (new_slot a) k d → ⊥)
  seventeen_exactly_by_call_in_full = seventeen_exactly_by_call limit top a p q code x l

  pub full_exactly_by_call_in_full : verdict limit a ≡ 0 → (k : InsertKind) → kind_of code p q ≡ kind k
      → ((reply_to limit top (Insert code p q x) a l).number ≡ 18) ↔ ((place_of a (new_slot a) k ≡ nowhere → ⊥) × (link_count a ≡ capacity a))
  full_exactly_by_call_in_full = full_exactly_by_call limit top a p q code x l

  pub done_insert_places_in_full : (reply_to limit top (Insert code p q x) a l).number ≡ 0
      → (k : InsertKind) × (kind_of code p q ≡ kind k) × ((reply_to limit top (Insert code p q x) a l).fields ≡ new_slot a ∷ current a ∷ [])
      × InsertPlaces a (reply_to limit top (Insert code p q x) a l).arena k (new_slot a) x
  done_insert_places_in_full = done_insert_places limit top a p q code x l

pub insertion_answers_in_full : (top : ℕ) (a : Arena) (c : Command) → 6 ≤ c.code → c.code ≤ 19 → ((apply top a c).number ≡ 0) ⊎ (((apply top a c).number ≡ 17) ⊎ ((apply top a c).number ≡ 18))
insertion_answers_in_full = insertion_answers

pub empty_passes_in_full : (limit c g : ℕ) (ps ns gs vs : List ℕ) → length ps ≡ c → length ns ≡ c → length gs ≡ c → length vs ≡ c → c ≤ limit → 2 ≤ g
    → verdict limit (arena ps ns gs vs (0 ∷ 0 ∷ 0 ∷ g ∷ [])) ≡ 0
empty_passes_in_full = empty_passes

pub grown_from_empty_in_full : (limit top c g : ℕ) (ps ns gs vs : List ℕ) → length ps ≡ c → length ns ≡ c → length gs ≡ c → length vs ≡ c → c ≤ limit → 2 ≤ g → (ms : List Made) →
    (verdict limit (arena_after limit top ms (arena ps ns gs vs (0 ∷ 0 ∷ 0 ∷ g ∷ []))) ≡ 0)
    × ((f : Further) → length f.where_from ≡ c →
    let a = arena_after limit top ms (arena ps ns gs vs (0 ∷ 0 ∷ 0 ∷ g ∷ [])) in
    let r = reply_to limit top (CompressCanonical f.reset) a f.where_from in
    ((r.number ≡ 0) ⊎ (r.number ≡ 100))
    × OfOne limit top a r.arena (take (link_count a) r.back) (link_count a) (pieces (at r.arena.next) (link_count a))
    × ((cs ds : List Chain) → Listing a cs → Listing a ds → Paired Alike cs ds)
    × ((b b' : Arena) (col : List ℕ) → Compressed limit top b b' col → link_count a ≡ link_count b → Agree r.arena b' (link_count a) → HoldTheSame a b)
    × ((fs : List Further) → Unmoved limit top r.arena (map made fs) (link_count a)))
grown_from_empty_in_full = grown_from_empty

-- ---- the frame clock

pub lines_part_the_frame_in_full : LinesPart line_of_dot line_dots
lines_part_the_frame_in_full = lines_part_the_frame

pub dot_in_its_line_in_full : (dot n line m first last : ℕ) → told n (line ∷ []) ≡ line_of_dot dot → told m (first ∷ last ∷ []) ≡ line_dots line → dot < 89342
    → (n ≡ 0) × (m ≡ 0) × (line < 262) × (first ≤ dot) × (dot ≤ last) × (last ≡ first + 340)
dot_in_its_line_in_full = dot_in_its_line

-- of any two functions that answer as the calls do
pub lines_by_contract_in_full : (ofDot dotsOf : ℕ → Told) → ((dot : ℕ) → ofDot dot ≡ line_of_dot dot) → ((line : ℕ) → dotsOf line ≡ line_dots line) → LinesPart ofDot dotsOf
lines_by_contract_in_full = lines_by_contract

module _ (limit top : ℕ) (a : Arena) (p : Pointer) (from to : ℕ) where
  pub due_counted_in_full : (l : List ℕ) → (reply_to limit top (DueCount p from to) a l).number ≡ 0 → CountsDue a p.slot from to (reply_to limit top (DueCount p from to) a l)
  due_counted_in_full = due_counted limit top a p from to

  pub due_in_walk_order_in_full : (report : List ℕ) → (reply_to limit top (DueEvents p from to) a report).number ≡ 0
      → ReportsDue a p.slot from to report (reply_to limit top (DueEvents p from to) a report)
  due_in_walk_order_in_full = due_in_walk_order limit top a p from to

  -- the numbers in an arena that passes the check: first of any pointer, then of a good one
  pub twelve_exactly_in_full : verdict limit a ≡ 0 → (l report : List ℕ) →
      (((reply_to limit top (DueCount p from to) a l).number ≡ 12) ↔ (stale a p ≡ true))
      × (((reply_to limit top (DueEvents p from to) a report).number ≡ 12) ↔ (stale a p ≡ true))
  twelve_exactly_in_full = twelve_exactly limit top a p from to

  pub nineteen_exactly_in_full : verdict limit a ≡ 0 → stale a p ≡ false → (l report : List ℕ) →
      (((reply_to limit top (DueCount p from to) a l).number ≡ 19) ↔ ((89342 ≤ from) ⊎ (89342 < to)))
      × (((reply_to limit top (DueEvents p from to) a report).number ≡ 19) ↔ ((89342 ≤ from) ⊎ (89342 < to)))
  nineteen_exactly_in_full = nineteen_exactly limit top a p from to

  pub fourteen_exactly_in_full : verdict limit a ≡ 0 → stale a p ≡ false → from < 89342 → to ≤ 89342 → (report : List ℕ)
      → ((reply_to limit top (DueEvents p from to) a report).number ≡ 14) ↔ (length report < length (walk_from a p.slot))
  fourteen_exactly_in_full = fourteen_exactly limit top a p from to

  pub done_exactly_in_full : verdict limit a ≡ 0 → stale a p ≡ false → (l report : List ℕ) →
      (((reply_to limit top (DueCount p from to) a l).number ≡ 0) ↔ ((from < 89342) × (to ≤ 89342)))
      × (((reply_to limit top (DueEvents p from to) a report).number ≡ 0) ↔ ((from < 89342) × (to ≤ 89342) × (length (walk_from a p.slot) ≤ length report)))
  done_exactly_in_full = done_exactly limit top a p from to

  pub counts_agree_in_full : (l report : List ℕ) → (reply_to limit top (DueCount p from to) a l).number ≡ 0 → (reply_to limit top (DueEvents p from to) a report).number ≡ 0
      → (reply_to limit top (DueCount p from to) a l).fields ≡ (reply_to limit top (DueEvents p from to) a report).fields
  counts_agree_in_full = counts_agree limit top a p from to

module _ {f t : ℕ} (other : f ≡ t → ⊥) where
  pub windows_part_in_full : WindowsPart f t
  windows_part_in_full = windows_part other

  pub windows_part_a_chain_in_full : (a : Arena) (o : ℕ) → ChainParted a (walk_from a o) (due_slots a o f t) (due_slots a o t f)
  windows_part_a_chain_in_full = windows_part_a_chain other

  pub counts_add_up_in_full : (a : Arena) (o : ℕ) → length (due_slots a o f t) + length (due_slots a o t f) ≡ length (keep (λ s. ltb (at a.payload s) 89342) (walk_from a o))
  counts_add_up_in_full = counts_add_up other

-- neither compression looks at a payload: they go with their links, in slot order or as the where-from column tells
pub compression_ignores_payloads_in_full : (limit top : ℕ) (reset : Bool) (a b : Arena) → SameButPayloads a b → (l : List ℕ) →
    IgnoresPayloads a b (link_slots a.generation (stack_length a)) (reply_to limit top (CompressWith reset) a l) (reply_to limit top (CompressWith reset) b l)
    × IgnoresPayloads a b (take (link_count a) (reply_to limit top (CompressCanonical reset) a l).back) (reply_to limit top (CompressCanonical reset) a l) (reply_to limit top (CompressCanonical reset) b l)
compression_ignores_payloads_in_full limit top reset a b h l = compression_ignores_payloads limit top reset h l

-- ---- compressions

-- an order w of the links of a: each once, and nothing else
pub any_order_renames_in_full : (limit : ℕ) (a : Arena) → WellFormed limit a → (w : List ℕ) → ((o : ℕ) → is_link a o ≡ true → count o w ≡ 1) → ((o : ℕ) → 1 ≤ count o w → is_link a o ≡ true)
    → (g : ℕ) → Renaming a (relocate w g a) w (length w)
any_order_renames_in_full limit a ok w each only g = any_order_renames a w (record { each = each; only = only }) g (well_formed_linked ok)

pub any_order_well_formed_in_full :
    (limit : ℕ) (a : Arena) → WellFormed limit a → (w : List ℕ) → ((o : ℕ) → is_link a o ≡ true → count o w ≡ 1) → ((o : ℕ) → 1 ≤ count o w → is_link a o ≡ true)
    → (g : ℕ) → 2 ≤ g → WellFormed limit (relocate w g a)
any_order_well_formed_in_full limit a ok w each only g h = any_order_well_formed a w (record { each = each; only = only }) g limit ok h

pub renaming_determines_in_full : (a b c : Arena) (w : List ℕ) (n : ℕ) → Renaming a b w n → Renaming a c w n → Agree b c n
renaming_determines_in_full = renaming_determines

pub compress_with_renames_in_full : (limit top : ℕ) (a : Arena) → WellFormed limit a → (reset : Bool) (report : List ℕ) → 4 * link_count a ≤ length report
    → Renaming a (compress_with top reset a report).arena (link_slots a.generation (stack_length a)) (link_count a)
compress_with_renames_in_full = compress_with_renames

-- the public call
pub compress_with_by_call : (limit top : ℕ) (a : Arena) (reset : Bool) (report : List ℕ) → verdict limit a ≡ 0 → 4 * link_count a ≤ length report
    → Renaming a (reply_to limit top (CompressWith reset) a report).arena (link_slots a.generation (stack_length a)) (link_count a)
unfolding reply_to accepted
compress_with_by_call limit top a reset report passes room =
    rw (eq-eqb (verdict limit a) 0 passes) (compress_with_renames limit top a ((check_passes_exactly_if_well_formed limit a).0 passes) reset report room)

pub compress_with_keeps_in_full : (limit top : ℕ) (a : Arena) → WellFormed limit a → (reset : Bool) (report : List ℕ) → WellFormed limit (compress_with top reset a report).arena
compress_with_keeps_in_full = compress_with_keeps

pub compress_canonical_keeps_in_full : (limit top : ℕ) (a : Arena) → WellFormed limit a → (reset : Bool) (where_from : List ℕ) → WellFormed limit (compress_canonical top reset a where_from).arena
compress_canonical_keeps_in_full = compress_canonical_keeps

pub demand_3_in_full : Demand3 1048576 4294967295
demand_3_in_full = demand_3

pub demand_3_at_in_full : (limit top : ℕ) → Demand3 limit top
demand_3_at_in_full = demand_3_at

pub demand_3_at_65535_in_full : Demand3 65535 4294967295
demand_3_at_65535_in_full = demand_3_at_65535

-- the exchanges lead to the arena in which the links are laid out in the canonical order, and the where-from column to that order
pub exchanges_are_renaming_in_full : (limit : ℕ) (a : Arena) → WellFormed limit a → (g : ℕ) → canonical_arena g a ≡ relocate (take (link_count a) (laid_out a).from) g a
exchanges_are_renaming_in_full limit a ok g =
    let laid = links_laid limit 0 a ok false [] in
    exchanges_are_renaming a (well_formed_linked ok) (well_formed_room ok) g (sym laid)
    ∙ ap (λ (w : List ℕ). relocate w g a) (sym (rw laid at (where_from_lem a (well_formed_linked ok) (well_formed_room ok))))

pub canonical_by_call : (limit top : ℕ) (a : Arena) (reset : Bool) (w : List ℕ) → verdict limit a ≡ 0 → length w ≡ length a.prev →
    ((reply_to limit top (CompressCanonical reset) a w).arena ≡ canonical_arena (compress_generation top reset a) a)
    × ((reply_to limit top (CompressCanonical reset) a w).back ≡ settled (stack_length a) (take (link_count a) (laid_out a).from) w)
unfolding reply_to accepted compress_canonical
canonical_by_call limit top a reset w passes long = let e = eq-eqb (verdict limit a) 0 passes in let f = not_eq (length w) (length a.prev) long in (rw (e, f) refl, rw (e, f) refl)

-- computed: slot 1 free, 2→4, 3 closed alone, in a stack of 4 of capacity 5, at the largest generation
abbrev largest : Arena
largest = arena (0 ∷ 0 ∷ 3 ∷ 2 ∷ 7 ∷ []) (1 ∷ 4 ∷ 3 ∷ 0 ∷ 7 ∷ []) (0 ∷ 5 ∷ 5 ∷ 5 ∷ 7 ∷ []) (8 ∷ 12 ∷ 13 ∷ 14 ∷ 7 ∷ []) (4 ∷ 3 ∷ 1 ∷ 4294967295 ∷ [])

pub canonical_overflows_in_full : reply_to 1048576 4294967295 (CompressCanonical false) largest (9 ∷ 9 ∷ 9 ∷ 9 ∷ 9 ∷ []) ≡
    reply 100 [] (arena (0 ∷ 1 ∷ 3 ∷ 0 ∷ 7 ∷ []) (2 ∷ 0 ∷ 3 ∷ 0 ∷ 7 ∷ []) (2 ∷ 2 ∷ 2 ∷ 0 ∷ 7 ∷ []) (12 ∷ 14 ∷ 13 ∷ 0 ∷ 7 ∷ []) (3 ∷ 3 ∷ 0 ∷ 2 ∷ [])) (2 ∷ 4 ∷ 3 ∷ 0 ∷ 9 ∷ [])
canonical_overflows_in_full = canonical_overflows

pub canonical_resets_in_full : reply_to 1048576 4294967295 (CompressCanonical true) largest (9 ∷ 9 ∷ 9 ∷ 9 ∷ 9 ∷ []) ≡
    reply 0 [] (arena (0 ∷ 1 ∷ 3 ∷ 0 ∷ 7 ∷ []) (2 ∷ 0 ∷ 3 ∷ 0 ∷ 7 ∷ []) (2 ∷ 2 ∷ 2 ∷ 0 ∷ 7 ∷ []) (12 ∷ 14 ∷ 13 ∷ 0 ∷ 7 ∷ []) (3 ∷ 3 ∷ 0 ∷ 2 ∷ [])) (2 ∷ 4 ∷ 3 ∷ 0 ∷ 9 ∷ [])
canonical_resets_in_full = canonical_resets

pub order_preserving_overflows_in_full : reply_to 1048576 4294967295 (CompressWith false) largest (9 ∷ 9 ∷ 9 ∷ 9 ∷ 9 ∷ 9 ∷ 9 ∷ 9 ∷ 9 ∷ 9 ∷ 9 ∷ 9 ∷ 9 ∷ []) ≡
    reply 100 [] (arena (0 ∷ 2 ∷ 1 ∷ 0 ∷ 7 ∷ []) (3 ∷ 2 ∷ 0 ∷ 0 ∷ 7 ∷ []) (2 ∷ 2 ∷ 2 ∷ 0 ∷ 7 ∷ []) (12 ∷ 13 ∷ 14 ∷ 0 ∷ 7 ∷ []) (3 ∷ 3 ∷ 0 ∷ 2 ∷ []))
    (2 ∷ 5 ∷ 1 ∷ 2 ∷ 3 ∷ 5 ∷ 2 ∷ 2 ∷ 4 ∷ 5 ∷ 3 ∷ 2 ∷ 9 ∷ [])
order_preserving_overflows_in_full = order_preserving_overflows

-- K11 with every link left where it was
pub moving_nothing_is_refused_in_full : Listing (arena (0 ∷ 0 ∷ 0 ∷ 0 ∷ 1 ∷ []) (5 ∷ 0 ∷ 0 ∷ 0 ∷ 0 ∷ []) (5 ∷ 5 ∷ 5 ∷ 5 ∷ 5 ∷ []) (11 ∷ 12 ∷ 13 ∷ 14 ∷ 15 ∷ []) (5 ∷ 5 ∷ 0 ∷ 5 ∷ []))
    (map (replaced (at (1 ∷ 2 ∷ 3 ∷ 4 ∷ 5 ∷ []))) (pieces (at (5 ∷ 0 ∷ 0 ∷ 0 ∷ 0 ∷ [])) 5)) → ⊥
moving_nothing_is_refused_in_full = moving_nothing_is_refused

-- ---- the contract

module _ (limit top : ℕ) (c : Call) (a : Arena) (l : List ℕ) where
  pub contract_determines_in_full : (r s : Reply) → r ≡ reply_to limit top c a l → s ≡ reply_to limit top c a l → r ≡ s
  contract_determines_in_full = contract_determines limit top c a l

  pub contract_can_be_kept_in_full : (r : Reply) × (r ≡ reply_to limit top c a l)
  contract_can_be_kept_in_full = contract_can_be_kept limit top c a l

  pub names_lowest_by_contract_in_full : (r : Reply) → r ≡ reply_to limit top c a l → NamesLowest a r
  names_lowest_by_contract_in_full = names_lowest_by_contract limit top c a l

  pub eleven_by_contract_in_full : (r : Reply) → r ≡ reply_to limit top c a l →
      (r.number ≡ 11)
      ↔ (((length a.header ≡ 4)
      × (length a.prev ≤ limit)
      × (length a.next ≡ length a.prev)
      × (length a.generation ≡ length a.prev)
      × (length a.payload ≡ length a.prev)
      × (2 ≤ current a)
      × (stack_length a ≤ length a.prev)
      × (link_count a ≡ length (link_slots a.generation (stack_length a)))
      × ((fs : List ℕ) × Freelist a fs))
      × ((s : ℕ) × FailsAt a s))
  eleven_by_contract_in_full = eleven_by_contract limit top c a l

pub programs_agree_in_full : (limit top : ℕ) (f g : Call → Arena → List ℕ → Reply) → ((c : Call) (a : Arena) (l : List ℕ) → f c a l ≡ reply_to limit top c a l)
    → ((c : Call) (a : Arena) (l : List ℕ) → g c a l ≡ reply_to limit top c a l) → (c : Call) (a : Arena) (l : List ℕ) → f c a l ≡ g c a l
programs_agree_in_full = programs_agree

module _ (limit top : ℕ) (a : Arena) (l : List ℕ) (r : Reply) where
  pub refusal_by_contract_in_full : (c : Call) → r ≡ reply_to limit top c a l → ((r.number ≡ 0) ⊎ (r.number ≡ 100) → ⊥) → (r.arena ≡ a) × (r.back ≡ l)
  refusal_by_contract_in_full = refusal_by_contract limit top a l r

  pub kept_by_contract_in_full : (c : Call) → r ≡ reply_to limit top c a l → WellFormed limit a → WellFormed limit r.arena
  kept_by_contract_in_full = kept_by_contract limit top a l r

  pub drain_by_contract_in_full : limit < top → (q : Pointer) → r ≡ reply_to limit top (Drain q) a l → r.number ≡ 0 → DrainsChain limit top a q.slot (walk_from a q.slot) l r
  drain_by_contract_in_full = drain_by_contract limit top a l r

  pub insert_by_contract_in_full : (code x : ℕ) (p q : Pointer) → r ≡ reply_to limit top (Insert code p q x) a l → r.number ≡ 0 →
      (k : InsertKind) × (kind_of code p q ≡ kind k) × (r.fields ≡ new_slot a ∷ current a ∷ []) × InsertPlaces a r.arena k (new_slot a) x
  insert_by_contract_in_full = insert_by_contract limit top a l r

  pub seventeen_by_contract_in_full : (code x : ℕ) (p q : Pointer) → r ≡ reply_to limit top (Insert code p q x) a l → verdict limit a ≡ 0 → (k : InsertKind) → kind_of code p q ≡ kind k →
      (r.number ≡ 17) ↔ (AllThere a k → (d : Chain) → Makes a (new_slot a) k d → ⊥)
  seventeen_by_contract_in_full = seventeen_by_contract limit top a l r

  pub full_by_contract_in_full : (code x : ℕ) (p q : Pointer) → r ≡ reply_to limit top (Insert code p q x) a l → verdict limit a ≡ 0 → (k : InsertKind) → kind_of code p q ≡ kind k →
      (r.number ≡ 18) ↔ ((place_of a (new_slot a) k ≡ nowhere → ⊥) × (link_count a ≡ capacity a))
  full_by_contract_in_full = full_by_contract limit top a l r

  pub demand_3_by_contract_in_full : (reset : Bool) → r ≡ reply_to limit top (CompressCanonical reset) a l → (r.number ≡ 0) ⊎ (r.number ≡ 100) →
      OfOne limit top a r.arena (take (link_count a) r.back) (link_count a) (pieces (at r.arena.next) (link_count a))
  demand_3_by_contract_in_full = demand_3_by_contract limit top a l r

  pub run_by_contract_in_full : (ws : List ℕ) → r ≡ reply_to limit top (Run ws) a l → verdict limit a ≡ 0 → length ws % 6 ≡ 0 → length ws / 6 ≤ length l →
      r ≡ reply 0 [] (applied top a (commands_of ws)) (written (answers_of top a (commands_of ws)) l)
  run_by_contract_in_full = run_by_contract limit top a l r

  pub run_calls_by_contract_in_full : (ws : List ℕ) → r ≡ reply_to limit top (Run ws) a l → verdict limit a ≡ 0 → length ws % 6 ≡ 0 → length ws / 6 ≤ length l →
      (r.arena ≡ arena_after limit top (map (λ (c : Command). record { call = call_of c; hands = [] }) (commands_of ws)) a)
      × (r.back ≡ written (map (λ (s : Reply). s.number) (replies_to limit top (map (λ (c : Command). record { call = call_of c; hands = [] }) (commands_of ws)) a)) l)
  run_calls_by_contract_in_full = run_calls_by_contract limit top a l r

  pub check_by_contract_in_full : r ≡ reply_to limit top Check a l → r.number ≤ 11
  check_by_contract_in_full = check_by_contract limit top a l r

  pub due_counted_by_contract_in_full : (q : Pointer) (from to : ℕ) → r ≡ reply_to limit top (DueCount q from to) a l → r.number ≡ 0 → CountsDue a q.slot from to r
  due_counted_by_contract_in_full = due_counted_by_contract limit top a l r

  pub due_by_contract_in_full : (q : Pointer) (from to : ℕ) → r ≡ reply_to limit top (DueEvents q from to) a l → r.number ≡ 0 → ReportsDue a q.slot from to l r
  due_by_contract_in_full = due_by_contract limit top a l r

  pub count_done_by_contract_in_full : (q : Pointer) (from to : ℕ) → r ≡ reply_to limit top (DueCount q from to) a l → verdict limit a ≡ 0 → stale a q ≡ false → (r.number ≡ 0) ↔ ((from < 89342) × (to ≤ 89342))
  count_done_by_contract_in_full = count_done_by_contract limit top a l r

  pub due_done_by_contract_in_full : (q : Pointer) (from to : ℕ) → r ≡ reply_to limit top (DueEvents q from to) a l → verdict limit a ≡ 0 → stale a q ≡ false →
      (r.number ≡ 0) ↔ ((from < 89342) × (to ≤ 89342) × (length (walk_from a q.slot) ≤ length l))
  due_done_by_contract_in_full = due_done_by_contract limit top a l r

  pub compress_with_ignores_by_contract_in_full : (reset : Bool) (b : Arena) → SameButPayloads a b → (s : Reply) → r ≡ reply_to limit top (CompressWith reset) a l → s ≡ reply_to limit top (CompressWith reset) b l
      → IgnoresPayloads a b (link_slots a.generation (stack_length a)) r s
  compress_with_ignores_by_contract_in_full reset b h s p q = compress_with_ignores_by_contract limit top reset h l p q

  pub canonical_ignores_by_contract_in_full : (reset : Bool) (b : Arena) → SameButPayloads a b → (s : Reply) → r ≡ reply_to limit top (CompressCanonical reset) a l → s ≡ reply_to limit top (CompressCanonical reset) b l
      → IgnoresPayloads a b (take (link_count a) r.back) r s
  canonical_ignores_by_contract_in_full reset b h s p q = canonical_ignores_by_contract limit top reset h l p q

pub demand_3_of_the_port_in_full : (a : Arena) (l : List ℕ) (r : Reply) (reset : Bool) → r ≡ reply_to 1048576 4294967295 (CompressCanonical reset) a l → (r.number ≡ 0) ⊎ (r.number ≡ 100) →
    OfOne 1048576 4294967295 a r.arena (take (link_count a) r.back) (link_count a) (pieces (at r.arena.next) (link_count a))
demand_3_of_the_port_in_full = demand_3_of_the_port

pub well_formed_after_calls_in_full : (limit top : ℕ) (a : Arena) → WellFormed limit a → (ms : List Made) → WellFormed limit (arena_after limit top ms a)
well_formed_after_calls_in_full = well_formed_after_calls

pub well_formed_after_commands_in_full : (limit top : ℕ) (a : Arena) → WellFormed limit a → (cs : List Command) → WellFormed limit (applied top a cs)
well_formed_after_commands_in_full = well_formed_after_commands

pub answers_are_words_in_full : (top : ℕ) (cs : List Command) (a : Arena) (w : ℕ) → 1 ≤ count w (answers_of top a cs) → AnswerWord w
answers_are_words_in_full = answers_are_words

-- ---- small arenas

-- the list, for any list of which as much is said
abbrev HasAll : ℕ → List Arena → Type 0
HasAll limit arenas =
    (length arenas ≡ 90)
    × (tally arenas 0 ≡ 1)
    × (tally arenas 1 ≡ 3)
    × (tally arenas 2 ≡ 13)
    × (tally arenas 3 ≡ 73)
    × ((i j : ℕ) → i < j → j < 90 → before (entry arenas i) (entry arenas j) ≡ true)
    × ((i : ℕ) → i < 90 → IsSmall limit (entry arenas i))
    × ((a : Arena) → IsSmall limit a → (i : ℕ) × (i < 90) × (entry arenas i ≡ a))

has_all : (limit : ℕ) (arenas : List Arena) → AllSmall limit arenas → HasAll limit arenas
has_all limit arenas w =
    let lengths : (k : ℕ) → get_or (map (tally arenas) (0 ∷ 1 ∷ 2 ∷ 3 ∷ [])) k 0 ≡ get_or (1 ∷ 3 ∷ 13 ∷ 73 ∷ []) k 0 = λ k. ap (λ (ns : List ℕ). get_or ns k 0) w.by_length in (
      w.size,
      lengths 0,
      lengths 1,
      lengths 2,
      lengths 3,
      λ i j l h. w.rising i j l (omega (arith, w.size)),
      λ i h. w.small i (omega (arith, w.size)),
      λ a s. let place = w.every a s in (place.0, omega (arith, place.1, w.size), place.2),
    )

all_of : (limit : ℕ) (arenas : List Arena) → HasAll limit arenas → AllSmall limit arenas
all_of limit arenas h = record {
  size = h.0;
  by_length = rw (h.1, h.2, h.3, h.4) refl;
  rising = λ i j l k. h.5 i j l (omega (arith, h.0));
  small = λ i l. h.6 i (omega (arith, h.0));
  every = λ a s. let place = h.7 a s in (place.0, omega (arith, place.1, h.0), place.2);
}

pub small_arenas_at_in_full : (limit : ℕ) → 3 ≤ limit → HasAll limit small_arenas
small_arenas_at_in_full limit h = has_all limit small_arenas (small_arenas_at limit h)

pub small_arenas_in_full : HasAll 1048576 small_arenas
small_arenas_in_full = has_all 1048576 small_arenas small_arenas_lem

pub none_twice_in_full : (limit : ℕ) (arenas : List Arena) → HasAll limit arenas → (i j : ℕ) → i < 90 → j < 90 → entry arenas i ≡ entry arenas j → i ≡ j
none_twice_in_full limit arenas h i j k l = none_twice (all_of limit arenas h) i j (omega (arith, h.0)) (omega (arith, h.0))

pub no_other_list_in_full : (limit : ℕ) → 3 ≤ limit → (arenas : List Arena) → HasAll limit arenas → arenas ≡ small_arenas
no_other_list_in_full limit h arenas w = no_other_list limit h arenas (all_of limit arenas w)

module _ (limit : ℕ) (a : Arena) (index : ℕ) where
  pub small_one_exactly_in_full : ((small_arena limit a index).number ≡ 1) ↔ (misshapen limit a ≡ true)
  small_one_exactly_in_full = small_one_exactly limit a index

  pub small_fourteen_exactly_in_full : misshapen limit a ≡ false → ((small_arena limit a index).number ≡ 14) ↔ ((index < 90) × (capacity a < stack_length (entry small_arenas index)))
  small_fourteen_exactly_in_full = small_fourteen_exactly limit a index

  pub small_done_exactly_in_full : misshapen limit a ≡ false → ((small_arena limit a index).number ≡ 0) ↔ ((90 ≤ index) ⊎ ((index < 90) × (stack_length (entry small_arenas index) ≤ capacity a)))
  small_done_exactly_in_full = small_done_exactly limit a index

  pub small_found_exactly_in_full : misshapen limit a ≡ false → (get_or (small_arena limit a index).fields 0 0 ≡ 1) ↔ ((index < 90) × (stack_length (entry small_arenas index) ≤ capacity a))
  small_found_exactly_in_full = small_found_exactly limit a index

  pub unfound_changes_nothing_in_full : (get_or (small_arena limit a index).fields 0 0 ≡ 1 → ⊥) → ((small_arena limit a index).fields ≡ 0 ∷ 0 ∷ []) × ((small_arena limit a index).arena ≡ a)
  unfound_changes_nothing_in_full = unfound_changes_nothing limit a index

  pub refusal_finds_none_in_full : ((small_arena limit a index).number ≡ 0 → ⊥) → ((small_arena limit a index).fields ≡ 0 ∷ 0 ∷ []) × ((small_arena limit a index).arena ≡ a)
  refusal_finds_none_in_full = refusal_finds_none limit a index

-- what is given: number 0, found with the stack length; what is lent on is the arena, which is small, and the words behind it are as they were
abbrev Gives : ℕ → Arena → Arena → Reply → Type 0
Gives limit e a r =
    (r.number ≡ 0)
    × (r.fields ≡ 1 ∷ stack_length e ∷ [])
    × (lent_part (stack_length e) r.arena ≡ e)
    × IsSmall limit e
    × (behind (stack_length e) r.arena ≡ behind (stack_length e) a)

given : {limit : ℕ} {e a : Arena} {r : Reply} → GivesSmall limit e a r → Gives limit e a r
given w = (w.number, w.fields, w.lent_on, w.small, w.stays)

gives_all : {limit : ℕ} {e a : Arena} {r : Reply} → Gives limit e a r → GivesSmall limit e a r
gives_all h = record { number = h.0; fields = h.1; lent_on = h.2; small = h.3; stays = h.4 }

pub gives_small_in_full : (limit : ℕ) → 3 ≤ limit → (a : Arena) (index : ℕ) → misshapen limit a ≡ false → index < 90 → stack_length (entry small_arenas index) ≤ capacity a
    → Gives limit (entry small_arenas index) a (small_arena limit a index)
gives_small_in_full limit h a index m i room = given (gives_small limit h a index m i room)

pub held_with_room_in_full : (limit : ℕ) → 3 ≤ limit → (a : Arena) (index : ℕ) → misshapen limit a ≡ false → index < 90 → stack_length (entry small_arenas index) ≤ capacity a
    → verdict limit (small_arena limit a index).arena ≡ 0
held_with_room_in_full = held_with_room

pub every_small_comes_in_full : (limit : ℕ) → 3 ≤ limit → (e : Arena) → IsSmall limit e
    → (index : ℕ) × (index < 90) × ((a : Arena) → misshapen limit a ≡ false → stack_length e ≤ capacity a → Gives limit e a (small_arena limit a index))
every_small_comes_in_full limit h e s = let place = every_small_comes limit h e s in (place.0, place.1, λ a m room. given (place.2 a m room))

pub none_comes_twice_in_full : (limit : ℕ) → 3 ≤ limit → (e : Arena) (i j : ℕ) (a b : Arena) → misshapen limit a ≡ false → misshapen limit b ≡ false
    → Gives limit e a (small_arena limit a i) → Gives limit e b (small_arena limit b j) → i ≡ j
none_comes_twice_in_full limit h e i j a b m n v w = none_comes_twice limit h e i j a b m n (gives_all v) (gives_all w)

module _ (limit : ℕ) (a : Arena) (index : ℕ) (r : Reply) (p : r ≡ small_arena limit a index) where
  pub small_refusal_by_contract_in_full : (r.number ≡ 0 → ⊥) → (r.fields ≡ 0 ∷ 0 ∷ []) × (r.arena ≡ a)
  small_refusal_by_contract_in_full = small_refusal_by_contract limit a index r p

  pub small_by_contract_in_full : 3 ≤ limit → get_or r.fields 0 0 ≡ 1 → (index < 90) × Gives limit (entry small_arenas index) a r
  small_by_contract_in_full h found = let told = small_by_contract limit a index r p h found in (told.0, given told.1)

  pub calls_after_small_in_full : 3 ≤ limit → get_or r.fields 0 0 ≡ 1 → (top : ℕ) (ms : List Made) →
      (verdict limit (arena_after limit top ms (lent_part (get_or r.fields 1 0) r.arena)) ≡ 0)
      × (verdict limit (arena_after limit top ms r.arena) ≡ 0)
  calls_after_small_in_full = calls_after_small limit a index r p

-- ---- two limits

module _ (top : ℕ) (a : Arena) (within : length a.prev ≤ 65535) where
  pub below_65536_in_full : (c : Call) (l : List ℕ) → reply_to 65535 top c a l ≡ reply_to 1048576 top c a l
  below_65536_in_full c l = below_65536 top c a l within

  pub calls_below_65536_in_full : (ms : List Made) → (replies_to 65535 top ms a ≡ replies_to 1048576 top ms a) × (arena_after 65535 top ms a ≡ arena_after 1048576 top ms a)
  calls_below_65536_in_full ms = calls_below_65536 top ms a within

  pub small_below_65536_in_full : (index : ℕ) → small_arena 65535 a index ≡ small_arena 1048576 a index
  small_below_65536_in_full index = small_below_65536 a index within

  pub below_65536_by_contract_in_full : (c : Call) (l : List ℕ) (r : Reply) → r ≡ reply_to 1048576 4294967295 c a l → r ≡ reply_to 65535 4294967295 c a l
  below_65536_by_contract_in_full c l r kept = below_65536_by_contract c a l r kept within

  pub small_below_65536_by_contract_in_full : (index : ℕ) (r : Reply) → r ≡ small_arena 1048576 a index → r ≡ small_arena 65535 a index
  small_below_65536_by_contract_in_full index r kept = small_below_65536_by_contract a index r kept within

-- any two limits, and what is between them
pub same_within_in_full : (limit wider top : ℕ) → limit ≤ wider → (c : Call) (a : Arena) (l : List ℕ) → length a.prev ≤ limit → reply_to limit top c a l ≡ reply_to wider top c a l
same_within_in_full limit wider top wide c a l within = same_within limit wider a within wide top c l

pub one_above_the_limit_in_full : (limit top : ℕ) (c : Call) (a : Arena) (l : List ℕ) → limit < length a.prev → (reply_to limit top c a l).number ≡ 1
one_above_the_limit_in_full = one_above_the_limit

pub one_slot_more_in_full : (limit wider top : ℕ) → limit < wider →
    (a : Arena) × (length a.prev ≡ limit + 1) × ((reply_to limit top Check a []).number ≡ 1) × ((reply_to wider top Check a []).number ≡ 0)
one_slot_more_in_full = one_slot_more

pub one_slot_more_at_65535_in_full : (top : ℕ) → (a : Arena) × (length a.prev ≡ 65536) × ((reply_to 65535 top Check a []).number ≡ 1) × ((reply_to 1048576 top Check a []).number ≡ 0)
one_slot_more_at_65535_in_full = one_slot_more_at_65535
