-- After a canonical compression no list of further ones moves a link: the canonical order is 1 to n, and a renaming by 1 to n changes no word. What
-- one call keeps, the next one needs, so that it is proved of the list as a whole, refused calls included. Assumes nothing.
use Prim.Native.Nat.{ℕ, ◌≤◌}
use mathlib.Core.Path.{◌≡◌, refl, sym, ap, subst, ◌∙◌}
use mathlib.Core.List.{List, [], ◌∷◌, map}
use native.Mathlib.Omega.{arith}
use native.Mathlib.Decide.{ℕ_discrete}
use lib.ListN.{length, take}
use Rattle.definitions.specs.Columns.{at, slots_from, settled}
use Rattle.definitions.specs.Arena.{Arena, capacity, stack_length, link_count, root}
use Rattle.statements.specs.Chains.{Renaming}
use Rattle.definitions.specs.Check.{verdict, WellFormed}
use Rattle.definitions.specs.Reply.{Reply}
use Rattle.definitions.specs.Compress.{compress_generation, relocate}
use Rattle.definitions.specs.Calls.{replies_to, arena_after}
use Rattle.statements.specs.Demand3.{Accepted, Every, Agree, Further, made, compress, Compressed, Unmoved}
use Rattle.definitions.proofs.Parts.{at_own, take_settled}
use Rattle.well_formed.proofs.WellFormed.{passes_if_well_formed}
use Rattle.chains.proofs.Links.{well_formed_linked}
use Rattle.renaming.proofs.Relocated.{new_stack, new_count, new_root, any_order_renames, any_order_well_formed}
use Rattle.renaming.proofs.CompressWith.{compress_generation_two}
use Rattle.demand3.proofs.Order.{canonical_order, canonical_order_lem, canonical_size}
use Rattle.demand3.proofs.Again.{again_moves_nothing}
use Rattle.demand3.proofs.Accepted.{reply_done, reply_fourteen, fourteen_refused, what_is_left}

-- the same words
agree_refl : (b : Arena) (n : ℕ) → Agree b b n
agree_refl b n = record { prev = λ s h l. refl; next = λ s h l. refl; payload = λ s h l. refl }

agree_both : (a b c : Arena) (n : ℕ) → Agree a b n → Agree b c n → Agree a c n
agree_both a b c n x y =
    record { prev = λ s h l. x.prev s h l ∙ y.prev s h l; next = λ s h l. x.next s h l ∙ y.next s h l; payload = λ s h l. x.payload s h l ∙ y.payload s h l }

-- a renaming by 1 to n changes no word
still : (b b' : Arena) (n : ℕ) → Renaming b b' (slots_from 1 n) n → Agree b' b n
still b b' n r =
    record {
      prev = λ s h l. side b.prev (at b'.prev s) s l (r.prev s h l);
      next = λ s h l. side b.next (at b'.next s) s l (r.next s h l);
      payload = λ s h l. r.payload s h l ∙ ap (at b.payload) (at_own n s l);
    }
  where
    side : (old : List ℕ) (x s : ℕ) → s ≤ n → (x ≤ n) × (at (slots_from 1 n) x ≡ at old (at (slots_from 1 n) s)) → x ≡ at old s
    side old x s l q = sym (at_own n x q.0) ∙ (q.1 ∙ ap (at old) (at_own n s l))

module _ (limit top : ℕ) where
  -- an arena that canonical compression left
  record Compact (b : Arena) : Type 0 where
    ok : WellFormed limit b
    stack : stack_length b ≡ link_count b
    root : root b ≡ 0
    order : canonical_order b ≡ slots_from 1 (link_count b)

  compact : (a : Arena) → WellFormed limit a → (g : ℕ) → 2 ≤ g → Compact (relocate (canonical_order a) g a)
  compact a ok g two =
      let linked = well_formed_linked ok in
      let w = canonical_order a in
      let order = canonical_order_lem a linked in
      let count = new_count a w order g ok.header in
      record {
        ok = any_order_well_formed a w order g limit ok two;
        stack = new_stack a w order g ok.header ∙ sym count;
        root = new_root a w order g ok.header;
        order = again_moves_nothing a linked ok.header g (omega arith) ∙ ap (slots_from 1) (sym count);
      }

  -- ---- one further call

  record Stayed (b : Arena) (r : Reply) : Type 0 where
    compact : Compact r.arena
    links : link_count r.arena ≡ link_count b
    words : Agree r.arena b (link_count b)
    column : Accepted r → take (link_count b) r.back ≡ slots_from 1 (link_count b)

  one_call : (b : Arena) (f : Further) → Compact b → Stayed b (compress limit top f b)
  one_call b f c = go (ℕ_discrete (length f.where_from) (capacity b))
    where
      passed : verdict limit b ≡ 0
      passed = passes_if_well_formed limit b c.ok

      w : List ℕ
      w = canonical_order b

      g : ℕ
      g = compress_generation top f.reset b

      two : 2 ≤ compress_generation top f.reset b
      two = compress_generation_two top f.reset b c.ok.generation

      size : length w ≡ link_count b
      size = canonical_size b (well_formed_linked c.ok) c.ok.links

      names : Renaming b (relocate (canonical_order b) g b) (slots_from 1 (link_count b)) (link_count b)
      names =
          subst (λ (n : ℕ). Renaming b (relocate (canonical_order b) g b) (slots_from 1 (link_count b)) n) size
          (subst (λ (x : List ℕ). Renaming b (relocate (canonical_order b) g b) x (length (canonical_order b))) c.order (any_order_renames b w (canonical_order_lem b (well_formed_linked c.ok)) g (well_formed_linked c.ok)))

      go : Dec (length f.where_from ≡ capacity b) → Stayed b (compress limit top f b)
      go (no d) =
          let refused = fourteen_refused limit top f b passed d in
          let same = reply_fourteen limit top f b passed d in
          record {
            compact = rw same c;
            links = ap (λ (r : Reply). link_count r.arena) same;
            words = rw same (agree_refl b (link_count b));
            column = λ r. absurd (refused r);
          }
      go (yes e) =
          rw (reply_done limit top f b passed e)
          (record {
            compact = compact b c.ok g two;
            links = new_count b w (canonical_order_lem b (well_formed_linked c.ok)) g c.ok.header ∙ size;
            words = still b (relocate w g b) (link_count b) names;
            column = λ r. ap (λ (n : ℕ). take n (settled (stack_length b) w f.where_from)) (sym size) ∙ (take_settled (stack_length b) w f.where_from ∙ c.order);
          })

  -- ---- the whole list

  unmoved_list : (b : Arena) (fs : List Further) → Compact b → Unmoved limit top b (map made fs) (link_count b)
  unfolding arena_after replies_to Every
  unmoved_list b [] c = record { stack = refl; links = refl; root = refl; words = agree_refl b (link_count b); columns = tt }
  unmoved_list b (f ∷ fs) c =
      let q = one_call b f c in
      let b₁ : Arena = (compress limit top f b).arena in
      let ih = unmoved_list b₁ fs q.compact in
      let n = q.links in
      record {
        stack = ih.stack ∙ (q.compact.stack ∙ (n ∙ sym c.stack));
        links = ih.links ∙ n;
        root = ih.root ∙ (q.compact.root ∙ sym c.root);
        words = agree_both (arena_after limit top (map made fs) b₁) b₁ b (link_count b) (subst (λ (m : ℕ). Agree (arena_after limit top (map made fs) b₁) b₁ m) n ih.words) q.words;
        columns = (q.column, subst (λ (m : ℕ). Every (λ r. Accepted r → take m r.back ≡ slots_from 1 m) (replies_to limit top (map made fs) b₁)) n ih.columns);
      }

  pub unmoved : (a b : Arena) (col : List ℕ) → Compressed limit top a b col → (fs : List Further) → Unmoved limit top b (map made fs) (link_count a)
  unmoved a b col z fs =
      let l = what_is_left limit top a b col z in
      let c : Compact b = rw l.is (compact a l.ok l.g l.two) in
      let n : link_count b ≡ link_count a = ap link_count l.is ∙ (new_count a (canonical_order a) (canonical_order_lem a (well_formed_linked l.ok)) l.g l.ok.header ∙ l.size) in
      subst (λ (m : ℕ). Unmoved limit top b (map made fs) m) n (unmoved_list b fs c)
