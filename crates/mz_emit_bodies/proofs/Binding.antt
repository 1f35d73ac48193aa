-- A let that is opened.
use Rattle.std.specs.Prelude.{ℕ, ◌≡◌, ◌<◌, ◌+◌, List, [], ◌∷◌, ◌++◌, length, Option, Some}
use Rattle.std.proofs.Common.{zero, suc, sym, ap, ◌∙◌, subst, arith, inl, inr}
use Rattle.std.proofs.lemmas.List.{get_or_append_left, length-append}
use Rattle.std.proofs.lemmas.Bool.{cases_eq}
use Rattle.mz_logic_theory.specs.Tree.{Tree}
use Rattle.mz_logic_theory.specs.Declaration.{Declaration}
use Rattle.mz_store.specs.Sharing.{Sharing}
use Rattle.mz_store.specs.declared.item.Id.{Id}
use Rattle.mz_mmu_theory.specs.Proof.{Proof, by_let}
use Rattle.mz_emit_theory.specs.Claims.{proved, IsSound}
use Rattle.mz_emit_theory.specs.Costs.{cost}
use Rattle.mz_emit_bodies.specs.Scopes.{in_sight}
use Rattle.mz_emit_bodies.specs.TaskInvariant.{Task, prove, claims, let_costs, AllCanBeDone, left}
use Rattle.mz_emit_bodies.specs.Sight.{Part, links, parts, part_at, place_at, AreRight, IsThere}
use Rattle.mz_emit_bodies.specs.Going.{Job, IsGoing}
use Rattle.mz_emit_bodies.specs.declared.let_scopes.Cell.{Cell}
use Rattle.mz_emit_bodies.proofs.Lists.{get_end}
use Rattle.mz_emit_bodies.proofs.Opening.{strict}
use Rattle.mz_emit_bodies.proofs.Scoping.{parts_long, outer_there, sight_new, there_more}
use Rattle.mz_emit_bodies.proofs.Heaps.{none_or_some}
use Rattle.mz_emit_bodies.proofs.Writers.{writing_opened}
use Rattle.mz_emit_bodies.proofs.Moves.{claims_more, all_opened, left_opened}

place_within : (cs : List Cell) (c p : ℕ) → place_at cs c ≡ Some p → c < length cs
place_within [] c p at = absurd (grind (arith, at))
place_within (d ∷ cs) zero p at = omega arith
place_within (d ∷ cs) (suc c) p at = (let h = place_within cs c p at in omega (arith, h))

module _ (env : List Declaration) (o : Job) (s : Sharing) (vars : List Id) (places : List (Option ℕ)) (len : ℕ) (hps : List ℕ) (cells cells' : List Cell)
    (p q : Proof) (chain : Option ℕ) (us ts' : List Task) (bs : List ℕ) (n : ℕ)
    (parts-are : parts cells' ≡ parts cells ++ record { proof = p; outer = chain } ∷ [])
    (many : length cells' ≡ length cells + 1) (n-is : n ≡ length cells) (ts-is : ts' ≡ prove q (Some n) ∷ us)
    (g : IsGoing env o s vars places len hps cells (prove (by_let p q) chain ∷ us) bs) where
  abbrev first : Part
  first = record { proof = p; outer = chain }

  n-parts : n ≡ length (parts cells)
  n-parts = n-is ∙ sym (parts_long cells)

  new_claims : in_sight (claims env o.hyps (parts cells ++ record { proof = p; outer = chain } ∷ [])) (Some n)
      ≡ in_sight (claims env o.hyps (parts cells)) chain ++ proved env o.hyps (in_sight (claims env o.hyps (parts cells)) chain) p ∷ []
  new_claims = sight_new Tree (λ k. proved env o.hyps) (parts cells) first n n-parts

  pub bind_cost : left env s (parts cells') ts' < cost env (in_sight (let_costs env (parts cells)) chain) (by_let p q) + left env s (parts cells) us
  bind_cost =
      let a = ap (left env s (parts cells')) ts-is ∙ ap (λ (z : List Part). left env s z (prove q (Some n) ∷ us)) parts-are in
      let b = ap (λ (L : List ℕ). cost env L q) (sight_new ℕ (λ k. cost env) (parts cells) first n n-parts) in
      let d = left_opened o.gaps env s.context o.hyps o.count s (parts cells) first us g.can.1 in
      omega (arith, a, b, d)

  module _ (right : AreRight (links cells')) (placed : (c r : ℕ) → place_at cells' c ≡ Some r → place_at cells c ≡ Some r)
      (kept : (c : ℕ) → c < length cells → place_at cells' c ≡ place_at cells c) where
    -- under the lets that were in sight of it before
    sound_at : (c : ℕ) (z : Part) → part_at (parts cells ++ record { proof = p; outer = chain } ∷ []) c ≡ z → IsThere (length (parts cells)) z.outer
        → IsSound o.gaps env s.context o.hyps (in_sight (claims env o.hyps (parts cells)) z.outer) z.proof
        → IsSound o.gaps env s.context o.hyps (in_sight (claims env o.hyps (parts cells ++ record { proof = p; outer = chain } ∷ [])) (part_at (parts cells ++ record { proof = p; outer = chain } ∷ []) c).outer)
        (part_at (parts cells ++ record { proof = p; outer = chain } ∷ []) c).proof
    sound_at c z is there sound = subst (λ (y : Part). IsSound o.gaps env s.context o.hyps (in_sight (claims env o.hyps (parts cells ++ record { proof = p; outer = chain } ∷ [])) y.outer) y.proof) (sym is)
        (subst (λ (L : List Tree). IsSound o.gaps env s.context o.hyps L z.proof) (sym (claims_more o.gaps env s.context o.hyps o.count s (parts cells) first z.outer there)) sound)

    sound : (c : ℕ) → c < length cells' → IsSound o.gaps env s.context o.hyps (in_sight (claims env o.hyps (parts cells ++ record { proof = p; outer = chain } ∷ [])) (part_at (parts cells ++ record { proof = p; outer = chain } ∷ []) c).outer)
        (part_at (parts cells ++ record { proof = p; outer = chain } ∷ []) c).proof
    sound c lt = elim (cases_eq c (length (parts cells))) [
      | inl is ↦ sound_at c first (ap (part_at (parts cells ++ record { proof = p; outer = chain } ∷ [])) is ∙ get_end Part (parts cells) first _) g.can.0.1 g.can.0.2.0
      | inr other ↦ (let l = parts_long cells in let old : c < length (parts cells) = strict c (length (parts cells)) (omega (arith, l, lt, many)) other in
          sound_at c (part_at (parts cells) c) (get_or_append_left (parts cells) (record { proof = p; outer = chain } ∷ []) _ c old)
          (there_more c (length (parts cells)) (part_at (parts cells) c).outer (omega (arith, old)) (outer_there cells c g.lets.linked (omega (arith, l, old)))) (g.lets.sound c (omega (arith, l, old))))
    ]

    places_same : (c : ℕ) → place_at cells' c ≡ place_at cells c
    places_same c = elim (none_or_some (place_at cells' c)) [
      | inl none ↦ elim (none_or_some (place_at cells c)) [ inl none' ↦ none ∙ sym none' | inr (r, at) ↦ kept c (place_within cells c r at) ]
      | inr (r, at) ↦ at ∙ sym (placed c r at)
    ]

    -- the second part, under the new name
    second_can : AllCanBeDone o.gaps env s.context o.hyps o.count s (parts cells ++ record { proof = p; outer = chain } ∷ []) (prove q (Some n) ∷ us)
    second_can = (
      (
        g.can.0.0,
        (let l = length-append (parts cells) (record { proof = p; outer = chain } ∷ []) in let m = n-parts in omega (arith, l, m)),
        subst (λ (L : List Tree). IsSound o.gaps env s.context o.hyps L q) (sym new_claims) g.can.0.2.1,
      ),
      all_opened o.gaps env s.context o.hyps o.count s (parts cells) first us g.can.1,
    )

    pub bind_done : IsGoing env o s vars places len hps cells' ts' bs
    bind_done = record {
      commands = g.commands;
      written = g.written;
      short = g.short;
      writing = writing_opened o.gaps env o.hyps o.count s places len hps cells cells' p q chain n us ts' g.commands o.whole g.can.1 parts-are many n-is n-parts ts-is places_same g.writing;
      counted = g.counted;
      grew = g.grew;
      shared = g.shared;
      lets = record {
        linked = right;
        sound = λ c lt. subst (λ (z : List Part). IsSound o.gaps env s.context o.hyps (in_sight (claims env o.hyps z) (part_at z c).outer) (part_at z c).proof) (sym parts-are) (sound c lt);
      };
      can = subst (λ (z : List Part). AllCanBeDone o.gaps env s.context o.hyps o.count s z ts') (sym parts-are)
          (subst (AllCanBeDone o.gaps env s.context o.hyps o.count s (parts cells ++ record { proof = p; outer = chain } ∷ [])) (sym ts-is) second_can);
    }
