-- Whole bodies: what is written for a definition, an axiom or a sound proof is a body of it, and a theorem's uses what its
-- proof does.
use Rattle.std.specs.Prelude.{ℕ, ◌≡◌, ◌≤◌, ⊤, Bool, true, List, [], ◌∷◌, ◌++◌, length, map, slice_get, Contains, Some}
use Rattle.std.proofs.Common.{suc, refl, sym, ap, ◌∙◌, subst, arith, append-nil, inl, inr}
use Rattle.std.proofs.lemmas.Option.{none-some}
use Rattle.mz_cmd.specs.declared.code.ProofCode.{ProofCode}
use Rattle.mz_cmd.specs.declared.code.ProofCode.TheVariants as code
use Rattle.mz_logic_theory.specs.Tree.{Tree, Trees, var, app, none, more}
use Rattle.mz_logic_theory.specs.Declaration.{Declaration, sorts, signatures}
use Rattle.mz_logic_theory.specs.Legality.{binder_at}
use Rattle.mz_logic_theory.specs.Modifiers.{MayBeDummySort}
use Rattle.mz_logic_theory.specs.Sorts.{HasProvable}
use Rattle.mz_logic_theory.specs.declared.binder.Binder.{Binder}
use Rattle.mz_machine_theory.specs.Profile.{Item, expr, proof, plain}
use Rattle.mz_machine_theory.specs.Sorted.{Sorted}
use Rattle.mz_machine_theory.specs.Spells.{variables_from, dummy_of}
use Rattle.mz_machine_theory.specs.Bodies.{stands_in}
use Rattle.mz_machine_theory.specs.MachineState.{Kind, is_axiom, is_theorem, is_definition}
use Rattle.mz_mmu_theory.specs.Proof.{Proof}
use Rattle.mz_emit_theory.specs.BodyWriting.{Kept, expression, hypothesis, first_part, Writing, place_in, Written, Writer, ◌>>◌, keeping, unless_kept, write_expr, write_exprs, write_proof, write_hyp, write_hyps, at_first, variables_below, definition_written, axiom_written, theorem_written}
use Rattle.mz_emit_theory.specs.Claims.{proved, IsSound}
use Rattle.mz_emit_theory.specs.Endings.{MayStand}
use Rattle.mz_emit_theory.specs.SymbolicState.{from_to, work_start}
use Rattle.mz_emit_theory.proofs.Offered.{has-place as meets, own-below, own-item-at}
use Rattle.mz_emit_bodies.specs.Laws.{AreDummiesBehind, TakeFourBytes, DefinitionsAreWritten, AxiomsAreWritten, TheoremsAreWritten}
use Rattle.mz_emit_bodies.specs.WrittenLaws.{TheoremBodiesUse}
use Rattle.mz_emit_bodies.proofs.Beginning.{heap_long}
use Rattle.mz_emit_bodies.proofs.Commands.{builds_steps, in_theorem}
use Rattle.mz_emit_bodies.proofs.Heaps.{below_long, below_at, below_is, no_hypothesis, no_part, none_or_some, kept_there, not_kept}
use Rattle.mz_emit_bodies.proofs.Running.{Any, item_of, Agrees, Taken, taken_then, any_expr, Names, proof_taken, hyps_assumed}
use Rattle.mz_emit_bodies.proofs.UsesOfWriters.{theorems_use}

-- ---- at first

at_first_agrees : (gaps : Bool) (env : List Declaration) (ctx params : List Binder) (hyps : List Tree)
    (dummies-fine : (x : ℕ) (b : Binder) → slice_get ctx x ≡ Some b → length params ≤ x → (b ≡ dummy_of b.sort) × MayBeDummySort (sorts env) b.sort)
    → Agrees gaps env ctx (length params) hyps dummies-fine 0 (at_first params) (work_start params) []
at_first_agrees gaps env ctx params hyps dummies-fine = record {
  items = λ x p at. first x p at;
  long = heap_long 0 params ∙ sym (below_long (length params));
  lets = refl;
  below = λ m p at. absurd (none-some p (sym (no_part (length params) m) ∙ at));
  met = λ x has. (x, below_at (length params) x (let lt = own-below 0 params x has in omega (arith, lt)));
  params = λ x lt. subst (Contains (from_to 0 params)) (omega arith) (meets 0 params x lt);
  there = λ i lt. absurd (omega (arith, lt));
}
  where
    first : (x : Kept) (p : ℕ) → place_in x (variables_below (length params)) ≡ Some p → slice_get (map expr (variables_from 0 params)) p ≡ Some (item_of gaps env ctx (length params) hyps dummies-fine [] x)
    first (expression e) p at = (let h = below_is (length params) e p at in own-item-at 0 params p h.1 ∙ ap (λ (k : ℕ). Some (expr (var k))) (omega arith) ∙ ap (λ (f : Tree). Some (expr f)) (sym h.0))
    first (hypothesis i) p at = absurd (none-some p (sym (no_hypothesis (length params) i) ∙ at))
    first (first_part m) p at = absurd (none-some p (sym (no_part (length params) m) ∙ at))

-- ---- what whole bodies make

module _ (gaps : Bool) (env : List Declaration) (params dummies : List Binder) (fine : AreDummiesBehind env (length params) (params ++ dummies)) where
  pub definition_taken : (e : Tree) → Sorted (signatures env) (params ++ dummies) e
      → Taken gaps env (params ++ dummies) (length params) [] fine Any 0 (at_first params) (work_start params) [] (definition_written params dummies e) (expr e ∷ []) []
  definition_taken e (s, has) = any_expr gaps env (params ++ dummies) (length params) [] fine 0 [] e s has [] (at_first params) (work_start params) []
      (at_first_agrees gaps env (params ++ dummies) params [] fine) refl

  module _ (hyps : List Tree) (provable : (k : ℕ) (h : Tree) → slice_get hyps k ≡ Some h → HasProvable env (params ++ dummies) h) where
    abbrev hyps_written : Written
    hyps_written = write_hyps (params ++ dummies) 0 hyps (at_first params)

    hyps_taken : Taken gaps env (params ++ dummies) (length params) hyps fine Any (length hyps) (at_first params) (work_start params) [] hyps_written [] hyps
    hyps_taken = hyps_assumed gaps env (params ++ dummies) (length params) hyps fine hyps [] 0 refl refl provable (at_first params) (work_start params) []
        (at_first_agrees gaps env (params ++ dummies) params hyps fine) refl refl

    -- what follows the hypotheses
    behind_taken : (f : Writer) (x : Item Tree) → Taken gaps env (params ++ dummies) (length params) hyps fine Any (length hyps) hyps_written.after hyps_taken.work (hyps_taken.newer ++ []) (f hyps_written.after) (x ∷ []) hyps_taken.work.hyps
        → Taken gaps env (params ++ dummies) (length params) hyps fine Any (length hyps) (at_first params) (work_start params) [] ((write_hyps (params ++ dummies) 0 hyps >> f) (at_first params)) (x ∷ []) hyps
    behind_taken f x t = taken_then gaps env (params ++ dummies) (length params) hyps fine Any (length hyps) (length hyps) (at_first params) (work_start params) [] hyps_written f [] (x ∷ []) hyps hyps hyps_taken
        (subst (Taken gaps env (params ++ dummies) (length params) hyps fine Any (length hyps) hyps_written.after hyps_taken.work hyps_taken.newer (f hyps_written.after) (x ∷ [])) hyps_taken.assumed
        (subst (λ (z : List Tree). Taken gaps env (params ++ dummies) (length params) hyps fine Any (length hyps) hyps_written.after hyps_taken.work z (f hyps_written.after) (x ∷ []) hyps_taken.work.hyps) (append-nil hyps_taken.newer) t))

    still_agrees : Agrees gaps env (params ++ dummies) (length params) hyps fine (length hyps) hyps_written.after hyps_taken.work (hyps_taken.newer ++ [])
    still_agrees = subst (Agrees gaps env (params ++ dummies) (length params) hyps fine (length hyps) hyps_written.after hyps_taken.work) (sym (append-nil hyps_taken.newer)) hyps_taken.agrees

    pub axiom_taken : (e : Tree) → Sorted (signatures env) (params ++ dummies) e
        → Taken gaps env (params ++ dummies) (length params) hyps fine Any (length hyps) (at_first params) (work_start params) [] (axiom_written params dummies hyps e) (expr e ∷ []) hyps
    axiom_taken e (s, has) = behind_taken (write_expr (params ++ dummies) e) (expr e)
        (any_expr gaps env (params ++ dummies) (length params) hyps fine (length hyps) hyps_taken.newer e s has [] hyps_written.after hyps_taken.work [] still_agrees hyps_taken.stack)

    pub theorem_taken : (p : Proof) → IsSound gaps env (params ++ dummies) hyps [] p
        → Taken gaps env (params ++ dummies) (length params) hyps fine Any (length hyps) (at_first params) (work_start params) [] (theorem_written env params dummies hyps p) (proof (proved env hyps [] p) ∷ []) hyps
    theorem_taken p sound =
        let none_yet : Names gaps env (params ++ dummies) (length params) hyps fine (length hyps) hyps_taken.newer [] [] = record { many = refl; each = λ i lt. absurd (omega (arith, lt)) } in
        behind_taken (write_proof env (params ++ dummies) [] p) (proof (proved env hyps [] p))
        (proof_taken gaps env (params ++ dummies) (length params) hyps fine (length hyps) refl hyps_taken.newer [] [] none_yet p sound [] hyps_written.after hyps_taken.work [] still_agrees hyps_taken.stack)

-- ---- theorems

stands : (gaps : Bool) (cs : List (ProofCode × ℕ)) → TakeFourBytes cs → MayStand (plain gaps) is_theorem cs
stands gaps [] short = tt
stands gaps (c ∷ cs) short = (in_theorem gaps c.0, short.0, stands gaps cs short.1)

abbrev theorem_body : TheoremsAreWritten
theorem_body gaps env params dummies hyps p few fine provable sound short =
    let t = theorem_taken gaps env params dummies fine hyps provable p sound in
    record {
      body = record {
        few = few;
        commands = (theorem_written env params dummies hyps p).commands;
        work = t.work;
        spelled = refl;
        may_stand = stands gaps (theorem_written env params dummies hyps p).commands short;
        steps = builds_steps gaps env (params ++ dummies) (theorem_written env params dummies hyps p).commands (work_start params) t.work t.built_are t.builds;
        stack = t.stack;
        assumed = t.assumed;
      };
      built_are = t.built_are;
      builds = t.builds;
      distinct = t.distinct;
      plain = t.plain;
    }

pub theorems_are_written : TheoremsAreWritten
theorems_are_written gaps env params dummies hyps p few fine provable sound short = theorem_body gaps env params dummies hyps p few fine provable sound short

pub theorem_bodies_use : TheoremBodiesUse
theorem_bodies_use gaps env params dummies hyps p few fine provable sound short = (theorem_body gaps env params dummies hyps p few fine provable sound short, λ u. theorems_use u env params dummies hyps p)

-- ---- bodies without a proof

-- each command may stand in a body of this kind
abbrev Stand : Bool → Kind → List (ProofCode × ℕ) → Type 0
Stand gaps kind [] = ⊤
Stand gaps kind (c ∷ cs) = (stands_in (plain gaps) kind c.0 ≡ true) × Stand gaps kind cs

stand_on : (gaps : Bool) (kind : Kind) (cs ds : List (ProofCode × ℕ)) → Stand gaps kind cs → Stand gaps kind ds → Stand gaps kind (cs ++ ds)
stand_on gaps kind [] ds a b = b
stand_on gaps kind (c ∷ cs) ds a b = (a.0, stand_on gaps kind cs ds a.1 b)

may_stand_so : (gaps : Bool) (kind : Kind) (cs : List (ProofCode × ℕ)) → Stand gaps kind cs → TakeFourBytes cs → MayStand (plain gaps) kind cs
may_stand_so gaps kind [] a b = tt
may_stand_so gaps kind (c ∷ cs) a b = (a.0, b.0, may_stand_so gaps kind cs a.1 b.1)

module _ (gaps : Bool) (kind : Kind) (ctx : List Binder) (ref : stands_in (plain gaps) kind code.Ref ≡ true) (dummy : stands_in (plain gaps) kind code.Dummy ≡ true)
    (term : stands_in (plain gaps) kind code.TermSave ≡ true) where
  kept_stands : (x : Kept) (f : Writer) (w : Writing) → Stand gaps kind (f w).commands → Stand gaps kind (unless_kept x f w).commands
  kept_stands x f w stand = elim (none_or_some (place_in x w.heap)) [
    | inl absent ↦ subst (λ (r : Written). Stand gaps kind r.commands) (sym (not_kept x f w absent)) stand
    | inr (p, at) ↦ subst (λ (r : Written). Stand gaps kind r.commands) (sym (kept_there x f w p at)) (ref, tt)
  ]

  mutual
    expr_stands : (e : Tree) (w : Writing) → Stand gaps kind (write_expr ctx e w).commands
    expr_stands (var x) w = kept_stands (expression (var x)) (keeping code.Dummy (binder_at ctx x).sort (expression (var x))) w (dummy, tt)
    expr_stands (app t es) w = kept_stands (expression (app t es)) (write_exprs ctx es >> keeping code.TermSave t (expression (app t es))) w
        (stand_on gaps kind (write_exprs ctx es w).commands ((code.TermSave, t) ∷ []) (exprs_stand es w) (term, tt))

    exprs_stand : (es : Trees) (w : Writing) → Stand gaps kind (write_exprs ctx es w).commands
    exprs_stand none w = tt
    exprs_stand (more e es) w = stand_on gaps kind (write_expr ctx e w).commands (write_exprs ctx es (write_expr ctx e w).after).commands (expr_stands e w) (exprs_stand es (write_expr ctx e w).after)

  hyps_stand : stands_in (plain gaps) kind code.Hyp ≡ true → (hs : List Tree) (j : ℕ) (w : Writing) → Stand gaps kind (write_hyps ctx j hs w).commands
  hyps_stand hyp [] j w = tt
  hyps_stand hyp (h ∷ hs) j w =
      let v : Writing = (write_hyp ctx j h w).after in
      stand_on gaps kind (write_hyp ctx j h w).commands (write_hyps ctx (suc j) hs v).commands
      (stand_on gaps kind (write_expr ctx h w).commands ((code.Hyp, 0) ∷ []) (expr_stands h w) (hyp, tt)) (hyps_stand hyp hs (suc j) v)

pub definitions_are_written : DefinitionsAreWritten
definitions_are_written gaps env params dummies e few fine sorted short =
    let t = definition_taken gaps env params dummies fine e sorted in
    record {
      body = record {
        few = few;
        commands = (definition_written params dummies e).commands;
        work = t.work;
        spelled = refl;
        may_stand = may_stand_so gaps is_definition (definition_written params dummies e).commands (expr_stands gaps is_definition (params ++ dummies) refl refl refl e (at_first params)) short;
        steps = builds_steps gaps env (params ++ dummies) (definition_written params dummies e).commands (work_start params) t.work t.built_are t.builds;
        stack = t.stack;
        assumed = t.assumed;
      };
      built_are = t.built_are;
      builds = t.builds;
      distinct = t.distinct;
      plain = t.plain;
    }

pub axioms_are_written : AxiomsAreWritten
axioms_are_written gaps env params dummies hyps e few fine provable sorted short =
    let t = axiom_taken gaps env params dummies fine hyps provable e sorted in
    let ctx : List Binder = params ++ dummies in
    let hs : Written = write_hyps ctx 0 hyps (at_first params) in
    record {
      body = record {
        few = few;
        commands = (axiom_written params dummies hyps e).commands;
        work = t.work;
        spelled = refl;
        may_stand = may_stand_so gaps is_axiom (axiom_written params dummies hyps e).commands
            (stand_on gaps is_axiom hs.commands (write_expr ctx e hs.after).commands (hyps_stand gaps is_axiom ctx refl refl refl refl hyps 0 (at_first params)) (expr_stands gaps is_axiom ctx refl refl refl e hs.after)) short;
        steps = builds_steps gaps env (params ++ dummies) (axiom_written params dummies hyps e).commands (work_start params) t.work t.built_are t.builds;
        stack = t.stack;
        assumed = t.assumed;
      };
      built_are = t.built_are;
      builds = t.builds;
      distinct = t.distinct;
      plain = t.plain;
    }
