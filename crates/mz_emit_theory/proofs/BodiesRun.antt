-- A body that makes what its row spells runs.
use Rattle.std.proofs.Common.{◌≡◌, ◌<◌, ◌∙◌, ℕ, Bool, true, false, List, [], ◌∷◌, ◌++◌, length, Contains, All, Some, sym, ap, subst}
use Rattle.std.proofs.lemmas.Option.{slice_get_within}
use Rattle.mz_logic_theory.specs.Tree.{Tree, Trees, none, listed}
use Rattle.mz_logic_theory.specs.Signature.{Signature}
use Rattle.mz_logic_theory.specs.Declaration.{defined, Assertion, Declaration, term_decl, assertion_decl, sorts, signatures}
use Rattle.mz_logic_theory.specs.Legality.{Each, IsLegalDecl, IsDummy}
use Rattle.mz_logic_theory.specs.Modifiers.{MayBeDummySort}
use Rattle.mz_logic_theory.specs.Sorts.{HasProvable}
use Rattle.mz_logic_theory.specs.Variables.{IsBoundAt}
use Rattle.mz_logic_theory.specs.declared.binder.Binder.{Binder}
use Rattle.mz_logic_theory.proofs.Offered.{extends_append, extends_itself, sort_extends, each_from_all, assertions_are_sorted, terms_are_sorted}
use Rattle.mz_machine_theory.specs.Profile.{plain}
use Rattle.mz_machine_theory.specs.Spells.{Text, trees_of}
use Rattle.mz_machine_theory.specs.Streams.{of_assertion, of_definition}
use Rattle.mz_machine_theory.proofs.Offered.{trees_of-listed}
use Rattle.mz_machine_theory.specs.Bodies.{Runs}
use Rattle.mz_machine_theory.specs.Lists.{kind_of, assertion_of, definition_of}
use Rattle.mz_machine_theory.specs.MachineState.{RowsBefore, Heading, is_definition, Declares}
use Rattle.mz_emit_theory.specs.Endings.{IsAsserted, IsEnding}
use Rattle.mz_emit_theory.specs.BodyLaws.{DependOnFirst}
use Rattle.mz_emit_theory.specs.AlphaEquivalence.{IsSameEnv, IsSameForm}
use Rattle.mz_emit_theory.specs.SymbolicState.{Work}
use Rattle.mz_emit_theory.proofs.Joining.{contexts-depend}
use Rattle.mz_emit_theory.proofs.WholeBodies.{bodies-run}
use Rattle.mz_emit_theory.specs.Bodies.{last_item, IsBody}

ends-asserted : (env : List Declaration) (ctx : List Binder) (h : Heading) (w : Work) (e : Tree) (without_proof : Bool) → w.stack ≡ last_item (kind_of without_proof) e ∷ [] → IsAsserted (signatures env) h w.hyps e → HasProvable env ctx e
    → IsEnding env ctx h w (kind_of without_proof) e
ends-asserted env ctx h w e true stack says provable = (stack, says, provable)
ends-asserted env ctx h w e false stack says provable = (stack, says)

bound-below : (params : List Binder) (deps : List ℕ) → All (IsBoundAt params) deps → (x : ℕ) → Contains deps x → x < length params
bound-below params deps all x (k, below, is) =
    let (b, here, _) = subst (IsBoundAt params) is (all k x below) in slice_get_within params x b here

module _ (gaps : Bool) (tables : RowsBefore) (env env' : List Declaration) (declares : Declares tables env') (same : IsSameEnv env env') (at : ℕ) (bytes : List ℕ) where
  runs-by : (h : Heading) (dummies : List Binder) (e : Tree) (hyps : List Tree) → DependOnFirst (length h.params) (h.params ++ dummies) → (b : IsBody gaps env h.kind h.params dummies e hyps bytes) → IsEnding env (h.params ++ dummies) h b.work h.kind e
      → Runs (plain gaps) tables h at bytes
  runs-by h dummies e hyps first b ends =
      subst (Runs (plain gaps) tables h at) (sym b.spelled) (bodies-run gaps tables env env' declares same h dummies first b.few at b.commands b.work b.may_stand b.steps (e, ends))

  pub assertion-runs : (a : Assertion) (stream : List ℕ) (dummies : List Binder) → IsLegalDecl env (assertion_decl a) → Each dummies (λ _ b. b.deps ≡ [])
      → Text of_assertion (signatures env) a.params stream a.hyps a.conclusion [] → IsBody gaps env (kind_of a.is_axiom) a.params dummies a.conclusion (listed a.hyps) bytes
      → Runs (plain gaps) tables (assertion_of a.is_axiom (record { params = a.params; stream = stream })) at bytes
  assertion-runs a stream dummies legal plain-ones text b =
      let (_, params, _, (s, has, claim)) = (assertions_are_sorted env a).0 legal in
      let ctx : List Binder = a.params ++ dummies in
      let h : Heading = assertion_of a.is_axiom (record { params = a.params; stream = stream }) in
      let provable : HasProvable env ctx a.conclusion = (s, sort_extends (signatures env) (signatures env) a.params ctx (extends_itself (signatures env)) (extends_append a.params dummies) a.conclusion s has, claim) in
      let hyps : a.hyps ≡ trees_of b.work.hyps = sym (ap trees_of b.assumed ∙ trees_of-listed a.hyps) in
      let says : IsAsserted (signatures env) h b.work.hyps a.conclusion = subst (λ (z : Trees). Text of_assertion (signatures env) a.params stream z a.conclusion []) hyps text in
      runs-by h dummies a.conclusion (listed a.hyps) (contexts-depend (sorts env) a.params dummies params plain-ones) b (ends-asserted env ctx h b.work a.conclusion a.is_axiom b.stack says provable)

  pub definition-runs : (signature : Signature) (stream : List ℕ) (dummies dummies' : List Binder) (e e' : Tree) → IsLegalDecl env (term_decl (record { signature = signature; form = defined dummies e }))
      → IsSameForm signature.params (defined dummies e) (defined dummies' e') → Text of_definition (signatures env) signature.params stream none e' dummies'
      → IsBody gaps env is_definition signature.params dummies e [] bytes → Runs (plain gaps) tables (definition_of (record { signature = signature; stream = Some stream }) stream) at bytes
  definition-runs signature stream dummies dummies' e e' legal (ys, fresh, e-is, _) text b =
      let (_, params, are-dummies, _, deps, ((has, free), _)) = (terms_are_sorted env (record { signature = signature; form = defined dummies e })).0 legal in
      let h : Heading = definition_of (record { signature = signature; stream = Some stream }) stream in
      let plain-ones : Each dummies (λ _ b. b.deps ≡ []) = λ i x here. (each_from_all (λ b. IsDummy b × MayBeDummySort (sorts env) b.sort) dummies are-dummies i x here).0.1 in
      runs-by h dummies e [] (contexts-depend (sorts env) signature.params dummies params plain-ones) b
      (b.stack, (e', dummies', ys, text, fresh, e-is), has, free, bound-below signature.params signature.result.deps deps)
