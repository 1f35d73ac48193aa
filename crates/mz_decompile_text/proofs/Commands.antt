-- Commands of a stream, and what an expression is that they begin.
use Rattle.std.proofs.Common.{ℕ, ◌≡◌, ◌≤◌, ◌<◌, ◌+◌, Bool, true, false, cond, eqb, List, [], ◌∷◌, length, drop, slice_get, Some, None, Ok, Err, refl, ap, sym, ◌∙◌, subst, inl, inr, arith, length-drop}
use Rattle.std.proofs.lemmas.Bool.{eqb-true}
use Rattle.mz_cmd.specs.declared.command.Cmd.{Cmd}
use Rattle.mz_cmd.specs.declared.command.CmdFault.{CmdFault}
use Rattle.mz_cmd.specs.declared.code.UnifyCode.{UnifyCode}
use Rattle.mz_cmd.specs.declared.code.UnifyCode.TheVariants as codes
use Rattle.mz_cmd.specs.Codes.{unify_code}
use Rattle.mz_cmd.specs.Reading.{first_command}
use Rattle.mz_logic_theory.specs.Tree.{Tree, Trees, var, app}
use Rattle.mz_logic_theory.specs.Signature.{Signature}
use Rattle.mz_machine_theory.specs.Streams.{StreamKind, of_assertion, of_definition, UnifyCommand, u_term, u_term_save, u_ref, u_dummy, u_hyp, u_end, unify_command, command_in, IsEnd, StreamIs}
use Rattle.mz_machine_theory.proofs.Offered.{command-long, cmd-is, ref-is, dummy-is, term-is, save-is}
use Rattle.mz_machine_theory.specs.Spells.{Marks, marked, with_dummy, HasOperands, Spells, SpellsAll}

-- ---- bytes

pub never_ok : (f : CmdFault) (c : Cmd) → Err f ≡ Ok c → ⊥
never_ok f c e = cc

-- a stream begins with a command
pub begins : (kind : StreamKind) (bytes : List ℕ) (us : List UnifyCommand) → StreamIs kind bytes us → (c : Cmd) × (first_command bytes ≡ Ok c)
begins kind bytes [] (c, read, is) = (c, read)
begins kind bytes (u ∷ us) (c, read, is, going, rest) = (c, read)

-- it is the END where its code is none of a unify stream's
pub ended : (kind : StreamKind) (bytes : List ℕ) (us : List UnifyCommand) (c : Cmd) → first_command bytes ≡ Ok c → unify_code c.code ≡ None → StreamIs kind bytes us → us ≡ []
ended kind bytes [] c read none h = refl
ended kind bytes (u ∷ us) c read none (d, read', is, going, _) = absurd (by (eqb c.code 0) (subst (λ (x : Cmd). unify_command kind x.code x.value ≡ Some u) (cmd-is bytes d c read' read) is))
  where
    by : (ends : Bool) → cond ends (Some u_end) (command_in kind c.value (unify_code c.code)) ≡ Some u → ⊥
    by true e = going (let same : u_end ≡ u = cc in subst IsEnd same tt)
    by false e = let no : None ≡ Some u = sym (ap (command_in kind c.value) none) ∙ e in cc

-- else it is a command of the stream
pub one_more : (kind : StreamKind) (bytes : List ℕ) (us : List UnifyCommand) (c : Cmd) (k : UnifyCode) → first_command bytes ≡ Ok c → unify_code c.code ≡ Some k → StreamIs kind bytes us
    → (u : UnifyCommand) × (rest : List UnifyCommand) × (us ≡ u ∷ rest) × (command_in kind c.value (Some k) ≡ Some u) × StreamIs kind (drop c.len bytes) rest
    × (length (drop c.len bytes) < length bytes)
one_more kind bytes us c k read code h = by us h
  where
    plain : (u : UnifyCommand) → unify_command kind c.code c.value ≡ Some u → command_in kind c.value (Some k) ≡ Some u
    plain u is = go (eqb c.code 0) refl is
      where
        go : (ends : Bool) → eqb c.code 0 ≡ ends → cond ends (Some u_end) (command_in kind c.value (unify_code c.code)) ≡ Some u → command_in kind c.value (Some k) ≡ Some u
        go true zero e = absurd (let no : None ≡ Some k = ap unify_code (sym (eqb-true c.code 0 zero)) ∙ code in cc)
        go false zero e = ap (command_in kind c.value) (sym code) ∙ e

    never : (kind' : StreamKind) (j : UnifyCode) → command_in kind' c.value (Some j) ≡ Some u_end → ⊥
    never kind' codes.Term e = cc
    never kind' codes.TermSave e = cc
    never kind' codes.Ref e = cc
    never of_assertion codes.Dummy e = cc
    never of_definition codes.Dummy e = cc
    never of_assertion codes.Hyp e = cc
    never of_definition codes.Hyp e = cc

    by : (vs : List UnifyCommand) → StreamIs kind bytes vs → (u : UnifyCommand) × (rest : List UnifyCommand) × (vs ≡ u ∷ rest) × (command_in kind c.value (Some k) ≡ Some u)
        × StreamIs kind (drop c.len bytes) rest × (length (drop c.len bytes) < length bytes)
    by [] (d, read', is) = absurd (never kind k (plain u_end (subst (λ (x : Cmd). unify_command kind x.code x.value ≡ Some u_end) (cmd-is bytes d c read' read) is)))
    by (u ∷ rest) (d, read', is, going, others) =
        let same : d ≡ c = cmd-is bytes d c read' read in
        let takes = command-long bytes c read in (
          u,
          rest,
          refl,
          plain u (subst (λ (x : Cmd). unify_command kind x.code x.value ≡ Some u) same is),
          subst (λ (x : Cmd). StreamIs kind (drop x.len bytes) rest) same others,
          omega (arith, takes.0, takes.1, length-drop c.len bytes),
        )

-- all of it is there
pub within : (bytes : List ℕ) (c : Cmd) → first_command bytes ≡ Ok c → c.len ≤ length bytes
within bytes c read = (let takes = command-long bytes c read in takes.1)

-- ---- which command a code is

pub code_term : (kind : StreamKind) (v : ℕ) (u : UnifyCommand) → command_in kind v (Some codes.Term) ≡ Some u → u ≡ u_term v
code_term kind v u e = cc

pub code_save : (kind : StreamKind) (v : ℕ) (u : UnifyCommand) → command_in kind v (Some codes.TermSave) ≡ Some u → u ≡ u_term_save v
code_save kind v u e = cc

pub code_ref : (kind : StreamKind) (v : ℕ) (u : UnifyCommand) → command_in kind v (Some codes.Ref) ≡ Some u → u ≡ u_ref v
code_ref kind v u e = cc

pub code_dummy : (kind : StreamKind) (v : ℕ) (u : UnifyCommand) → command_in kind v (Some codes.Dummy) ≡ Some u → u ≡ u_dummy v
code_dummy of_assertion v u e = absurd cc
code_dummy of_definition v u e = cc

pub code_hyp : (kind : StreamKind) (v : ℕ) (u : UnifyCommand) → command_in kind v (Some codes.Hyp) ≡ Some u → u ≡ u_hyp
code_hyp of_assertion v u e = cc
code_hyp of_definition v u e = absurd cc

-- ---- what an expression is that a command begins

module _ (n : ℕ) (sigs : List Signature) (m : Marks) (us : List UnifyCommand) where
  pub ref_is : (i : ℕ) (e : Tree) (m' : Marks) (us' : List UnifyCommand) → Spells n sigs m (u_ref i ∷ us) e m' us' → (slice_get m.trees i ≡ Some e) × (m' ≡ m) × (us' ≡ us)
  ref_is i (var x) m' us' (inl (j, is, at, same)) = let (i-j, rest) = ref-is i j us us' is in (ap (slice_get m.trees) i-j ∙ at, same, sym rest)
  ref_is i (var x) m' us' (inr (s, is, _, _)) = absurd cc
  ref_is i (app t es) m' us' (inl (j, is, at, same)) = let (i-j, rest) = ref-is i j us us' is in (ap (slice_get m.trees) i-j ∙ at, same, sym rest)
  ref_is i (app t es) m' us' (inr (inl (rest, is, _, _))) = absurd cc
  ref_is i (app t es) m' us' (inr (inr (rest, is, _, _))) = absurd cc

  pub dummy_is : (s : ℕ) (e : Tree) (m' : Marks) (us' : List UnifyCommand) → Spells n sigs m (u_dummy s ∷ us) e m' us'
      → (e ≡ var (n + length m.dummies)) × (m' ≡ with_dummy m (n + length m.dummies) s) × (us' ≡ us)
  dummy_is s (var x) m' us' (inl (j, is, _, _)) = absurd cc
  dummy_is s (var x) m' us' (inr (r, is, x-is, same)) =
      let (s-r, rest) = dummy-is s r us us' is in (ap var x-is, same ∙ ap (λ (y : ℕ). with_dummy m y r) x-is ∙ ap (with_dummy m (n + length m.dummies)) (sym s-r), sym rest)
  dummy_is s (app t es) m' us' (inl (j, is, _, _)) = absurd cc
  dummy_is s (app t es) m' us' (inr (inl (rest, is, _, _))) = absurd cc
  dummy_is s (app t es) m' us' (inr (inr (rest, is, _, _))) = absurd cc

  pub term_is : (t : ℕ) (e : Tree) (m' : Marks) (us' : List UnifyCommand) → Spells n sigs m (u_term t ∷ us) e m' us'
      → (es : Trees) × (e ≡ app t es) × HasOperands sigs t es × SpellsAll n sigs m us es m' us'
  term_is t (var x) m' us' (inl (j, is, _, _)) = absurd cc
  term_is t (var x) m' us' (inr (r, is, _, _)) = absurd cc
  term_is t (app w es) m' us' (inl (j, is, _, _)) = absurd cc
  term_is t (app w es) m' us' (inr (inl (rest, is, ops, all))) =
      let (same, rest-is) = term-is t w us rest is in
      (es, ap (λ (z : ℕ). app z es) (sym same), subst (λ (z : ℕ). HasOperands sigs z es) (sym same) ops, subst (λ (z : List UnifyCommand). SpellsAll n sigs m z es m' us') (sym rest-is) all)
  term_is t (app w es) m' us' (inr (inr (rest, is, _, _))) = absurd cc

  pub save_is : (t : ℕ) (e : Tree) (m' : Marks) (us' : List UnifyCommand) → Spells n sigs m (u_term_save t ∷ us) e m' us'
      → (es : Trees) × (e ≡ app t es) × HasOperands sigs t es × SpellsAll n sigs (marked m (app t es)) us es m' us'
  save_is t (var x) m' us' (inl (j, is, _, _)) = absurd cc
  save_is t (var x) m' us' (inr (r, is, _, _)) = absurd cc
  save_is t (app w es) m' us' (inl (j, is, _, _)) = absurd cc
  save_is t (app w es) m' us' (inr (inl (rest, is, _, _))) = absurd cc
  save_is t (app w es) m' us' (inr (inr (rest, is, ops, all))) =
      let (same, rest-is) = save-is t w us rest is in (
        es,
        ap (λ (z : ℕ). app z es) (sym same),
        subst (λ (z : ℕ). HasOperands sigs z es) (sym same) ops,
        subst (λ (z : ℕ). SpellsAll n sigs (marked m (app z es)) us es m' us') (sym same)
            (subst (λ (z : List UnifyCommand). SpellsAll n sigs (marked m (app w es)) z es m' us') (sym rest-is) all),
      )

  pub hyp_never : (e : Tree) (m' : Marks) (us' : List UnifyCommand) → Spells n sigs m (u_hyp ∷ us) e m' us' → ⊥
  hyp_never (var x) m' us' (inl (j, is, _, _)) = cc
  hyp_never (var x) m' us' (inr (r, is, _, _)) = cc
  hyp_never (app w es) m' us' (inl (j, is, _, _)) = cc
  hyp_never (app w es) m' us' (inr (inl (rest, is, _, _))) = cc
  hyp_never (app w es) m' us' (inr (inr (rest, is, _, _))) = cc

-- nor is it spelled by no commands
pub none_never : (n : ℕ) (sigs : List Signature) (m : Marks) (e : Tree) (m' : Marks) (us' : List UnifyCommand) → Spells n sigs m [] e m' us' → ⊥
none_never n sigs m (var x) m' us' (inl (j, is, _, _)) = cc
none_never n sigs m (var x) m' us' (inr (r, is, _, _)) = cc
none_never n sigs m (app w es) m' us' (inl (j, is, _, _)) = cc
none_never n sigs m (app w es) m' us' (inr (inl (rest, is, _, _))) = cc
none_never n sigs m (app w es) m' us' (inr (inr (rest, is, _, _))) = cc
