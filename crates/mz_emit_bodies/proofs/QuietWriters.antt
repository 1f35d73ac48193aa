-- Writers that meet no let and save none, as those of expressions, hypotheses and payments: what they use, and how many
-- bytes they take. Nothing is asked of what they write.
use Rattle.std.specs.Prelude.{ℕ, ◌≡◌, ◌≤◌, ◌+◌, ◌*◌, ◌||◌, Bool, false, List, [], ◌∷◌, ◌++◌, length}
use Rattle.std.proofs.Common.{suc, refl, sym, ap, ◌∙◌, subst, arith, append_assoc, append-nil, inl, inr}
use Rattle.std.proofs.lemmas.List.{length-append}
use Rattle.mz_base.proofs.Offered.{or-false}
use Rattle.mz_cmd.specs.declared.code.ProofCode.{ProofCode}
use Rattle.mz_cmd.specs.declared.code.ProofCode.TheVariants as code
use Rattle.mz_logic_theory.specs.Tree.{Tree, Trees, var, app, none, more, listed, instance, followed_by, variables, size, trees_size}
use Rattle.mz_logic_theory.specs.Declaration.{Declaration}
use Rattle.mz_logic_theory.specs.Legality.{binder_at}
use Rattle.mz_logic_theory.specs.Conversions.{Conversion, Conversions, refl_conv, sym_conv, cong_conv, unfold_conv, gap_conv, no_convs, more_convs}
use Rattle.mz_logic_theory.specs.declared.binder.Binder.{Binder}
use Rattle.mz_emit_theory.specs.Steps.{command_bytes}
use Rattle.mz_emit_theory.specs.Endings.{spelled_body}
use Rattle.mz_emit_theory.specs.Costs.{body_at}
use Rattle.mz_emit_theory.specs.Uses.{Use, is_gap, conv_uses, convs_use, command_uses, commands_use}
use Rattle.mz_emit_theory.specs.Weights.{conv_weight, convs_weight}
use Rattle.mz_emit_theory.specs.BodyWriting.{Kept, expression, hypothesis, first_part, is_same, Writing, place_in, Written, Writer, nothing, ◌>>◌, command, keeping, unless_kept, write_expr, write_exprs, write_payment, write_payments, write_hyp, write_hyps}
use Rattle.mz_emit_bodies.proofs.Heaps.{none_or_some, place_old, kept_there, not_kept}
use Rattle.mz_emit_bodies.proofs.Moves.{size_some}
use Rattle.mz_emit_bodies.proofs.Commands.{command_short, command_one, or_assoc}

-- ---- lists that go on

abbrev pub Extends : (A : Type 0) → List A → List A → Type 0
Extends A xs ys = (zs : List A) × (ys ≡ xs ++ zs)

pub extends_self : (A : Type 0) (xs : List A) → Extends A xs xs
extends_self A xs = ([], sym (append-nil xs))

pub extends_then : (A : Type 0) (xs ys zs : List A) → Extends A xs ys → Extends A ys zs → Extends A xs zs
extends_then A xs ys zs (a, is) (b, more_is) = (a ++ b, more_is ∙ ap (λ (z : List A). z ++ b) is ∙ append_assoc xs a b)

-- ---- commands

abbrev pub bytes_in : List (ProofCode × ℕ) → ℕ
bytes_in [] = 0
bytes_in (c ∷ cs) = length (command_bytes c) + bytes_in cs

pub bytes_join : (cs ds : List (ProofCode × ℕ)) → bytes_in (cs ++ ds) ≡ bytes_in cs + bytes_in ds
bytes_join [] ds = omega arith
bytes_join (c ∷ cs) ds = (let r = bytes_join cs ds in omega (arith, r))

pub body_long : (cs : List (ProofCode × ℕ)) → length (spelled_body cs) ≡ bytes_in cs + 1
body_long [] = refl
body_long (c ∷ cs) = (let r = body_long cs in let j = length-append (command_bytes c) (spelled_body cs) in omega (arith, r, j))

one_byte : (c : ProofCode) → length (command_bytes (c, 0)) ≤ 1
one_byte c = (let s = command_one c in omega (arith, s))

some_bytes : (c : ProofCode × ℕ) → 1 ≤ length (command_bytes c)
some_bytes c = omega arith

-- each command takes one byte at least
pub few_commands : (cs : List (ProofCode × ℕ)) → length cs ≤ bytes_in cs
few_commands [] = omega arith
few_commands (c ∷ cs) = (let r = few_commands cs in let one = some_bytes c in omega (arith, r, one))

pub uses_join : (u : Use) (cs ds : List (ProofCode × ℕ)) → commands_use u (cs ++ ds) ≡ (commands_use u cs || commands_use u ds)
uses_join u [] ds = refl
uses_join u (c ∷ cs) ds = ap (λ (z : Bool). command_uses u c.0 c.1 || z) (uses_join u cs ds) ∙ sym (or_assoc (command_uses u c.0 c.1) (commands_use u cs) (commands_use u ds))

-- what holds of a Ref and of what is written holds of either
pub kept_either : (P : Written → Type 0) (x : Kept) (f : Writer) (w : Writing) → ((p : ℕ) → P (command code.Ref p w)) → P (f w) → P (unless_kept x f w)
kept_either P x f w there new = elim (none_or_some (place_in x w.heap)) [
  | inl absent ↦ subst P (sym (not_kept x f w absent)) new
  | inr (p, at) ↦ subst P (sym (kept_there x f w p at)) (there p)
]

-- ---- writers

module _ (u : Use) where
  pub record IsQuiet (f : Writer) (b : Bool) (n : ℕ) : Type 0 where
    pub uses : (w : Writing) → commands_use u (f w).commands ≡ b
    pub short : (w : Writing) → bytes_in (f w).commands ≤ n
    pub lets : (w : Writing) → (f w).after.lets ≡ w.lets
    pub parts : (w : Writing) (m : ℕ) → place_in (first_part m) (f w).after.heap ≡ place_in (first_part m) w.heap

  pub quiet_within : (f : Writer) (b : Bool) (n m : ℕ) → n ≤ m → IsQuiet f b n → IsQuiet f b m
  quiet_within f b n m le q = record { uses = q.uses; short = λ w. (let s = q.short w in omega (arith, s, le)); lets = q.lets; parts = q.parts }

  pub quiet_nothing : IsQuiet nothing false 0
  quiet_nothing = record { uses = λ w. refl; short = λ w. omega arith; lets = λ w. refl; parts = λ w m. refl }

  pub quiet_then : (f g : Writer) (b c : Bool) (n m : ℕ) → IsQuiet f b n → IsQuiet g c m → IsQuiet (f >> g) (b || c) (n + m)
  quiet_then f g b c n m p q = record {
    uses = λ w. uses_join u (f w).commands (g (f w).after).commands ∙ ap (λ (z : Bool). z || commands_use u (g (f w).after).commands) (p.uses w) ∙ ap (λ (z : Bool). b || z) (q.uses (f w).after);
    short = λ w. (let j = bytes_join (f w).commands (g (f w).after).commands in let s = p.short w in let t = q.short (f w).after in omega (arith, j, s, t));
    lets = λ w. q.lets (f w).after ∙ p.lets w;
    parts = λ w k. q.parts (f w).after k ∙ p.parts w k;
  }

  pub quiet_command : (c : ProofCode) (v n : ℕ) → length (command_bytes (c, v)) ≤ n → IsQuiet (command c v) (command_uses u c v || false) n
  quiet_command c v n le = record { uses = λ w. refl; short = λ w. omega (arith, le); lets = λ w. refl; parts = λ w m. refl }

  pub quiet_five : (c : ProofCode) (v : ℕ) → IsQuiet (command c v) (command_uses u c v || false) 5
  quiet_five c v = quiet_command c v 5 (command_short c v)

  pub quiet_one : (c : ProofCode) → IsQuiet (command c 0) (command_uses u c 0 || false) 1
  quiet_one c = quiet_command c 0 1 (one_byte c)

  quiet_keeping : (c : ProofCode) (v n : ℕ) (x : Kept) → length (command_bytes (c, v)) ≤ n → ((m : ℕ) → is_same (first_part m) x ≡ false) → IsQuiet (keeping c v x) (command_uses u c v || false) n
  quiet_keeping c v n x le other = record { uses = λ w. refl; short = λ w. omega (arith, le); lets = λ w. refl; parts = λ w m. place_old (first_part m) x w.heap (other m) }

  pub quiet_kept : (x : Kept) (f : Writer) (n : ℕ) → 5 ≤ n → IsQuiet f false n → IsQuiet (unless_kept x f) false n
  quiet_kept x f n le q = record {
    uses = λ w. kept_either (λ (r : Written). commands_use u r.commands ≡ false) x f w (λ p. refl) (q.uses w);
    short = λ w. kept_either (λ (r : Written). bytes_in r.commands ≤ n) x f w (λ p. (let s = command_short code.Ref p in omega (arith, s, le))) (q.short w);
    lets = λ w. kept_either (λ (r : Written). r.after.lets ≡ w.lets) x f w (λ p. refl) (q.lets w);
    parts = λ w m. kept_either (λ (r : Written). place_in (first_part m) r.after.heap ≡ place_in (first_part m) w.heap) x f w (λ p. refl) (q.parts w m);
  }

  -- ---- expressions: at most five bytes for each node

  module _ (ctx : List Binder) where
    mutual
      pub expr_quiet : (e : Tree) → IsQuiet (write_expr ctx e) false (5 * size e)
      expr_quiet (var x) = quiet_kept (expression (var x)) (keeping code.Dummy (binder_at ctx x).sort (expression (var x))) 5 (omega arith)
          (quiet_keeping code.Dummy (binder_at ctx x).sort 5 (expression (var x)) (command_short code.Dummy (binder_at ctx x).sort) (λ m. refl))
      expr_quiet (app t es) = quiet_kept (expression (app t es)) (write_exprs ctx es >> keeping code.TermSave t (expression (app t es))) (5 * size (app t es)) (omega arith)
          (quiet_within (write_exprs ctx es >> keeping code.TermSave t (expression (app t es))) false (5 * trees_size es + 5) (5 * size (app t es)) (omega arith)
          (quiet_then (write_exprs ctx es) (keeping code.TermSave t (expression (app t es))) false false (5 * trees_size es) 5 (exprs_quiet es)
          (quiet_keeping code.TermSave t 5 (expression (app t es)) (command_short code.TermSave t) (λ m. refl))))

      pub exprs_quiet : (es : Trees) → IsQuiet (write_exprs ctx es) false (5 * trees_size es)
      exprs_quiet none = quiet_nothing
      exprs_quiet (more e es) = quiet_within (write_exprs ctx (more e es)) false (5 * size e + 5 * trees_size es) (5 * trees_size (more e es)) (omega arith)
          (quiet_then (write_expr ctx e) (write_exprs ctx es) false false (5 * size e) (5 * trees_size es) (expr_quiet e) (exprs_quiet es))

    -- ---- hypotheses: one byte more for each

    hyp_quiet : (j : ℕ) (h : Tree) → IsQuiet (write_hyp ctx j h) false (6 * size h)
    hyp_quiet j h = quiet_within (write_hyp ctx j h) false (5 * size h + 1) (6 * size h) (let n = size_some h in omega (arith, n))
        (quiet_then (write_expr ctx h) (keeping code.Hyp 0 (hypothesis j)) false false (5 * size h) 1 (expr_quiet h) (quiet_keeping code.Hyp 0 1 (hypothesis j) (one_byte code.Hyp) (λ m. refl)))

    pub hyps_quiet : (hs : Trees) (j : ℕ) → IsQuiet (write_hyps ctx j (listed hs)) false (6 * trees_size hs)
    hyps_quiet none j = quiet_nothing
    hyps_quiet (more h hs) j = quiet_within (write_hyps ctx j (listed (more h hs))) false (6 * size h + 6 * trees_size hs) (6 * trees_size (more h hs)) (omega arith)
        (quiet_then (write_hyp ctx j h) (write_hyps ctx (suc j) (listed hs)) false false (6 * size h) (6 * trees_size hs) (hyp_quiet j h) (hyps_quiet hs (suc j)))

  -- ---- payments: at most six bytes for each unit of weight

  module _ (env : List Declaration) (ctx : List Binder) where
    mutual
      pub payment_quiet : (c : Conversion) → IsQuiet (write_payment env ctx c) (conv_uses u c) (6 * conv_weight env c)
      payment_quiet (refl_conv e) = quiet_within (command code.Refl 0) false 1 6 (omega arith) (quiet_command code.Refl 0 1 (one_byte code.Refl))
      payment_quiet (sym_conv c) = quiet_within (write_payment env ctx (sym_conv c)) (conv_uses u c) (1 + 6 * conv_weight env c) (6 * conv_weight env (sym_conv c)) (omega arith)
          (quiet_then (command code.Symm 0) (write_payment env ctx c) false (conv_uses u c) 1 (6 * conv_weight env c) (quiet_command code.Symm 0 1 (one_byte code.Symm)) (payment_quiet c))
      payment_quiet (cong_conv t cs) = quiet_within (write_payment env ctx (cong_conv t cs)) (convs_use u cs) (1 + 6 * convs_weight env cs) (6 * conv_weight env (cong_conv t cs)) (omega arith)
          (quiet_then (command code.Cong 0) (write_payments env ctx cs) false (convs_use u cs) 1 (6 * convs_weight env cs) (quiet_command code.Cong 0 1 (one_byte code.Cong)) (payments_quiet cs))
      payment_quiet (unfold_conv t es ys c) =
          let x : Tree = instance (followed_by es (variables ys)) (body_at env t) in
          let b : Bool = conv_uses u c in
          let n : ℕ = 6 * conv_weight env c in
          quiet_within (write_payment env ctx (unfold_conv t es ys c)) b (5 * size (app t es) + (5 * size x + (1 + n))) (6 * conv_weight env (unfold_conv t es ys c)) (omega arith)
          (quiet_then (write_expr ctx (app t es)) (write_expr ctx x >> command code.Unfold 0 >> write_payment env ctx c) false b (5 * size (app t es)) (5 * size x + (1 + n)) (expr_quiet ctx (app t es))
          (quiet_then (write_expr ctx x) (command code.Unfold 0 >> write_payment env ctx c) false b (5 * size x) (1 + n) (expr_quiet ctx x)
          (quiet_then (command code.Unfold 0) (write_payment env ctx c) false b 1 n (quiet_command code.Unfold 0 1 (one_byte code.Unfold)) (payment_quiet c))))
      payment_quiet (gap_conv l r) = quiet_within (command code.Sorry 0) (is_gap u) 1 (6 * conv_weight env (gap_conv l r)) (omega arith)
          (subst (λ (z : Bool). IsQuiet (command code.Sorry 0) z 1) (or-false (is_gap u)) (quiet_command code.Sorry 0 1 (one_byte code.Sorry)))

      pub payments_quiet : (cs : Conversions) → IsQuiet (write_payments env ctx cs) (convs_use u cs) (6 * convs_weight env cs)
      payments_quiet no_convs = quiet_nothing
      payments_quiet (more_convs c cs) = quiet_within (write_payments env ctx (more_convs c cs)) (convs_use u (more_convs c cs)) (6 * conv_weight env c + 6 * convs_weight env cs) (6 * convs_weight env (more_convs c cs)) (omega arith)
          (quiet_then (write_payment env ctx c) (write_payments env ctx cs) (conv_uses u c) (convs_use u cs) (6 * conv_weight env c) (6 * convs_weight env cs) (payment_quiet c) (payments_quiet cs))
