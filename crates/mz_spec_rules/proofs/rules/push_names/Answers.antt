use Rattle.std.proofs.Common.{◌≡◌, ◌∙◌, ◌+◌, ◌++◌, ◌∷◌, [], map, drop, Err, ap, refl, subst, sym}
use Rattle.std.proofs.lemmas.Result.{err_from_is_err_and}
use Rattle.mz_base.specs.Checks.{AllHold}
use Rattle.mz_base.proofs.Offered.{Decides, decides-after, decides-whole, drop-item, drop-past}
use Rattle.mz_spec_rules.specs.Answers.{JudgesOrMem}
use Rattle.mz_spec_theory.specs.Rules.{are_others, is_other}
use Rattle.mz_spec_variables.proofs.Offered.{made-end, made-step}
use Rattle.mz_spec_variables.specs.Code.{variable}
use Rattle.mz_spec_theory.specs.View.{name_texts, names_of}
use Rattle.mz_spec_theory.proofs.Offered.{mem-before, mem-decided}
use Rattle.mz_spec_rules.proofs.rules.push_names.Goals as goal

pub loop-variable-init : goal.loop-variable-init
loop-variable-init c =
    let vs = map variable c.args.variables.now in
    record {
      left = subst (λ ns. Decides (are_others ns vs) (are_others [] vs)) (sym c.requires.none) (decides-whole (are_others [] vs));
      all = ap (λ ns. ns ++ names_of vs) c.requires.none;
    }

pub returns-in_err-push_name-clause-judged : goal.returns-in_err-push_name-clause-judged
returns-in_err-push_name-clause-judged c =
    let xs = c.args.variables.now in
    let i = c.loop-variable.variable-index in
    let x = c.variable-item.result in
    let names = c.loop-variable.names in
    let v = variable x in
    let vs = map variable (drop (i + 1) xs) in
    let whole = are_others [] (map variable xs) in
    let halt = c.in_err-push_name.field-0.0 in
    let p = err_from_is_err_and c.from_residual.result c.from_residual.ensures.1 in
    let left = subst (λ ys. Decides (are_others names (map variable ys)) whole) (drop-item xs i x c.loop-variable-test.true c.variable-item.is) c.loop-variable.invariant.left in
    subst (λ r. JudgesOrMem r whole) (sym (p.1 ∙ ap Err p.2))
    (mem-decided (are_others names (v ∷ vs)) whole halt left (mem-before (is_other names v.name) (are_others (names ++ name_texts v.name) vs) halt c.in_err-push_name.ensures.judged))

pub loop-variable-preserved : goal.loop-variable-preserved
loop-variable-preserved c =
    let xs = c.args.variables.now in
    let i = c.loop-variable.variable-index in
    let x = c.variable-item.result in
    let names = c.loop-variable.names in
    let v = variable x in
    let vs = map variable (drop (i + 1) xs) in
    let whole = are_others [] (map variable xs) in
    let within = c.loop-variable-test.true in
    let grown = sym c.in_ok-push_name.ensures.names in
    let left = subst (λ ys. Decides (are_others names (map variable ys)) whole) (drop-item xs i x within c.variable-item.is) c.loop-variable.invariant.left in
    let all = made-step (λ ys. names_of (map variable ys)) (λ y. name_texts (variable y).name) xs i ((λ y ys. refl), refl) names (names_of (map variable xs)) x within c.variable-item.is c.loop-variable.invariant.all in
    record {
      left = subst (λ ns. Decides (are_others ns vs) whole) grown (decides-after (is_other names v.name) (are_others (names ++ name_texts v.name) vs) whole c.in_ok-push_name.ensures.judged left);
      all = subst (λ ns. ns ++ names_of vs ≡ names_of (map variable xs)) grown all;
    }

pub returns-clause-judged : goal.returns-clause-judged
returns-clause-judged c =
    let xs = c.args.variables.now in
    let past = drop-past xs c.loop-variable.variable-index c.loop-variable-test.false in
    c.loop-variable.invariant.left.holds (subst (λ ys. AllHold (are_others c.loop-variable.names (map variable ys))) (sym past) tt)

pub returns-clause-names : goal.returns-clause-names
returns-clause-names c =
    made-end (λ ys. names_of (map variable ys)) (λ y. name_texts (variable y).name) c.args.variables.now c.loop-variable.variable-index ((λ y ys. refl), refl) c.loop-variable.names (names_of (map variable c.args.variables.now))
    c.loop-variable-test.false c.loop-variable.invariant.all
