-- What a math string stands for, and the notation that a statement makes, as the reader has them.
use Rattle.std.proofs.Common.{◌≡◌, ◌∙◌, ◌++◌, ◌≤◌, ℕ, Bool, true, false, List, [], ◌∷◌, length, Option, Some, None, slice_get, ap, ap₂, sym, refl, subst, arith}
use Rattle.mz_base.specs.Checks.{AllHold, each_in_order}
use Rattle.mz_base.proofs.Offered.{all_hold-first, all_hold-rest}
use Rattle.mz_lex.specs.Lexemes.{Lexeme}
use Rattle.mz_lex.specs.MathTokens.{IsConstant, MathTokens, token_texts}
use Rattle.mz_lex.specs.declared.tokens.MathToken.{MathToken}
use Rattle.mz_lex.specs.declared.tokens.Delimiters.{Delimiters}
use Rattle.mz_logic_theory.specs.Tree.{Tree, Trees, followed_by, copies}
use Rattle.mz_logic_theory.specs.Declaration.{signatures}
use Rattle.mz_logic_theory.specs.declared.binder.ResultType.{ResultType}
use Rattle.mz_math_theory.specs.Coercions.{wrapped}
use Rattle.mz_math_theory.specs.Forms.{IsElement, AreElements, IsGeneral as IsGeneralBy, General, EachOnce, Begins}
use Rattle.mz_math_theory.specs.Formula.{Reader, words, formula_checks, IsFormula}
use Rattle.mz_math_theory.specs.Grammar.{Exp}
use Rattle.mz_math_theory.specs.Kept.{IsTable, AreVariables}
use Rattle.mz_math_theory.specs.declared.wanted.Wanted.{Wanted}
use Rattle.mz_math_theory.specs.declared.wanted.Wanted.TheVariants.{Provable as provable, Sort as of_sort}
use Rattle.mz_math_theory.specs.declared.literal.Literal.{Literal}
use Rattle.mz_math_theory.specs.declared.literal.Literal.TheVariants.{Constant as constant, Name as name}
use Rattle.mz_math_theory.specs.declared.notation.Element.{Element}
use Rattle.mz_math_theory.specs.declared.notation.Element.TheVariants.{Fixed as fixed, Slot as slot}
use Rattle.mz_math_theory.specs.declared.notation.Notation.{Notation}
use Rattle.mz_math_theory.specs.Notation.{level_of as math_level, Variables, prefixed, infixed}
use Rattle.mz_math_theory.proofs.Offered.{one-meaning, one-tokens}
use Rattle.mz_spec_theory.specs.declared.kind.Fixity.{Fixity}
use Rattle.mz_spec_theory.specs.declared.kind.Fixity.TheVariants as fixities
use Rattle.mz_spec_theory.specs.Dependencies.{Every}
use Rattle.mz_spec_theory.specs.Formulas.{inner, AreHyps}
use Rattle.mz_spec_theory.specs.Forms.{level_of, number_in, IsLiteral as IsLiteralAt, AreLiterals as AreLiteralsAt, tail_of, ArePartsOf, MakesNotation}
use Rattle.mz_spec_theory.specs.Rules.{is_level}
use Rattle.mz_spec_theory.specs.State.{State, reader_of, scope_of, signature_of, term_number}
use Rattle.mz_spec_theory.specs.Statement.{TypeText, Head, Level, number_level, level_max, LiteralText, constant_literal, name_literal, TailText, operator_statement}
use Rattle.mz_spec_theory.specs.View.{Variable, Stated, variables_of, literal_levels, tail_levels}
use Rattle.mz_spec_theory.proofs.Offered.{every-front}
use Rattle.mz_spec_proved_theory.specs.Theory.{variables_over, signature_over}
use Rattle.mz_spec_proved_theory.specs.MathStrings.{StandsFor, AreHypotheses}
use Rattle.mz_spec_proved_theory.specs.NotationTexts.{IsPrecedence, IsLiteral, AreLiterals, BeginsBy, IsGeneral, Makes}
use Rattle.mz_spec_proved_theory.proofs.TheoryVariables.{theory}

-- ---- math strings

pub means : (r : Reader) (wanted : Wanted) (l : Lexeme) (e : Tree) → IsFormula r wanted (inner l) e → StandsFor r wanted l e
means r (of_sort goal) l e (ps, cut, all, (f, s, (t, g, is, coerced, (path, on, made)), same)) = (ps, t, g, s, cut, is, coerced, (path, on, same ∙ made))
means r provable l e (ps, cut, all, (f, s, (t, g, is, coerced, settled), (goal, path, is_goal, on, same))) =
    (ps, t, g, s, cut, is, coerced, (goal, path, is_goal, on, same ∙ ap (wrapped r.table.coercions path) settled))

-- and by the tokens of a string that breaks no rule nothing else
is-formula : (r : Reader) (wanted : Wanted) (l : Lexeme) (e : Tree) (ps : List MathToken) → MathTokens r.table.delimiters (inner l) ps → AllHold (formula_checks r wanted (inner l) ps)
    → StandsFor r wanted l e → IsFormula r wanted (inner l) e
is-formula r (of_sort goal) l e ps cut all (qs, t, g, s, cut_q, is, coerced, (path, on, same)) =
    let tokens = one-tokens r.table.delimiters (inner l) qs ps cut_q cut in
    (ps, cut, all, (e, s, (t, g, subst (λ (xs : List MathToken). Exp (words r) 0 t (token_texts (inner l) xs)) tokens is, coerced, (path, on, same)), refl))
is-formula r provable l e ps cut all (qs, t, g, s, cut_q, is, coerced, (goal, path, is_goal, on, same)) =
    let tokens = one-tokens r.table.delimiters (inner l) qs ps cut_q cut in
    (ps, cut, all, (g, s, (t, g, subst (λ (xs : List MathToken). Exp (words r) 0 t (token_texts (inner l) xs)) tokens is, coerced, refl), (goal, path, is_goal, on, same)))

pub meaning-one : (r : Reader) (wanted : Wanted) (l : Lexeme) (e f : Tree) → IsTable r.table → AreVariables r.scope.names → IsFormula r wanted (inner l) e → StandsFor r wanted l f → f ≡ e
meaning-one r wanted l e f table names (ps, cut, all, long) meant = one-meaning r wanted (inner l) table names f e (is-formula r wanted l f ps cut all meant) (ps, cut, all, long)

pub hypotheses : (σ : State) (vs : List Variable) (hs : List Stated) (es : Trees) → AreHyps σ vs hs es → AreHypotheses (reader_of σ vs) hs es
hypotheses σ vs [] es are = are
hypotheses σ vs (h ∷ hs) es (e, rest, meant, are, same) = (e, rest, means (reader_of σ vs) provable h.math e meant, hypotheses σ vs hs rest are, same)

pub hypotheses-one : (σ : State) (vs : List Variable) → IsTable σ.table → AreVariables (scope_of σ vs).names → (hs : List Stated) (es fs : Trees) → AreHyps σ vs hs es → AreHypotheses (reader_of σ vs) hs fs → fs ≡ es
hypotheses-one σ vs table names [] es fs a b = b ∙ sym a
hypotheses-one σ vs table names (h ∷ hs) es fs (e, rest, meant, are, is) (f, others, meant_f, are_f, is_f) =
    is_f ∙ ap₂ (λ x y. followed_by (copies h.times x) y) (meaning-one (reader_of σ vs) provable h.math e f table names meant meant_f) (hypotheses-one σ vs table names hs rest others are are_f) ∙ sym is

-- ---- precedences

abbrev pub IsPrecise : Level → Type 0
IsPrecise l = IsPrecedence l (math_level (level_of l))

precise-level : (l : Level) → AllHold (is_level l) → IsPrecise l
precise-level (number_level l) all = (refl, let few : number_in l ≤ 4294967294 = all.0 in omega (arith, few))
precise-level level_max all = refl

pub precise-levels : (ls : List Level) → AllHold (each_in_order is_level ls) → Every IsPrecise ls
precise-levels [] all = tt
precise-levels (l ∷ ls) all =
    (precise-level l (all_hold-first (is_level l) (each_in_order is_level ls) all), precise-levels ls (all_hold-rest (is_level l) (each_in_order is_level ls) all))

-- ---- literals

literal-is : (d : Delimiters) (names : List (List ℕ)) (text : List ℕ) (l : LiteralText) (k : Literal) (e : Element) → Every IsPrecise (literal_levels (l ∷ []))
    → IsLiteralAt text l k → IsElement d names text k e → IsLiteral d names l e
literal-is d names text (constant_literal c level) (constant from to n) e precise (span, bytes, is) (w, _, constant_w, same) =
    (w, math_level (level_of level), subst (λ b. IsConstant d b w) bytes constant_w, precise.0, same ∙ ap (λ q. fixed w (math_level q)) is)
literal-is d names text (constant_literal c level) (name from to) e precise lit is = absurd lit
literal-is d names text (name_literal n) (constant from to q) e precise lit is = absurd lit
literal-is d names text (name_literal n) (name from to) e precise (span, bytes) (i, _, some, at, same) = (i, subst (λ b. slice_get names i ≡ Some b) bytes at, same)

first-precise : (l : LiteralText) (ls : List LiteralText) → Every IsPrecise (literal_levels (l ∷ ls)) → Every IsPrecise (literal_levels (l ∷ [])) × Every IsPrecise (literal_levels ls)
first-precise (constant_literal c level) ls all = ((all.0, tt), all.1)
first-precise (name_literal n) ls all = (tt, all)

literals-are : (d : Delimiters) (names : List (List ℕ)) (text : List ℕ) (ls : List LiteralText) (ks : List Literal) (es : List Element) → Every IsPrecise (literal_levels ls)
    → AreLiteralsAt text ls ks → AreElements d names text ks es → AreLiterals d names ls es
literals-are d names text [] [] [] precise lits are = refl
literals-are d names text [] [] (e ∷ es) precise lits are = absurd are
literals-are d names text [] (k ∷ ks) es precise lits are = absurd lits
literals-are d names text (l ∷ ls) [] es precise lits are = absurd lits
literals-are d names text (l ∷ ls) (k ∷ ks) [] precise lits are = absurd are
literals-are d names text (l ∷ ls) (k ∷ ks) (e ∷ es) precise lits are =
    let parts = first-precise l ls precise in
    (e, es, refl, literal-is d names text l k e parts.0 lits.0 are.0, literals-are d names text ls ks es parts.1 lits.1 are.1)

begins-by : (es : List Element) (tail : Option TailText) (level : ℕ) (right : Bool) → Every IsPrecise (tail_levels tail) → Begins es (tail_of tail) level right → BeginsBy es tail level right
begins-by [] tail level right precise begins = absurd begins
begins-by (fixed w q ∷ es) None level right precise begins = begins
begins-by (fixed w q ∷ es) (Some t) level right precise begins = absurd begins
begins-by (slot i ∷ []) tail level right precise begins = absurd begins
begins-by (slot i ∷ slot j ∷ es) tail level right precise begins = absurd begins
begins-by (slot i ∷ fixed w q ∷ es) None level right precise begins = absurd begins
begins-by (slot i ∷ fixed w q ∷ es) (Some t) level right precise (at, same, side) = (subst (IsPrecedence t.level) (sym at) precise.0, same, side)

-- ---- notations

pub general-made : (σ : State) (h : Head) (t : TypeText) (ls : List LiteralText) (tail : Option TailText) (k : Notation) → variables_over (theory σ) (variables_of h.groups) ≡ scope_of σ (variables_of h.groups)
    → (signature_over (theory σ) (variables_of h.groups) t).result ≡ (signature_of σ (variables_of h.groups) t).result → Every IsPrecise (literal_levels ls ++ tail_levels tail)
    → (g : General) → ArePartsOf σ h t ls tail g → IsGeneralBy (signatures σ.env) σ.table.delimiters g k → IsGeneral (theory σ) h.name (variables_of h.groups) t ls tail k
general-made σ h t ls tail k scope result precise g parts is =
    let split = every-front IsPrecise (literal_levels ls) (tail_levels tail) precise in
    let binders : g.binders ≡ (variables_over (theory σ) (variables_of h.groups)).binders = parts.2 ∙ ap (λ (x : Variables). x.binders) (sym scope) in
    let names : g.names ≡ (variables_over (theory σ) (variables_of h.groups)).names = parts.1 ∙ ap (λ (x : Variables). x.names) (sym scope) in
    let type : g.result ≡ (signature_over (theory σ) (variables_of h.groups) t).result = parts.3 ∙ sym result in (
      is.term ∙ parts.0,
      ap (slice_get (signatures σ.env)) is.term ∙ is.signature ∙ ap₂ (λ bs (r : ResultType). Some (record { params = bs; result = r })) binders type,
      literals-are σ.table.delimiters _ g.text ls g.literals k.elements split.0 parts.4 (subst (λ ns. AreElements σ.table.delimiters ns g.text g.literals k.elements) names is.elements),
      subst (λ bs. EachOnce (length bs) k.elements) binders is.once,
      begins-by k.elements tail k.level k.is_right split.1 (subst (λ x. Begins k.elements x k.level k.is_right) parts.5 is.begins),
    )

pub operator-made : (σ : State) (f : Fixity) (n c : Lexeme) (level : Level) (k : Notation) → IsPrecise level → MakesNotation σ (operator_statement f n c level) k → Makes (theory σ) (operator_statement f n c level) k
operator-made σ fixities.InfixLeft n c level k precise (w, s, constant_w, at, two, is) = (w, s, math_level (level_of level), constant_w, precise, at, (two, is))
operator-made σ fixities.InfixRight n c level k precise (w, s, constant_w, at, two, is) = (w, s, math_level (level_of level), constant_w, precise, at, (two, is))
operator-made σ fixities.Prefix n c level k precise (w, s, constant_w, at, is) = (w, s, math_level (level_of level), constant_w, precise, at, is)

-- ---- and no other

level-one : (level : Level) (q : ℕ) → IsPrecedence level q → q ≡ math_level (level_of level)
level-one (number_level l) q is = is.0
level-one level_max q is = is

literal-back : (d : Delimiters) (names : List (List ℕ)) (text : List ℕ) (l : LiteralText) (k : Literal) (e f : Element) → IsLiteralAt text l k → IsElement d names text k e → IsLiteral d names l f → IsElement d names text k f
literal-back d names text (constant_literal c level) (constant from to n) e f (span, bytes, is) is_e (v, q, constant_v, precise, same) =
    (v, span, subst (λ b. IsConstant d b v) (sym bytes) constant_v, same ∙ ap (λ x. fixed v x) (level-one level q precise ∙ ap math_level (sym is)))
literal-back d names text (constant_literal c level) (name from to) e f lit is_e is_f = absurd lit
literal-back d names text (name_literal n) (constant from to q) e f lit is_e is_f = absurd lit
literal-back d names text (name_literal n) (name from to) e f (span, bytes) (i, _, some, at, same) (j, at_j, same_j) =
    (j, span, some, subst (λ b. slice_get names j ≡ Some b) (sym bytes) at_j, same_j)

literals-back : (d : Delimiters) (names : List (List ℕ)) (text : List ℕ) (ls : List LiteralText) (ks : List Literal) (es fs : List Element) → AreLiteralsAt text ls ks → AreElements d names text ks es
    → AreLiterals d names ls fs → AreElements d names text ks fs
literals-back d names text [] [] es fs lits are none = subst (AreElements d names text []) (sym none) tt
literals-back d names text [] (k ∷ ks) es fs lits are others = absurd lits
literals-back d names text (l ∷ ls) [] es fs lits are others = absurd lits
literals-back d names text (l ∷ ls) (k ∷ ks) [] fs lits are others = absurd are
literals-back d names text (l ∷ ls) (k ∷ ks) (e ∷ es) fs lits are (f, rest, is, here, more) =
    subst (AreElements d names text (k ∷ ks)) (sym is) (literal-back d names text l k e f lits.0 are.0 here, literals-back d names text ls ks es rest lits.1 are.1 more)

begins-back : (es : List Element) (tail : Option TailText) (level : ℕ) (right : Bool) → BeginsBy es tail level right → Begins es (tail_of tail) level right
begins-back [] None level right begins = absurd begins
begins-back [] (Some t) level right begins = absurd begins
begins-back (fixed w q ∷ es) None level right begins = begins
begins-back (fixed w q ∷ es) (Some t) level right begins = absurd begins
begins-back (slot i ∷ []) None level right begins = absurd begins
begins-back (slot i ∷ []) (Some t) level right begins = absurd begins
begins-back (slot i ∷ slot j ∷ es) None level right begins = absurd begins
begins-back (slot i ∷ slot j ∷ es) (Some t) level right begins = absurd begins
begins-back (slot i ∷ fixed w q ∷ es) None level right begins = absurd begins
begins-back (slot i ∷ fixed w q ∷ es) (Some t) level right (precise, same, side) = (level-one t.level q precise, same, side)

pub operator-back : (σ : State) (f : Fixity) (n c : Lexeme) (level : Level) (k : Notation) → Makes (theory σ) (operator_statement f n c level) k → MakesNotation σ (operator_statement f n c level) k
operator-back σ fixities.InfixLeft n c level k (w, s, q, constant_w, precise, at, (two, is)) = (w, s, constant_w, at, two, is ∙ ap (λ x. infixed (term_number σ n) w x false) (level-one level q precise))
operator-back σ fixities.InfixRight n c level k (w, s, q, constant_w, precise, at, (two, is)) = (w, s, constant_w, at, two, is ∙ ap (λ x. infixed (term_number σ n) w x true) (level-one level q precise))
operator-back σ fixities.Prefix n c level k (w, s, q, constant_w, precise, at, is) = (w, s, constant_w, at, is ∙ ap (λ x. prefixed (term_number σ n) (length s.params) w x) (level-one level q precise))

pub general-back : (σ : State) (h : Head) (t : TypeText) (ls : List LiteralText) (tail : Option TailText) (k l : Notation) → variables_over (theory σ) (variables_of h.groups) ≡ scope_of σ (variables_of h.groups)
    → (g : General) → ArePartsOf σ h t ls tail g → IsGeneralBy (signatures σ.env) σ.table.delimiters g k → IsGeneral (theory σ) h.name (variables_of h.groups) t ls tail l
    → IsGeneralBy (signatures σ.env) σ.table.delimiters g l
general-back σ h t ls tail k l scope g parts is (term, signature, literals, once, begins) = record {
  term = term ∙ sym parts.0;
  signature = is.signature;
  elements = literals-back σ.table.delimiters g.names g.text ls g.literals k.elements l.elements parts.4 is.elements
      (subst (λ ns. AreLiterals σ.table.delimiters ns ls l.elements) (ap (λ (x : Variables). x.names) scope ∙ sym parts.1) literals);
  once = subst (λ bs. EachOnce (length bs) l.elements) (ap (λ (x : Variables). x.binders) scope ∙ sym parts.2) once;
  begins = subst (λ x. Begins l.elements x l.level l.is_right) (sym parts.5) (begins-back l.elements tail l.level l.is_right begins);
}
