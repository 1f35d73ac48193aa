-- The math string of a prefix form means the expression.
use Rattle.std.proofs.Common.{◌<◌, ◌++◌, ◌∷◌, [], ℕ, List, length, sym, refl, subst, inl, inr}
use Rattle.std.specs.Prelude.{⊤, codes}
use Rattle.std.proofs.lemmas.Option.{slice_get_within, get_or_from_slice_get}
use Rattle.mz_base.specs.Checks.{AllHold}
use Rattle.mz_base.proofs.Offered.{all_hold-both}
use Rattle.mz_lex.specs.Kinds.{inside_of}
use Rattle.mz_logic_theory.specs.Tree.{Tree, Trees, var, app, none, more}
use Rattle.mz_logic_theory.specs.Signature.{Signature}
use Rattle.mz_logic_theory.specs.Declaration.{signatures}
use Rattle.mz_logic_theory.specs.Sorts.{HasSort, Fits}
use Rattle.mz_logic_theory.specs.Legality.{InRange, AllInRange}
use Rattle.mz_logic_theory.specs.declared.binder.Binder.{Binder}
use Rattle.mz_logic_theory.proofs.Offered.{range_of_sort}
use Rattle.mz_math_theory.specs.declared.coercion.Coercion.{Coercion}
use Rattle.mz_lex.specs.declared.tokens.Delimiters.{Delimiters}
use Rattle.mz_math_theory.specs.declared.wanted.Wanted.{Wanted}
use Rattle.mz_math_theory.specs.declared.wanted.Wanted.TheVariants.{Provable as provable, Sort as of_sort}
use Rattle.mz_lex.specs.MathTokens.{MathTokens, token_texts}
use Rattle.mz_math_theory.specs.Grammar.{Words, IsKnown}
use Rattle.mz_math_theory.specs.Meaning.{Coerced, CoercedAll, IsSettled, IsClaimed}
use Rattle.mz_math_theory.specs.Formula.{Reader, words, StandsFor, Means, known_checks, token_checks}
use Rattle.mz_math_theory.proofs.Offered.{AllKnown, known-both, checks-hold}
use Rattle.mz_prefix.specs.Lines.{Tokens, math_text}
use Rattle.mz_prefix.specs.Plain.{tokens_at}
use Rattle.mz_prefix.specs.Prefix.{tokens_of, operand_tokens, enclosed, IsSpoken, IsOfWanted}
use Rattle.mz_prefix.specs.PrintLaws.{PrefixFormsAreMeant}
use Rattle.mz_prefix.proofs.TokenLists.{tokens-are-math_tokens}
use Rattle.mz_prefix.proofs.Prefix.{prefix-read}

-- ---- no coercion is needed

mutual
  coerced-itself : (sigs : List Signature) (cs : List Coercion) (ctx : List Binder) (e : Tree) (s : ℕ) → HasSort sigs ctx e s → Coerced sigs cs ctx e e s
  coerced-itself sigs cs ctx (var x) s (b, at, is) = (refl, b, at, is)
  coerced-itself sigs cs ctx (app t es) s (d, at, is, fits) = (d, es, at, is, refl, all-coerced sigs cs ctx es d.params fits)

  all-coerced : (sigs : List Signature) (cs : List Coercion) (ctx : List Binder) (es : Trees) (ps : List Binder) → Fits sigs ctx es ps → CoercedAll sigs cs ctx es ps es
  all-coerced sigs cs ctx none [] fits = refl
  all-coerced sigs cs ctx (more e es) (p ∷ ps) (sorted, bound, fits) = (e, p.sort, [], es, coerced-itself sigs cs ctx e p.sort sorted, refl, bound, refl, all-coerced sigs cs ctx es ps fits)
  all-coerced sigs cs ctx _ _ fits = fits

-- ---- all tokens are known

module _ (ws : Words) (term name : ℕ → List ℕ) (spoken : IsSpoken ws term name) where
  variable-known : (x : ℕ) → x < length ws.variables → IsKnown ws (name x)
  variable-known x less = let (some, at) = spoken.variables x less in inl (some, (x, slice_get_within ws.variables x (name x) at, get_or_from_slice_get ws.variables x (name x) (name x) at))

  term-known : (t : ℕ) → t < length ws.signatures → IsKnown ws (term t)
  term-known t less = let (a, among, named, is) = spoken.terms t less in inr (inr (inr (inr (a, among, named))))

  mutual
    tokens-known : (e : Tree) → InRange ws.signatures (length ws.variables) e → AllKnown ws (tokens_of term name e)
    tokens-known (var x) range = (variable-known x range, tt)
    tokens-known (app t es) range = (term-known t range.0, operands-known es range.2)

    operands-known : (es : Trees) → AllInRange ws.signatures (length ws.variables) es → AllKnown ws (operand_tokens term name es)
    operands-known none range = tt
    operands-known (more e es) range = known-both ws (enclosed term name e) (operand_tokens term name es) (enclosed-known e range.0) (operands-known es range.1)

    enclosed-known : (e : Tree) → InRange ws.signatures (length ws.variables) e → AllKnown ws (enclosed term name e)
    enclosed-known (var x) range = (variable-known x range, tt)
    enclosed-known (app t none) range = (term-known t range.0, tt)
    enclosed-known (app t (more e es)) range = (
      inr (inl refl),
      (
        term-known t range.0,
        known-both ws (enclosed term name e ++ operand_tokens term name es) (codes ")" ∷ [])
            (known-both ws (enclosed term name e) (operand_tokens term name es) (enclosed-known e range.2.0) (operands-known es range.2.1)) (inr (inr (inl refl)), tt),
      ),
    )

-- ---- the whole

settled-itself : (cs : List Coercion) (r : Reader) (wanted : Wanted) (e : Tree) (s : ℕ) → IsOfWanted r wanted s → IsSettled cs wanted e s e
settled-itself cs r provable e s is = refl
settled-itself cs r (of_sort goal) e s is = ([], is, refl)

claimed-itself : (r : Reader) (cs : List Coercion) (wanted : Wanted) (e : Tree) (s : ℕ) → IsOfWanted r wanted s → IsClaimed r.env cs wanted e s e
claimed-itself r cs provable e s is = (s, [], inl (refl, is), refl, refl)
claimed-itself r cs (of_sort goal) e s is = refl

pub prefix-meant : PrefixFormsAreMeant
prefix-meant r wanted term name e s bare spoken many sorted fits tokens short =
    let ts : Tokens = tokens_of term name e in
    let text : List ℕ = inside_of (math_text ts) in
    let (pieces, same) = tokens-are-math_tokens ts tokens in
    let range : InRange (signatures r.env) (length r.scope.names) e =
    (let P : ℕ → Type 0 = λ n. InRange (signatures r.env) n e in subst P (sym many) (range_of_sort (signatures r.env) r.scope.binders e s sorted)) in
    let stands : StandsFor r wanted ts e s =
    (e, e, prefix-read (words r) term name e spoken range, coerced-itself (signatures r.env) r.table.coercions r.scope.binders e s sorted, settled-itself r.table.coercions r wanted e s fits) in
    let means : Means r wanted ts e = (e, s, stands, claimed-itself r r.table.coercions wanted e s fits) in
    let D : Delimiters → Type 0 = λ d. MathTokens d text (tokens_at 1 ts) in
    let K : Tokens → Type 0 = λ us. AllKnown (words r) us in
    let C : Tokens → Type 0 = λ us. AllHold (token_checks r wanted us) in
    let M : Tokens → Type 0 = λ us. Means r wanted us e in
    let checks : AllHold (token_checks r wanted ts) = (short.few, ((e, stands.2), ((e, s, stands), ((e, s, stands, short.low), ((e, means), tt))))) in (
      tokens_at 1 ts,
      subst D (sym bare.delimiters) pieces,
      all_hold-both (known_checks (words r) text (tokens_at 1 ts)) (token_checks r wanted (token_texts text (tokens_at 1 ts)))
          (checks-hold (words r) text (tokens_at 1 ts) (subst K (sym same) (tokens-known (words r) term name spoken e range)))
          (subst C (sym same) checks),
      subst M (sym same) means,
    )
