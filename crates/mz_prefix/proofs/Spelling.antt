-- The tokens of a line are the signs of its statement, part by part.
use Rattle.std.proofs.Common.{◌≡◌, ◌∙◌, ◌++◌, ◌∷◌, [], ◌⊎◌, ℕ, List, Bool, true, false, ap, sym, refl, inl, inr, subst, append_assoc, map, Some, None, Option}
use Rattle.std.specs.Prelude.{codes}
use Rattle.std.proofs.lemmas.Bool.{false≢true}
use Rattle.mz_lex.specs.Lexemes.{Lexeme}
use Rattle.mz_lex.specs.declared.token.TokenKind.TheVariants as kinds
use Rattle.mz_spec_theory.specs.declared.kind.Kind.{Kind}
use Rattle.mz_spec_theory.specs.declared.kind.Kind.TheVariants.{Term, Assert, Definition}
use Rattle.mz_spec_theory.specs.Statement.{Sign, keyword, symbol, name, formula, AreSigns, optional, each, modifier_signs, Modifiers, type_signs, name_signs, group_signs, premise_signs, body_signs, head_signs, end_signs, takes_dummies, opening_of, closing_of}
use Rattle.mz_spec_theory.proofs.Offered.{are_signs-append}
use Rattle.mz_prefix.specs.Tokens.{Word, lexeme_at, lexemes_at, stop}
use Rattle.mz_prefix.specs.Lines.{PlainType, PlainBinder, Tokens, sort_line, term_line, assert_line, definition_line, mark, spaced_mark, name_word, spaced_name, math_word, hyp_words, dep_words, type_words, type_at, dot_words, opening_words, naming_words, binder_words, binder_at, binders_words, binders_at, title_words, head_words, head_at, colon_words, end_words, hyps_words, hyps_at, body_words, body_at, modifier_names, sort_keywords, keyword_words, sort_words, colon_at, HaveNoDummies}
use Rattle.mz_prefix.specs.PrintLaws.{LinesSpellStatements}

-- ---- one after the other

pub lexemes-append : (p : ℕ) (ws vs : List Word) → lexemes_at p (ws ++ vs) ≡ lexemes_at p ws ++ lexemes_at (stop p ws) vs
lexemes-append p [] vs = refl
lexemes-append p (w ∷ ws) vs = ap (λ ls. lexeme_at p w ∷ ls) (lexemes-append (stop p (w ∷ [])) ws vs)

-- the tokens make these signs
abbrev Make : ℕ → List Word → List Sign → Type 0
Make p ws ss = AreSigns ss (lexemes_at p ws)

make-append : (p : ℕ) (ws vs : List Word) (ss ts : List Sign) → Make p ws ss → Make (stop p ws) vs ts → Make p (ws ++ vs) (ss ++ ts)
make-append p ws vs ss ts a b = let P : List Lexeme → Type 0 = λ ls. AreSigns (ss ++ ts) ls in subst P (sym (lexemes-append p ws vs)) (are_signs-append ss ts _ _ a b)

-- ---- types and binders

deps-make : (p : ℕ) (ds : List (List ℕ)) → Make p (dep_words ds) (each (λ d. name d ∷ []) (lexemes_at p (dep_words ds)))
deps-make p [] = tt
deps-make p (d ∷ ds) = ((refl, refl), deps-make (stop p (spaced_name d ∷ [])) ds)

type-makes : (p : ℕ) (t : PlainType) → Make p (type_words t) (type_signs (type_at p t))
type-makes p t = ((refl, refl), deps-make (stop p (spaced_name t.sort ∷ [])) t.deps)

-- a dummy stands only where the kind of statement takes one
named-makes : (kind : Kind) (p : ℕ) (d : Bool) (open_ n : List ℕ) (vs : List Word) (ts : List Sign) → (d ≡ true → takes_dummies kind ≡ true)
    → Make (stop (stop p (spaced_mark open_ ∷ dot_words d)) (name_word n ∷ [])) vs ts
    → Make p ((spaced_mark open_ ∷ dot_words d) ++ name_word n ∷ vs)
    (symbol open_ ∷ (each (name_signs kind) (record { is_dummy = d; name = lexeme_at (stop p (spaced_mark open_ ∷ dot_words d)) (name_word n) } ∷ []) ++ ts))
named-makes kind p true open_ n vs ts may rest = ((refl, refl), ((may refl, (refl, refl)), ((inl refl, refl), rest)))
named-makes kind p false open_ n vs ts may rest = ((refl, refl), ((inl refl, refl), rest))

binder-makes : (kind : Kind) (p : ℕ) (b : PlainBinder) → (b.is_dummy ≡ true → takes_dummies kind ≡ true) → Make p (binder_words b) (group_signs kind (binder_at p b))
binder-makes kind p b may =
    let q : ℕ = stop (stop p (opening_words b)) (naming_words b) in
    named-makes kind p b.is_dummy (opening_of b.is_bound) b.name (mark (codes ":") ∷ (type_words b.type ++ mark (closing_of b.is_bound) ∷ []))
    (symbol (codes ":") ∷ (type_signs (type_at q b.type) ++ symbol (closing_of b.is_bound) ∷ [])) may
    ((refl, refl), make-append q (type_words b.type) (mark (closing_of b.is_bound) ∷ []) (type_signs (type_at q b.type)) (symbol (closing_of b.is_bound) ∷ []) (type-makes q b.type) ((refl, refl), tt))

-- no binder is a dummy, or the kind takes them
TakesThem : Kind → List PlainBinder → Type 0
TakesThem kind bs = (takes_dummies kind ≡ true) ⊎ HaveNoDummies bs

takes-first : (kind : Kind) (b : PlainBinder) (bs : List PlainBinder) → TakesThem kind (b ∷ bs) → (b.is_dummy ≡ true → takes_dummies kind ≡ true) × TakesThem kind bs
unfolding TakesThem
takes-first kind b bs (inl takes) = ((λ _. takes), inl takes)
takes-first kind b bs (inr none) = ((λ is. absurd (false≢true (sym none.0 ∙ is))), inr none.1)

binders-make : (kind : Kind) (p : ℕ) (bs : List PlainBinder) → TakesThem kind bs → Make p (binders_words bs) (each (group_signs kind) (binders_at p bs))
binders-make kind p [] takes = tt
binders-make kind p (b ∷ bs) takes =
    let parts = takes-first kind b bs takes in
    make-append p (binder_words b) (binders_words bs) (group_signs kind (binder_at p b)) (each (group_signs kind) (binders_at (stop p (binder_words b)) bs))
    (binder-makes kind p b parts.0) (binders-make kind (stop p (binder_words b)) bs parts.1)

-- the head, and then a colon and a rest
head-makes : (kind : Kind) (p : ℕ) (n : List ℕ) (bs : List PlainBinder) (vs : List Word) (ts : List Sign) → TakesThem kind bs
    → Make (colon_at p kind n bs) vs ts
    → Make p (head_words kind n bs ++ (colon_words ++ vs)) (head_signs kind (head_at p kind n bs) ++ (symbol (codes ":") ∷ ts))
head-makes kind p n bs vs ts takes rest =
    make-append p (head_words kind n bs) (colon_words ++ vs) (head_signs kind (head_at p kind n bs)) (symbol (codes ":") ∷ ts)
    ((refl, refl), ((refl, refl), binders-make kind (stop p (title_words kind n)) bs takes)) ((refl, refl), rest)

-- ---- behind the colon

end-makes : (p : ℕ) → Make p end_words end_signs
end-makes p = ((refl, refl), tt)

hyps-make : (p : ℕ) (hs : List Tokens) → Make p (hyps_words hs) (each premise_signs (hyps_at p hs))
hyps-make p [] = tt
hyps-make p (h ∷ hs) = ((refl, refl), ((refl, refl), hyps-make (stop p (hyp_words h)) hs))

body-makes : (p : ℕ) (body : Option Tokens) → Make p (body_words body) (body_signs (body_at p body))
body-makes p None = tt
body-makes p (Some ts) = ((refl, refl), ((refl, refl), tt))

-- ---- sorts

keywords-make : (p : ℕ) (gap : List ℕ) (ks : List (List ℕ)) → Make p (keyword_words gap ks) (map keyword ks)
keywords-make p gap [] = tt
keywords-make p gap (k ∷ ks) = ((refl, refl), keywords-make (stop p (record { gap = gap; kind = kinds.Name; text = k } ∷ [])) (codes " ") ks)

optional-same : (b : Bool) (k : List ℕ) (ks : List (List ℕ)) (ss : List Sign) → map keyword ks ≡ ss → map keyword (modifier_names b k ++ ks) ≡ optional b k ++ ss
optional-same true k ks ss same = ap (λ ts. keyword k ∷ ts) same
optional-same false k ks ss same = same

modifiers-same : (m : Modifiers) → map keyword (sort_keywords m) ≡ modifier_signs m ++ keyword (codes "sort") ∷ []
modifiers-same m =
    let last : List Sign = keyword (codes "sort") ∷ [] in
    let f : List Sign = optional m.is_free (codes "free") in
    let r : List Sign = optional m.is_provable (codes "provable") in
    let s : List Sign = optional m.is_strict (codes "strict") in
    let u : List Sign = optional m.is_pure (codes "pure") in
    optional-same m.is_pure (codes "pure") _ _ (optional-same m.is_strict (codes "strict") _ _ (optional-same m.is_provable (codes "provable") _ _ (optional-same m.is_free (codes "free") _ _ refl)))
    ∙ sym (append_assoc u (s ++ (r ++ f)) last ∙ ap (λ ts. u ++ ts) (append_assoc s (r ++ f) last ∙ ap (λ ts. s ++ ts) (append_assoc r f last)))

-- ---- lines

pub lines-spell : LinesSpellStatements
unfolding TakesThem
lines-spell p (sort_line m n) are =
    let q : ℕ = stop p (sort_words m) in
    let P : List Sign → Type 0 = λ ss. Make p (sort_words m ++ (spaced_name n ∷ end_words)) ss in
    let whole = make-append p (sort_words m) (spaced_name n ∷ end_words) (map keyword (sort_keywords m)) (name (lexeme_at q (spaced_name n)) ∷ end_signs)
    (keywords-make p [] (sort_keywords m)) ((refl, refl), end-makes (stop q (spaced_name n ∷ []))) in
    subst P (ap (λ ss. ss ++ name (lexeme_at q (spaced_name n)) ∷ end_signs) (modifiers-same m) ∙ append_assoc (modifier_signs m) (keyword (codes "sort") ∷ []) (name (lexeme_at q (spaced_name n)) ∷ end_signs)) whole
lines-spell p (term_line n bs t) are =
    let q : ℕ = colon_at p Term n bs in
    head-makes Term p n bs (type_words t ++ end_words) (type_signs (type_at q t) ++ end_signs) (inr are)
    (make-append q (type_words t) end_words (type_signs (type_at q t)) end_signs (type-makes q t) (end-makes (stop q (type_words t))))
lines-spell p (assert_line kind n bs hs c) are =
    let q : ℕ = colon_at p (Assert kind) n bs in
    let r : ℕ = stop q (hyps_words hs) in
    head-makes (Assert kind) p n bs (hyps_words hs ++ (math_word c ∷ end_words)) (each premise_signs (hyps_at q hs) ++ (formula (lexeme_at r (math_word c)) ∷ end_signs)) (inr are)
    (make-append q (hyps_words hs) (math_word c ∷ end_words) (each premise_signs (hyps_at q hs)) (formula (lexeme_at r (math_word c)) ∷ end_signs) (hyps-make q hs) ((refl, refl), end-makes (stop r (math_word c ∷ []))))
lines-spell p (definition_line n bs t body) are =
    let q : ℕ = colon_at p Definition n bs in
    let r : ℕ = stop q (type_words t) in
    head-makes Definition p n bs (type_words t ++ (body_words body ++ end_words)) (type_signs (type_at q t) ++ (body_signs (body_at r body) ++ end_signs)) (inl refl)
    (make-append q (type_words t) (body_words body ++ end_words) (type_signs (type_at q t)) (body_signs (body_at r body) ++ end_signs) (type-makes q t)
    (make-append r (body_words body) end_words (body_signs (body_at r body)) end_signs (body-makes r body) (end-makes (stop r (body_words body)))))
