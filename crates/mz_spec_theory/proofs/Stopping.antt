-- Lexemes begin with one statement, or stop with one fault.
use Rattle.std.proofs.Common.{◌≡◌, ◌⊎◌, ◌∙◌, ◌++◌, ℕ, List, [], ◌∷◌, Option, Some, None, ap, ap₂, sym, refl, subst, inl, inr, append_assoc}
use Rattle.std.specs.Prelude.{⊤}
use Rattle.std.proofs.lemmas.List.{append-nil}
use Rattle.mz_lex.specs.declared.rule.S.TheVariants as rules
use Rattle.mz_lex.specs.declared.token.LexFault.{LexFault}
use Rattle.mz_lex.specs.RuleText.{place_of, rule_of}
use Rattle.mz_lex.specs.Lexemes.{Lexeme}
use Rattle.mz_spec_theory.specs.declared.refusal.Fault.{Fault}
use Rattle.mz_spec_theory.specs.Statement.{SpecStatement, Spells, IsStatement, IsPrefix}
use Rattle.mz_spec_theory.specs.Progress.{Progress, whole, start, next, Leads}
use Rattle.mz_spec_theory.specs.Stops.{Stops, StopsBy, misfit}
use Rattle.mz_spec_theory.specs.GrammarLaws.{Begins, OneStatement, NotBoth, OneOfAll}
use Rattle.mz_spec_theory.proofs.Adding.{leads-spells}
use Rattle.mz_spec_theory.proofs.Grammar.{statements-one, leads-prefix, misfit-prefix, open-statement, IsOpen, whole-or-open}

-- ---- lists

-- one of two fronts of a list begins the other
abbrev Fronts : List Lexeme → List Lexeme → List Lexeme → List Lexeme → Type 0
Fronts xs us ys vs = (more : List Lexeme) × (ys ≡ xs ++ more) × (us ≡ more ++ vs)

fronts : (xs us ys vs : List Lexeme) → xs ++ us ≡ ys ++ vs → Fronts xs us ys vs ⊎ Fronts ys vs xs us
fronts [] us ys vs same = inl (ys, refl, same)
fronts (x ∷ xs) us [] vs same = inr (x ∷ xs, refl, sym same)
fronts (x ∷ xs) us (y ∷ ys) vs same = go (fronts xs us ys vs (let tails : xs ++ us ≡ ys ++ vs = cc in tails))
  where
    head : x ≡ y
    head = cc

    go : Fronts xs us ys vs ⊎ Fronts ys vs xs us → Fronts (x ∷ xs) us (y ∷ ys) vs ⊎ Fronts (y ∷ ys) vs (x ∷ xs) us
    go (inl (more, is, rest)) = inl (more, ap₂ ◌∷◌ (sym head) is, rest)
    go (inr (more, is, rest)) = inr (more, ap₂ ◌∷◌ head is, rest)

pub front-none : (xs ys : List Lexeme) → [] ≡ xs ++ ys → xs ≡ []
front-none [] ys same = refl
front-none (x ∷ xs) ys same = absurd cc

pub back-none : (xs ys : List Lexeme) → [] ≡ xs ++ ys → ys ≡ []
back-none [] ys same = sym same
back-none (x ∷ xs) ys same = absurd cc

-- ---- prefixes

prefix-front : (xs ys : List Lexeme) → IsPrefix (xs ++ ys) → IsPrefix xs
prefix-front xs ys (rest, is) = (ys ++ rest, subst IsStatement (append_assoc xs ys rest) is)

prefix-step : (xs ys : List Lexeme) (l : Lexeme) → IsPrefix (xs ++ l ∷ ys) → IsPrefix (xs ++ l ∷ [])
prefix-step xs ys l is = prefix-front (xs ++ l ∷ []) ys (subst IsPrefix (sym (append_assoc xs (l ∷ []) ys)) is)

whole-prefix : (s : SpecStatement) (front : List Lexeme) → Spells s front → IsPrefix front
whole-prefix s front spells = ([], (s, subst (Spells s) (sym (append-nil front)) spells))

-- a prefix that a statement begins is that statement
prefix-whole : (s : SpecStatement) (front more : List Lexeme) → Spells s front → IsPrefix (front ++ more) → more ≡ []
prefix-whole s front more spells (rest, (r, all)) =
    front-none more rest (sym (statements-one s r front (more ++ rest) ((front ++ more) ++ rest) [] spells all (sym (append_assoc front more rest) ∙ sym (append-nil ((front ++ more) ++ rest)))).2)

-- ---- where lexemes stop

-- they don't go on where they stop
no-more : (n : ℕ) (before rest : List Lexeme) (e : Option LexFault) (fault : Fault) (l : Lexeme) (more : List Lexeme) → rest ≡ l ∷ more → IsPrefix (before ++ l ∷ []) → StopsBy n before rest e fault → ⊥
no-more n before [] e fault l more same fits stops = absurd cc
no-more n before (k ∷ rest) e fault l more same fits stops = let here : l ≡ k = cc in stops.0 (subst (λ x. IsPrefix (before ++ x ∷ [])) here fits)

-- lexemes that begin with a statement don't stop
pub stands-stops : (n : ℕ) (s : SpecStatement) (front back ls : List Lexeme) (e : Option LexFault) (fault : Fault) → ls ≡ front ++ back → Spells s front → Stops n ls e fault → ⊥
stands-stops n s front back ls e fault is spells (before, rest, is_b, fits, is_open, stops) = go (fronts before rest front back (sym is_b ∙ is))
  where
    go : Fronts before rest front back ⊎ Fronts front back before rest → ⊥
    go (inl ([], same, tail)) = is_open (s, subst (Spells s) (same ∙ append-nil before) spells)
    go (inl (l ∷ more, same, tail)) = no-more n before rest e fault l (more ++ back) tail (prefix-step before more l (subst IsPrefix same (whole-prefix s front spells))) stops
    go (inr (more, same, tail)) =
        is_open (s, subst (Spells s) (sym (same ∙ ap (λ xs. front ++ xs) (prefix-whole s front more spells (subst IsPrefix same fits)) ∙ append-nil front)) spells)

stop-by-one : (n : ℕ) (before rest : List Lexeme) (e : Option LexFault) (f g : Fault) → StopsBy n before rest e f → StopsBy n before rest e g → f ≡ g
stop-by-one n before (l ∷ rest) e f g a b = a.1 ∙ sym b.1
stop-by-one n before [] (Some lex) f g a b = a ∙ sym b
stop-by-one n [] [] None f g a b = absurd a
stop-by-one n (k ∷ ks) [] None f g a b = a ∙ sym b

pub stops-one : (n : ℕ) (ls : List Lexeme) (e : Option LexFault) (f g : Fault) → Stops n ls e f → Stops n ls e g → f ≡ g
stops-one n ls e f g (before, rest, is, fits, is_open, stops) (other, left, is_o, fits_o, open_o, stops_o) = go (fronts before rest other left (sym is ∙ is_o))
  where
    go : Fronts before rest other left ⊎ Fronts other left before rest → f ≡ g
    go (inl ([], same, tail)) =
        stop-by-one n before rest e f g stops (subst (λ xs. StopsBy n xs rest e g) (same ∙ append-nil before) (subst (λ xs. StopsBy n other xs e g) (sym tail) stops_o))
    go (inl (l ∷ more, same, tail)) = absurd (no-more n before rest e f l (more ++ left) tail (prefix-step before more l (subst IsPrefix same fits_o)) stops)
    go (inr ([], same, tail)) =
        stop-by-one n before rest e f g stops (subst (λ xs. StopsBy n xs rest e g) (sym (same ∙ append-nil other)) (subst (λ xs. StopsBy n other xs e g) tail stops_o))
    go (inr (l ∷ more, same, tail)) = absurd (no-more n other left e g l (more ++ rest) tail (prefix-step other more l (subst IsPrefix same fits)) stops_o)

-- ---- one of them

-- no lexeme more, or one that doesn't fit
abbrev Misfits : Progress → List Lexeme → Type 0
Misfits q [] = ⊤
Misfits q (l ∷ ls) = next q l ≡ None

abbrev Ends : Progress → List Lexeme → Type 0
Ends p ls = (s : SpecStatement) × (front : List Lexeme) × (back : List Lexeme) × (ls ≡ front ++ back) × Leads p front (whole s)

abbrev Halts : Progress → List Lexeme → Type 0
Halts p ls = (before : List Lexeme) × (rest : List Lexeme) × (q : Progress) × (ls ≡ before ++ rest) × Leads p before q × IsOpen q × Misfits q rest

-- lexemes go on to the end of a statement, or halt
ends-or-halts : (p : Progress) (ls : List Lexeme) → Ends p ls ⊎ Halts p ls
ends-or-halts p [] = go (whole-or-open p)
  where
    go : IsOpen p ⊎ ((s : SpecStatement) × (whole s ≡ p)) → Ends p [] ⊎ Halts p []
    go (inl is_open) = inr ([], [], p, refl, refl, is_open, tt)
    go (inr (s, same)) = inl (s, [], [], refl, same)
ends-or-halts p (l ∷ ls) = go (whole-or-open p) (next p l) refl (λ r. ends-or-halts r ls)
  where
    further : (r : Progress) → next p l ≡ Some r → Ends r ls ⊎ Halts r ls → Ends p (l ∷ ls) ⊎ Halts p (l ∷ ls)
    further r e (inl (s, front, back, is, leads)) = inl (s, l ∷ front, back, ap (λ xs. l ∷ xs) is, (r, e, leads))
    further r e (inr (before, rest, q, is, leads, is_open, misfits)) = inr (l ∷ before, rest, q, ap (λ xs. l ∷ xs) is, (r, e, leads), is_open, misfits)

    go : IsOpen p ⊎ ((s : SpecStatement) × (whole s ≡ p)) → (o : Option Progress) → next p l ≡ o → ((r : Progress) → Ends r ls ⊎ Halts r ls) → Ends p (l ∷ ls) ⊎ Halts p (l ∷ ls)
    go (inr (s, same)) o e more = inl (s, [], l ∷ ls, refl, same)
    go (inl is_open) None e more = inr ([], l ∷ ls, p, refl, refl, is_open, e)
    go (inl is_open) (Some r) e more = further r e (more r)

halts-stop : (n : ℕ) (e : Option LexFault) (ls before rest : List Lexeme) (q : Progress) → ls ≡ before ++ rest → Leads start before q → IsOpen q → Misfits q rest
    → ((fault : Fault) × Stops n ls e fault) ⊎ ((ls ≡ []) × (e ≡ None))
halts-stop n e ls before (l ∷ rest) q is leads is_open misfits =
    inl (misfit before l, (before, l ∷ rest, is, leads-prefix before q leads, open-statement q before leads is_open, (misfit-prefix q before l leads misfits, refl)))
halts-stop n (Some lex) ls before [] q is leads is_open misfits =
    inl (record { at = place_of lex; rule = rule_of lex }, (before, [], is, leads-prefix before q leads, open-statement q before leads is_open, refl))
halts-stop n None ls [] [] q is leads is_open misfits = inr (is, refl)
halts-stop n None ls (k ∷ ks) [] q is leads is_open misfits =
    inl (record { at = n; rule = rules.Statement }, (k ∷ ks, [], is, leads-prefix (k ∷ ks) q leads, open-statement q (k ∷ ks) leads is_open, refl))

pub one-of-all : OneOfAll
one-of-all n ls ending = go (ends-or-halts start ls)
  where
    go : Ends start ls ⊎ Halts start ls → Begins ls ⊎ (((fault : Fault) × Stops n ls ending fault) ⊎ ((ls ≡ []) × (ending ≡ None)))
    go (inl (s, front, back, is, leads)) = inl (s, front, back, is, leads-spells s front leads)
    go (inr (before, rest, q, is, leads, is_open, misfits)) = inr (halts-stop n ending ls before rest q is leads is_open misfits)

pub one-statement : OneStatement
one-statement s r ls a b = (statements-one s r ls [] ls [] a b refl).0

pub not-both : NotBoth
not-both n s front back ending fault spells stops = stands-stops n s front back (front ++ back) ending fault refl spells stops
