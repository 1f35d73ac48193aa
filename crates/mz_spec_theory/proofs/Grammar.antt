-- The progress of a statement is the grammar: lexemes lead from the start to somewhere exactly where
-- a statement begins with them.
use Rattle.std.proofs.Common.{◌≡◌, ◌∙◌, ◌++◌, List, [], ◌∷◌, true, false, Some, None, ◌⊎◌, ap, ap₂, sym, refl, subst, inl, inr}
use Rattle.std.specs.Prelude.{ℕ, codes}
use Rattle.std.proofs.lemmas.Option.{same_Some, none-some}
use Rattle.mz_lex.specs.declared.token.TokenKind.{TokenKind}
use Rattle.mz_lex.specs.declared.token.TokenKind.TheVariants as kinds
use Rattle.mz_lex.specs.Lexemes.{Lexeme}
use Rattle.mz_spec_theory.specs.declared.kind.AssertKind.{AssertKind}
use Rattle.mz_spec_theory.specs.declared.kind.Kind.{Kind}
use Rattle.mz_spec_theory.specs.declared.kind.Kind.TheVariants.{Term, Assert, Definition, Notation}
use Rattle.mz_spec_theory.specs.declared.kind.Fixity.{Fixity}
use Rattle.mz_spec_theory.specs.Statement.{Modifiers, TypeText, Source, type_source, formula_source, Head, Level, level_max, LiteralText, name_literal, constant_literal, TailText, SpecStatement, sort_statement, term_statement, assert_statement, definition_statement, operator_statement, coercion_statement, delimiter_statement, notation_statement, closing_of, Spells, IsStatement, IsPrefix}
use Rattle.mz_spec_theory.specs.Progress.{OpenGroup, OpenNotation, Slot, group_slot, argument_slot, premise_slot, definition_slot, notation_slot, Progress, opening, sort_opened, sort_named, head_opened, headed, group_opened, group_dotted, wanted, typed, hypothesis, claimed, body_opened, defined, operator_opened, operator_named, constant_wanted, constant_read, level_wanted, level_read, coercion_opened, coercion_named, from_wanted, from_read, to_wanted, to_read, delimiter_opened, left_read, right_read, literal_wanted, literal_read, literal_opened, literal_constant, literal_colon, literal_level, tail_opened, tail_level, tail_read, whole, start, bare, without_deps, with_name, closed, open_notation, slot_of, moves, choose, next, Leads}
use Rattle.mz_spec_theory.proofs.Adding.{leads-spells}
use Rattle.mz_spec_theory.proofs.Leading.{leads-append, spells-leads, closes}

-- ---- lists

pub leads-front : (p r : Progress) (ls ms : List Lexeme) → Leads p (ls ++ ms) r → (q : Progress) × Leads p ls q × Leads q ms r
leads-front p r [] ms a = (p, refl, a)
leads-front p r (l ∷ ls) ms (s, e, rest) = let found = leads-front s r ls ms rest in (found.0, (s, e, found.1), found.2)

pub leads-one : (p q r : Progress) (ls : List Lexeme) → Leads p ls q → Leads p ls r → q ≡ r
leads-one p q r [] a b = a ∙ sym b
leads-one p q r (l ∷ ls) (s, e, a) (t, f, b) = leads-one s q r ls a (subst (λ x. Leads x ls r) (sym (same_Some s t (sym e ∙ f))) b)

-- ---- each progress can be finished

abbrev Finish : Progress → Type 0
Finish p = (rest : List Lexeme) × (s : SpecStatement) × Leads p rest (whole s)

-- some lexeme of this kind
abbrev sample : TokenKind → List ℕ → Lexeme
sample kind text = record { kind = kind; text = text; from = 0; to = 0 }

-- where one lexeme leads to what can be finished
finish-next : (p q : Progress) (l : Lexeme) → next p l ≡ Some q → Finish q → Finish p
finish-next p q l e (rest, s, leads) = (l ∷ rest, s, (q, e, leads))

by-symbol : (p q : Progress) (text : List ℕ) → choose (moves p) kinds.Symbol text (sample kinds.Symbol text) ≡ Some q → Finish q → Finish p
by-symbol p q text e more = finish-next p q (sample kinds.Symbol text) e more

by-keyword : (p q : Progress) (text : List ℕ) → choose (moves p) kinds.Name text (sample kinds.Name text) ≡ Some q → Finish q → Finish p
by-keyword p q text e more = finish-next p q (sample kinds.Name text) e more

by-name : (p q : Progress) → choose (moves p) kinds.Name (codes "x") (sample kinds.Name (codes "x")) ≡ Some q → Finish q → Finish p
by-name p q e more = finish-next p q (sample kinds.Name (codes "x")) e more

by-formula : (p q : Progress) → choose (moves p) kinds.Math (codes "$$") (sample kinds.Math (codes "$$")) ≡ Some q → Finish q → Finish p
by-formula p q e more = finish-next p q (sample kinds.Math (codes "$$")) e more

-- `;` ends it
by-end : (p : Progress) (s : SpecStatement) → choose (moves p) kinds.Symbol (codes ";") (sample kinds.Symbol (codes ";")) ≡ Some (whole s) → Finish p
by-end p s e = finish-next p (whole s) (sample kinds.Symbol (codes ";")) e ([], s, refl)

abbrev the_name : Lexeme
the_name = sample kinds.Name (codes "x")

abbrev the_formula : Lexeme
the_formula = sample kinds.Math (codes "$$")

finish-claimed : (a : AssertKind) (h : Head) (ss : List Source) (f : Lexeme) → Finish (claimed a h ss f)
finish-claimed a h ss f = by-end _ (assert_statement a h ss f) refl

finish-premise : (a : AssertKind) (h : Head) (ss : List Source) → Finish (wanted (premise_slot a h ss))
finish-premise a h ss = by-formula _ (claimed a h ss the_formula) refl (finish-claimed a h ss the_formula)

finish-literal : (n : OpenNotation) (x : LiteralText) → Finish (literal_read n x)
finish-literal n x = by-end _ (notation_statement n.head n.result n.literals x None) refl

finish-literals : (n : OpenNotation) → Finish (literal_wanted n)
finish-literals n = by-name _ (literal_read n (name_literal the_name)) refl (finish-literal n (name_literal the_name))

finish-result : (h : Head) (t : TypeText) → Finish (typed (notation_slot h) t)
finish-result h t = by-symbol _ (literal_wanted (open_notation h t)) (codes "=") refl (finish-literals (open_notation h t))

finish-slot : (kind : Kind) (h : Head) → Finish (wanted (slot_of kind h))
finish-slot Term h = by-name _ (typed (argument_slot h []) (without_deps the_name)) refl (by-end _ (term_statement h [] (without_deps the_name)) refl)
finish-slot (Assert a) h = finish-premise a h []
finish-slot Definition h = by-name _ (typed (definition_slot h) (without_deps the_name)) refl (by-end _ (definition_statement h (without_deps the_name) None) refl)
finish-slot Notation h = by-name _ (typed (notation_slot h) (without_deps the_name)) refl (finish-result h (without_deps the_name))

finish-headed : (kind : Kind) (h : Head) → Finish (headed kind h)
finish-headed kind h = by-symbol _ (wanted (slot_of kind h)) (codes ":") refl (finish-slot kind h)

finish-closed : (g : OpenGroup) (s : Source) → Finish (closed g s)
finish-closed g s = finish-headed g.kind _

finish-typed : (slot : Slot) (t : TypeText) → Finish (typed slot t)
finish-typed (group_slot g) t = by-symbol _ (closed g (type_source t)) (closing_of g.is_bound) (closes g.is_bound (λ l. closed g (type_source t)) (sample kinds.Symbol (closing_of g.is_bound))) (finish-closed g (type_source t))
finish-typed (argument_slot h ts) t = by-end _ (term_statement h ts t) refl
finish-typed (premise_slot a h ss) t = by-symbol _ (wanted (premise_slot a h (ss ++ type_source t ∷ []))) (codes ">") refl (finish-premise a h (ss ++ type_source t ∷ []))
finish-typed (definition_slot h) t = by-end _ (definition_statement h t None) refl
finish-typed (notation_slot h) t = finish-result h t

finish-wanted : (slot : Slot) → Finish (wanted slot)
finish-wanted slot = by-name _ (typed slot (without_deps the_name)) refl (finish-typed slot (without_deps the_name))

finish-group : (g : OpenGroup) → Finish (group_opened g)
finish-group g = by-symbol _ (wanted (group_slot g)) (codes ":") refl (finish-wanted (group_slot g))

finish-defined : (h : Head) (t : TypeText) (f : Lexeme) → Finish (defined h t f)
finish-defined h t f = by-end _ (definition_statement h t (Some f)) refl

finish-level : (f : Fixity) (n c : Lexeme) (level : Level) → Finish (level_read f n c level)
finish-level f n c level = by-end _ (operator_statement f n c level) refl

finish-prec : (f : Fixity) (n c : Lexeme) → Finish (level_wanted f n c)
finish-prec f n c = by-keyword _ (level_read f n c level_max) (codes "max") refl (finish-level f n c level_max)

finish-constant : (f : Fixity) (n c : Lexeme) → Finish (constant_read f n c)
finish-constant f n c = by-keyword _ (level_wanted f n c) (codes "prec") refl (finish-prec f n c)

finish-operator : (f : Fixity) (n : Lexeme) → Finish (constant_wanted f n)
finish-operator f n = by-formula _ (constant_read f n the_formula) refl (finish-constant f n the_formula)

finish-named : (f : Fixity) (n : Lexeme) → Finish (operator_named f n)
finish-named f n = by-symbol _ (constant_wanted f n) (codes ":") refl (finish-operator f n)

finish-to : (n from to : Lexeme) → Finish (to_read n from to)
finish-to n from to = by-end _ (coercion_statement n from to) refl

finish-to_wanted : (n from : Lexeme) → Finish (to_wanted n from)
finish-to_wanted n from = by-name _ (to_read n from the_name) refl (finish-to n from the_name)

finish-from : (n from : Lexeme) → Finish (from_read n from)
finish-from n from = by-symbol _ (to_wanted n from) (codes ">") refl (finish-to_wanted n from)

finish-from_wanted : (n : Lexeme) → Finish (from_wanted n)
finish-from_wanted n = by-name _ (from_read n the_name) refl (finish-from n the_name)

finish-coercion : (n : Lexeme) → Finish (coercion_named n)
finish-coercion n = by-symbol _ (from_wanted n) (codes ":") refl (finish-from_wanted n)

finish-left : (left : Lexeme) → Finish (left_read left)
finish-left left = by-end _ (delimiter_statement left None) refl

finish-literal_level : (n : OpenNotation) (c : Lexeme) (level : Level) → Finish (literal_level n c level)
finish-literal_level n c level = by-symbol _ (literal_read n (constant_literal c level)) (codes ")") refl (finish-literal n (constant_literal c level))

finish-literal_colon : (n : OpenNotation) (c : Lexeme) → Finish (literal_colon n c)
finish-literal_colon n c = by-keyword _ (literal_level n c level_max) (codes "max") refl (finish-literal_level n c level_max)

finish-literal_constant : (n : OpenNotation) (c : Lexeme) → Finish (literal_constant n c)
finish-literal_constant n c = by-symbol _ (literal_colon n c) (codes ":") refl (finish-literal_colon n c)

finish-tail : (n : OpenNotation) (x : LiteralText) (tail : TailText) → Finish (tail_read n x tail)
finish-tail n x tail = by-end _ (notation_statement n.head n.result n.literals x (Some tail)) refl

abbrev left_tail : Level → TailText
left_tail level = record { level = level; is_right = false }

finish-tail_level : (n : OpenNotation) (x : LiteralText) (level : Level) → Finish (tail_level n x level)
finish-tail_level n x level = by-keyword _ (tail_read n x (left_tail level)) (codes "lassoc") refl (finish-tail n x (left_tail level))

finish-sort : (m : Modifiers) (n : Lexeme) → Finish (sort_named m n)
finish-sort m n = by-end _ (sort_statement m n) refl

finish-sort_opened : (m : Modifiers) → Finish (sort_opened m)
finish-sort_opened m = by-name _ (sort_named m the_name) refl (finish-sort m the_name)

finish : (p : Progress) → Finish p
finish (opening m) = by-keyword _ (sort_opened m) (codes "sort") refl (finish-sort_opened m)
finish (sort_opened m) = finish-sort_opened m
finish (sort_named m n) = finish-sort m n
finish (head_opened kind) = by-name _ (headed kind (bare the_name)) refl (finish-headed kind (bare the_name))
finish (headed kind h) = finish-headed kind h
finish (group_opened g) = finish-group g
finish (group_dotted g) = by-name _ (group_opened (with_name g true the_name)) refl (finish-group (with_name g true the_name))
finish (wanted slot) = finish-wanted slot
finish (typed slot t) = finish-typed slot t
finish (hypothesis g f) =
    by-symbol _ (closed g (formula_source f)) (closing_of g.is_bound) (closes g.is_bound (λ l. closed g (formula_source f)) (sample kinds.Symbol (closing_of g.is_bound))) (finish-closed g (formula_source f))
finish (claimed a h ss f) = finish-claimed a h ss f
finish (body_opened h t) = by-formula _ (defined h t the_formula) refl (finish-defined h t the_formula)
finish (defined h t f) = finish-defined h t f
finish (operator_opened f) = by-name _ (operator_named f the_name) refl (finish-named f the_name)
finish (operator_named f n) = finish-named f n
finish (constant_wanted f n) = finish-operator f n
finish (constant_read f n c) = finish-constant f n c
finish (level_wanted f n c) = finish-prec f n c
finish (level_read f n c level) = finish-level f n c level
finish coercion_opened = by-name _ (coercion_named the_name) refl (finish-coercion the_name)
finish (coercion_named n) = finish-coercion n
finish (from_wanted n) = finish-from_wanted n
finish (from_read n from) = finish-from n from
finish (to_wanted n from) = finish-to_wanted n from
finish (to_read n from to) = finish-to n from to
finish delimiter_opened = by-formula _ (left_read the_formula) refl (finish-left the_formula)
finish (left_read left) = finish-left left
finish (right_read left right) = by-end _ (delimiter_statement left (Some right)) refl
finish (literal_wanted n) = finish-literals n
finish (literal_read n x) = finish-literal n x
finish (literal_opened n) = by-formula _ (literal_constant n the_formula) refl (finish-literal_constant n the_formula)
finish (literal_constant n c) = finish-literal_constant n c
finish (literal_colon n c) = finish-literal_colon n c
finish (literal_level n c level) = finish-literal_level n c level
finish (tail_opened n x) = by-keyword _ (tail_level n x level_max) (codes "max") refl (finish-tail_level n x level_max)
finish (tail_level n x level) = finish-tail_level n x level
finish (tail_read n x tail) = finish-tail n x tail
finish (whole s) = ([], s, refl)

-- ---- prefixes

pub leads-prefix : (ls : List Lexeme) (q : Progress) → Leads start ls q → IsPrefix ls
leads-prefix ls q leads =
    let rest = finish q in (rest.0, (rest.1, leads-spells rest.1 (ls ++ rest.0) (leads-append start q (whole rest.1) ls rest.0 leads rest.2)))

pub prefix-leads : (ls : List Lexeme) → IsPrefix ls → (q : Progress) × Leads start ls q
prefix-leads ls (rest, (s, spells)) = let found = leads-front start (whole s) ls rest (spells-leads s (ls ++ rest) spells) in (found.0, found.1)

-- a lexeme that does not fit
pub misfit-prefix : (q : Progress) (ls : List Lexeme) (l : Lexeme) → Leads start ls q → next q l ≡ None → IsPrefix (ls ++ l ∷ []) → ⊥
misfit-prefix q ls l leads no_next fits =
    let all = prefix-leads (ls ++ l ∷ []) fits in
    let parts = leads-front start all.0 ls (l ∷ []) all.1 in
    none-some parts.2.0 (sym no_next ∙ ap (λ p. next p l) (leads-one start q parts.0 ls leads parts.1) ∙ parts.2.1)

-- more lexemes are wanted
abbrev pub IsOpen : Progress → Type 0
IsOpen p = (s : SpecStatement) → p ≡ whole s → ⊥

pub whole-or-open : (p : Progress) → IsOpen p ⊎ ((s : SpecStatement) × (whole s ≡ p))
whole-or-open (opening x) = inl (λ s e. cc)
whole-or-open (sort_opened x) = inl (λ s e. cc)
whole-or-open (sort_named x y) = inl (λ s e. cc)
whole-or-open (head_opened x) = inl (λ s e. cc)
whole-or-open (headed x y) = inl (λ s e. cc)
whole-or-open (group_opened x) = inl (λ s e. cc)
whole-or-open (group_dotted x) = inl (λ s e. cc)
whole-or-open (wanted x) = inl (λ s e. cc)
whole-or-open (typed x y) = inl (λ s e. cc)
whole-or-open (hypothesis x y) = inl (λ s e. cc)
whole-or-open (claimed x y z w) = inl (λ s e. cc)
whole-or-open (body_opened x y) = inl (λ s e. cc)
whole-or-open (defined x y z) = inl (λ s e. cc)
whole-or-open (operator_opened x) = inl (λ s e. cc)
whole-or-open (operator_named x y) = inl (λ s e. cc)
whole-or-open (constant_wanted x y) = inl (λ s e. cc)
whole-or-open (constant_read x y z) = inl (λ s e. cc)
whole-or-open (level_wanted x y z) = inl (λ s e. cc)
whole-or-open (level_read x y z w) = inl (λ s e. cc)
whole-or-open coercion_opened = inl (λ s e. cc)
whole-or-open (coercion_named x) = inl (λ s e. cc)
whole-or-open (from_wanted x) = inl (λ s e. cc)
whole-or-open (from_read x y) = inl (λ s e. cc)
whole-or-open (to_wanted x y) = inl (λ s e. cc)
whole-or-open (to_read x y z) = inl (λ s e. cc)
whole-or-open delimiter_opened = inl (λ s e. cc)
whole-or-open (left_read x) = inl (λ s e. cc)
whole-or-open (right_read x y) = inl (λ s e. cc)
whole-or-open (literal_wanted x) = inl (λ s e. cc)
whole-or-open (literal_read x y) = inl (λ s e. cc)
whole-or-open (literal_opened x) = inl (λ s e. cc)
whole-or-open (literal_constant x y) = inl (λ s e. cc)
whole-or-open (literal_colon x y) = inl (λ s e. cc)
whole-or-open (literal_level x y z) = inl (λ s e. cc)
whole-or-open (tail_opened x y) = inl (λ s e. cc)
whole-or-open (tail_level x y z) = inl (λ s e. cc)
whole-or-open (tail_read x y z) = inl (λ s e. cc)
whole-or-open (whole s) = inr (s, refl)

-- lexemes that lead to no whole statement are none
pub open-statement : (q : Progress) (ls : List Lexeme) → Leads start ls q → IsOpen q → IsStatement ls → ⊥
open-statement q ls leads is_open (s, spells) = is_open s (leads-one start q (whole s) ls leads (spells-leads s ls spells))

whole-one : (s r : SpecStatement) → whole s ≡ whole r → s ≡ r
whole-one s r e = cc

head-same : (l m : Lexeme) (ls ms : List Lexeme) → l ∷ ls ≡ m ∷ ms → l ≡ m
head-same l m ls ms e = cc

tail-same : (l m : Lexeme) (ls ms : List Lexeme) → l ∷ ls ≡ m ∷ ms → ls ≡ ms
tail-same l m ls ms e = cc

whole-next : (p : Progress) (s : SpecStatement) (l : Lexeme) (q : Progress) → whole s ≡ p → next p l ≡ Some q → ⊥
whole-next p s l q is e = none-some q (ap (λ r. next r l) is ∙ e)

fronts-one : (p : Progress) (s r : SpecStatement) (xs us ys vs : List Lexeme) → Leads p xs (whole s) → Leads p ys (whole r) → xs ++ us ≡ ys ++ vs
    → (s ≡ r) × (xs ≡ ys) × (us ≡ vs)
fronts-one p s r [] us [] vs a b same = (whole-one s r (a ∙ sym b), refl, same)
fronts-one p s r [] us (y ∷ ys) vs a (q, e, b) same = absurd (whole-next p s y q a e)
fronts-one p s r (x ∷ xs) us [] vs (q, e, a) b same = absurd (whole-next p r x q b e)
fronts-one p s r (x ∷ xs) us (y ∷ ys) vs (q, e, a) (t, f, b) same =
    let x_is = head-same x y (xs ++ us) (ys ++ vs) same in
    let q_is : t ≡ q = same_Some t q (sym f ∙ ap (next p) (sym x_is) ∙ e) in
    let rest = fronts-one q s r xs us ys vs a (subst (λ u. Leads u ys (whole r)) q_is b) (tail-same x y (xs ++ us) (ys ++ vs) same) in
    (rest.0, ap₂ ◌∷◌ x_is rest.1, rest.2)

-- lexemes begin with one statement at most
pub statements-one : (s r : SpecStatement) (xs us ys vs : List Lexeme) → Spells s xs → Spells r ys → xs ++ us ≡ ys ++ vs → (s ≡ r) × (xs ≡ ys) × (us ≡ vs)
statements-one s r xs us ys vs a b same = fronts-one start s r xs us ys vs (spells-leads s xs a) (spells-leads r ys b) same

-- no statement is empty
pub no-empty : (s : SpecStatement) → Spells s [] → ⊥
no-empty s spells = start-whole s (spells-leads s [] spells)
  where
    start-whole : (s : SpecStatement) → whole s ≡ start → ⊥
    start-whole s e = cc
