-- The lexemes of a statement fit one after the other.
use Rattle.std.proofs.Common.{◌≡◌, ◌∙◌, ◌++◌, ℕ, List, [], ◌∷◌, Bool, true, false, Option, Some, None, ap, ap₂, sym, refl, subst, append_assoc, inl, inr}
use Rattle.std.specs.Prelude.{codes}
use Rattle.std.proofs.lemmas.List.{append-nil}
use Rattle.mz_lex.specs.declared.token.TokenKind.{TokenKind}
use Rattle.mz_lex.specs.declared.token.TokenKind.TheVariants as kinds
use Rattle.mz_lex.specs.Lexemes.{Lexeme}
use Rattle.mz_spec_theory.specs.declared.kind.AssertKind.{AssertKind}
use Rattle.mz_spec_theory.specs.declared.kind.AssertKind.TheVariants.{Axiom, Theorem}
use Rattle.mz_spec_theory.specs.declared.kind.Kind.{Kind}
use Rattle.mz_spec_theory.specs.declared.kind.Kind.TheVariants.{Term, Assert, Definition, Notation}
use Rattle.mz_spec_theory.specs.declared.kind.Fixity.{Fixity}
use Rattle.mz_spec_theory.specs.declared.kind.Fixity.TheVariants.{InfixLeft, InfixRight, Prefix}
use Rattle.mz_spec_theory.specs.Statement.{Modifiers, TypeText, Source, type_source, formula_source, NameText, Group, Head, Level, number_level, level_max, LiteralText, constant_literal, name_literal, TailText, SpecStatement, sort_statement, term_statement, assert_statement, definition_statement, operator_statement, coercion_statement, delimiter_statement, notation_statement, Sign, keyword, symbol, name, name_or_blank, formula, number, only_if, IsSign, AreSigns, each, optional, end_signs, modifier_signs, type_signs, takes_dummies, takes_formulas, opening_of, closing_of, dot_signs, name_signs, group_source_signs, group_signs, keyword_of, head_signs, argument_signs, premise_signs, body_signs, fixity_keyword, level_sign, literal_signs, side_of, tail_signs, second_signs, statement_signs, Spells}
use Rattle.mz_spec_theory.specs.Tests.{the_symbol, a_formula, only}
use Rattle.mz_spec_theory.specs.Progress.{OpenGroup, OpenNotation, Slot, group_slot, argument_slot, premise_slot, definition_slot, notation_slot, Progress, opening, sort_named, head_opened, headed, group_opened, group_dotted, wanted, typed, hypothesis, claimed, defined, operator_opened, operator_named, constant_read, level_read, coercion_named, from_read, to_read, left_read, right_read, literal_read, literal_opened, literal_constant, literal_level, tail_level, whole, start, bare, without_deps, open_group, with_group, closed, open_notation, with_literal, notation_of, level_rows, moves, choose, next, Leads}

-- ---- lexemes that the signs ask for lead from there to there

record Goes (p q : Progress) (xs : List Sign) : Type 0 where
  leads : (ls : List Lexeme) → AreSigns xs ls → Leads p ls q

none-goes : {p : Progress} → Goes p p []
none-goes {p} = record { leads = go }
  where
    go : (ls : List Lexeme) → AreSigns [] ls → Leads p ls p
    go [] are = refl
    go (l ∷ ls) are = absurd are

step-goes : {p q r : Progress} {xs : List Sign} (s : Sign) → ((l : Lexeme) → IsSign s l → next p l ≡ Some q) → Goes q r xs → Goes p r (s ∷ xs)
step-goes {p} {q} {r} {xs} s step rest = record { leads = go }
  where
    go : (ls : List Lexeme) → AreSigns (s ∷ xs) ls → Leads p ls r
    go [] are = absurd are
    go (l ∷ ls) (is, are) = (q, step l is, rest.leads ls are)

pub leads-append : (p q r : Progress) (ls ms : List Lexeme) → Leads p ls q → Leads q ms r → Leads p (ls ++ ms) r
leads-append p q r [] ms here there = subst (λ x. Leads x ms r) here there
leads-append p q r (l ∷ ls) ms (s, e, rest) there = (s, e, leads-append s q r ls ms rest there)

pub signs-split : (xs ys : List Sign) (ls : List Lexeme) → AreSigns (xs ++ ys) ls → (front : List Lexeme) × (back : List Lexeme) × (ls ≡ front ++ back) × AreSigns xs front × AreSigns ys back
signs-split [] ys ls are = ([], ls, refl, tt, are)
signs-split (x ∷ xs) ys [] are = absurd are
signs-split (x ∷ xs) ys (l ∷ ls) (is, are) = let (front, back, same, first, second) = signs-split xs ys ls are in (l ∷ front, back, ap (λ ms. l ∷ ms) same, (is, first), second)

goes-on : {p q r : Progress} {xs ys : List Sign} → Goes p q xs → Goes q r ys → Goes p r (xs ++ ys)
goes-on {p} {q} {r} {xs} {ys} first second = record {
  leads = λ ls are.
      let parts = signs-split xs ys ls are in
      subst (λ ms. Leads p ms r) (sym parts.2) (leads-append p q r parts.0 parts.1 (first.leads parts.0 parts.3) (second.leads parts.1 parts.4));
}

goes-each : {A : Type 0} (signs : A → List Sign) (f : List A → Progress) → ((xs : List A) (x : A) → Goes (f xs) (f (xs ++ x ∷ [])) (signs x)) → (xs ys : List A) → Goes (f xs) (f (xs ++ ys)) (each signs ys)
goes-each signs f step xs [] = subst (λ zs. Goes (f xs) (f zs) []) (sym (append-nil xs)) none-goes
goes-each signs f step xs (y ∷ ys) =
    subst (λ zs. Goes (f xs) (f zs) (signs y ++ each signs ys)) (append_assoc xs (y ∷ []) ys) (goes-on (step xs y) (goes-each signs f step (xs ++ y ∷ []) ys))

-- ---- steps by one sign

by-keyword : {p q r : Progress} {xs : List Sign} (text : List ℕ) → ((l : Lexeme) → choose (moves p) kinds.Name text l ≡ Some q) → Goes q r xs → Goes p r (keyword text ∷ xs)
by-keyword {p} text step rest = step-goes (keyword text) (λ l is. ap₂ (λ k t. choose (moves p) k t l) is.0 is.1 ∙ step l) rest

by-symbol : {p q r : Progress} {xs : List Sign} (text : List ℕ) → ((l : Lexeme) → choose (moves p) kinds.Symbol text l ≡ Some q) → Goes q r xs → Goes p r (symbol text ∷ xs)
by-symbol {p} text step rest = step-goes (symbol text) (λ l is. ap₂ (λ k t. choose (moves p) k t l) is.0 is.1 ∙ step l) rest

-- a lexeme of this kind leads to what is made of it
abbrev Makes : Progress → TokenKind → (Lexeme → Progress) → Type 0
Makes p kind make = (text : List ℕ) (l : Lexeme) → choose (moves p) kind text l ≡ Some (make l)

by-kind : (p : Progress) (kind : TokenKind) (u l : Lexeme) (make : Lexeme → Progress) → Makes p kind make → (l.kind ≡ kind) × (l ≡ u) → next p l ≡ Some (make u)
by-kind p kind u l make makes is = ap (λ k. choose (moves p) k l.text l) is.0 ∙ makes l.text l ∙ ap (λ v. Some (make v)) is.1

by-name : {p r : Progress} {xs : List Sign} (u : Lexeme) (make : Lexeme → Progress) → Makes p kinds.Name make → Goes (make u) r xs → Goes p r (name u ∷ xs)
by-name {p} u make makes rest = step-goes (name u) (λ l is. by-kind p kinds.Name u l make makes is) rest

by-formula : {p r : Progress} {xs : List Sign} (u : Lexeme) (make : Lexeme → Progress) → Makes p kinds.Math make → Goes (make u) r xs → Goes p r (formula u ∷ xs)
by-formula {p} u make makes rest = step-goes (formula u) (λ l is. by-kind p kinds.Math u l make makes is) rest

by-number : {p r : Progress} {xs : List Sign} (u : Lexeme) (make : Lexeme → Progress) → Makes p kinds.Number make → Goes (make u) r xs → Goes p r (number u ∷ xs)
by-number {p} u make makes rest = step-goes (number u) (λ l is. by-kind p kinds.Number u l make makes is) rest

-- a name or `_`
by-one : {p r : Progress} {xs : List Sign} (u : Lexeme) (make : Lexeme → Progress) → Makes p kinds.Name make → ((l : Lexeme) → choose (moves p) kinds.Symbol (codes "_") l ≡ Some (make l))
    → Goes (make u) r xs → Goes p r (name_or_blank u ∷ xs)
by-one {p} u make makes blank rest = step-goes (name_or_blank u) go rest
  where
    go : (l : Lexeme) → IsSign (name_or_blank u) l → next p l ≡ Some (make u)
    go l (inl is, same) = by-kind p kinds.Name u l make makes (is, same)
    go l (inr is, same) = ap₂ (λ k t. choose (moves p) k t l) is.0 is.1 ∙ blank l ∙ ap (λ v. Some (make v)) same

-- a sign that may stand
only-goes : {p q : Progress} (b : Bool) (s : Sign) → (b ≡ true → Goes p q (s ∷ [])) → Goes p q (only_if b s ∷ [])
only-goes {p} {q} b s goes = record { leads = go }
  where
    go : (ls : List Lexeme) → AreSigns (only_if b s ∷ []) ls → Leads p ls q
    go [] are = absurd are
    go (l ∷ ls) (is, are) = (goes is.0).leads (l ∷ ls) (is.1, are)

-- `;`
ends : {p q : Progress} → ((l : Lexeme) → choose (moves p) kinds.Symbol (codes ";") l ≡ Some q) → Goes p q end_signs
ends step = by-symbol (codes ";") step none-goes

-- ---- modifiers

mods : Bool → Bool → Bool → Bool → Progress
mods p s v f = opening (record { is_pure = p; is_strict = s; is_provable = v; is_free = f })

-- a keyword that may be left out: f says whether it was there
goes-if : (b : Bool) (text : List ℕ) (f : Bool → Progress) → ((l : Lexeme) → choose (moves (f false)) kinds.Name text l ≡ Some (f true)) → Goes (f false) (f b) (optional b text)
goes-if true text f step = by-keyword text step none-goes
goes-if false text f step = none-goes

modifiers-go : (m : Modifiers) → Goes start (opening m) (modifier_signs m)
unfolding mods
modifiers-go m =
    goes-on (goes-if m.is_pure (codes "pure") (λ b. mods b false false false) (λ l. refl))
    (goes-on (goes-if m.is_strict (codes "strict") (λ b. mods m.is_pure b false false) (λ l. refl))
    (goes-on (goes-if m.is_provable (codes "provable") (λ b. mods m.is_pure m.is_strict b false) (λ l. refl))
    (goes-if m.is_free (codes "free") (λ b. mods m.is_pure m.is_strict m.is_provable b) (λ l. refl))))

-- ---- types

abbrev type_of : Lexeme → List Lexeme → TypeText
type_of sort deps = record { sort = sort; deps = deps }

type-goes : (slot : Slot) (t : TypeText) → Goes (wanted slot) (typed slot t) (type_signs t)
type-goes slot t =
    by-name t.sort (λ l. typed slot (without_deps l)) (λ text l. refl)
    (goes-each (λ d. name d ∷ []) (λ ds. typed slot (type_of t.sort ds)) (λ ds d. by-name d (λ l. typed slot (type_of t.sort (ds ++ l ∷ []))) (λ text l. refl) none-goes) [] t.deps)

-- ---- groups

abbrev group_with : Kind → Head → Bool → List NameText → OpenGroup
group_with kind h b ns = record { kind = kind; head = h; is_bound = b; names = ns }

abbrev one_name : Bool → Lexeme → NameText
one_name is_dummy l = record { is_dummy = is_dummy; name = l }

one-goes : (kind : Kind) (h : Head) (b : Bool) (ns : List NameText) (is_dummy : Bool) (n : Lexeme)
    → Goes (group_opened (group_with kind h b ns)) (group_opened (group_with kind h b (ns ++ one_name is_dummy n ∷ []))) (dot_signs kind is_dummy ++ name_or_blank n ∷ [])
one-goes kind h b ns false n = by-one n (λ l. group_opened (group_with kind h b (ns ++ one_name false l ∷ []))) (λ text l. refl) (λ l. refl) none-goes
one-goes kind h b ns true n =
    goes-on
    (only-goes {q = group_dotted (group_with kind h b ns)} (takes_dummies kind) (symbol (codes "."))
    (λ allowed. by-symbol (codes ".") (λ l. ap (λ c. choose ((only c (the_symbol (codes ".")), λ l. group_dotted (group_with kind h b ns)) ∷ (the_symbol (codes ":"), λ l. wanted (group_slot (group_with kind h b ns))) ∷ []) kinds.Symbol (codes ".") l) allowed) none-goes))
    (by-one n (λ l. group_opened (group_with kind h b (ns ++ one_name true l ∷ []))) (λ text l. refl) (λ l. refl) none-goes)

names-go : (kind : Kind) (h : Head) (b : Bool) (ns : List NameText) → Goes (group_opened (open_group kind h b)) (group_opened (group_with kind h b ns)) (each (name_signs kind) ns)
names-go kind h b ns = goes-each (name_signs kind) (λ ms. group_opened (group_with kind h b ms)) (λ ms n. one-goes kind h b ms n.is_dummy n.name) [] ns

pub closes : (b : Bool) (make : Lexeme → Progress) (l : Lexeme) → choose ((the_symbol (closing_of b), make) ∷ []) kinds.Symbol (closing_of b) l ≡ Some (make l)
closes true make l = refl
closes false make l = refl

source-goes : (g : OpenGroup) (s : Source) → Goes (wanted (group_slot g)) (closed g s) (group_source_signs g.kind g.is_bound s ++ symbol (closing_of g.is_bound) ∷ [])
source-goes g (type_source t) = goes-on (type-goes (group_slot g) t) (by-symbol (closing_of g.is_bound) (λ l. closes g.is_bound (λ l. closed g (type_source t)) l) none-goes)
source-goes g (formula_source f) =
    goes-on
    (only-goes (takes_formulas g.kind g.is_bound) (formula f)
    (λ allowed. by-formula f (λ l. hypothesis g l) (λ text l. ap (λ c. choose ((only c a_formula, λ l. hypothesis g l) ∷ []) kinds.Math text l) allowed) none-goes))
    (by-symbol (closing_of g.is_bound) (λ l. closes g.is_bound (λ l. closed g (formula_source f)) l) none-goes)

opens : (kind : Kind) (h : Head) (b : Bool) (l : Lexeme) → choose (moves (headed kind h)) kinds.Symbol (opening_of b) l ≡ Some (group_opened (open_group kind h b))
opens kind h true l = refl
opens kind h false l = refl

group-goes : (kind : Kind) (h : Head) (g : Group) → Goes (headed kind h) (headed kind (with_group h g)) (group_signs kind g)
group-goes kind h g =
    by-symbol (opening_of g.is_bound) (opens kind h g.is_bound)
    (goes-on (names-go kind h g.is_bound g.names) (by-symbol (codes ":") (λ l. refl) (source-goes (group_with kind h g.is_bound g.names) g.source)))

-- ---- the keyword, the name and the groups

begins : (kind : Kind) (l : Lexeme) → choose (moves start) kinds.Name (keyword_of kind) l ≡ Some (head_opened kind)
begins Term l = refl
begins (Assert Axiom) l = refl
begins (Assert Theorem) l = refl
begins Definition l = refl
begins Notation l = refl

head-goes : (kind : Kind) (h : Head) → Goes start (headed kind h) (head_signs kind h)
head-goes kind h =
    by-keyword (keyword_of kind) (begins kind)
    (by-name h.name (λ l. headed kind (bare l)) (λ text l. refl)
    (goes-each (group_signs kind) (λ gs. headed kind (record { name = h.name; groups = gs })) (λ gs g. group-goes kind (record { name = h.name; groups = gs }) g) [] h.groups))

-- ---- behind the colon

argument-goes : (h : Head) (ts : List TypeText) (t : TypeText) → Goes (wanted (argument_slot h ts)) (wanted (argument_slot h (ts ++ t ∷ []))) (argument_signs t)
argument-goes h ts t = goes-on (type-goes (argument_slot h ts) t) (by-symbol (codes ">") (λ l. refl) none-goes)

premise-goes : (a : AssertKind) (h : Head) (ss : List Source) (s : Source) → Goes (wanted (premise_slot a h ss)) (wanted (premise_slot a h (ss ++ s ∷ []))) (premise_signs s)
premise-goes a h ss (type_source t) = goes-on (type-goes (premise_slot a h ss) t) (by-symbol (codes ">") (λ l. refl) none-goes)
premise-goes a h ss (formula_source f) = by-formula f (λ l. claimed a h ss l) (λ text l. refl) (by-symbol (codes ">") (λ l. refl) none-goes)

body-goes : (h : Head) (t : TypeText) (body : Option Lexeme) → Goes (typed (definition_slot h) t) (whole (definition_statement h t body)) (body_signs body ++ end_signs)
body-goes h t None = ends (λ l. refl)
body-goes h t (Some f) = by-symbol (codes "=") (λ l. refl) (by-formula f (λ l. defined h t l) (λ text l. refl) (ends (λ l. refl)))

-- ---- notations

level-goes : {p r : Progress} {xs : List Sign} (level : Level) (f : Level → Progress) → moves p ≡ level_rows f → Goes (f level) r xs → Goes p r (level_sign level ∷ xs)
level-goes {p} (number_level u) f rows rest = by-number u (λ l. f (number_level l)) (λ text l. ap (λ rs. choose rs kinds.Number text l) rows) rest
level-goes {p} level_max f rows rest = by-keyword (codes "max") (λ l. ap (λ rs. choose rs kinds.Name (codes "max") l) rows) rest

abbrev notation_with : Head → TypeText → List LiteralText → OpenNotation
notation_with h t xs = record { head = h; result = t; literals = xs }

-- behind literals: at the `=`, or behind the last of them
literal-goes : {p : Progress} (n : OpenNotation) (x : LiteralText) → Makes p kinds.Name (λ l. literal_read n (name_literal l))
    → ((l : Lexeme) → choose (moves p) kinds.Symbol (codes "(") l ≡ Some (literal_opened n)) → Goes p (literal_read n x) (literal_signs x)
literal-goes n (name_literal u) named opened = by-name u (λ l. literal_read n (name_literal l)) named none-goes
literal-goes n (constant_literal c level) named opened =
    by-symbol (codes "(") opened
    (by-formula c (λ l. literal_constant n l) (λ text l. refl) (by-symbol (codes ":") (λ l. refl) (level-goes level (literal_level n c) refl (by-symbol (codes ")") (λ l. refl) none-goes))))

-- a literal may stand there
abbrev Ready : Progress → OpenNotation → Type 0
Ready p n = Makes p kinds.Name (λ l. literal_read n (name_literal l)) × ((l : Lexeme) → choose (moves p) kinds.Symbol (codes "(") l ≡ Some (literal_opened n))

abbrev with_literals : OpenNotation → List LiteralText → OpenNotation
with_literals n xs = record { head = n.head; result = n.result; literals = n.literals ++ xs }

abbrev read_with : OpenNotation → LiteralText → List LiteralText → Progress
read_with n x xs = literal_read (record { head = n.head; result = n.result; literals = xs }) x

literals-go : {p r : Progress} {more : List Sign} (n : OpenNotation) (xs : List LiteralText) (x : LiteralText) → Ready p n → Goes (literal_read (with_literals n xs) x) r more
    → Goes p r (each literal_signs xs ++ (literal_signs x ++ more))
literals-go {p} {r} {more} n [] x (named, opened) rest = goes-on (literal-goes n x named opened) (subst (λ ys. Goes (read_with n x ys) r more) (append-nil n.literals) rest)
literals-go {p} {r} {more} n (y ∷ xs) x (named, opened) rest =
    subst (λ ys. Goes p r ys) (sym (append_assoc (literal_signs y) (each literal_signs xs) (literal_signs x ++ more)))
    (goes-on (literal-goes n y named opened)
    (literals-go (with_literal n y) xs x ((λ text l. refl), (λ l. refl)) (subst (λ ys. Goes (read_with n x ys) r more) (sym (append_assoc n.literals (y ∷ []) xs)) rest)))

side-goes : (n : OpenNotation) (x : LiteralText) (level : Level) (is_right : Bool)
    → Goes (tail_level n x level) (notation_of n x (Some (record { level = level; is_right = is_right }))) (keyword (side_of is_right) ∷ end_signs)
side-goes n x level true = by-keyword (codes "rassoc") (λ l. refl) (ends (λ l. refl))
side-goes n x level false = by-keyword (codes "lassoc") (λ l. refl) (ends (λ l. refl))

tail-goes : (n : OpenNotation) (x : LiteralText) (tail : Option TailText) → Goes (literal_read n x) (notation_of n x tail) (tail_signs tail ++ end_signs)
tail-goes n x None = ends (λ l. refl)
tail-goes n x (Some t) = by-symbol (codes ":") (λ l. refl) (level-goes t.level (tail_level n x) refl (side-goes n x t.level t.is_right))

-- ---- statements

fixity-begins : (f : Fixity) (l : Lexeme) → choose (moves start) kinds.Name (fixity_keyword f) l ≡ Some (operator_opened f)
fixity-begins InfixLeft l = refl
fixity-begins InfixRight l = refl
fixity-begins Prefix l = refl

second-goes : (left : Lexeme) (right : Option Lexeme) → Goes (left_read left) (whole (delimiter_statement left right)) (second_signs right ++ end_signs)
second-goes left None = ends (λ l. refl)
second-goes left (Some right) = by-formula right (λ l. right_read left l) (λ text l. refl) (ends (λ l. refl))

statement-goes : (s : SpecStatement) → Goes start (whole s) (statement_signs s)
statement-goes (sort_statement m n) = goes-on (modifiers-go m) (by-keyword (codes "sort") (λ l. refl) (by-name n (λ l. sort_named m l) (λ text l. refl) (ends (λ l. refl))))
statement-goes (term_statement h ts t) =
    goes-on (head-goes Term h)
    (by-symbol (codes ":") (λ l. refl)
    (goes-on (goes-each argument_signs (λ us. wanted (argument_slot h us)) (argument-goes h) [] ts) (goes-on (type-goes (argument_slot h ts) t) (ends (λ l. refl)))))
statement-goes (assert_statement a h ss f) =
    goes-on (head-goes (Assert a) h)
    (by-symbol (codes ":") (λ l. refl)
    (goes-on (goes-each premise_signs (λ us. wanted (premise_slot a h us)) (premise-goes a h) [] ss) (by-formula f (λ l. claimed a h ss l) (λ text l. refl) (ends (λ l. refl)))))
statement-goes (definition_statement h t body) =
    goes-on (head-goes Definition h) (by-symbol (codes ":") (λ l. refl) (goes-on (type-goes (definition_slot h) t) (body-goes h t body)))
statement-goes (operator_statement f n c level) =
    by-keyword (fixity_keyword f) (fixity-begins f)
    (by-name n (λ l. operator_named f l) (λ text l. refl)
    (by-symbol (codes ":") (λ l. refl)
    (by-formula c (λ l. constant_read f n l) (λ text l. refl) (by-keyword (codes "prec") (λ l. refl) (level-goes level (level_read f n c) refl (ends (λ l. refl)))))))
statement-goes (coercion_statement n from to) =
    by-keyword (codes "coercion") (λ l. refl)
    (by-name n (λ l. coercion_named l) (λ text l. refl)
    (by-symbol (codes ":") (λ l. refl)
    (by-name from (λ l. from_read n l) (λ text l. refl) (by-symbol (codes ">") (λ l. refl) (by-name to (λ l. to_read n from l) (λ text l. refl) (ends (λ l. refl)))))))
statement-goes (delimiter_statement left right) = by-keyword (codes "delimiter") (λ l. refl) (by-formula left (λ l. left_read l) (λ text l. refl) (second-goes left right))
statement-goes (notation_statement h t xs x tail) =
    goes-on (head-goes Notation h)
    (by-symbol (codes ":") (λ l. refl)
    (goes-on (type-goes (notation_slot h) t)
    (by-symbol (codes "=") (λ l. refl) (literals-go (open_notation h t) xs x ((λ text l. refl), (λ l. refl)) (tail-goes (notation_with h t xs) x tail)))))

-- lexemes that spell a statement lead to it
pub spells-leads : (s : SpecStatement) (ls : List Lexeme) → Spells s ls → Leads start ls (whole s)
spells-leads s ls are = (statement-goes s).leads ls are
