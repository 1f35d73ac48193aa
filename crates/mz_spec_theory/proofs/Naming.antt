-- The names of a statement that lexemes of a text spell are identifiers, and there are few of them.
use Rattle.std.proofs.Common.{◌≡◌, ◌∙◌, ◌++◌, ◌<◌, ◌≤◌, ◌+◌, ◌⊎◌, ◌^◌, ℕ, suc, List, [], ◌∷◌, length, map, Bool, true, false, Some, None, ap, refl, subst, inl, inr, arith, length-append}
use Rattle.std.proofs.lemmas.List.{length-map}
use Rattle.std.proofs.lemmas.Slice.Eq.{bytes_eq-Decides}
use Rattle.std.specs.Bool.{Decides}
use Rattle.std.specs.Prelude.{⊤, IsTrue, codes, if◌then◌else◌, bytes_eq}
use Rattle.mz_base.specs.Identifiers.{is_name}
use Rattle.mz_lex.specs.Kinds.{is_of_kind}
use Rattle.mz_lex.specs.Lexemes.{Lexeme}
use Rattle.mz_lex.specs.declared.token.TokenKind.TheVariants as kinds
use Rattle.mz_spec_theory.specs.declared.kind.Kind.{Kind}
use Rattle.mz_spec_theory.specs.declared.kind.Kind.TheVariants.{Term, Assert, Definition, Notation}
use Rattle.mz_spec_theory.specs.declared.kind.AssertKind.{AssertKind}
use Rattle.mz_spec_theory.specs.Statement.{TypeText, Source, type_source, formula_source, NameText, Group, Head, SpecStatement, sort_statement, term_statement, assert_statement, definition_statement, operator_statement, coercion_statement, delimiter_statement, notation_statement, Spells, Sign, keyword, symbol, name, name_or_blank, formula, number, only_if, IsSign, AreSigns, each, end_signs, modifier_signs, type_signs, takes_dummies, closing_of, dot_signs, name_signs, group_source_signs, group_signs, argument_signs, premise_signs, body_signs, literal_signs, tail_signs, statement_signs}
use Rattle.mz_spec_theory.proofs.OneAnswer.{signs-long}
use Rattle.mz_spec_theory.specs.SpecCode.{EndsSmall}
use Rattle.mz_spec_theory.specs.Kept.{AreOfText, IsSpelled, bytes_of}
pub use Rattle.mz_spec_theory.proofs.VariablePlaces.{every-join}
use Rattle.mz_spec_theory.specs.Dependencies.{Every}
use Rattle.mz_spec_theory.specs.View.{Variable, view, name_of, variable_of, source_variables, group_variables, variables_of, unnamed, types_of, group_stated, premise_stated, stated_of, source_stated, params_of, dummies_of}

-- ---- lists of facts

pub every-front : {A : Type 0} → (P : A → Type 0) (xs ys : List A) → Every P (xs ++ ys) → Every P xs × Every P ys
every-front P [] ys all = (tt, all)
every-front P (x ∷ xs) ys (p, all) = let rest = every-front P xs ys all in ((p, rest.0), rest.1)

-- ---- signs

-- what a sign says of its lexeme
abbrev SignHolds : Sign → Type 0
SignHolds (keyword t) = ⊤
SignHolds (symbol t) = ⊤
SignHolds (name u) = IsTrue (is_name u.text)
SignHolds (name_or_blank u) = IsTrue (is_name u.text) ⊎ (u.text ≡ codes "_")
SignHolds (formula u) = ⊤
SignHolds (number u) = ⊤
SignHolds (only_if b s) = (b ≡ true) × SignHolds s

name-holds : (u l : Lexeme) → l.kind ≡ kinds.Name → l ≡ u → IsTrue (is_of_kind l.kind l.text) → IsTrue (is_name u.text)
name-holds u l kind same is = subst (λ x. IsTrue (is_name x.text)) same (subst (λ k. IsTrue (is_of_kind k l.text)) kind is)

-- the lexeme is of its kind
abbrev pub IsOfKind : Lexeme → Type 0
IsOfKind l = IsTrue (is_of_kind l.kind l.text)

-- lexemes of their kinds spell the statement
abbrev pub IsWritten : SpecStatement → Type 0
IsWritten s = (ls : List Lexeme) × Spells s ls × Every IsOfKind ls

sign-holds : (s : Sign) (l : Lexeme) → IsSign s l → IsOfKind l → SignHolds s
sign-holds (keyword t) l is kind = tt
sign-holds (symbol t) l is kind = tt
sign-holds (name u) l (k, same) kind = name-holds u l k same kind
sign-holds (name_or_blank u) l (inl k, same) kind = inl (name-holds u l k same kind)
sign-holds (name_or_blank u) l (inr (k, text), same) kind = inr (subst (λ x. x.text ≡ codes "_") same text)
sign-holds (formula u) l is kind = tt
sign-holds (number u) l is kind = tt
sign-holds (only_if b s) l (allowed, is) kind = (allowed, sign-holds s l is kind)

signs-hold : (ss : List Sign) (ls : List Lexeme) → AreSigns ss ls → Every IsOfKind ls → Every SignHolds ss
signs-hold [] [] are of = tt
signs-hold [] (l ∷ ls) are of = absurd are
signs-hold (s ∷ ss) [] are of = absurd are
signs-hold (s ∷ ss) (l ∷ ls) (is, are) (kind, of) = (sign-holds s l is kind, signs-hold ss ls are of)

written-holds : (s : SpecStatement) → IsWritten s → Every SignHolds (statement_signs s)
written-holds s (ls, spells, of) = signs-hold (statement_signs s) ls spells of

of_text-kinds : (ls : List Lexeme) → AreOfText ls → Every IsOfKind ls
of_text-kinds [] of = tt
of_text-kinds (l ∷ ls) (kind, small, of) = (kind, of_text-kinds ls of)

pub spelled-written : (s : SpecStatement) → IsSpelled s → IsWritten s
spelled-written s (ls, spells, of, few) = (ls, spells, of_text-kinds ls of)

-- what a sign says of where its lexeme ends
abbrev SmallHolds : Sign → Type 0
SmallHolds (keyword t) = ⊤
SmallHolds (symbol t) = ⊤
SmallHolds (name u) = ⊤
SmallHolds (name_or_blank u) = ⊤
SmallHolds (formula u) = EndsSmall u
SmallHolds (number u) = ⊤
SmallHolds (only_if b s) = SmallHolds s

small-holds : (s : Sign) (l : Lexeme) → IsSign s l → EndsSmall l → SmallHolds s
small-holds (keyword t) l is small = tt
small-holds (symbol t) l is small = tt
small-holds (name u) l is small = tt
small-holds (name_or_blank u) l is small = tt
small-holds (formula u) l (k, same) small = subst EndsSmall same small
small-holds (number u) l is small = tt
small-holds (only_if b s) l (allowed, is) small = small-holds s l is small

signs-small : (ss : List Sign) (ls : List Lexeme) → AreSigns ss ls → AreOfText ls → Every SmallHolds ss
signs-small [] [] are of = tt
signs-small [] (l ∷ ls) are of = absurd are
signs-small (s ∷ ss) [] are of = absurd are
signs-small (s ∷ ss) (l ∷ ls) (is, are) (kind, small, of) = (small-holds s l is small, signs-small ss ls are of)

spelled-small : (s : SpecStatement) → IsSpelled s → Every SmallHolds (statement_signs s)
spelled-small s (ls, spells, of, few) = signs-small (statement_signs s) ls spells of

-- ---- names of groups

-- a name is an identifier
abbrev pub IsNamed : Variable → Type 0
IsNamed v = (l : Lexeme) → v.name ≡ Some l → IsTrue (is_name l.text)

name-named : (l u : Lexeme) → IsTrue (is_name u.text) ⊎ (u.text ≡ codes "_") → name_of u ≡ Some l → IsTrue (is_name l.text)
name-named l u holds is = go (bytes_eq u.text (codes "_")) (bytes_eq-Decides u.text (codes "_")) holds is
  where
    go : (b : Bool) → Decides b (u.text ≡ codes "_") → IsTrue (is_name u.text) ⊎ (u.text ≡ codes "_") → (if b then None else Some u) ≡ Some l → IsTrue (is_name l.text)
    go true by holds is = absurd cc
    go false by (inl named) is = let same : u ≡ l = cc in subst (λ x. IsTrue (is_name x.text)) same named
    go false by (inr blank) is = absurd (let e : false ≡ true = by.1 blank in cc)

module _ (kind : Kind) where
  names-named : (b : Bool) (t : TypeText) (ns : List NameText) → Every SignHolds (each (name_signs kind) ns) → Every IsNamed (map (variable_of b t) ns)
  names-named b t [] all = tt
  names-named b t (n ∷ ns) all =
      let here = every-front SignHolds (name_signs kind n) (each (name_signs kind) ns) all in
      let last = every-front SignHolds (dot_signs kind n.is_dummy) (name_or_blank n.name ∷ []) here.0 in
      ((λ l is. name-named l n.name last.1.0 is), names-named b t ns here.1)

  source-named : (b : Bool) (ns : List NameText) (s : Source) → Every SignHolds (each (name_signs kind) ns) → Every IsNamed (source_variables b ns s)
  source-named b ns (type_source t) all = names-named b t ns all
  source-named b ns (formula_source f) all = tt

  group-names : (g : Group) → Every SignHolds (group_signs kind g) → Every SignHolds (each (name_signs kind) g.names)
  group-names g all = (every-front SignHolds (each (name_signs kind) g.names) _ all.1).0

  groups-named : (gs : List Group) → Every SignHolds (each (group_signs kind) gs) → Every IsNamed (variables_of gs)
  groups-named [] all = tt
  groups-named (g ∷ gs) all =
      let parts = every-front SignHolds (group_signs kind g) (each (group_signs kind) gs) all in
      every-join IsNamed (group_variables g) (variables_of gs) (source-named g.is_bound g.names g.source (group-names g parts.0)) (groups-named gs parts.1)

  -- ---- dummies

  no-dot : takes_dummies kind ≡ false → (b : Bool) → Every SignHolds (dot_signs kind b) → b ≡ false
  no-dot none true all = absurd (let e : takes_dummies kind ≡ true = all.0.0 in cc)
  no-dot none false all = refl

  dummies-append : (vs ws : List Variable) → dummies_of vs ≡ [] → dummies_of ws ≡ [] → dummies_of (vs ++ ws) ≡ []
  dummies-append [] ws a b = b
  dummies-append (v ∷ vs) ws a b = go v.is_dummy a (λ e. dummies-append vs ws e b)
    where
      go : (c : Bool) → (if c then v ∷ dummies_of vs else dummies_of vs) ≡ [] → (dummies_of vs ≡ [] → dummies_of (vs ++ ws) ≡ []) → (if c then v ∷ dummies_of (vs ++ ws) else dummies_of (vs ++ ws)) ≡ []
      go true a more = absurd cc
      go false a more = more a

  names-plain : takes_dummies kind ≡ false → (b : Bool) (t : TypeText) (ns : List NameText) → Every SignHolds (each (name_signs kind) ns) → dummies_of (map (variable_of b t) ns) ≡ []
  names-plain none b t [] all = refl
  names-plain none b t (n ∷ ns) all =
      let here = every-front SignHolds (name_signs kind n) (each (name_signs kind) ns) all in
      let first = every-front SignHolds (dot_signs kind n.is_dummy) (name_or_blank n.name ∷ []) here.0 in
      let plain = no-dot none n.is_dummy first.0 in
      ap (λ c. if c then variable_of b t n ∷ dummies_of (map (variable_of b t) ns) else dummies_of (map (variable_of b t) ns)) plain ∙ names-plain none b t ns here.1

  source-plain : takes_dummies kind ≡ false → (b : Bool) (ns : List NameText) (s : Source) → Every SignHolds (each (name_signs kind) ns) → dummies_of (source_variables b ns s) ≡ []
  source-plain none b ns (type_source t) all = names-plain none b t ns all
  source-plain none b ns (formula_source f) all = refl

  groups-plain : takes_dummies kind ≡ false → (gs : List Group) → Every SignHolds (each (group_signs kind) gs) → dummies_of (variables_of gs) ≡ []
  groups-plain none [] all = refl
  groups-plain none (g ∷ gs) all =
      let parts = every-front SignHolds (group_signs kind g) (each (group_signs kind) gs) all in
      dummies-append (group_variables g) (variables_of gs) (source-plain none g.is_bound g.names g.source (group-names g parts.0)) (groups-plain none gs parts.1)

  -- ---- formulas of groups

  source-small : (b : Bool) (times : ℕ) (s : Source) → Every SmallHolds (group_source_signs kind b s) → Every (λ h. EndsSmall h.math) (source_stated times s)
  source-small b times (type_source t) all = tt
  source-small b times (formula_source f) all = (all.0, tt)

  groups-small : (gs : List Group) → Every SmallHolds (each (group_signs kind) gs) → Every (λ h. EndsSmall h.math) (group_stated gs)
  groups-small [] all = tt
  groups-small (g ∷ gs) all =
      let parts = every-front SmallHolds (group_signs kind g) (each (group_signs kind) gs) all in
      let behind = every-front SmallHolds (each (name_signs kind) g.names) _ parts.0.1 in
      let source = every-front SmallHolds (group_source_signs kind g.is_bound g.source) _ behind.1.1 in
      every-join (λ h. EndsSmall h.math) (source_stated (length g.names) g.source) (group_stated gs) (source-small g.is_bound (length g.names) g.source source.0) (groups-small gs parts.1)

  -- ---- how many variables there are

  names-few : (ns : List NameText) → length ns ≤ length (each (name_signs kind) ns)
  names-few [] = omega arith
  names-few (n ∷ ns) =
      let both = length-append (name_signs kind n) (each (name_signs kind) ns) in
      let one = length-append (dot_signs kind n.is_dummy) (name_or_blank n.name ∷ []) in
      omega (arith, both, one, names-few ns)

  source-few : (b : Bool) (ns : List NameText) (s : Source) → length (source_variables b ns s) ≤ length ns
  source-few b ns (type_source t) = omega (arith, length-map ns (variable_of b t))
  source-few b ns (formula_source f) = omega arith

  group-few : (g : Group) → length (group_variables g) ≤ length (group_signs kind g)
  group-few g =
      let long = length-append (each (name_signs kind) g.names) (symbol (codes ":") ∷ (group_source_signs kind g.is_bound g.source ++ symbol (closing_of g.is_bound) ∷ [])) in
      omega (arith, long, names-few g.names, source-few g.is_bound g.names g.source)

  groups-few : (gs : List Group) → length (variables_of gs) ≤ length (each (group_signs kind) gs)
  groups-few [] = omega arith
  groups-few (g ∷ gs) =
      omega (arith, length-append (group_variables g) (variables_of gs), length-append (group_signs kind g) (each (group_signs kind) gs), group-few g, groups-few gs)

-- ---- what stands before a `>`

unnamed-named : (ts : List TypeText) → Every IsNamed (map unnamed ts)
unnamed-named [] = tt
unnamed-named (t ∷ ts) = ((λ l is. absurd cc), unnamed-named ts)

unnamed-plain : (ts : List TypeText) → dummies_of (map unnamed ts) ≡ []
unnamed-plain [] = refl
unnamed-plain (t ∷ ts) = unnamed-plain ts

premises-small : (ss : List Source) → Every SmallHolds (each premise_signs ss) → Every (λ h. EndsSmall h.math) (premise_stated ss)
premises-small [] all = tt
premises-small (type_source t ∷ ss) all = premises-small ss (every-front SmallHolds (premise_signs (type_source t)) (each premise_signs ss) all).1
premises-small (formula_source f ∷ ss) all =
    let parts = every-front SmallHolds (premise_signs (formula_source f)) (each premise_signs ss) all in
    (parts.0.0, premises-small ss parts.1)

arguments-few : (ts : List TypeText) → length (map unnamed ts) ≤ length (each argument_signs ts)
arguments-few [] = omega arith
arguments-few (t ∷ ts) = omega (arith, length-append (argument_signs t) (each argument_signs ts), arguments-few ts)

premises-few : (ss : List Source) → length (map unnamed (types_of ss)) ≤ length (each premise_signs ss)
premises-few [] = omega arith
premises-few (type_source t ∷ ss) = omega (arith, length-append (premise_signs (type_source t)) (each premise_signs ss), premises-few ss)
premises-few (formula_source f ∷ ss) = omega (arith, length-append (premise_signs (formula_source f)) (each premise_signs ss), premises-few ss)

-- ---- statements

pub variables-written : (s : SpecStatement) → IsWritten s → Every IsNamed (view s).variables
variables-written (sort_statement m n) is = tt
variables-written (term_statement h ts t) is =
    let all = written-holds (term_statement h ts t) is in
    every-join IsNamed (variables_of h.groups) (map unnamed ts) (groups-named Term h.groups (every-front SignHolds (each (group_signs Term) h.groups) _ all.1.1).0) (unnamed-named ts)
variables-written (assert_statement k h ps c) is =
    let all = written-holds (assert_statement k h ps c) is in
    every-join IsNamed (variables_of h.groups) (map unnamed (types_of ps)) (groups-named (Assert k) h.groups (every-front SignHolds (each (group_signs (Assert k)) h.groups) _ all.1.1).0) (unnamed-named (types_of ps))
variables-written (definition_statement h t b) is =
    let all = written-holds (definition_statement h t b) is in
    groups-named Definition h.groups (every-front SignHolds (each (group_signs Definition) h.groups) _ all.1.1).0
variables-written (operator_statement f n c l) is = tt
variables-written (coercion_statement n from to) is = tt
variables-written (delimiter_statement left right) is = tt
variables-written (notation_statement h t ls l tail) is =
    let all = written-holds (notation_statement h t ls l tail) is in
    groups-named Notation h.groups (every-front SignHolds (each (group_signs Notation) h.groups) _ all.1.1).0

-- axioms and theorems have no dummies
pub plain-written : (k : AssertKind) (h : Head) (ps : List Source) (c : Lexeme) → IsWritten (assert_statement k h ps c) → dummies_of (view (assert_statement k h ps c)).variables ≡ []
plain-written k h ps c is =
    let all = written-holds (assert_statement k h ps c) is in
    dummies-append (Assert k) (variables_of h.groups) (map unnamed (types_of ps)) (groups-plain (Assert k) refl h.groups (every-front SignHolds (each (group_signs (Assert k)) h.groups) _ all.1.1).0)
    (unnamed-plain (types_of ps))

sort-named : (m : List Sign) (n : Lexeme) → Every SignHolds (m ++ keyword (codes "sort") ∷ name n ∷ end_signs) → IsTrue (is_name n.text)
sort-named m n all = (every-front SignHolds m _ all).1.1.0

pub declared-written : (s : SpecStatement) → IsWritten s → Every (λ d. IsTrue (is_name d.name.text)) (view s).declares
declared-written (sort_statement m n) is = (sort-named (modifier_signs m) n (written-holds (sort_statement m n) is), tt)
declared-written (term_statement h ts t) is = let all = written-holds (term_statement h ts t) is in (all.1.0, tt)
declared-written (assert_statement k h ps c) is = let all = written-holds (assert_statement k h ps c) is in (all.1.0, tt)
declared-written (definition_statement h t b) is = let all = written-holds (definition_statement h t b) is in (all.1.0, tt)
declared-written (operator_statement f n c l) is = tt
declared-written (coercion_statement n from to) is = tt
declared-written (delimiter_statement left right) is = tt
declared-written (notation_statement h t ls l tail) is = tt

-- the same of lexemes of a text
pub variables-named : (s : SpecStatement) → IsSpelled s → Every IsNamed (view s).variables
variables-named s is = variables-written s (spelled-written s is)

pub assertion-plain : (k : AssertKind) (h : Head) (ps : List Source) (c : Lexeme) → IsSpelled (assert_statement k h ps c) → dummies_of (view (assert_statement k h ps c)).variables ≡ []
assertion-plain k h ps c is = plain-written k h ps c (spelled-written (assert_statement k h ps c) is)

pub declared-named : (s : SpecStatement) → IsSpelled s → Every (λ d. IsTrue (is_name d.name.text)) (view s).declares
declared-named s is = declared-written s (spelled-written s is)

-- the formulas before a conclusion, and the conclusion, end before 2 ^ 32
pub stated-small : (k : AssertKind) (h : Head) (ps : List Source) (c : Lexeme) → IsSpelled (assert_statement k h ps c) → Every (λ x. EndsSmall x.math) (stated_of h.groups ps) × EndsSmall c
stated-small k h ps c is =
    let all = spelled-small (assert_statement k h ps c) is in
    let groups = every-front SmallHolds (each (group_signs (Assert k)) h.groups) (symbol (codes ":") ∷ (each premise_signs ps ++ (formula c ∷ end_signs))) all.1.1 in
    let premises = every-front SmallHolds (each premise_signs ps) (formula c ∷ end_signs) groups.1.1 in
    (every-join (λ x. EndsSmall x.math) (group_stated h.groups) (premise_stated ps) (groups-small (Assert k) h.groups groups.0) (premises-small ps premises.0), premises.1.0)

pub body-small : (h : Head) (t : TypeText) (c : Lexeme) → IsSpelled (definition_statement h t (Some c)) → EndsSmall c
body-small h t c is =
    let all = spelled-small (definition_statement h t (Some c)) is in
    let groups = every-front SmallHolds (each (group_signs Definition) h.groups) (symbol (codes ":") ∷ (type_signs t ++ (body_signs (Some c) ++ end_signs))) all.1.1 in
    (every-front SmallHolds (type_signs t) (body_signs (Some c) ++ end_signs) groups.1.1).1.1.0

variables-few : (s : SpecStatement) → length (view s).variables ≤ length (statement_signs s)
variables-few (sort_statement m n) = omega arith
variables-few (term_statement h ts t) =
    let first = length-append (each (group_signs Term) h.groups) (symbol (codes ":") ∷ (each argument_signs ts ++ (type_signs t ++ end_signs))) in
    let second = length-append (each argument_signs ts) (type_signs t ++ end_signs) in
    omega (arith, length-append (variables_of h.groups) (map unnamed ts), groups-few Term h.groups, arguments-few ts, first, second)
variables-few (assert_statement k h ps c) =
    let first = length-append (each (group_signs (Assert k)) h.groups) (symbol (codes ":") ∷ (each premise_signs ps ++ (formula c ∷ end_signs))) in
    let second = length-append (each premise_signs ps) (formula c ∷ end_signs) in
    omega (arith, length-append (variables_of h.groups) (map unnamed (types_of ps)), groups-few (Assert k) h.groups, premises-few ps, first, second)
variables-few (definition_statement h t b) =
    let first = length-append (each (group_signs Definition) h.groups) (symbol (codes ":") ∷ (type_signs t ++ (body_signs b ++ end_signs))) in
    omega (arith, groups-few Definition h.groups, first)
variables-few (operator_statement f n c l) = omega arith
variables-few (coercion_statement n from to) = omega arith
variables-few (delimiter_statement left right) = omega arith
variables-few (notation_statement h t ls l tail) =
    let first = length-append (each (group_signs Notation) h.groups) (symbol (codes ":") ∷ (type_signs t ++ (symbol (codes "=") ∷ (each literal_signs ls ++ (literal_signs l ++ (tail_signs tail ++ end_signs)))))) in
    omega (arith, groups-few Notation h.groups, first)

-- each lexeme has a byte
lexemes-few : (ls : List Lexeme) → AreOfText ls → length ls ≤ bytes_of ls
lexemes-few [] of = omega arith
lexemes-few (l ∷ ls) (kind, small, of) = let e = lexemes-few ls of in let some = small.0 in omega (arith, e, some)

pub spelled-few : (s : SpecStatement) → IsSpelled s → length (view s).variables < 2 ^ 32
spelled-few s (ls, spells, of, few) = let long = signs-long (statement_signs s) ls spells in let many = lexemes-few ls of in omega (arith, variables-few s, long, many, few)

split-few : (vs : List Variable) → length (params_of vs) + length (dummies_of vs) ≡ length vs
split-few [] = refl
split-few (v ∷ vs) = go v.is_dummy (split-few vs)
  where
    go : (c : Bool) → length (params_of vs) + length (dummies_of vs) ≡ length vs → length (if c then params_of vs else v ∷ params_of vs) + length (if c then v ∷ dummies_of vs else dummies_of vs) ≡ suc (length vs)
    go true e = omega (arith, e)
    go false e = omega (arith, e)

-- parameters and dummies together are fewer than 2 ^ 32
pub parts-few : (s : SpecStatement) → IsSpelled s → length (params_of (view s).variables) + length (dummies_of (view s).variables) < 2 ^ 32
parts-few s is = omega (arith, split-few (view s).variables, spelled-few s is)
