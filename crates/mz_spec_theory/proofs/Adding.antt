-- Each lexeme that fits adds its sign, so lexemes that lead to a statement spell it.
use Rattle.std.proofs.Common.{◌≡◌, ◌∙◌, ◌++◌, List, [], ◌∷◌, Bool, true, false, Some, None, ap, sym, refl, subst, append_assoc}
use Rattle.std.specs.Prelude.{◌||◌, ⊤, not, codes, if◌then◌else◌}
use Rattle.std.proofs.lemmas.Bool.{true≢false}
use Rattle.std.proofs.lemmas.List.{append-nil}
use Rattle.std.proofs.lemmas.Option.{same_Some, none-some}
use Rattle.mz_lex.specs.Lexemes.{Lexeme}
use Rattle.mz_spec_theory.specs.declared.kind.Kind.{Kind}
use Rattle.mz_spec_theory.specs.declared.kind.Kind.TheVariants.{Term, Assert, Definition, Notation}
use Rattle.mz_spec_theory.specs.Statement.{Modifiers, Head, TypeText, Source, type_source, formula_source, LiteralText, Level, number_level, level_max, SpecStatement, Sign, keyword, symbol, name, name_or_blank, formula, number, only_if, IsSign, AreSigns, each, modifier_signs, type_signs, takes_dummies, takes_formulas, opening_of, closing_of, name_signs, group_source_signs, group_signs, keyword_of, head_signs, argument_signs, premise_signs, fixity_keyword, level_sign, literal_signs, tail_signs, statement_signs, Spells}
use Rattle.mz_spec_theory.specs.Tests.{the_symbol, fits}
use Rattle.mz_spec_theory.specs.Progress.{OpenGroup, OpenNotation, Slot, group_slot, argument_slot, premise_slot, definition_slot, notation_slot, Progress, opening, sort_opened, sort_named, head_opened, headed, group_opened, group_dotted, wanted, typed, hypothesis, claimed, body_opened, defined, operator_opened, operator_named, constant_wanted, constant_read, level_wanted, level_read, coercion_opened, coercion_named, from_wanted, from_read, to_wanted, to_read, delimiter_opened, left_read, right_read, literal_wanted, literal_read, literal_opened, literal_constant, literal_colon, literal_level, tail_opened, tail_level, tail_read, whole, start, Row, is_bare, beginnings, slot_of, formula_rows, type_rows, level_rows, literal_rows, with_dep, with_name, group_of, closed, with_literal, notation_of, moves, choose, next, Leads}
use Rattle.mz_spec_theory.proofs.Fitting.{IsFit, fits-is}

-- ---- lists

pub are_signs-append : (xs ys : List Sign) (ls ms : List Lexeme) → AreSigns xs ls → AreSigns ys ms → AreSigns (xs ++ ys) (ls ++ ms)
are_signs-append [] ys [] ms a b = b
are_signs-append [] ys (l ∷ ls) ms a b = absurd a
are_signs-append (x ∷ xs) ys [] ms a b = absurd a
are_signs-append (x ∷ xs) ys (l ∷ ls) ms (is, a) b = (is, are_signs-append xs ys ls ms a b)

-- the last of them adds its signs
each-last : {A : Type 0} → (f : A → List Sign) (xs : List A) (x : A) → each f (xs ++ x ∷ []) ≡ each f xs ++ f x
each-last f [] x = append-nil (f x)
each-last f (y ∷ xs) x = ap (λ zs. f y ++ zs) (each-last f xs x) ∙ sym (append_assoc (f y) (each f xs) (f x))

-- ---- the signs of what has been read

abbrev in_group : OpenGroup → List Sign
in_group g = head_signs g.kind g.head ++ symbol (opening_of g.is_bound) ∷ each (name_signs g.kind) g.names

abbrev pub slot_signs : Slot → List Sign
slot_signs (group_slot g) = in_group g ++ symbol (codes ":") ∷ []
slot_signs (argument_slot h ts) = head_signs Term h ++ symbol (codes ":") ∷ each argument_signs ts
slot_signs (premise_slot a h ss) = head_signs (Assert a) h ++ symbol (codes ":") ∷ each premise_signs ss
slot_signs (definition_slot h) = head_signs Definition h ++ symbol (codes ":") ∷ []
slot_signs (notation_slot h) = head_signs Notation h ++ symbol (codes ":") ∷ []

abbrev in_notation : OpenNotation → List Sign
in_notation n = head_signs Notation n.head ++ (symbol (codes ":") ∷ (type_signs n.result ++ symbol (codes "=") ∷ each literal_signs n.literals))

abbrev in_definition : Head → TypeText → List Sign
in_definition h t = head_signs Definition h ++ (symbol (codes ":") ∷ (type_signs t ++ symbol (codes "=") ∷ []))

abbrev pub signs_of : Progress → List Sign
signs_of (opening m) = modifier_signs m
signs_of (sort_opened m) = modifier_signs m ++ keyword (codes "sort") ∷ []
signs_of (sort_named m n) = modifier_signs m ++ keyword (codes "sort") ∷ name n ∷ []
signs_of (head_opened kind) = keyword (keyword_of kind) ∷ []
signs_of (headed kind h) = head_signs kind h
signs_of (group_opened g) = in_group g
signs_of (group_dotted g) = in_group g ++ only_if (takes_dummies g.kind) (symbol (codes ".")) ∷ []
signs_of (wanted slot) = slot_signs slot
signs_of (typed slot t) = slot_signs slot ++ type_signs t
signs_of (hypothesis g f) = in_group g ++ symbol (codes ":") ∷ only_if (takes_formulas g.kind g.is_bound) (formula f) ∷ []
signs_of (claimed a h ss f) = slot_signs (premise_slot a h ss) ++ formula f ∷ []
signs_of (body_opened h t) = in_definition h t
signs_of (defined h t f) = in_definition h t ++ formula f ∷ []
signs_of (operator_opened f) = keyword (fixity_keyword f) ∷ []
signs_of (operator_named f n) = keyword (fixity_keyword f) ∷ name n ∷ []
signs_of (constant_wanted f n) = keyword (fixity_keyword f) ∷ name n ∷ symbol (codes ":") ∷ []
signs_of (constant_read f n c) = keyword (fixity_keyword f) ∷ name n ∷ symbol (codes ":") ∷ formula c ∷ []
signs_of (level_wanted f n c) = keyword (fixity_keyword f) ∷ name n ∷ symbol (codes ":") ∷ formula c ∷ keyword (codes "prec") ∷ []
signs_of (level_read f n c level) = keyword (fixity_keyword f) ∷ name n ∷ symbol (codes ":") ∷ formula c ∷ keyword (codes "prec") ∷ level_sign level ∷ []
signs_of coercion_opened = keyword (codes "coercion") ∷ []
signs_of (coercion_named n) = keyword (codes "coercion") ∷ name n ∷ []
signs_of (from_wanted n) = keyword (codes "coercion") ∷ name n ∷ symbol (codes ":") ∷ []
signs_of (from_read n from) = keyword (codes "coercion") ∷ name n ∷ symbol (codes ":") ∷ name from ∷ []
signs_of (to_wanted n from) = keyword (codes "coercion") ∷ name n ∷ symbol (codes ":") ∷ name from ∷ symbol (codes ">") ∷ []
signs_of (to_read n from to) = keyword (codes "coercion") ∷ name n ∷ symbol (codes ":") ∷ name from ∷ symbol (codes ">") ∷ name to ∷ []
signs_of delimiter_opened = keyword (codes "delimiter") ∷ []
signs_of (left_read left) = keyword (codes "delimiter") ∷ formula left ∷ []
signs_of (right_read left right) = keyword (codes "delimiter") ∷ formula left ∷ formula right ∷ []
signs_of (literal_wanted n) = in_notation n
signs_of (literal_read n x) = in_notation n ++ literal_signs x
signs_of (literal_opened n) = in_notation n ++ symbol (codes "(") ∷ []
signs_of (literal_constant n c) = in_notation n ++ symbol (codes "(") ∷ formula c ∷ []
signs_of (literal_colon n c) = in_notation n ++ symbol (codes "(") ∷ formula c ∷ symbol (codes ":") ∷ []
signs_of (literal_level n c level) = in_notation n ++ symbol (codes "(") ∷ formula c ∷ symbol (codes ":") ∷ level_sign level ∷ []
signs_of (tail_opened n x) = in_notation n ++ (literal_signs x ++ symbol (codes ":") ∷ [])
signs_of (tail_level n x level) = in_notation n ++ (literal_signs x ++ symbol (codes ":") ∷ level_sign level ∷ [])
signs_of (tail_read n x tail) = in_notation n ++ (literal_signs x ++ tail_signs (Some tail))
signs_of (whole s) = statement_signs s

-- ---- each lexeme that fits adds its sign

-- one sign more
abbrev Adds : Progress → Lexeme → Progress → Type 0
Adds p l q = (s : Sign) × IsSign s l × (signs_of q ≡ signs_of p ++ s ∷ [])

abbrev AllAdd : Progress → List Row → Type 0
AllAdd p [] = ⊤
AllAdd p (row ∷ rows) = ((l : Lexeme) → IsFit row.0 l.kind l.text → Adds p l (row.1 l)) × AllAdd p rows

choose-adds : (p q : Progress) (rows : List Row) (l : Lexeme) → AllAdd p rows → choose rows l.kind l.text l ≡ Some q → Adds p l q
choose-adds p q [] l all e = absurd (none-some q e)
choose-adds p q (row ∷ rows) l (adds, all) e = go (fits row.0 l.kind l.text) refl e (choose-adds p q rows l all)
  where
    go : (b : Bool) → fits row.0 l.kind l.text ≡ b → (if b then Some (row.1 l) else choose rows l.kind l.text l) ≡ Some q
        → (choose rows l.kind l.text l ≡ Some q → Adds p l q) → Adds p l q
    go true is here more = subst (Adds p l) (same_Some (row.1 l) q here) (adds l (fits-is row.0 l.kind l.text is))
    go false is here more = more here

-- ---- modifiers

mods : Bool → Bool → Bool → Bool → Progress
mods p s v f = opening (record { is_pure = p; is_strict = s; is_provable = v; is_free = f })

pure-more : (p s v f : Bool) → not (p || s || v || f) ≡ true → signs_of (mods true s v f) ≡ signs_of (mods p s v f) ++ keyword (codes "pure") ∷ []
unfolding mods
pure-more true s v f e = absurd (true≢false (sym e))
pure-more false true v f e = absurd (true≢false (sym e))
pure-more false false true f e = absurd (true≢false (sym e))
pure-more false false false true e = absurd (true≢false (sym e))
pure-more false false false false e = refl

strict-more : (p s v f : Bool) → not (s || v || f) ≡ true → signs_of (mods p true v f) ≡ signs_of (mods p s v f) ++ keyword (codes "strict") ∷ []
unfolding mods
strict-more p true v f e = absurd (true≢false (sym e))
strict-more p false true f e = absurd (true≢false (sym e))
strict-more p false false true e = absurd (true≢false (sym e))
strict-more true false false false e = refl
strict-more false false false false e = refl

provable-more : (p s v f : Bool) → not (v || f) ≡ true → signs_of (mods p s true f) ≡ signs_of (mods p s v f) ++ keyword (codes "provable") ∷ []
unfolding mods
provable-more p s true f e = absurd (true≢false (sym e))
provable-more p s false true e = absurd (true≢false (sym e))
provable-more p s false false e = simp append_assoc

free-more : (p s v f : Bool) → not f ≡ true → signs_of (mods p s v true) ≡ signs_of (mods p s v f) ++ keyword (codes "free") ∷ []
unfolding mods
free-more p s v true e = absurd (true≢false (sym e))
free-more p s v false e = simp (append_assoc, append-nil)

-- without modifiers
bare-is : (p s v f : Bool) (x : Sign) → not (p || s || v || f) ≡ true → x ∷ [] ≡ signs_of (mods p s v f) ++ x ∷ []
unfolding mods
bare-is true s v f x e = absurd (true≢false (sym e))
bare-is false true v f x e = absurd (true≢false (sym e))
bare-is false false true f x e = absurd (true≢false (sym e))
bare-is false false false true x e = absurd (true≢false (sym e))
bare-is false false false false x e = refl

beginnings-add : (m : Modifiers) (b : Bool) → is_bare m ≡ b → AllAdd (opening m) (if b then beginnings else [])
unfolding mods
beginnings-add m false is = tt
beginnings-add m true is =
    let bare : (x : Sign) → x ∷ [] ≡ modifier_signs m ++ x ∷ [] = λ x. bare-is m.is_pure m.is_strict m.is_provable m.is_free x is in (
      (λ l fit. (keyword (codes "term"), fit, bare (keyword (codes "term")))),
      (
        (λ l fit. (keyword (codes "axiom"), fit, bare (keyword (codes "axiom")))),
        (
          (λ l fit. (keyword (codes "theorem"), fit, bare (keyword (codes "theorem")))),
          (
            (λ l fit. (keyword (codes "def"), fit, bare (keyword (codes "def")))),
            (
              (λ l fit. (keyword (codes "notation"), fit, bare (keyword (codes "notation")))),
              (
                (λ l fit. (keyword (codes "infixl"), fit, bare (keyword (codes "infixl")))),
                (
                  (λ l fit. (keyword (codes "infixr"), fit, bare (keyword (codes "infixr")))),
                  (
                    (λ l fit. (keyword (codes "prefix"), fit, bare (keyword (codes "prefix")))),
                    (
                      (λ l fit. (keyword (codes "coercion"), fit, bare (keyword (codes "coercion")))),
                      (
                        (λ l fit. (keyword (codes "delimiter"), fit, bare (keyword (codes "delimiter")))),
                        tt,
                      ),
                    ),
                  ),
                ),
              ),
            ),
          ),
        ),
      ),
    )

opening-adds : (m : Modifiers) → AllAdd (opening m) (moves (opening m))
unfolding mods
opening-adds m = (
  (λ l fit. (keyword (codes "pure"), fit.1, pure-more m.is_pure m.is_strict m.is_provable m.is_free fit.0)),
  (
    (λ l fit. (keyword (codes "strict"), fit.1, strict-more m.is_pure m.is_strict m.is_provable m.is_free fit.0)),
    (
      (λ l fit. (keyword (codes "provable"), fit.1, provable-more m.is_pure m.is_strict m.is_provable m.is_free fit.0)),
      (
        (λ l fit. (keyword (codes "free"), fit.1, free-more m.is_pure m.is_strict m.is_provable m.is_free fit.0)),
        (
          (λ l fit. (keyword (codes "sort"), fit, refl)),
          beginnings-add m (is_bare m) refl,
        ),
      ),
    ),
  ),
)

-- ---- groups, types and formulas

slot-signs : (kind : Kind) (h : Head) → signs_of (wanted (slot_of kind h)) ≡ head_signs kind h ++ symbol (codes ":") ∷ []
slot-signs Term h = refl
slot-signs (Assert a) h = refl
slot-signs Definition h = refl
slot-signs Notation h = refl

-- with a type, or a formula, a group is whole
closed-by : (g : OpenGroup) (s : Source) (xs : List Sign) → group_source_signs g.kind g.is_bound s ≡ xs
    → signs_of (closed g s) ≡ (in_group g ++ symbol (codes ":") ∷ xs) ++ symbol (closing_of g.is_bound) ∷ []
closed-by g s xs is = ap (λ ys. keyword (keyword_of g.kind) ∷ name g.head.name ∷ ys) (each-last (group_signs g.kind) g.head.groups (group_of g s)) ∙ rw is (simp append_assoc)

named-by : (g : OpenGroup) (is_dummy : Bool) (l : Lexeme) → signs_of (group_opened (with_name g is_dummy l)) ≡ in_group g ++ name_signs g.kind (record { is_dummy = is_dummy; name = l })
named-by g is_dummy l =
    ap (λ ys. head_signs g.kind g.head ++ symbol (opening_of g.is_bound) ∷ ys) (each-last (name_signs g.kind) g.names (record { is_dummy = is_dummy; name = l })) ∙ simp append_assoc

formula-adds : (slot : Slot) → AllAdd (wanted slot) (formula_rows slot)
formula-adds (group_slot g) = ((λ l fit. (only_if (takes_formulas g.kind g.is_bound) (formula l), (fit.0, (fit.1, refl)), simp append_assoc)), tt)
formula-adds (argument_slot h ts) = tt
formula-adds (premise_slot a h ss) = ((λ l fit. (formula l, (fit, refl), refl)), tt)
formula-adds (definition_slot h) = tt
formula-adds (notation_slot h) = tt

type-adds : (slot : Slot) (t : TypeText) → AllAdd (typed slot t) (type_rows slot t)
type-adds (group_slot g) t = ((λ l fit. (symbol (closing_of g.is_bound), fit, closed-by g (type_source t) (type_signs t) refl ∙ simp append_assoc)), tt)
type-adds (argument_slot h ts) t = (
  (λ l fit. (symbol (codes ">"), fit, ap (λ ys. head_signs Term h ++ symbol (codes ":") ∷ ys) (each-last argument_signs ts t) ∙ simp append_assoc)),
  (
    (λ l fit. (symbol (codes ";"), fit, simp append_assoc)),
    tt,
  ),
)
type-adds (premise_slot a h ss) t = ((λ l fit. (symbol (codes ">"), fit, ap (λ ys. head_signs (Assert a) h ++ symbol (codes ":") ∷ ys) (each-last premise_signs ss (type_source t)) ∙ simp append_assoc)), tt)
type-adds (definition_slot h) t = (
  (λ l fit. (symbol (codes "="), fit, simp append_assoc)),
  (
    (λ l fit. (symbol (codes ";"), fit, simp append_assoc)),
    tt,
  ),
)
type-adds (notation_slot h) t = ((λ l fit. (symbol (codes "="), fit, simp append_assoc)), tt)

dep-adds : (slot : Slot) (t : TypeText) (l : Lexeme) → signs_of (typed slot (with_dep t l)) ≡ signs_of (typed slot t) ++ name l ∷ []
dep-adds slot t l = ap (λ ys. slot_signs slot ++ name t.sort ∷ ys) (each-last (λ d. name d ∷ []) t.deps l) ∙ simp append_assoc

-- ---- notations

level-adds : (p : Progress) (f : Level → Progress) → ((level : Level) → signs_of (f level) ≡ signs_of p ++ level_sign level ∷ []) → AllAdd p (level_rows f)
level-adds p f same = ((λ l fit. (number l, (fit, refl), same (number_level l))), ((λ l fit. (keyword (codes "max"), fit, same level_max)), tt))

literal-adds : (p : Progress) (n : OpenNotation) (rows : List Row) → signs_of p ≡ in_notation n → AllAdd p rows → AllAdd p (literal_rows n rows)
literal-adds p n rows same all = (
  (λ l fit. (name l, (fit, refl), ap (λ ys. ys ++ name l ∷ []) (sym same))),
  (
    (λ l fit. (symbol (codes "("), fit, ap (λ ys. ys ++ symbol (codes "(") ∷ []) (sym same))),
    all,
  ),
)

with-literal : (n : OpenNotation) (x : LiteralText) → in_notation n ++ literal_signs x ≡ in_notation (with_literal n x)
with-literal n x =
    sym (ap (λ ys. head_signs Notation n.head ++ (symbol (codes ":") ∷ (type_signs n.result ++ symbol (codes "=") ∷ ys))) (each-last literal_signs n.literals x) ∙ simp append_assoc)

last-within : (xs ys zs : List Sign) (s : Sign) → xs ++ (ys ++ (zs ++ s ∷ [])) ≡ (xs ++ (ys ++ zs)) ++ s ∷ []
last-within xs ys zs s = ap (λ us. xs ++ us) (sym (append_assoc ys zs (s ∷ []))) ∙ sym (append_assoc xs (ys ++ zs) (s ∷ []))

in-notation : (n : OpenNotation) (ys : List Sign)
    → head_signs Notation n.head ++ (symbol (codes ":") ∷ (type_signs n.result ++ (symbol (codes "=") ∷ (each literal_signs n.literals ++ ys)))) ≡ in_notation n ++ ys
in-notation n ys =
    sym (append_assoc (head_signs Notation n.head) (symbol (codes ":") ∷ (type_signs n.result ++ symbol (codes "=") ∷ each literal_signs n.literals)) ys
    ∙ ap (λ zs. head_signs Notation n.head ++ symbol (codes ":") ∷ zs) (append_assoc (type_signs n.result) (symbol (codes "=") ∷ each literal_signs n.literals) ys))

-- ---- all of them

rows-add : (p : Progress) → AllAdd p (moves p)
rows-add (opening m) = opening-adds m
rows-add (sort_opened m) = ((λ l fit. (name l, (fit, refl), simp append_assoc)), tt)
rows-add (sort_named m n) = ((λ l fit. (symbol (codes ";"), fit, simp append_assoc)), tt)
rows-add (head_opened kind) = ((λ l fit. (name l, (fit, refl), refl)), tt)
rows-add (headed kind h) = (
  (λ l fit. (symbol (codes "{"), fit, refl)),
  (
    (λ l fit. (symbol (codes "("), fit, refl)),
    (
      (λ l fit. (symbol (codes ":"), fit, slot-signs kind h)),
      tt,
    ),
  ),
)
rows-add (group_opened g) = (
  (λ l fit. (name_or_blank l, (fit, refl), named-by g false l)),
  (
    (λ l fit. (only_if (takes_dummies g.kind) (symbol (codes ".")), fit, refl)),
    (
      (λ l fit. (symbol (codes ":"), fit, refl)),
      tt,
    ),
  ),
)
rows-add (group_dotted g) = ((λ l fit. (name_or_blank l, (fit, refl), named-by g true l ∙ simp append_assoc)), tt)
rows-add (wanted slot) = ((λ l fit. (name l, (fit, refl), refl)), formula-adds slot)
rows-add (typed slot t) = ((λ l fit. (name l, (fit, refl), dep-adds slot t l)), type-adds slot t)
rows-add (hypothesis g f) = ((λ l fit. (symbol (closing_of g.is_bound), fit, closed-by g (formula_source f) (only_if (takes_formulas g.kind g.is_bound) (formula f) ∷ []) refl)), tt)
rows-add (claimed a h ss f) = (
  (λ l fit. (symbol (codes ">"), fit, ap (λ ys. head_signs (Assert a) h ++ symbol (codes ":") ∷ ys) (each-last premise_signs ss (formula_source f)) ∙ simp append_assoc)),
  (
    (λ l fit. (symbol (codes ";"), fit, simp append_assoc)),
    tt,
  ),
)
rows-add (body_opened h t) = ((λ l fit. (formula l, (fit, refl), refl)), tt)
rows-add (defined h t f) = ((λ l fit. (symbol (codes ";"), fit, simp append_assoc)), tt)
rows-add (operator_opened f) = ((λ l fit. (name l, (fit, refl), refl)), tt)
rows-add (operator_named f n) = ((λ l fit. (symbol (codes ":"), fit, refl)), tt)
rows-add (constant_wanted f n) = ((λ l fit. (formula l, (fit, refl), refl)), tt)
rows-add (constant_read f n c) = ((λ l fit. (keyword (codes "prec"), fit, refl)), tt)
rows-add (level_wanted f n c) = level-adds (level_wanted f n c) (level_read f n c) (λ level. refl)
rows-add (level_read f n c level) = ((λ l fit. (symbol (codes ";"), fit, refl)), tt)
rows-add coercion_opened = ((λ l fit. (name l, (fit, refl), refl)), tt)
rows-add (coercion_named n) = ((λ l fit. (symbol (codes ":"), fit, refl)), tt)
rows-add (from_wanted n) = ((λ l fit. (name l, (fit, refl), refl)), tt)
rows-add (from_read n from) = ((λ l fit. (symbol (codes ">"), fit, refl)), tt)
rows-add (to_wanted n from) = ((λ l fit. (name l, (fit, refl), refl)), tt)
rows-add (to_read n from to) = ((λ l fit. (symbol (codes ";"), fit, refl)), tt)
rows-add delimiter_opened = ((λ l fit. (formula l, (fit, refl), refl)), tt)
rows-add (left_read left) = ((λ l fit. (formula l, (fit, refl), refl)), ((λ l fit. (symbol (codes ";"), fit, refl)), tt))
rows-add (right_read left right) = ((λ l fit. (symbol (codes ";"), fit, refl)), tt)
rows-add (literal_wanted n) = literal-adds (literal_wanted n) n [] refl tt
rows-add (literal_read n x) =
    literal-adds (literal_read n x) (with_literal n x) ((the_symbol (codes ":"), λ l. tail_opened n x) ∷ (the_symbol (codes ";"), λ l. notation_of n x None) ∷ []) (with-literal n x) (
      (λ l fit. (symbol (codes ":"), fit, simp append_assoc)),
      (
        (λ l fit. (symbol (codes ";"), fit, simp append_assoc)),
        tt,
      ),
    )
rows-add (literal_opened n) = ((λ l fit. (formula l, (fit, refl), simp append_assoc)), tt)
rows-add (literal_constant n c) = ((λ l fit. (symbol (codes ":"), fit, simp append_assoc)), tt)
rows-add (literal_colon n c) = level-adds (literal_colon n c) (literal_level n c) (λ level. simp append_assoc)
rows-add (literal_level n c level) = ((λ l fit. (symbol (codes ")"), fit, simp append_assoc)), tt)
rows-add (tail_opened n x) = level-adds (tail_opened n x) (tail_level n x) (λ level. last-within (in_notation n) (literal_signs x) (symbol (codes ":") ∷ []) (level_sign level))
rows-add (tail_level n x level) = (
  (λ l fit. (keyword (codes "lassoc"), fit, last-within (in_notation n) (literal_signs x) (symbol (codes ":") ∷ level_sign level ∷ []) (keyword (codes "lassoc")))),
  (
    (λ l fit. (keyword (codes "rassoc"), fit, last-within (in_notation n) (literal_signs x) (symbol (codes ":") ∷ level_sign level ∷ []) (keyword (codes "rassoc")))),
    tt,
  ),
)
rows-add (tail_read n x tail) =
    let signs : List Sign = literal_signs x ++ (tail_signs (Some tail) ++ symbol (codes ";") ∷ []) in
    ((λ l fit. (symbol (codes ";"), fit, in-notation n signs ∙ last-within (in_notation n) (literal_signs x) (tail_signs (Some tail)) (symbol (codes ";")))), tt)
rows-add (whole s) = tt

next-adds : (p : Progress) (l : Lexeme) (q : Progress) → next p l ≡ Some q → Adds p l q
next-adds p l q e = choose-adds p q (moves p) l (rows-add p) e

leads-signs : (p q : Progress) (ks ls : List Lexeme) → AreSigns (signs_of p) ks → Leads p ls q → AreSigns (signs_of q) (ks ++ ls)
leads-signs p q ks [] are here = subst (λ r. AreSigns (signs_of r) (ks ++ [])) (sym here) (subst (AreSigns (signs_of p)) (sym (append-nil ks)) are)
leads-signs p q ks (l ∷ ls) are (r, e, rest) =
    let added = next-adds p l r e in
    let more : AreSigns (signs_of r) (ks ++ l ∷ []) = subst (λ xs. AreSigns xs (ks ++ l ∷ [])) (sym added.2) (are_signs-append (signs_of p) (added.0 ∷ []) ks (l ∷ []) are (added.1, tt)) in
    subst (AreSigns (signs_of q)) (append_assoc ks (l ∷ []) ls) (leads-signs r q (ks ++ l ∷ []) ls more rest)

-- lexemes that lead to a whole statement spell it
pub leads-spells : (s : SpecStatement) (ls : List Lexeme) → Leads start ls (whole s) → Spells s ls
leads-spells s ls leads = leads-signs start (whole s) [] ls tt leads
