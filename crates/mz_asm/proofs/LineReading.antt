-- Which line bytes are: what is read is the line, and each line is read.
use Rattle.std.proofs.Common.{◌≡◌, ◌<◌, ◌+◌, ℕ, Bool, true, false, cond, List, [], ◌∷◌, ◌++◌, length, drop, get_or, codes, Option, Some, None, refl, sym, ap, subst, ◌∙◌, arith, length-drop, append_assoc, append-nil}
use Rattle.std.specs.Prelude.{◌==◌, bytes_eq}
use Rattle.std.specs.List.{position_or_len}
use Rattle.std.proofs.lemmas.Bool.{eqb-true, ne_eqb}
use Rattle.std.proofs.lemmas.List.{take_at, drop_at, take_all}
use Rattle.std.proofs.lemmas.List.Sums.{split_at_first, passes_at_first}
use Rattle.std.proofs.lemmas.Option.{cond_some}
use Rattle.mz_base.proofs.Offered.{both-true, same-bytes, some-length, digit-between}
use Rattle.mz_cmd.specs.declared.code.ProofCode.{ProofCode}
use Rattle.mz_cmd.specs.declared.code.ProofCode.TheVariants as proofs
use Rattle.mz_cmd.specs.declared.code.UnifyCode.{UnifyCode}
use Rattle.mz_cmd.specs.declared.code.UnifyCode.TheVariants as unifies
use Rattle.mz_logic_theory.specs.declared.word.Word.{Word}
use Rattle.mz_show.specs.Tokens.{unify_name, unify_has_number, proof_name, proof_has_number}
use Rattle.mz_asm.specs.declared.kind.Kind.{Kind}
use Rattle.mz_asm.specs.declared.kind.Kind.TheVariants as kinds
use Rattle.mz_asm.specs.declared.line.Line.{Line}
use Rattle.mz_asm.specs.declared.line.Line.TheVariants as lines
use Rattle.mz_base.specs.Identifiers.{is_digit}
use Rattle.mz_asm.specs.Numbers.{are_digits, IsNumber, number_in, word_in}
use Rattle.mz_asm.specs.Lines.{kind_name, IsValue, IsLine}
use Rattle.mz_asm.specs.Reading.{kind_of_word, local_kind_of_word, unify_named, plain_proof_named, proof_named, first_word, other_words, head_of, numbers_in, head_in, param_of, param_in, result_of, result_in, value_in, unify_valued, unify_of, unify_line_in, proof_valued, proof_of, proof_line_in, part_named, part_in, line_named, line_in}
use Rattle.mz_asm.proofs.Numerals.{number-sound, number-complete, numeral-digits, word-sound, word-complete}

abbrev is_space : ℕ → Bool
is_space b = b == 32

-- ---- the first space

pub split-words : (text : List ℕ) → 0 < length (other_words text) → text ≡ first_word text ++ (32 ∷ other_words text)
split-words text some =
    let at : ℕ = position_or_len is_space text in
    let left = length-drop (at + 1) text in
    let inside : at < length text = omega (arith, left, some) in
    let is : get_or text at 0 ≡ 32 = eqb-true _ _ (passes_at_first is_space text 0 inside) in
    split_at_first is_space text 0 inside ∙ ap (λ (c : ℕ). first_word text ++ (c ∷ other_words text)) is

space-place : (ds rest : List ℕ) → are_digits ds ≡ true → position_or_len is_space (ds ++ (32 ∷ rest)) ≡ length ds
space-place [] rest all = refl
space-place (c ∷ cs) rest all =
    let both = both-true (is_digit c) (are_digits cs) all in
    let between = digit-between c both.0 in
    let other : (c == 32) ≡ false = ne_eqb c 32 (omega (arith, between.0)) in
    let more = space-place cs rest both.1 in
    rw other (omega (arith, more))

pub drop-past : (xs : List ℕ) (y : ℕ) (ys : List ℕ) (n : ℕ) → n ≡ length xs → drop (n + 1) (xs ++ (y ∷ ys)) ≡ ys
drop-past xs y ys n is =
    let long = length-append' xs y in
    let whole : xs ++ (y ∷ ys) ≡ (xs ++ (y ∷ [])) ++ ys = sym (append_assoc xs (y ∷ []) ys) in
    ap (drop (n + 1)) whole ∙ drop_at (xs ++ (y ∷ [])) ys (n + 1) (omega (arith, long, is))
  where
    length-append' : (l : List ℕ) (z : ℕ) → length (l ++ (z ∷ [])) ≡ length l + 1
    length-append' [] z = refl
    length-append' (c ∷ l) z = omega (arith, length-append' l z)

digits-first : (ds rest : List ℕ) → are_digits ds ≡ true → first_word (ds ++ (32 ∷ rest)) ≡ ds
digits-first ds rest all = take_at ds (32 ∷ rest) (position_or_len is_space (ds ++ (32 ∷ rest))) (sym (space-place ds rest all))

digits-rest : (ds rest : List ℕ) → are_digits ds ≡ true → other_words (ds ++ (32 ∷ rest)) ≡ rest
digits-rest ds rest all = drop-past ds 32 rest (position_or_len is_space (ds ++ (32 ∷ rest))) (space-place ds rest all)

-- ---- names

pick : {A : Type 0} (P : A → Type 0) (b : Bool) (x : A) (rest : Option A) (k : A) → (b ≡ true → P x) → (rest ≡ Some k → P k) → cond b (Some x) rest ≡ Some k → P k
pick P true x rest k first other e = let is : x ≡ k = cc in subst P is (first refl)
pick P false x rest k first other e = other e

pub kind-sound : (w : List ℕ) (k : Kind) → kind_of_word w ≡ Some k → w ≡ kind_name k
kind-sound w k =
    pick (λ (k : Kind). w ≡ kind_name k) (bytes_eq w (codes "sort")) kinds.Sort _ k (same-bytes w _)
    (pick (λ (k : Kind). w ≡ kind_name k) (bytes_eq w (codes "term")) kinds.Term _ k (same-bytes w _)
    (pick (λ (k : Kind). w ≡ kind_name k) (bytes_eq w (codes "def")) kinds.Definition _ k (same-bytes w _)
    (pick (λ (k : Kind). w ≡ kind_name k) (bytes_eq w (codes "axiom")) kinds.Axiom _ k (same-bytes w _)
    (pick (λ (k : Kind). w ≡ kind_name k) (bytes_eq w (codes "theorem")) kinds.Theorem _ k (same-bytes w _)
    (λ e. absurd cc)))))

pub local-sound : (w : List ℕ) (k : Kind) → local_kind_of_word w ≡ Some k → codes "local " ++ w ≡ kind_name k
local-sound w k =
    pick (λ (k : Kind). codes "local " ++ w ≡ kind_name k) (bytes_eq w (codes "def")) kinds.LocalDefinition _ k (λ e. ap (λ v. codes "local " ++ v) (same-bytes w (codes "def") e))
    (pick (λ (k : Kind). codes "local " ++ w ≡ kind_name k) (bytes_eq w (codes "theorem")) kinds.LocalTheorem _ k (λ e. ap (λ v. codes "local " ++ v) (same-bytes w (codes "theorem") e))
    (λ e. absurd cc))

pub unify-sound : (w : List ℕ) (k : UnifyCode) → unify_named w ≡ Some k → w ≡ unify_name k
unify-sound w k =
    pick (λ (k : UnifyCode). w ≡ unify_name k) (bytes_eq w (codes "term")) unifies.Term _ k (same-bytes w _)
    (pick (λ (k : UnifyCode). w ≡ unify_name k) (bytes_eq w (codes "term_save")) unifies.TermSave _ k (same-bytes w _)
    (pick (λ (k : UnifyCode). w ≡ unify_name k) (bytes_eq w (codes "ref")) unifies.Ref _ k (same-bytes w _)
    (pick (λ (k : UnifyCode). w ≡ unify_name k) (bytes_eq w (codes "dummy")) unifies.Dummy _ k (same-bytes w _)
    (pick (λ (k : UnifyCode). w ≡ unify_name k) (bytes_eq w (codes "hyp")) unifies.Hyp _ k (same-bytes w _)
    (λ e. absurd cc)))))

plain-sound : (w : List ℕ) (k : ProofCode) → plain_proof_named w ≡ Some k → w ≡ proof_name k
plain-sound w k =
    pick (λ (k : ProofCode). w ≡ proof_name k) (bytes_eq w (codes "hyp")) proofs.Hyp _ k (same-bytes w _)
    (pick (λ (k : ProofCode). w ≡ proof_name k) (bytes_eq w (codes "conv")) proofs.Conv _ k (same-bytes w _)
    (pick (λ (k : ProofCode). w ≡ proof_name k) (bytes_eq w (codes "refl")) proofs.Refl _ k (same-bytes w _)
    (pick (λ (k : ProofCode). w ≡ proof_name k) (bytes_eq w (codes "symm")) proofs.Symm _ k (same-bytes w _)
    (pick (λ (k : ProofCode). w ≡ proof_name k) (bytes_eq w (codes "cong")) proofs.Cong _ k (same-bytes w _)
    (pick (λ (k : ProofCode). w ≡ proof_name k) (bytes_eq w (codes "unfold")) proofs.Unfold _ k (same-bytes w _)
    (pick (λ (k : ProofCode). w ≡ proof_name k) (bytes_eq w (codes "conv_cut")) proofs.ConvCut _ k (same-bytes w _)
    (pick (λ (k : ProofCode). w ≡ proof_name k) (bytes_eq w (codes "conv_save")) proofs.ConvSave _ k (same-bytes w _)
    (pick (λ (k : ProofCode). w ≡ proof_name k) (bytes_eq w (codes "save")) proofs.Save _ k (same-bytes w _)
    (pick (λ (k : ProofCode). w ≡ proof_name k) (bytes_eq w (codes "sorry")) proofs.Sorry _ k (same-bytes w _)
    (λ e. absurd cc))))))))))

pub proof-sound : (w : List ℕ) (k : ProofCode) → proof_named w ≡ Some k → w ≡ proof_name k
proof-sound w k =
    pick (λ (k : ProofCode). w ≡ proof_name k) (bytes_eq w (codes "term")) proofs.Term _ k (same-bytes w _)
    (pick (λ (k : ProofCode). w ≡ proof_name k) (bytes_eq w (codes "term_save")) proofs.TermSave _ k (same-bytes w _)
    (pick (λ (k : ProofCode). w ≡ proof_name k) (bytes_eq w (codes "ref")) proofs.Ref _ k (same-bytes w _)
    (pick (λ (k : ProofCode). w ≡ proof_name k) (bytes_eq w (codes "dummy")) proofs.Dummy _ k (same-bytes w _)
    (pick (λ (k : ProofCode). w ≡ proof_name k) (bytes_eq w (codes "thm")) proofs.Thm _ k (same-bytes w _)
    (pick (λ (k : ProofCode). w ≡ proof_name k) (bytes_eq w (codes "thm_save")) proofs.ThmSave _ k (same-bytes w _)
    (pick (λ (k : ProofCode). w ≡ proof_name k) (bytes_eq w (codes "conv_ref")) proofs.ConvRef _ k (same-bytes w _)
    (plain-sound w k)))))))

-- ---- what is read is the line

numeral-some : (ds : List ℕ) (n : ℕ) → number_in ds ≡ Some n → 0 < length ds
numeral-some ds n e = (numeral-digits ds (number-sound ds n e).numeral).1

-- the numbers behind a kind
abbrev IsNumbers : Kind → List ℕ → Line → Type 0
IsNumbers kind text l = (r : List ℕ) × (n : List ℕ) × (row : ℕ) × (number : ℕ) × IsNumber r row × IsNumber n number × (text ≡ r ++ (32 ∷ n)) × (l ≡ lines.Head kind row number)

numbers-sound : (kind : Kind) (text : List ℕ) (l : Line) → numbers_in kind text ≡ Some l → IsNumbers kind text l
numbers-sound kind text l e = go (number_in (first_word text)) refl (number_in (other_words text)) refl e
  where
    go : (a : Option ℕ) → number_in (first_word text) ≡ a → (b : Option ℕ) → number_in (other_words text) ≡ b → head_of kind a b ≡ Some l → IsNumbers kind text l
    go (Some row) ea (Some number) eb e =
        let is : lines.Head kind row number ≡ l = cc in
        (first_word text, other_words text, row, number, number-sound _ row ea, number-sound _ number eb, split-words text (numeral-some (other_words text) number eb), sym is)
    go _ ea _ eb e = absurd cc

-- a line that begins with a kind
head-sound : (o : Option Kind) (front text : List ℕ) (l : Line) → ((k : Kind) → o ≡ Some k → front ≡ kind_name k) → head_in o text ≡ Some l → IsLine (front ++ (32 ∷ text)) l
head-sound None front text l named e = absurd cc
head-sound (Some kind) front text l named e =
    let (r, n, row, number, first, second, is, line) = numbers-sound kind text l e in
    let name : front ≡ kind_name kind = named kind refl in
    let whole : front ++ (32 ∷ text) ≡ kind_name kind ++ (32 ∷ (r ++ (32 ∷ n))) = ap (λ f. f ++ (32 ∷ text)) name ∙ ap (λ t. kind_name kind ++ (32 ∷ t)) is in
    subst (λ (x : Line). IsLine (front ++ (32 ∷ text)) x) (sym line) (r, n, first, second, whole)

-- a number behind a command's name
value-sound : (b : Bool) (text : List ℕ) (v : ℕ) → value_in b text ≡ Some v → (x : List ℕ) × IsValue b x v × (text ≡ first_word text ++ x)
value-sound true text v e = (32 ∷ other_words text, (other_words text, number-sound _ v e, refl), split-words text (numeral-some (other_words text) v e))
value-sound false text v e =
    let found = cond_some (position_or_len is_space text == length text) 0 v e in
    let past : position_or_len is_space text ≡ length text = eqb-true _ _ found.0 in
    ([], (refl, sym found.1), sym (append-nil (first_word text) ∙ take_all (position_or_len is_space text) text (omega (arith, past))))

unify-line-sound : (text : List ℕ) (l : Line) → unify_line_in text ≡ Some l → IsLine (codes " u " ++ text) l
unify-line-sound text l = pick (λ (x : Line). IsLine (codes " u " ++ text) x) (bytes_eq text (codes "end")) lines.UnifyEnd _ l (λ e. ap (λ t. codes " u " ++ t) (same-bytes text (codes "end") e)) (coded (unify_named (first_word text)) refl)
  where
    valued : (code : UnifyCode) → first_word text ≡ unify_name code → (o : Option ℕ) → value_in (unify_has_number code) text ≡ o → unify_valued code o ≡ Some l → IsLine (codes " u " ++ text) l
    valued code name None is e = absurd cc
    valued code name (Some v) is e =
        let (x, value, whole) = value-sound (unify_has_number code) text v is in
        let line : lines.Unify code v ≡ l = cc in
        subst (λ (x : Line). IsLine (codes " u " ++ text) x) line (x, value, ap (λ t. codes " u " ++ t) (whole ∙ ap (λ f. f ++ x) name))

    coded : (o : Option UnifyCode) → unify_named (first_word text) ≡ o → unify_of o text ≡ Some l → IsLine (codes " u " ++ text) l
    coded None is e = absurd cc
    coded (Some code) is e = valued code (unify-sound (first_word text) code is) (value_in (unify_has_number code) text) refl e

proof-line-sound : (text : List ℕ) (l : Line) → proof_line_in text ≡ Some l → IsLine (codes " p " ++ text) l
proof-line-sound text l = pick (λ (x : Line). IsLine (codes " p " ++ text) x) (bytes_eq text (codes "end")) lines.ProofEnd _ l (λ e. ap (λ t. codes " p " ++ t) (same-bytes text (codes "end") e)) (coded (proof_named (first_word text)) refl)
  where
    valued : (code : ProofCode) → first_word text ≡ proof_name code → (o : Option ℕ) → value_in (proof_has_number code) text ≡ o → proof_valued code o ≡ Some l → IsLine (codes " p " ++ text) l
    valued code name None is e = absurd cc
    valued code name (Some v) is e =
        let (x, value, whole) = value-sound (proof_has_number code) text v is in
        let line : lines.Proof code v ≡ l = cc in
        subst (λ (x : Line). IsLine (codes " p " ++ text) x) line (x, value, ap (λ t. codes " p " ++ t) (whole ∙ ap (λ f. f ++ x) name))

    coded : (o : Option ProofCode) → proof_named (first_word text) ≡ o → proof_of o text ≡ Some l → IsLine (codes " p " ++ text) l
    coded None is e = absurd cc
    coded (Some code) is e = valued code (proof-sound (first_word text) code is) (value_in (proof_has_number code) text) refl e

param-sound : (text : List ℕ) (l : Line) → param_in text ≡ Some l → IsLine (codes " param " ++ text) l
param-sound text l e = go (word_in text) refl e
  where
    go : (o : Option Word) → word_in text ≡ o → param_of o ≡ Some l → IsLine (codes " param " ++ text) l
    go None is e = absurd cc
    go (Some w) is e =
        let word = word-sound text w is in
        let line : lines.Param w ≡ l = cc in
        subst (λ (x : Line). IsLine (codes " param " ++ text) x) line (word.0, ap (λ t. codes " param " ++ t) word.1)

result-sound : (text : List ℕ) (l : Line) → result_in text ≡ Some l → IsLine (codes " result " ++ text) l
result-sound text l e = go (word_in text) refl e
  where
    go : (o : Option Word) → word_in text ≡ o → result_of o ≡ Some l → IsLine (codes " result " ++ text) l
    go None is e = absurd cc
    go (Some w) is e =
        let word = word-sound text w is in
        let line : lines.Outcome w ≡ l = cc in
        subst (λ (x : Line). IsLine (codes " result " ++ text) x) line (word.0, ap (λ t. codes " result " ++ t) word.1)

-- one of two
branch : (P : Line → Type 0) (b : Bool) (x y : Option Line) (l : Line) → (b ≡ true → x ≡ Some l → P l) → (y ≡ Some l → P l) → cond b x y ≡ Some l → P l
branch P true x y l first other e = first refl e
branch P false x y l first other e = other e

renamed : (name front rest : List ℕ) (l : Line) → name ≡ front → IsLine (32 ∷ (front ++ (32 ∷ rest))) l → IsLine (32 ∷ (name ++ (32 ∷ rest))) l
renamed name front rest l is line = subst (λ n. IsLine (32 ∷ (n ++ (32 ∷ rest))) l) (sym is) line

named-sound : (name rest : List ℕ) (l : Line) → part_named name rest ≡ Some l → IsLine (32 ∷ (name ++ (32 ∷ rest))) l
named-sound name rest l =
    branch (λ (x : Line). IsLine (32 ∷ (name ++ (32 ∷ rest))) x) (bytes_eq name (codes "param")) (param_in rest) _ l (λ is e. renamed name (codes "param") rest l (same-bytes name _ is) (param-sound rest l e))
    (branch (λ (x : Line). IsLine (32 ∷ (name ++ (32 ∷ rest))) x) (bytes_eq name (codes "result")) (result_in rest) _ l (λ is e. renamed name (codes "result") rest l (same-bytes name _ is) (result-sound rest l e))
    (branch (λ (x : Line). IsLine (32 ∷ (name ++ (32 ∷ rest))) x) (bytes_eq name (codes "u")) (unify_line_in rest) _ l (λ is e. renamed name (codes "u") rest l (same-bytes name _ is) (unify-line-sound rest l e))
    (branch (λ (x : Line). IsLine (32 ∷ (name ++ (32 ∷ rest))) x) (bytes_eq name (codes "p")) (proof_line_in rest) None l (λ is e. renamed name (codes "p") rest l (same-bytes name _ is) (proof-line-sound rest l e))
    (λ e. absurd cc))))

-- what is read has tokens behind its first one
part-some : (name : List ℕ) (l : Line) → part_named name [] ≡ Some l → ⊥
part-some name l =
    branch (λ _. ⊥) (bytes_eq name (codes "param")) None _ l (λ is e. absurd cc)
    (branch (λ _. ⊥) (bytes_eq name (codes "result")) None _ l (λ is e. absurd cc)
    (branch (λ _. ⊥) (bytes_eq name (codes "u")) None _ l (λ is e. absurd cc)
    (branch (λ _. ⊥) (bytes_eq name (codes "p")) None None l (λ is e. absurd cc)
    (λ e. absurd cc))))

part-sound : (text : List ℕ) (l : Line) → part_in text ≡ Some l → IsLine (32 ∷ text) l
part-sound text l e =
    let some : 0 < length (other_words text) = some-length (other_words text) (λ nil. part-some (first_word text) l (sym (ap (part_named (first_word text)) nil) ∙ e)) in
    subst (λ t. IsLine (32 ∷ t) l) (sym (split-words text some)) (named-sound (first_word text) (other_words text) l e)

head-some : (o : Option Kind) (l : Line) → head_in o [] ≡ Some l → ⊥
head-some None l e = absurd cc
head-some (Some k) l e = absurd cc

line-named-some : (name : List ℕ) (l : Line) → line_named name [] ≡ Some l → ⊥
line-named-some name l =
    branch (λ _. ⊥) (bytes_eq name (codes "")) (part_in []) _ l (λ is e. part-some [] l e)
    (branch (λ _. ⊥) (bytes_eq name (codes "local")) None _ l (λ is e. absurd cc)
    (head-some (kind_of_word name) l))

local-line : (rest : List ℕ) (l : Line) → head_in (local_kind_of_word (first_word rest)) (other_words rest) ≡ Some l → IsLine (codes "local " ++ rest) l
local-line rest l e =
    let some : 0 < length (other_words rest) = some-length (other_words rest) (λ nil. head-some (local_kind_of_word (first_word rest)) l (sym (ap (head_in (local_kind_of_word (first_word rest))) nil) ∙ e)) in
    subst (λ t. IsLine (codes "local " ++ t) l) (sym (split-words rest some))
    (head-sound (local_kind_of_word (first_word rest)) (codes "local " ++ first_word rest) (other_words rest) l (λ k is. local-sound (first_word rest) k is) e)

line-named-sound : (name rest : List ℕ) (l : Line) → line_named name rest ≡ Some l → IsLine (name ++ (32 ∷ rest)) l
line-named-sound name rest l =
    branch (λ (x : Line). IsLine (name ++ (32 ∷ rest)) x) (bytes_eq name (codes "")) (part_in rest) _ l
    (λ is e. subst (λ n. IsLine (n ++ (32 ∷ rest)) l) (sym (same-bytes name (codes "") is)) (part-sound rest l e))
    (branch (λ (x : Line). IsLine (name ++ (32 ∷ rest)) x) (bytes_eq name (codes "local")) (head_in (local_kind_of_word (first_word rest)) (other_words rest)) _ l
    (λ is e. subst (λ n. IsLine (n ++ (32 ∷ rest)) l) (sym (same-bytes name (codes "local") is)) (local-line rest l e))
    (head-sound (kind_of_word name) name rest l (λ k is. kind-sound name k is)))

pub line-sound : (text : List ℕ) (l : Line) → line_in text ≡ Some l → IsLine text l
line-sound text l = pick (λ (x : Line). IsLine text x) (bytes_eq text (codes "end")) lines.End _ l (same-bytes text (codes "end")) named
  where
    named : line_named (first_word text) (other_words text) ≡ Some l → IsLine text l
    named e =
        let some : 0 < length (other_words text) = some-length (other_words text) (λ nil. line-named-some (first_word text) l (sym (ap (line_named (first_word text)) nil) ∙ e)) in
        subst (λ t. IsLine t l) (sym (split-words text some)) (line-named-sound (first_word text) (other_words text) l e)

-- ---- each line is read

numbers-complete : (kind : Kind) (r n : List ℕ) (row number : ℕ) → IsNumber r row → IsNumber n number → numbers_in kind (r ++ (32 ∷ n)) ≡ Some (lines.Head kind row number)
numbers-complete kind r n row number first second =
    let digits = (numeral-digits r first.numeral).0 in
    rw (digits-first r n digits, digits-rest r n digits, number-complete r row first, number-complete n number second) refl

unify-complete : (code : UnifyCode) (x : List ℕ) (v : ℕ) → IsValue (unify_has_number code) x v → unify_line_in (unify_name code ++ x) ≡ Some (lines.Unify code v)
unify-complete unifies.Term x v (ds, number, is) = rw (is, number-complete ds v number) refl
unify-complete unifies.TermSave x v (ds, number, is) = rw (is, number-complete ds v number) refl
unify-complete unifies.Ref x v (ds, number, is) = rw (is, number-complete ds v number) refl
unify-complete unifies.Dummy x v (ds, number, is) = rw (is, number-complete ds v number) refl
unify-complete unifies.Hyp x v (nil, is) = rw (nil, is) refl

proof-complete : (code : ProofCode) (x : List ℕ) (v : ℕ) → IsValue (proof_has_number code) x v → proof_line_in (proof_name code ++ x) ≡ Some (lines.Proof code v)
proof-complete proofs.Term x v (ds, number, is) = rw (is, number-complete ds v number) refl
proof-complete proofs.TermSave x v (ds, number, is) = rw (is, number-complete ds v number) refl
proof-complete proofs.Ref x v (ds, number, is) = rw (is, number-complete ds v number) refl
proof-complete proofs.Dummy x v (ds, number, is) = rw (is, number-complete ds v number) refl
proof-complete proofs.Thm x v (ds, number, is) = rw (is, number-complete ds v number) refl
proof-complete proofs.ThmSave x v (ds, number, is) = rw (is, number-complete ds v number) refl
proof-complete proofs.ConvRef x v (ds, number, is) = rw (is, number-complete ds v number) refl
proof-complete proofs.Hyp x v (nil, is) = rw (nil, is) refl
proof-complete proofs.Conv x v (nil, is) = rw (nil, is) refl
proof-complete proofs.Refl x v (nil, is) = rw (nil, is) refl
proof-complete proofs.Symm x v (nil, is) = rw (nil, is) refl
proof-complete proofs.Cong x v (nil, is) = rw (nil, is) refl
proof-complete proofs.Unfold x v (nil, is) = rw (nil, is) refl
proof-complete proofs.ConvCut x v (nil, is) = rw (nil, is) refl
proof-complete proofs.ConvSave x v (nil, is) = rw (nil, is) refl
proof-complete proofs.Save x v (nil, is) = rw (nil, is) refl
proof-complete proofs.Sorry x v (nil, is) = rw (nil, is) refl

head-complete : (kind : Kind) (r n : List ℕ) (row number : ℕ) → IsNumber r row → IsNumber n number → line_in (kind_name kind ++ (32 ∷ (r ++ (32 ∷ n)))) ≡ Some (lines.Head kind row number)
head-complete kinds.Sort r n row number a b = numbers-complete kinds.Sort r n row number a b
head-complete kinds.Term r n row number a b = numbers-complete kinds.Term r n row number a b
head-complete kinds.Definition r n row number a b = numbers-complete kinds.Definition r n row number a b
head-complete kinds.LocalDefinition r n row number a b = numbers-complete kinds.LocalDefinition r n row number a b
head-complete kinds.Axiom r n row number a b = numbers-complete kinds.Axiom r n row number a b
head-complete kinds.Theorem r n row number a b = numbers-complete kinds.Theorem r n row number a b
head-complete kinds.LocalTheorem r n row number a b = numbers-complete kinds.LocalTheorem r n row number a b

pub line-complete : (text : List ℕ) (l : Line) → IsLine text l → line_in text ≡ Some l
line-complete text (lines.Head kind row number) (r, n, first, second, is) = ap line_in is ∙ head-complete kind r n row number first second
line-complete text (lines.Param w) (small, is) = ap line_in is ∙ ap param_of (word-complete w small)
line-complete text (lines.Outcome w) (small, is) = ap line_in is ∙ ap result_of (word-complete w small)
line-complete text (lines.Unify code v) (x, value, is) = ap line_in is ∙ unify-complete code x v value
line-complete text (lines.Proof code v) (x, value, is) = ap line_in is ∙ proof-complete code x v value
line-complete text _ is = ap line_in is

-- bytes are one line at the most
pub line-unique : (text : List ℕ) (l m : Line) → IsLine text l → IsLine text m → l ≡ m
line-unique text l m a b = let same : Some l ≡ Some m = sym (line-complete text l a) ∙ line-complete text m b in cc
