-- The sample theories: for each number of definitions a specification and a proof text that proves it (this project's
-- own; their syntax is that of the .mm0 format and of proof texts).
--
-- i numbers a definition and its two theorems, from 1; k is the number before it.
use Rattle.std.specs.Prelude.{ℕ, zero, suc, ◌==◌, List, ◌++◌, codes, decimal, if◌then◌else◌}

-- ---- the specification

-- the sorts, the terms and the axioms
abbrev pub specification_head : List ℕ
specification_head =
    codes "provable sort wff;\n"
    ++ codes "sort nat;\n"
    ++ codes "term im (a b: wff): wff;\n"
    ++ codes "term all {x: nat} (p: wff x): wff;\n"
    ++ codes "axiom ax_1 (a b: wff): $ im a ( im b a ) $;\n"
    ++ codes "axiom ax_mp (a b: wff): $ im a b $ > $ a $ > $ b $;\n"
    ++ codes "axiom ax_gen {x: nat} (p: wff x): $ p $ > $ all x p $;\n"

-- what the definition stands for: each but the first mentions the one before it
abbrev pub body_formula : ℕ → List ℕ
body_formula k = if k == 0 then codes "im a ( im a a )" else codes "im a ( d" ++ decimal k ++ codes " a )"

abbrev pub declared_definition : ℕ → ℕ → List ℕ
declared_definition k i = codes "def d" ++ decimal i ++ codes " (a: wff): wff = $ " ++ body_formula k ++ codes " $;\n"

abbrev pub declared_theorem : ℕ → List ℕ
declared_theorem i = codes "theorem t" ++ decimal i ++ codes " (a: wff): $ d" ++ decimal i ++ codes " a $;\n"

abbrev pub declared_generalization : ℕ → List ℕ
declared_generalization i =
    codes "theorem g" ++ decimal i ++ codes " {x: nat} (p: wff x): $ all x ( d" ++ decimal i ++ codes " p ) $;\n"

abbrev pub sample_specification : ℕ → List ℕ
sample_specification zero = specification_head
sample_specification (suc k) =
    sample_specification k ++ declared_definition k (suc k) ++ declared_theorem (suc k) ++ declared_generalization (suc k)

-- ---- the proof text

abbrev pub text_head : List ℕ
text_head =
    codes "(sort wff provable)\n"
    ++ codes "(sort nat)\n"
    ++ codes "(term im ((a wff ()) (b wff ())) (wff ()))\n"
    ++ codes "(term all ((x nat) (p wff (x))) (wff ()))\n"
    ++ codes "(axiom ax_1 ((a wff ()) (b wff ())) () (im a (im b a)))\n"
    ++ codes "(axiom ax_mp ((a wff ()) (b wff ())) ((im a b) a) b)\n"
    ++ codes "(axiom ax_gen ((x nat) (p wff (x))) (p) (all x p))\n"

abbrev pub body_expression : ℕ → List ℕ
body_expression k = if k == 0 then codes "(im a (im a a))" else codes "(im a (d" ++ decimal k ++ codes " a))"

-- of what the definition stands for: an instance of the first axiom, or by modus ponens from the theorem before it
abbrev pub body_proof : ℕ → List ℕ
body_proof k =
    if k == 0
    then codes "(ax_1 (a a))"
    else codes "(ax_mp ((d" ++ decimal k ++ codes " a) (im a (d" ++ decimal k ++ codes " a))) (ax_1 ((d" ++ decimal k ++ codes " a) a)) (t"
    ++ decimal k ++ codes " (a)))"

abbrev pub stated_definition : ℕ → ℕ → List ℕ
stated_definition k i = codes "(def d" ++ decimal i ++ codes " ((a wff ())) (wff ()) () " ++ body_expression k ++ codes ")\n"

abbrev pub proved_theorem : ℕ → ℕ → List ℕ
proved_theorem k i =
    codes "(theorem t" ++ decimal i ++ codes " ((a wff ())) () (d" ++ decimal i ++ codes " a) () (:conv (d" ++ decimal i ++ codes " a) (:unfold d"
    ++ decimal i ++ codes " (a) () " ++ body_expression k ++ codes ") " ++ body_proof k ++ codes "))\n"

abbrev pub proved_generalization : ℕ → List ℕ
proved_generalization i =
    codes "(theorem g" ++ decimal i ++ codes " ((x nat) (p wff (x))) () (all x (d" ++ decimal i ++ codes " p)) () (ax_gen (x (d" ++ decimal i
    ++ codes " p)) (t" ++ decimal i ++ codes " (p))))\n"

abbrev pub sample_text : ℕ → List ℕ
sample_text zero = text_head
sample_text (suc k) =
    sample_text k ++ stated_definition k (suc k) ++ proved_theorem k (suc k) ++ proved_generalization (suc k)

-- ---- the line that says how long both are, in bytes

abbrev pub sample_line : ℕ → ℕ → List ℕ
sample_line specification text =
    codes "sample: " ++ decimal specification ++ codes " bytes of specification, " ++ decimal text ++ codes " bytes of text\n"
