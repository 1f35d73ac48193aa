-- The bodies of worked texts, as the program has compiled them.
use Rattle.std.specs.Prelude.{ℕ, ◌≡◌, List, [], ◌∷◌}
use Rattle.std.proofs.Common.{refl}
use Rattle.mz_logic_theory.specs.Tree.{Tree, var, app, none, more}
use Rattle.mz_logic_theory.specs.Conversions.{refl_conv, cong_conv, unfold_conv, no_convs, more_convs}
use Rattle.mz_logic_theory.specs.Examples.{wff, two, im, implication, neg, negation}
use Rattle.mz_mmu_theory.specs.Proof.{Proof, by_hyp, by_name, by_citation, by_conv, by_let, by_gap, no_proofs, more_proofs}
use Rattle.mz_emit_theory.specs.Endings.{spelled_body}
use Rattle.mz_emit_theory.specs.BodyWriting.{Written, definition_written, axiom_written, theorem_written}
use Rattle.mz_emit_bodies.specs.GapLaws.{used_gaps, sorries}

abbrev body_of : Written → List ℕ
body_of w = spelled_body w.commands

abbrev a : Tree
a = var 0

abbrev b : Tree
b = var 1

-- (ax_1 (x y)) and (ax_mp (x y) p q)
abbrev first_axiom : Tree → Tree → Proof
first_axiom x y = by_citation 0 (more x (more y none)) no_proofs

abbrev modus_ponens : Tree → Tree → Proof → Proof → Proof
modus_ponens x y p q = by_citation 1 (more x (more y none)) (more_proofs p (more_proofs q no_proofs))

-- ---- examples/implication.mmu

-- (axiom ax_1 ((a wff ()) (b wff ())) () (im a (im b a)))
ax_1_body : body_of (axiom_written two [] [] (im a (im b a))) ≡ 0x12 ∷ 0x52 ∷ 1 ∷ 0x12 ∷ 0x11 ∷ 0x11 ∷ 0 ∷ []
ax_1_body = refl

-- (axiom ax_mp ((a wff ()) (b wff ())) ((im a b) a) b)
ax_mp_body : body_of (axiom_written two [] (im a b ∷ a ∷ []) b) ≡ 0x12 ∷ 0x52 ∷ 1 ∷ 0x11 ∷ 0x16 ∷ 0x12 ∷ 0x16 ∷ 0x52 ∷ 1 ∷ 0 ∷ []
ax_mp_body = refl

-- (theorem a1i ((a wff ()) (b wff ())) ((h a)) (im b a) () (ax_mp (a (im b a)) (ax_1 (a b)) h))
a1i_body : body_of (theorem_written implication two [] (a ∷ []) (modus_ponens a (im b a) (first_axiom a b) (by_hyp 0)))
    ≡ 0x12 ∷ 0x16 ∷ 0x12 ∷ 0x52 ∷ 1 ∷ 0x12 ∷ 0x52 ∷ 1 ∷ 0x12 ∷ 0x11 ∷ 0x11 ∷ 0x14 ∷ 0x52 ∷ 2 ∷ 0x12 ∷ 0x52 ∷ 3 ∷ 0x52 ∷ 3 ∷ 0x54 ∷ 1 ∷ 0 ∷ []
a1i_body = refl

-- ---- examples/let_twice.mmu: a let that is used twice is proved at its first use, and saved

abbrev twice : Proof
twice = by_let (first_axiom a a)
    (modus_ponens (im a a) (im a (im a a))
    (modus_ponens (im a (im a a)) (im (im a a) (im a (im a a))) (first_axiom (im a (im a a)) (im a a)) (by_name 0))
    (modus_ponens a (im a a) (by_name 0) (by_hyp 0)))

twice_body : body_of (theorem_written implication (wff ∷ []) [] (a ∷ []) twice)
    ≡ 0x12 ∷ 0x16 ∷ 0x12 ∷ 0x12 ∷ 0x12 ∷ 0x11 ∷ 0x11 ∷ 0x52 ∷ 2 ∷ 0x52 ∷ 3 ∷ 0x52 ∷ 2 ∷ 0x52 ∷ 3 ∷ 0x11 ∷ 0x11 ∷ 0x14
    ∷ 0x12 ∷ 0x12 ∷ 0x52 ∷ 3 ∷ 0x14 ∷ 0x1F ∷ 0x52 ∷ 3 ∷ 0x52 ∷ 4 ∷ 0x52 ∷ 4 ∷ 0x54 ∷ 1
    ∷ 0x52 ∷ 6 ∷ 0x52 ∷ 1 ∷ 0x12 ∷ 0x52 ∷ 2 ∷ 0x52 ∷ 2 ∷ 0x54 ∷ 1 ∷ 0x52 ∷ 2 ∷ 0x52 ∷ 3 ∷ 0x52 ∷ 3 ∷ 0x54 ∷ 1 ∷ 0 ∷ []
twice_body = refl

-- ---- lets that are never used, one of which stands in the part of another, leave nothing:
-- (theorem unused ((a wff ())) ((h a)) (im a a) ()
--   (:let j (ax_1 ((im a (im a a)) a)) (:let k (:let l (ax_1 (a a)) (ax_mp (a (im a a)) l h)) (:let m (ax_1 (a (im a a))) k))))

abbrev unused : Proof
unused = by_let (first_axiom (im a (im a a)) a)
    (by_let (by_let (first_axiom a a) (modus_ponens a (im a a) (by_name 1) (by_hyp 0)))
    (by_let (first_axiom a (im a a)) (by_name 1)))

unused_body : body_of (theorem_written implication (wff ∷ []) [] (a ∷ []) unused)
    ≡ 0x12 ∷ 0x16 ∷ 0x12 ∷ 0x12 ∷ 0x12 ∷ 0x12 ∷ 0x12 ∷ 0x11 ∷ 0x11 ∷ 0x14 ∷ 0x1F ∷ 0x52 ∷ 1 ∷ 0x12 ∷ 0x52 ∷ 2 ∷ 0x52 ∷ 2 ∷ 0x54 ∷ 1 ∷ 0x1F ∷ 0 ∷ []
unused_body = refl

-- ---- examples/fold.mmu: a definition, and its unfolding

abbrev nn : Tree → Tree
nn e = app 1 (more e none)

-- (def nn ((a wff ())) (wff ()) () (not (not a)))
nn_body : body_of (definition_written (wff ∷ []) [] (neg (neg a))) ≡ 0x12 ∷ 0x11 ∷ 0x11 ∷ 0 ∷ []
nn_body = refl

-- (theorem fold ((a wff ())) ((h (not (not a)))) (nn a) () (:conv (nn a) (:unfold nn (a) () (not (not a))) h))
abbrev fold : Proof
fold = by_conv (nn a) (unfold_conv 1 (more a none) [] (cong_conv 0 (more_convs (cong_conv 0 (more_convs (refl_conv a) no_convs)) no_convs))) (by_hyp 0)

fold_body : body_of (theorem_written negation (wff ∷ []) [] (neg (neg a) ∷ []) fold)
    ≡ 0x12 ∷ 0x11 ∷ 0x11 ∷ 0x16 ∷ 0x12 ∷ 0x51 ∷ 1 ∷ 0x52 ∷ 3 ∷ 0x17 ∷ 0x52 ∷ 4 ∷ 0x52 ∷ 2 ∷ 0x1B ∷ 0x1A ∷ 0x1A ∷ 0x18 ∷ 0 ∷ []
fold_body = refl

-- ---- gaps of lets: that of a part counts once, however often the let is named

-- (:let j (:sorry a) (ax_mp (a a) j j))
abbrev named_twice : Proof
named_twice = by_let (by_gap a) (modus_ponens a a (by_name 0) (by_name 0))

named_twice_gaps : used_gaps 0 named_twice ≡ 1
named_twice_gaps = refl

named_twice_sorries : sorries (theorem_written implication (wff ∷ []) [] [] named_twice).commands ≡ 1
named_twice_sorries = refl

-- (:let j (:sorry a) (:let k j k)) comes to name j, and (:let j (:sorry a) (:let k j h)) doesn't
named_by_another : used_gaps 0 (by_let (by_gap a) (by_let (by_name 0) (by_name 1))) ≡ 1
named_by_another = refl

named_by_none : used_gaps 0 (by_let (by_gap a) (by_let (by_name 0) (by_hyp 0))) ≡ 0
named_by_none = refl
