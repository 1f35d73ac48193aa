-- The example is written.
use Rattle.std.proofs.Common.{◌≡◌, ◌<◌, ◌∙◌, ℕ, zero, suc, Bool, true, false, ltb, List, [], ◌∷◌, ◌++◌, length, slice_get, Some, Ok, All, Contains, refl, sym, subst, ap, ◌⊎◌, inl, inr, arith, not-suc-le-zero}
use Rattle.std.specs.Prelude.{IsTrue, ⊤, ◌^◌}
use Rattle.std.proofs.lemmas.Bool.{le-ltb}
use Rattle.mz_cmd.specs.Codes.{begins_statement}
use Rattle.mz_cmd.specs.Reading.{first_command}
use Rattle.mz_cmd.specs.declared.code.ProofCode.TheVariants as code
use Rattle.mz_logic_theory.specs.Tree.{Tree, Trees, var, none, more}
use Rattle.mz_logic_theory.specs.Signature.{Signature}
use Rattle.mz_logic_theory.specs.Declaration.{plain_form, defined, Declaration, sort_decl, sorts, signatures}
use Rattle.mz_logic_theory.specs.Derivations.{cite, no_derivs, Derives}
use Rattle.mz_logic_theory.specs.Legality.{IsLegalDecl, Each, IsParam, IsDummy}
use Rattle.mz_logic_theory.specs.LegalLists.{Legal}
use Rattle.mz_logic_theory.specs.Modifiers.{MayBeResultSort, MayBeBoundSort, MayBeDummySort, MayBeClaimSort}
use Rattle.mz_logic_theory.specs.Variables.{InFV, InSomeFV, IsOperandAt}
use Rattle.mz_logic_theory.specs.declared.binder.Binder.{Binder}
use Rattle.mz_logic_theory.specs.declared.binder.SortMods.{SortMods}
use Rattle.mz_logic_theory.specs.declared.word.Word.{Word}
use Rattle.mz_logic_theory.proofs.Offered.{assertions_are_sorted, terms_are_sorted, nothing_in}
use Rattle.mz_layout_tables.specs.Normal.{Written}
use Rattle.mz_layout_tables.specs.Standing.{Fit, HasRoom}
use Rattle.mz_machine_theory.specs.Streams.{StreamKind, of_assertion, of_definition, UnifyCommand, u_term, u_dummy, StreamIs}
use Rattle.mz_machine_theory.specs.Spells.{Marks, with_dummy, at_first, dummy_of}
use Rattle.mz_machine_theory.specs.Profile.{expr, proof}
use Rattle.mz_machine_theory.specs.MachineState.{is_axiom, is_theorem, is_definition}
use Rattle.mz_machine_theory.specs.Sound.{HasGap}
use Rattle.mz_binary_theory.specs.Gapped.{leaves_gap}
use Rattle.mz_emit_theory.specs.Steps.{Step}
use Rattle.mz_emit_theory.specs.SymbolicState.{Work, work_start}
use Rattle.mz_logic_theory.specs.Sorts.{HasSort}
use Rattle.mz_layout_tables.specs.RowWords.{AreParamWords}
use Rattle.mz_emit_theory.specs.AlphaEquivalence.{IsInside, IsSameForm}
use Rattle.mz_emit_theory.specs.Example.{constant, two_bound, constructor, truth, pair, a_term, holds, text, made, result_word, bound_words, parts_by, ExampleIsWritten, DraftIsWritten}
use Rattle.mz_emit_theory.specs.SharedBodies.{AreDistinct, IsSharedBody}
use Rattle.mz_emit_theory.specs.SharedTexts.{IsSharedText}
use Rattle.mz_emit_theory.specs.StreamWriting.{stream_of, AreShort}
use Rattle.mz_emit_theory.specs.Sharing.{Built, BuildsText, BuildsWholeOnce}
use Rattle.mz_emit_theory.proofs.Forgetting.{building-spells}
use Rattle.mz_emit_theory.proofs.Drafts.{body-too}
use Rattle.mz_emit_theory.specs.FileWriting.{IsWrittenAssertion, SayParams, SaySignature, IsWrittenAs}

-- ---- legal

abbrev one_sort : List SortMods
one_sort = record { 0 = 4 } ∷ []

may-result : MayBeResultSort one_sort 0
may-result = (record { 0 = 4 }, refl, λ pure. pure refl)

may-claim : MayBeClaimSort one_sort 0
may-claim = (record { 0 = 4 }, refl, λ is. (let four : 4 ≡ 0 = is in omega arith))

may-bound : MayBeBoundSort one_sort 0
may-bound = (record { 0 = 4 }, refl, λ strict. strict refl)

may-dummy : MayBeDummySort one_sort 0
may-dummy = (record { 0 = 4 }, refl, (λ strict. strict refl), (λ free. free refl))

-- what is declared before each statement
abbrev after-sort : List Declaration
after-sort = sort_decl (record { 0 = 4 }) ∷ []

abbrev after-term : List Declaration
after-term = sort_decl (record { 0 = 4 }) ∷ a_term constant plain_form ∷ []

abbrev after-terms : List Declaration
after-terms = sort_decl (record { 0 = 4 }) ∷ a_term constant plain_form ∷ a_term constructor plain_form ∷ []

abbrev after-definition : List Declaration
after-definition = sort_decl (record { 0 = 4 }) ∷ a_term constant plain_form ∷ a_term constructor plain_form ∷ a_term constant (defined [] truth) ∷ []

abbrev after-definitions : List Declaration
after-definitions =
    sort_decl (record { 0 = 4 }) ∷ a_term constant plain_form ∷ a_term constructor plain_form ∷ a_term constant (defined [] truth) ∷ a_term constant (defined two_bound (pair 1 0)) ∷ []

abbrev after-axiom : List Declaration
after-axiom =
    sort_decl (record { 0 = 4 }) ∷ a_term constant plain_form ∷ a_term constructor plain_form ∷ a_term constant (defined [] truth) ∷ a_term constant (defined two_bound (pair 1 0)) ∷ holds true ∷ []

abbrev OneByOne : {A : Type 0} → (A → Type 0) → List A → Type 0
OneByOne P [] = ⊤
OneByOne P (x ∷ xs) = P x × OneByOne P xs

all-of : {A : Type 0} (P : A → Type 0) (xs : List A) → OneByOne P xs → All P xs
all-of P [] h k d below = absurd (omega arith)
all-of P (x ∷ xs) (h, hs) zero d below = h
all-of P (x ∷ xs) (h, hs) (suc k) d below = all-of P xs hs k d (omega arith)

no-params : (P : ℕ → Binder → Type 0) → Each [] P
no-params P i b at = absurd cc

each-of-two : (P : ℕ → Binder → Type 0) → ((i : ℕ) → P i (dummy_of 0)) → Each two_bound P
each-of-two P h zero b at = let is : dummy_of 0 ≡ b = cc in subst (P 0) is (h 0)
each-of-two P h (suc zero) b at = let is : dummy_of 0 ≡ b = cc in subst (P 1) is (h 1)
each-of-two P h (suc (suc i)) b at = absurd cc

bound-param : (i : ℕ) → IsParam one_sort two_bound i (dummy_of 0)
bound-param i = ((λ _. (refl, may-bound)), λ regular. absurd cc)

term-legal : IsLegalDecl after-sort (a_term constant plain_form)
term-legal = (terms_are_sorted after-sort (record { signature = constant; form = plain_form })).1
    (nothing_in _, no-params _, nothing_in _, may-result, nothing_in _, tt)

constructor-legal : IsLegalDecl after-term (a_term constructor plain_form)
constructor-legal = (terms_are_sorted after-term (record { signature = constructor; form = plain_form })).1
    (all-of (λ (b : Binder). b.sort < 1) two_bound (omega arith, (omega arith, tt)), each-of-two (IsParam one_sort two_bound) bound-param, nothing_in _, may-result, nothing_in _, tt)

-- no variable is free under terms whose results have no dependencies and whose parameters are bound
no-operand : (params : List Binder) (es : Trees) (x : ℕ) → IsOperandAt params es [] x → ⊥
no-operand params es x (j, (k, below, _), _, _) = not-suc-le-zero below

no-free : (sigs : List Signature) (ctx : List Binder) (x : ℕ) → slice_get sigs 0 ≡ Some constant → InFV sigs ctx x truth → ⊥
no-free sigs ctx x at (d, d-at, inl h) = h
no-free sigs ctx x at (d, d-at, inr h) =
    let both : Some constant ≡ Some d = sym at ∙ d-at in
    let is : d ≡ constant = cc in
    no-operand d.params none x (subst (λ (z : Signature). IsOperandAt d.params none z.result.deps x) is h)

no-free-pair : (sigs : List Signature) (ctx : List Binder) (x : ℕ) → slice_get sigs 1 ≡ Some constructor → InFV sigs ctx x (pair 1 0) → ⊥
no-free-pair sigs ctx x at (d, d-at, free) =
    let both : Some constructor ≡ Some d = sym at ∙ d-at in
    let is : d ≡ constructor = cc in
    go (subst (λ (z : Signature). InSomeFV sigs ctx x z.params (more (var 1) (more (var 0) none)) z.params (more (var 1) (more (var 0) none)) ⊎ IsOperandAt z.params (more (var 1) (more (var 0) none)) z.result.deps x) is free)
  where
    go : InSomeFV sigs ctx x two_bound (more (var 1) (more (var 0) none)) two_bound (more (var 1) (more (var 0) none)) ⊎ IsOperandAt two_bound (more (var 1) (more (var 0) none)) [] x → ⊥
    go (inl (inl (regular, _, _))) = absurd cc
    go (inl (inr (inl (regular, _, _)))) = absurd cc
    go (inl (inr (inr h))) = h
    go (inr h) = no-operand two_bound (more (var 1) (more (var 0) none)) x h

definition-legal : IsLegalDecl after-terms (a_term constant (defined [] truth))
definition-legal = (terms_are_sorted after-terms (record { signature = constant; form = defined [] truth })).1
    (nothing_in _, no-params _, nothing_in _, may-result, nothing_in _, (((constant, refl, refl, tt), λ x free. absurd (no-free (constant ∷ constructor ∷ []) [] x refl free)), tt))

pair-sorted : (sigs : List Signature) → slice_get sigs 1 ≡ Some constructor → HasSort sigs two_bound (pair 1 0) 0
pair-sorted sigs at = (constructor, at, refl, ((dummy_of 0, refl, refl), (λ _. (1, dummy_of 0, refl, refl, refl)), ((dummy_of 0, refl, refl), (λ _. (0, dummy_of 0, refl, refl, refl)), tt)))

second-legal : IsLegalDecl after-definition (a_term constant (defined two_bound (pair 1 0)))
second-legal = (terms_are_sorted after-definition (record { signature = constant; form = defined two_bound (pair 1 0) })).1 (
  nothing_in _,
  no-params _,
  all-of (λ (b : Binder). IsDummy b × MayBeDummySort one_sort b.sort) two_bound (((refl, refl), may-dummy), (((refl, refl), may-dummy), tt)),
  may-result,
  nothing_in _,
  ((pair-sorted (constant ∷ constructor ∷ constant ∷ []) refl, λ x free. absurd (no-free-pair (constant ∷ constructor ∷ constant ∷ []) two_bound x refl free)), tt),
)

assertion-legal : (env : List Declaration) (without : Bool) → sorts env ≡ one_sort → slice_get (signatures env) 0 ≡ Some constant → IsLegalDecl env (holds without)
assertion-legal env without sorts-are at = (assertions_are_sorted env (record { is_axiom = without; params = []; hyps = none; conclusion = truth })).1
    (nothing_in _, no-params _, (λ i e here. absurd cc), (0, (constant, at, refl, tt), subst (λ (ss : List SortMods). MayBeClaimSort ss 0) (sym sorts-are) may-claim))

sort-legal : IsLegalDecl [] (sort_decl (record { 0 = 4 }))
sort-legal = (tt, (tt, (tt, (tt, (tt, (tt, (tt, (tt, tt))))))))

cited : Derives after-axiom [] none (cite 0 none no_derivs) truth
cited = (record { is_axiom = true; params = []; hyps = none; conclusion = truth }, refl, refl, tt, (λ i j x p q at. absurd cc), tt)

legal : Legal text
legal = (
  (sort-legal, (λ is. absurd cc), tt),
  (
    (term-legal, (λ is. absurd cc), tt),
    (
      (constructor-legal, (λ is. absurd cc), tt),
      (
        (definition-legal, (λ is e. absurd cc), tt),
        (
          (second-legal, (λ is e. absurd cc), tt),
          (
            (assertion-legal after-definitions true refl refl, (λ is. absurd cc), (λ is. absurd cc)),
            ((assertion-legal after-axiom false refl refl, (λ is. refl), (λ is. ([], no-params _, (cite 0 none no_derivs, (tt, tt), cited)))), tt),
          ),
        ),
      ),
    ),
  ),
)

-- ---- within bounds

abbrev IsInWord : Word → Type 0
IsInWord w = w.0 < 2 ^ 64

term-room : (mark : ℕ) (stream : List ℕ) → HasRoom 1 (record { params = 0; mark = mark; words = result_word ∷ []; stream = stream })
term-room mark stream = record { few_params = omega arith; count = refl; words = all-of IsInWord (result_word ∷ []) (omega arith, tt) }

constructor-room : HasRoom 1 (record { params = 2; mark = 0; words = bound_words ++ result_word ∷ []; stream = [] })
constructor-room = record { few_params = omega arith; count = refl; words = all-of IsInWord (bound_words ++ result_word ∷ []) (omega arith, (omega arith, (omega arith, tt))) }

thm-room : (stream : List ℕ) → HasRoom 0 (record { params = 0; mark = 0; words = []; stream = stream })
thm-room stream = record { few_params = omega arith; count = refl; words = nothing_in IsInWord }

abbrev Known : Written → Type 0
Known w = IsTrue (begins_statement w.code)

fit : (command : ℕ) → Fit (parts_by command)
fit command = record {
  room = record {
    mods = all-of (λ (m : ℕ). m < 16) (parts_by command).sorts (omega arith, tt);
    terms = all-of (HasRoom 1) (parts_by command).terms (term-room 0 [], (constructor-room, (term-room 128 (0x30 ∷ 0x00 ∷ []), (term-room 128 (0x70 ∷ 0x01 ∷ 0x33 ∷ 0x33 ∷ 0x00 ∷ []), tt))));
    thms = all-of (HasRoom 0) (parts_by command).thms (thm-room (0x30 ∷ 0x00 ∷ []), (thm-room (0x30 ∷ 0x00 ∷ []), tt));
    codes = all-of Known (parts_by command).statements (refl, (refl, (refl, (refl, (refl, (refl, (refl, tt)))))));
  };
  few_sorts = omega arith;
  short = omega arith;
}

-- ---- words

say-nothing : (ss : List SortMods) → SayParams ss [] []
say-nothing ss = record { right = λ i below. absurd (omega arith); said = refl }

say-constant : SaySignature one_sort [] result_word constant
say-constant = record { right = λ i below. absurd (omega arith); is_regular = refl; may_be = may-result; bits = omega arith; said = refl }

bound-right : AreParamWords one_sort bound_words
bound-right zero below = (record { 0 = 0x8000000000000001 }, refl, (omega arith, (may-bound, omega arith, refl)))
bound-right (suc zero) below = (record { 0 = 0x8000000000000002 }, refl, (omega arith, (may-bound, omega arith, refl)))
bound-right (suc (suc i)) below = absurd (omega arith)

say-constructor : SaySignature one_sort bound_words result_word constructor
say-constructor = record { right = bound-right; is_regular = refl; may_be = may-result; bits = omega arith; said = refl }

-- ---- streams

ends : (rest : List ℕ) → first_command (0x00 ∷ rest) ≡ Ok (record { code = 0; value = 0; len = 1 })
ends rest = let none-cut : ltb (length rest) 0 ≡ false = le-ltb (length rest) 0 (omega arith) in rw none-cut refl

begins : (rest : List ℕ) → first_command (0x30 ∷ 0x00 ∷ rest) ≡ Ok (record { code = 0x30; value = 0; len = 1 })
begins rest = let none-cut : ltb (length (0x00 ∷ rest)) 0 ≡ false = le-ltb (length (0x00 ∷ rest)) 0 (omega arith) in rw none-cut refl

stream-is : (kind : StreamKind) (rest : List ℕ) → StreamIs kind (0x30 ∷ 0x00 ∷ rest) (u_term 0 ∷ [])
stream-is of_assertion rest = (record { code = 0x30; value = 0; len = 1 }, begins rest, refl, (λ is. is), (record { code = 0; value = 0; len = 1 }, ends rest, refl))
stream-is of_definition rest = (record { code = 0x30; value = 0; len = 1 }, begins rest, refl, (λ is. is), (record { code = 0; value = 0; len = 1 }, ends rest, refl))

-- what builds one application alone, and doesn't save it, builds none twice
only : {A : Type 0} (x : A) (i : ℕ) (y : A) → slice_get (x ∷ []) i ≡ Some y → (i ≡ 0) × (x ≡ y)
only x zero y at = (refl, cc)
only x (suc i) y at = absurd cc

one-built : (n : ℕ) (b : Built) → b.saved ≡ false → BuildsWholeOnce n (b ∷ [])
one-built n b plain = record {
  saves_whole = λ i c at saved. absurd (let both : true ≡ false = sym saved ∙ ap (λ (x : Built). x.saved) (sym (only b i c at).1) ∙ plain in cc);
  once = λ i j c d at at' same whole whole'. (only b i c at).0 ∙ sym (only b j d at').0;
}

shared-text : (kind : StreamKind) (sigs : List Signature) (stream : List ℕ) (us : List UnifyCommand) (e : Tree) (last : Marks) (b : Built) → b.saved ≡ false
    → stream ≡ stream_of us → AreShort us
    → ((rest : List ℕ) → BuildsText kind sigs [] (stream ++ rest) none e last (b ∷ [])) → IsSharedText kind sigs [] stream none e last.dummies
shared-text kind sigs stream us e last b plain is short builds = record {
  commands = us;
  written = is;
  short = short;
  spells = λ rest. (last, building-spells kind sigs [] (stream ++ rest) none e last (b ∷ []) (builds rest), refl);
  shares = λ rest. (last, b ∷ [], builds rest, one-built 0 b plain);
}

abbrev truth-built : Built
truth-built = record { term = truth; saved = false; met = 0 }

truth-text : (kind : StreamKind) (sigs : List Signature) → slice_get sigs 0 ≡ Some constant → IsSharedText kind sigs [] (0x30 ∷ 0x00 ∷ []) none truth []
truth-text kind sigs at = shared-text kind sigs (0x30 ∷ 0x00 ∷ []) (u_term 0 ∷ []) truth (at_first []) truth-built refl refl (omega arith, tt)
    (λ rest. (u_term 0 ∷ [], stream-is kind rest, at_first [], [], truth-built ∷ [], [], inr (inl ([], [], refl, (constant, at, refl), (refl, refl, refl), refl)), (refl, refl, refl), refl))

-- the second definition's stream
reads-pair : (rest : List ℕ) → first_command (0x70 ∷ 0x01 ∷ 0x33 ∷ 0x33 ∷ 0x00 ∷ rest) ≡ Ok (record { code = 0x30; value = 1; len = 2 })
reads-pair rest = let none-cut : ltb (length (0x01 ∷ 0x33 ∷ 0x33 ∷ 0x00 ∷ rest)) 1 ≡ false = le-ltb (length (0x01 ∷ 0x33 ∷ 0x33 ∷ 0x00 ∷ rest)) 1 (omega arith) in rw none-cut refl

reads-dummy : (rest : List ℕ) → first_command (0x33 ∷ rest) ≡ Ok (record { code = 0x33; value = 0; len = 1 })
reads-dummy rest = let none-cut : ltb (length rest) 0 ≡ false = le-ltb (length rest) 0 (omega arith) in rw none-cut refl

pair-stream : (rest : List ℕ) → StreamIs of_definition (0x70 ∷ 0x01 ∷ 0x33 ∷ 0x33 ∷ 0x00 ∷ rest) (u_term 1 ∷ u_dummy 0 ∷ u_dummy 0 ∷ [])
pair-stream rest = (
  record { code = 0x30; value = 1; len = 2 },
  reads-pair rest,
  refl,
  (λ is. is),
  (
    record { code = 0x33; value = 0; len = 1 },
    reads-dummy (0x33 ∷ 0x00 ∷ rest),
    refl,
    (λ is. is),
    (
      record { code = 0x33; value = 0; len = 1 },
      reads-dummy (0x00 ∷ rest),
      refl,
      (λ is. is),
      (record { code = 0; value = 0; len = 1 }, ends rest, refl),
    ),
  ),
)

abbrev pair-built : Built
pair-built = record { term = pair 0 1; saved = false; met = 0 }

-- the marks after the first dummy, and after both
abbrev one-mark : Marks
one-mark = with_dummy (at_first []) 0 0

abbrev two-marks : Marks
two-marks = with_dummy one-mark 1 0

pair-text : (sigs : List Signature) → slice_get sigs 1 ≡ Some constructor → IsSharedText of_definition sigs [] (0x70 ∷ 0x01 ∷ 0x33 ∷ 0x33 ∷ 0x00 ∷ []) none (pair 0 1) two_bound
pair-text sigs at = shared-text of_definition sigs (0x70 ∷ 0x01 ∷ 0x33 ∷ 0x33 ∷ 0x00 ∷ []) (u_term 1 ∷ u_dummy 0 ∷ u_dummy 0 ∷ []) (pair 0 1) two-marks pair-built refl refl
    (omega arith, (omega arith, (omega arith, tt)))
    (λ rest. (
      u_term 1 ∷ u_dummy 0 ∷ u_dummy 0 ∷ [],
      pair-stream rest,
      two-marks,
      [],
      pair-built ∷ [],
      [],
      inr (inl (
        u_dummy 0 ∷ u_dummy 0 ∷ [],
        [],
        refl,
        (constructor, at, refl),
        (one-mark, u_dummy 0 ∷ [], [], [], (inr (0, refl, refl, refl), refl), (two-marks, [], [], [], (inr (0, refl, refl, refl), refl), (refl, refl, refl), refl), refl),
        refl,
      )),
      (refl, refl, refl),
      refl,
    ))

-- ---- bodies

-- the constant is made
abbrev first-made : Work
first-made = record { met = []; heap = []; stack = expr truth ∷ []; hyps = [] }

makes : (env : List Declaration) → slice_get (signatures env) 0 ≡ Some constant → Step false env [] (work_start []) code.Term 0 first-made
makes env at = ([], [], (((0, (constant, at, refl, tt))), refl), refl)

one-distinct : (e : Tree) → AreDistinct (e ∷ [])
one-distinct e i j f at at' = (only e i f at).0 ∙ sym (only e j f at').0

definition-body : IsSharedBody false after-terms is_definition [] [] truth [] (0x10 ∷ 0x00 ∷ [])
definition-body = record {
  body = record {
    few = omega arith;
    commands = (code.Term, 0) ∷ [];
    work = first-made;
    spelled = refl;
    may_stand = (refl, omega arith, tt);
    steps = (first-made, makes after-terms refl, refl);
    stack = refl;
    assumed = refl;
  };
  built_are = truth ∷ [];
  builds = (first-made, [], makes after-terms refl, (refl, refl), refl);
  distinct = one-distinct truth;
  plain = (tt, tt);
}

-- the second definition's body
abbrev one-met : Work
one-met = record { met = 1 ∷ []; heap = expr (var 1) ∷ []; stack = expr (var 1) ∷ []; hyps = [] }

abbrev two-met : Work
two-met = record { met = 1 ∷ 0 ∷ []; heap = expr (var 1) ∷ expr (var 0) ∷ []; stack = expr (var 0) ∷ expr (var 1) ∷ []; hyps = [] }

abbrev pair-made : Work
pair-made = record { met = 1 ∷ 0 ∷ []; heap = expr (var 1) ∷ expr (var 0) ∷ []; stack = expr (pair 1 0) ∷ []; hyps = [] }

meets-first : Step false after-definition two_bound (work_start []) code.Dummy 0 one-met
meets-first = (1, refl, may-dummy, (λ (k, below, _). not-suc-le-zero below), refl)

meets-second : Step false after-definition two_bound one-met code.Dummy 0 two-met
meets-second = (0, refl, may-dummy, (λ has. not-met has), refl)
  where
    not-met : Contains {X = ℕ} (1 ∷ []) 0 → ⊥
    not-met (zero, below, is) = let one-zero : ◌≡◌ {A = ℕ} 1 0 = is in omega arith
    not-met (suc k, below, is) = omega arith

makes-pair : Step false after-definition two_bound two-met code.Term 1 pair-made
makes-pair = (var 1 ∷ var 0 ∷ [], [], ((0, pair-sorted (constant ∷ constructor ∷ constant ∷ []) refl), refl), refl)

second-body : IsSharedBody false after-definition is_definition [] two_bound (pair 1 0) [] (0x13 ∷ 0x13 ∷ 0x50 ∷ 0x01 ∷ 0x00 ∷ [])
second-body = record {
  body = record {
    few = omega arith;
    commands = (code.Dummy, 0) ∷ (code.Dummy, 0) ∷ (code.Term, 1) ∷ [];
    work = pair-made;
    spelled = refl;
    may_stand = (refl, omega arith, (refl, omega arith, (refl, omega arith, tt)));
    steps = (one-met, meets-first, (two-met, meets-second, (pair-made, makes-pair, refl)));
    stack = refl;
    assumed = refl;
  };
  built_are = pair 1 0 ∷ [];
  builds = (one-met, pair 1 0 ∷ [], meets-first, (two-met, pair 1 0 ∷ [], meets-second, (pair-made, [], makes-pair, (refl, refl), refl), refl), refl);
  distinct = one-distinct (pair 1 0);
  plain = (tt, (tt, (tt, tt)));
}

axiom-body : IsSharedBody false after-definitions is_axiom [] [] truth [] (0x10 ∷ 0x00 ∷ [])
axiom-body = record {
  body = record {
    few = omega arith;
    commands = (code.Term, 0) ∷ [];
    work = first-made;
    spelled = refl;
    may_stand = (refl, omega arith, tt);
    steps = (first-made, makes after-definitions refl, refl);
    stack = refl;
    assumed = refl;
  };
  built_are = truth ∷ [];
  builds = (first-made, [], makes after-definitions refl, (refl, refl), refl);
  distinct = one-distinct truth;
  plain = (tt, tt);
}

-- the theorem's body
abbrev truth-proved : Work
truth-proved = record { met = []; heap = []; stack = proof truth ∷ []; hyps = [] }

cites-axiom : Step false after-axiom [] first-made code.Thm 0 truth-proved
cites-axiom = (truth, [], (record { is_axiom = true; params = []; hyps = none; conclusion = truth }, [], [], refl, tt, (λ i j x p q at. absurd cc), ([], refl, refl, refl), refl), refl)

theorem-body : IsSharedBody false after-axiom is_theorem [] [] truth [] (0x10 ∷ 0x14 ∷ 0x00 ∷ [])
theorem-body = record {
  body = record {
    few = omega arith;
    commands = (code.Term, 0) ∷ (code.Thm, 0) ∷ [];
    work = truth-proved;
    spelled = refl;
    may_stand = (refl, omega arith, (refl, omega arith, tt));
    steps = (first-made, makes after-axiom refl, (truth-proved, cites-axiom, refl));
    stack = refl;
    assumed = refl;
  };
  built_are = truth ∷ [];
  builds = (first-made, [], makes after-axiom refl, (truth-proved, [], cites-axiom, (refl, refl), refl), refl);
  distinct = one-distinct truth;
  plain = (tt, (tt, tt));
}

-- ---- all of it

-- the text's two dummies, turned
turned : IsSameForm [] (defined two_bound (pair 1 0)) (defined two_bound (pair 0 1))
turned = (1 ∷ 0 ∷ [], ((dummy_of 0, refl, refl, refl), (λ h. h), (λ has. other has), ((dummy_of 0, refl, refl, refl), (λ h. h), (λ (k, below, _). not-suc-le-zero below), tt)), refl, inside)
  where
    inside : IsInside [] two_bound (pair 0 1)
    inside y (inl is) = omega (arith, is)
    inside y (inr (inl is)) = omega (arith, is)
    inside y (inr (inr h)) = absurd h

    other : Contains {X = ℕ} (0 ∷ []) 1 → ⊥
    other (zero, below, is) = let zero-one : ◌≡◌ {A = ℕ} 0 1 = is in omega arith
    other (suc k, below, is) = omega arith

-- with these bodies, of which the theorem's has the command behind the term
module _ (gaps : Bool) (command : ℕ) (first : IsSharedBody gaps after-terms is_definition [] [] truth [] (0x10 ∷ 0x00 ∷ []))
    (second : IsSharedBody gaps after-definition is_definition [] two_bound (pair 1 0) [] (0x13 ∷ 0x13 ∷ 0x50 ∷ 0x01 ∷ 0x00 ∷ []))
    (third : IsSharedBody gaps after-definitions is_axiom [] [] truth [] (0x10 ∷ 0x00 ∷ [])) (last : IsSharedBody gaps after-axiom is_theorem [] [] truth [] (0x10 ∷ command ∷ 0x00 ∷ [])) where
  axiom-written : IsWrittenAssertion gaps (parts_by command) after-definitions (record { is_axiom = true; params = []; hyps = none; conclusion = truth }) (0x10 ∷ 0x00 ∷ [])
  axiom-written = record {
    words = [];
    stream = 0x30 ∷ 0x00 ∷ [];
    row = refl;
    say = say-nothing one_sort;
    text = truth-text of_assertion (signatures after-definitions) refl;
    dummies = [];
    are_dummies = no-params _;
    body = third;
  }

  theorem-written : IsWrittenAssertion gaps (parts_by command) after-axiom (record { is_axiom = false; params = []; hyps = none; conclusion = truth }) (0x10 ∷ command ∷ 0x00 ∷ [])
  theorem-written = record {
    words = [];
    stream = 0x30 ∷ 0x00 ∷ [];
    row = refl;
    say = say-nothing one_sort;
    text = truth-text of_assertion (signatures after-axiom) refl;
    dummies = [];
    are_dummies = no-params _;
    body = last;
  }

  written : IsWrittenAs gaps (parts_by command) text made
  written = (
    record { mark = refl; code = (refl, refl); declaration = (refl, refl, refl) },
    (
      record { mark = refl; code = (inl refl, refl); declaration = ((refl, tt), ([], result_word, say-constant, (refl, refl, refl))) },
      (
        record { mark = refl; code = (inl refl, refl); declaration = ((refl, tt), (bound_words, result_word, say-constructor, (refl, refl, refl))) },
        (
          record {
            mark = refl;
            code = (inr refl, refl);
            declaration = ((refl, ([], tt, refl, λ y occurs. absurd occurs)), ([], result_word, say-constant, (0x30 ∷ 0x00 ∷ [], refl, truth-text of_definition (signatures after-terms) refl, first)));
          },
          (
            record {
              mark = refl;
              code = (inr refl, refl);
              declaration = ((refl, turned), ([], result_word, say-constant, (0x70 ∷ 0x01 ∷ 0x33 ∷ 0x33 ∷ 0x00 ∷ [], refl, pair-text (signatures after-definition) refl, second)));
            },
            (
              record { mark = refl; code = (refl, refl); declaration = (refl, axiom-written) },
              (
                record { mark = refl; code = (inr refl, refl); declaration = (refl, theorem-written) },
                record { no_sorts = refl; no_terms = refl; no_thms = refl },
              ),
            ),
          ),
        ),
      ),
    ),
  )

pub example-written : ExampleIsWritten
example-written = (fit 0x14, legal, written false 0x14 definition-body second-body axiom-body theorem-body)

-- ---- with a gap

leaves-gap : Step true after-axiom [] first-made code.Sorry 0 truth-proved
leaves-gap = (refl, inl (truth, [], refl, (0, (constant, refl, refl, tt), may-claim), refl))

gap-body : IsSharedBody true after-axiom is_theorem [] [] truth [] (0x10 ∷ 0x20 ∷ 0x00 ∷ [])
gap-body = record {
  body = record {
    few = omega arith;
    commands = (code.Term, 0) ∷ (code.Sorry, 0) ∷ [];
    work = truth-proved;
    spelled = refl;
    may_stand = (refl, omega arith, (refl, omega arith, tt));
    steps = (first-made, makes after-axiom refl, (truth-proved, leaves-gap, refl));
    stack = refl;
    assumed = refl;
  };
  built_are = truth ∷ [];
  builds = (first-made, [], makes after-axiom refl, (truth-proved, [], leaves-gap, (refl, refl), refl), refl);
  distinct = one-distinct truth;
  plain = (tt, (refl, tt));
}

gap-there : HasGap (0x10 ∷ 0x20 ∷ 0x00 ∷ [])
gap-there = (record { code = 0x10; value = 0; len = 1 }, refl, inr (record { code = 0x20; value = 0; len = 1 }, refl, inl refl))

pub draft-written : DraftIsWritten
draft-written = (
  fit 0x20,
  written true 0x20 (body-too after-terms is_definition [] [] truth [] (0x10 ∷ 0x00 ∷ []) definition-body)
      (body-too after-definition is_definition [] two_bound (pair 1 0) [] (0x13 ∷ 0x13 ∷ 0x50 ∷ 0x01 ∷ 0x00 ∷ []) second-body)
      (body-too after-definitions is_axiom [] [] truth [] (0x10 ∷ 0x00 ∷ []) axiom-body)
      gap-body,
  leaves_gap 1 (0x10 ∷ 0x20 ∷ 0x00 ∷ []) refl gap-there,
)
