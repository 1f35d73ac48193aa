-- A machine between two commands.
use Rattle.std.proofs.Common.{◌≡◌, ◌<◌, ◌≤◌, ◌+◌, ◌^◌, ◌∙◌, ℕ, Bool, true, false, List, ◌++◌, length, Option, Some, None, refl, ap, subst, arith, append_assoc, length-append, if◌then◌else◌}
use Rattle.std.specs.Prelude.{◌==◌}
use Rattle.std.proofs.lemmas.List.Elements.{All-append}
use Rattle.mz_cmd.specs.declared.code.ProofCode.{ProofCode}
use Rattle.mz_cmd.specs.Codes.{proof_code}
use Rattle.mz_logic_theory.specs.Legality.{IsDummy}
use Rattle.mz_logic_theory.specs.Signature.{Signature}
use Rattle.mz_store.specs.Sharing.{Sharing, AreIn}
use Rattle.mz_store.specs.declared.item.Id.{Id}
use Rattle.mz_store.specs.declared.item.Item.{Item as Kept}
use Rattle.mz_store.specs.declared.item.DepsMode.TheVariants.{All}
use Rattle.mz_machine_theory.specs.Profile.{strict}
use Rattle.mz_unify.specs.Stored.{AreItemsIn}
use Rattle.mz_unify.proofs.Offered.{still-in}
use Rattle.mz_machine_theory.specs.MachineState.{Kind, is_axiom, is_theorem, is_definition, signatures_in}
use Rattle.mz_machine_theory.specs.Bodies.{BodyCommand, ends, proves, stands_in, if_allowed, body_command}
use Rattle.mz_machine_env.specs.Before.{tables_before}
use Rattle.mz_machine_env.specs.OwnRow.{mode_for}
use Rattle.mz_machine_theory.specs.Headings.{heading_of}
use Rattle.mz_machine.specs.OverStore.{code_of, for_theorems, Grows, IsUnderway}
use Rattle.mz_machine.specs.declared.command.Command.{Command}
use Rattle.mz_machine.specs.declared.command.Command.TheVariants.{Makes, Keeps, Converts}
use Rattle.mz_machine_env.specs.declared.command.Making.TheVariants as making
use Rattle.mz_machine_env.specs.declared.command.Converting.TheVariants as converting
use Rattle.mz_layout_tables.specs.declared.rows_so_far.Rows.{Rows}
use Rattle.mz_machine.proofs.TermResults.{tree-kept}

-- ---- commands of theorems

only : (kind : Kind) (c : Command) → stands_in strict kind (code_of c) ≡ true → for_theorems c ≡ true → kind ≡ is_theorem
only is_theorem c stands theorem = refl
only is_axiom (Makes making.Term) stands theorem = absurd cc
only is_axiom (Makes making.TermSave) stands theorem = absurd cc
only is_axiom (Makes making.Thm) stands theorem = absurd cc
only is_axiom (Makes making.ThmSave) stands theorem = absurd cc
only is_axiom (Converts converting.Conv) stands theorem = absurd cc
only is_axiom (Converts converting.Refl) stands theorem = absurd cc
only is_axiom (Converts converting.Symm) stands theorem = absurd cc
only is_axiom (Converts converting.Cong) stands theorem = absurd cc
only is_axiom (Converts converting.Unfold) stands theorem = absurd cc
only is_axiom (Converts converting.ConvCut) stands theorem = absurd cc
only is_axiom (Converts converting.ConvSave) stands theorem = absurd cc
only is_axiom (Converts converting.Sorry) stands theorem = absurd cc
only is_axiom (Keeps c) stands theorem = absurd cc
only is_definition (Makes making.Term) stands theorem = absurd cc
only is_definition (Makes making.TermSave) stands theorem = absurd cc
only is_definition (Makes making.Thm) stands theorem = absurd cc
only is_definition (Makes making.ThmSave) stands theorem = absurd cc
only is_definition (Converts converting.Conv) stands theorem = absurd cc
only is_definition (Converts converting.Refl) stands theorem = absurd cc
only is_definition (Converts converting.Symm) stands theorem = absurd cc
only is_definition (Converts converting.Cong) stands theorem = absurd cc
only is_definition (Converts converting.Unfold) stands theorem = absurd cc
only is_definition (Converts converting.ConvCut) stands theorem = absurd cc
only is_definition (Converts converting.ConvSave) stands theorem = absurd cc
only is_definition (Converts converting.Sorry) stands theorem = absurd cc
only is_definition (Keeps c) stands theorem = absurd cc

pub same-command : (k c : ProofCode) (v w : ℕ) → proves k v ≡ proves c w → k ≡ c
same-command k c v w e = cc

pub some-command : (x y : BodyCommand) → Some x ≡ Some y → x ≡ y
some-command x y e = cc

stands : (kind : Kind) (byte value : ℕ) (c : ProofCode) → body_command strict kind byte value ≡ Some (proves c value) → stands_in strict kind c ≡ true
stands kind byte value c h = first (byte == 0x00) h
  where
    third : (k : ProofCode) (b : Bool) → stands_in strict kind k ≡ b → (if b then Some (proves k value) else None) ≡ Some (proves c value) → stands_in strict kind c ≡ true
    third k true is e = let same : k ≡ c = same-command k c value value (some-command (proves k value) (proves c value) e) in subst (λ x. stands_in strict kind x ≡ true) same is
    third k false is e = absurd cc

    second : (o : Option ProofCode) → if_allowed strict kind value o ≡ Some (proves c value) → stands_in strict kind c ≡ true
    second None e = absurd cc
    second (Some k) e = third k (stands_in strict kind k) refl e

    first : (b : Bool) → (if b then Some ends else if_allowed strict kind value (proof_code byte)) ≡ Some (proves c value) → stands_in strict kind c ≡ true
    first true e = absurd cc
    first false e = second (proof_code byte) e

-- where a command of theorems stands, the store names all variables
pub tells-all : (kind : Kind) (byte value : ℕ) (c : Command) (s : Sharing) → s.mode ≡ mode_for kind → body_command strict kind byte value ≡ Some (proves (code_of c) value)
    → for_theorems c ≡ true → s.mode ≡ All
tells-all kind byte value c s mode h theorem = mode ∙ ap mode_for (only kind c (stands kind byte value (code_of c) h) theorem)

-- ---- after a command

pub goes-on : (file : List ℕ) (kind row : ℕ) (before : Rows) (s s' : Sharing) (heap stack heap' stack' : List Kept) (hyps hyps' : List Id)
    → IsUnderway file kind row before s heap stack hyps → Grows (signatures_in (tables_before file before)) s s'
    → AreItemsIn s' heap' → AreItemsIn s' stack' → AreIn s' hyps' → length hyps' < 2 ^ 32
    → IsUnderway file kind row before s' heap' stack' hyps'
goes-on file kind row before s s' heap stack heap' stack' hyps hyps' was grows in-heap in-stack in-hyps few = record {
  may_run = was.may_run;
  over = grows.over;
  mode = grows.mode ∙ was.mode;
  context = (
    was.context.0 ++ grows.context.0,
    grows.context.1 ∙ ap (λ ctx. ctx ++ grows.context.0) was.context.1 ∙ append_assoc (heading_of file kind row).params was.context.0 grows.context.0,
    All-append IsDummy was.context.0 grows.context.0 was.context.2 grows.context.2,
  );
  params = λ i below. (let h = was.params i below in (still-in s s' grows.keeps i h.0, tree-kept s s' grows.keeps i h.0 ∙ h.1));
  heap_in = in-heap;
  stack_in = in-stack;
  hyps_in = in-hyps;
  few_hyps = few;
}

pub one-more : (sigs : List Signature) (s s' : Sharing) → Grows sigs s s' → length s'.entries ≤ length s.entries + 1
one-more sigs s s' grows = let few : length grows.keeps.0 ≤ 1 = grows.keeps.2 in omega (arith, ap length grows.keeps.1, length-append s.entries grows.keeps.0, few)

-- ---- the same, said otherwise

pub same-three : {A B C X : Type 0} (f : A → B → C → X) (a a' : A) (b b' : B) (c c' : C) → a ≡ a' → b ≡ b' → c ≡ c' → f a b c ≡ f a' b' c'
same-three f a a' b b' c c' e1 e2 e3 = ap (λ x. f x b c) e1 ∙ ap (λ x. f a' x c) e2 ∙ ap (λ x. f a' b' x) e3
