-- The unify stream that a compiler with sharing writes (the .mmb format, on unify streams): each expression in preorder,
-- what is marked by reference. Everything is in the text's own numbering of variables.
use Rattle.std.specs.Prelude.{ℕ, suc, ◌^◌, ◌<◌, ◌&&◌, ⊤, Bool, true, if◌then◌else◌, List, [], ◌∷◌, ◌++◌, map, reverse, Option, Some, None}
use Rattle.std.specs.Option.{option_map}
use Rattle.mz_cmd.specs.Spelling.{shortest}
use Rattle.mz_logic_theory.specs.Tree.{Tree, Trees, var, app, none, more, listed}
use Rattle.mz_logic_theory.specs.Legality.{binder_at}
use Rattle.mz_logic_theory.specs.declared.binder.Binder.{Binder}
use Rattle.mz_logic_theory.specs.Variables.{is_member}
use Rattle.mz_machine_theory.specs.Streams.{UnifyCommand, u_term, u_term_save, u_ref, u_dummy, u_hyp, u_end}
use Rattle.mz_machine_theory.specs.Spells.{variables_from, dummy_of}
use Rattle.mz_machine_theory.specs.Tests.{same_tree}
use Rattle.mz_emit_theory.specs.SymbolicState.{renamed, name_in, from_to}

-- ---- what is written

-- the expressions that are marked, and the dummies met, in order
pub record Writing : Type 0 where
  pub trees : List Tree
  pub dummies : List ℕ

-- commands, and what is marked and met after them
pub record Written : Type 0 where
  pub commands : List UnifyCommand
  pub after : Writing

-- at first the parameters are marked
abbrev pub writing_start : List Binder → Writing
writing_start params = record { trees = variables_from 0 params; dummies = [] }

abbrev pub with_mark : Writing → Tree → Writing
with_mark w e = record w { trees = w.trees ++ e ∷ [] }

-- the dummy x is met, and marked
abbrev pub meeting : Writing → ℕ → Writing
meeting w x = record { trees = w.trees ++ var x ∷ []; dummies = w.dummies ++ x ∷ [] }

-- the first place of an expression among others
abbrev pub place_in : Tree → List Tree → Option ℕ
place_in e [] = None
place_in e (f ∷ fs) = if same_tree e f then Some 0 else option_map suc (place_in e fs)

-- ---- all variables of an expression are among some

abbrev mutual
  pub are_met : List ℕ → Tree → Bool
  are_met met (var x) = is_member x met
  are_met met (app t es) = all_are_met met es

  pub all_are_met : List ℕ → Trees → Bool
  all_are_met met none = true
  all_are_met met (more e es) = are_met met e && all_are_met met es

-- ---- one expression

-- what has a place is a reference
abbrev pub referred : Option ℕ → Writing → Written → Written
referred (Some i) w out = record { commands = u_ref i ∷ []; after = w }
referred None w out = out

abbrev pub headed : UnifyCommand → Written → Written
headed u out = record out { commands = u ∷ out.commands }

abbrev pub and_then : Written → (Writing → Written) → Written
and_then a f = record { commands = a.commands ++ (f a.after).commands; after = (f a.after).after }

-- saved where all its dummies are met, and marked then before its operands
abbrev pub head_of : Bool → ℕ → UnifyCommand
head_of saved t = if saved then u_term_save t else u_term t

abbrev pub marked_if : Bool → Writing → Tree → Writing
marked_if saved w e = if saved then with_mark w e else w

-- In the context ctx, whose parameters are the variables `own`: what is marked is referred to; a dummy is met
-- at its first place; an application that isn't marked is written out, and saved where all dummies in it are met
-- before it.
abbrev mutual
  pub write : List ℕ → List Binder → Writing → Tree → Written
  write own ctx w (var x) = referred (place_in (var x) w.trees) w (record { commands = u_dummy (binder_at ctx x).sort ∷ []; after = meeting w x })
  write own ctx w (app t es) = referred (place_in (app t es) w.trees) w
      (headed (head_of (are_met (own ++ w.dummies) (app t es)) t) (write_all own ctx (marked_if (are_met (own ++ w.dummies) (app t es)) w (app t es)) es))

  -- one after another
  pub write_all : List ℕ → List Binder → Writing → Trees → Written
  write_all own ctx w none = record { commands = []; after = w }
  write_all own ctx w (more e es) = and_then (write own ctx w e) (λ v. write_all own ctx v es)

-- each of these hypotheses behind its own command
abbrev pub write_hyps : List ℕ → List Binder → Writing → List Tree → Written
write_hyps own ctx w [] = record { commands = []; after = w }
write_hyps own ctx w (h ∷ hs) = headed u_hyp (and_then (write own ctx w h) (λ v. write_hyps own ctx v hs))

-- ---- the streams of statements

-- an assertion's: its conclusion, then its hypotheses, the last one first
abbrev pub assertion_written : List Binder → Trees → Tree → Written
assertion_written params hyps conclusion =
    and_then (write (from_to 0 params) params (writing_start params) conclusion) (λ w. write_hyps (from_to 0 params) params w (reverse (listed hyps)))

-- a definition's: its body
abbrev pub definition_written : List Binder → List Binder → Tree → Written
definition_written params dummies body = write (from_to 0 params) (params ++ dummies) (writing_start params) body

-- the body that this spells: its dummies are numbered behind the parameters as they are met
abbrev pub spelled_name : List Binder → List ℕ → ℕ → ℕ
spelled_name params met = name_in (from_to 0 params ++ met)

abbrev pub spelled_dummies : List Binder → List ℕ → List Binder
spelled_dummies ctx met = map (λ x. dummy_of (binder_at ctx x).sort) met

abbrev pub body_spelled : List Binder → List Binder → Tree → Tree
body_spelled params dummies body = renamed (spelled_name params (definition_written params dummies body).after.dummies) body

abbrev pub dummies_spelled : List Binder → List Binder → Tree → List Binder
dummies_spelled params dummies body = spelled_dummies (params ++ dummies) (definition_written params dummies body).after.dummies

-- ---- the bytes

abbrev pub unify_bytes : UnifyCommand → List ℕ
unify_bytes (u_term t) = shortest 0x30 t
unify_bytes (u_term_save t) = shortest 0x31 t
unify_bytes (u_ref i) = shortest 0x32 i
unify_bytes (u_dummy s) = shortest 0x33 s
unify_bytes u_hyp = shortest 0x36 0
unify_bytes u_end = 0x00 ∷ []

-- the commands, each in its shortest spelling, and END
abbrev pub stream_of : List UnifyCommand → List ℕ
stream_of [] = 0x00 ∷ []
stream_of (u ∷ us) = unify_bytes u ++ stream_of us

-- an operand takes four bytes at most, and END stands behind the commands alone
abbrev pub IsShort : UnifyCommand → Type 0
IsShort (u_term t) = t < 2 ^ 32
IsShort (u_term_save t) = t < 2 ^ 32
IsShort (u_ref i) = i < 2 ^ 32
IsShort (u_dummy s) = s < 2 ^ 32
IsShort u_hyp = ⊤
IsShort u_end = ⊥

abbrev pub AreShort : List UnifyCommand → Type 0
AreShort [] = ⊤
AreShort (u ∷ us) = IsShort u × AreShort us
