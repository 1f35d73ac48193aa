-- Statements by the keywords with which they begin.
use Rattle.std.proofs.Common.{◌≡◌, ℕ, true, false, sym, refl, subst}
use Rattle.mz_sexpr.specs.Node.{Node, Nodes, atom, list, no_nodes, node, place, parts}
use Rattle.mz_sexpr.specs.declared.rule.U.{U}
use Rattle.mz_mmu_theory.specs.declared.fault.Stop.{Stop}
use Rattle.mz_mmu_theory.specs.Name.{Names}
use Rattle.mz_mmu_theory.specs.Statements.{Statement, kind_of, is_local_word, IsDeclared, IsLocal, IsMarked, IsStatement}
use Rattle.mz_mmu_theory.specs.declared.kind.Kind.{Kind}
use Rattle.mz_mmu_theory.specs.declared.kind.Kind.TheVariants.{Sort as sort_kind, Term as term_kind, Axiom as axiom_kind, Def as def_kind, Theorem as theorem_kind, Other as no_kind}
use Rattle.mz_mmu_theory.specs.FormOrder.{never}
use Rattle.mz_mmu_theory.specs.StatementOrder.{declared_asked, local_asked, marked_asked, statement_asked}
use Rattle.mz_mmu_theory.specs.Stops.{Stops}
use Rattle.mz_mmu_theory.proofs.Offered.{list_of}

pub local_other : (k : Kind) (at : ℕ) (names : Names) (ns : Nodes) → (k ≡ def_kind → ⊥) → (k ≡ theorem_kind → ⊥) → local_asked k at names ns ≡ never at U.Form
local_other def_kind at names ns p q = absurd (p refl)
local_other theorem_kind at names ns p q = absurd (q refl)
local_other _ at names ns p q = refl

pub statement_empty : (names : Names) (m : Node) (s : Stop) → parts m ≡ no_nodes → Stops s (never (place m) U.Form) → Stops s (statement_asked names m)
statement_empty names (list at (node n ns)) s e h = absurd (let f : no_nodes ≡ node n ns = sym e in cc)
statement_empty names _ s e h = h

module _ (names : Names) (m h : Node) (ns : Nodes) (k : Kind) (is : parts m ≡ node h ns) (public : is_local_word h ≡ false) (kind : k ≡ kind_of h) where
  pub statement_public : (s : Statement) → s.is_local ≡ false → IsDeclared names k ns s → IsStatement names m s
  statement_public s mark r =
      subst (λ x. IsStatement names x s) (sym (list_of m h ns is))
      (subst (λ b. IsMarked b names h ns s) (sym public) (mark, subst (λ q. IsDeclared names q ns s) kind r))

  pub statement_public_stops : (s : Stop) → Stops s (declared_asked k (place m) names ns) → Stops s (statement_asked names m)
  statement_public_stops s r =
      subst (λ x. Stops s (statement_asked names x)) (sym (list_of m h ns is))
      (subst (λ b. Stops s (marked_asked b (place m) names h ns)) (sym public) (subst (λ q. Stops s (declared_asked q (place m) names ns)) kind r))

module _ (names : Names) (m h l : Node) (ns : Nodes) (k : Kind) (is : parts m ≡ node h (node l ns)) (here : is_local_word h ≡ true) (kind : k ≡ kind_of l) where
  pub statement_local : (s : Statement) → s.is_local ≡ true → IsLocal names k ns s → IsStatement names m s
  statement_local s mark r =
      subst (λ x. IsStatement names x s) (sym (list_of m h (node l ns) is))
      (subst (λ b. IsMarked b names h (node l ns) s) (sym here) (mark, subst (λ q. IsLocal names q ns s) kind r))

  pub statement_local_stops : (s : Stop) → Stops s (local_asked k (place m) names ns) → Stops s (statement_asked names m)
  statement_local_stops s r =
      subst (λ x. Stops s (statement_asked names x)) (sym (list_of m h (node l ns) is))
      (subst (λ b. Stops s (marked_asked b (place m) names h (node l ns))) (sym here) (subst (λ q. Stops s (local_asked q (place m) names ns)) kind r))

pub statement_local_empty : (names : Names) (m h : Node) (s : Stop) → parts m ≡ node h no_nodes → is_local_word h ≡ true → Stops s (never (place m) U.Form) → Stops s (statement_asked names m)
statement_local_empty names m h s is here r =
    subst (λ x. Stops s (statement_asked names x)) (sym (list_of m h no_nodes is))
    (subst (λ b. Stops s (marked_asked b (place m) names h no_nodes)) (sym here) r)
