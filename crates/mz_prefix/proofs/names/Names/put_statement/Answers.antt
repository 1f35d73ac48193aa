use Rattle.std.specs.Prelude.{OnOk, if◌then◌else◌}
use Rattle.std.proofs.Common.{◌≡◌, ◌++◌, ◌∙◌, Bool, [], sym, ap, subst, append-nil}
use Rattle.mz_logic_theory.specs.DeclView.{declaration}
use Rattle.mz_type.specs.TypedText.{statement_at}
use Rattle.mz_prefix.specs.Writing.{told}
use Rattle.mz_prefix.proofs.Gathering.{told-of}
use Rattle.mz_prefix.proofs.names.Names.put_statement.Goals as goal

pub returns-then-is_local : goal.returns-then-is_local
returns-then-is_local c =
    let ss = c.args.text.now.statements in
    let s = statement_at ss c.args.i in
    let local = told-of (λ s. s.is_local) ss c.args.i c.is_local.result c.is_local.ensures in
    sym (append-nil c.args.out.now.items) ∙ ap (λ t. c.args.out.now.items ++ t) (sym (ap (λ (b : Bool). if b then [] else told c.args.self.now s.name s.decl) (local ∙ c.if-is_local.true)))

pub returns : goal.returns
returns c =
    let ss = c.args.text.now.statements in
    let s = statement_at ss c.args.i in
    let local = told-of (λ s. s.is_local) ss c.args.i c.is_local.result c.is_local.ensures in
    let name = told-of (λ s. s.name) ss c.args.i c.name.result.now c.name.ensures in
    let decl = told-of (λ s. s.decl) ss c.args.i (declaration c.decl.result.now) c.decl.ensures in
    subst (λ t. OnOk c.put_decl.result (c.put_decl.new.out.items ≡ c.args.out.now.items ++ t))
    (ap (λ n. told c.args.self.now n (declaration c.decl.result.now)) (sym name) ∙ ap (λ d. told c.args.self.now s.name d) (sym decl)
    ∙ sym (ap (λ (b : Bool). if b then [] else told c.args.self.now s.name s.decl) (local ∙ c.if-is_local.false)))
    c.put_decl.ensures
