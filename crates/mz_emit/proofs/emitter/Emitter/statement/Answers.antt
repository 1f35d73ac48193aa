use Rattle.std.proofs.Common.{List, refl, ap, sym, ◌∙◌, ◌++◌, ◌∷◌, []}
use Rattle.std.proofs.lemmas.Result.{on_ok_weaker}
use Rattle.mz_logic_theory.specs.DeclView.{declaration}
use Rattle.mz_logic_theory.specs.Declaration.{Declaration}
use Rattle.mz_type.specs.StatedView.{with_decl}
use Rattle.mz_emit.specs.declared.emitter.Emitter.{Emitter}
use Rattle.mz_emit.proofs.Rows.{emitted_next, next_declared}
use Rattle.mz_emit.proofs.emitter.Emitter.statement.Goals as goal

pub returns-clause-emits : goal.returns-clause-emits
returns-clause-emits c = λ earlier before.
    let d = declaration c.args.decl.now in
    let added = c.of-self.ensures ∙ next_declared c.args.env.now c.args.place d c.requires.there ∙ ap (λ (ds : List Declaration). ds ++ d ∷ []) (sym c.requires.before) in
    let e : Emitter = record { alloc = c.write.new.self.alloc; seed = c.write.new.self.seed; env = c.of-self.result; table = c.write.new.self.table; writer = c.write.new.self.writer } in
    emitted_next earlier (with_decl d c.args.beside.now) c.args.self.now c.write.new.self e before c.in_ok-write.ensures.writes refl refl added
