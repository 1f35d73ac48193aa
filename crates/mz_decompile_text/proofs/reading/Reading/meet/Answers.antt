use Rattle.std.proofs.Common.{◌≡◌, ◌+◌, ◌∙◌, Some, ap, arith, length, refl}
use Rattle.mz_logic_theory.specs.Tree.{var}
use Rattle.mz_decompile_text.specs.Naming.{vocabulary_by}
use Rattle.mz_decompile_text.specs.Phrasing.{expression}
use Rattle.mz_decompile_text.proofs.RowSteps.{meet_done}
use Rattle.mz_decompile_text.proofs.reading.Reading.meet.Goals as goal

pub returns-clause-does : goal.returns-clause-does
returns-clause-does c = λ file o t g.
    let many : c.len.result ≡ length c.args.self.now.dummies.items = let is = c.len.ensures in omega (arith, is, c.args.self.now.dummies.ok.0) in
    meet_done file o (vocabulary_by c.args.names.now) c.args.phrases.now c.push_variable.new.phrases c.args.self.now _ t c.args.sort c.in_ok-number.number g c.in_ok-number.ensures.grows
    (c.in_ok-number.ensures.is ∙ ap
    (λ n. Some (expression (vocabulary_by c.args.names.now) (var (c.args.self.now.params + n)))) many) refl refl c.in_ok-push-2.ensures.items c.in_ok-push.ensures.items
    c.in_ok-push-3.ensures.items refl
