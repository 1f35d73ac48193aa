use Rattle.std.proofs.Common.{◌∙◌, ◌++◌, ◌∷◌, [], List, ap, arith}
use Rattle.mz_logic_theory.specs.declared.word.Word.{Word}
use Rattle.mz_store.proofs.Offered.{taken-all}
use Rattle.mz_machine_env.specs.OwnRow.{kind_of, own_words}
use Rattle.mz_machine_env.proofs.OwnWords.{take-next}
use Rattle.mz_machine_env.proofs.own.read_words.Goals as goal

pub params-init : goal.params-init
params-init c = c.reserve.ensures.items ∙ c.clear.ensures.items

pub params-preserved : goal.params-preserved
params-preserved c =
    c.in_ok-push.ensures.items ∙ ap (λ (ws : List Word). ws ++ c.own_word.result ∷ []) c.params.invariant
    ∙ take-next (own_words c.args.env.now.file c.args.row (kind_of c.args.kind)) c.params.j c.own_word.result c.own_word.ensures

pub returns : goal.returns
returns c = c.params.invariant ∙ taken-all (own_words c.args.env.now.file c.args.row (kind_of c.args.kind)) c.params.j (omega (arith, c.own_arity-count.ensures.words, c.params-test.false))
