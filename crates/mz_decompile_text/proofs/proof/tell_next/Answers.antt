use Rattle.std.proofs.Common.{◌++◌, ◌∷◌, [], ◌∙◌, ap, length, arith}
use Rattle.std.proofs.lemmas.List.{length-append}
use Rattle.mz_decompile_text.specs.Naming.{vocabulary_by}
use Rattle.mz_decompile_text.specs.Measures.{capped}
use Rattle.mz_decompile_text.specs.Growing.{those_at}
use Rattle.mz_decompile_text.specs.Telling.{told, weighed}
use Rattle.mz_decompile_text.proofs.LongerProofs.{adds-one, tells-as}
use Rattle.mz_decompile_text.proofs.proof.tell_next.Goals as goal

pub returns : goal.returns
returns c =
    let v = vocabulary_by c.args.names.now in
    let a = c.args.phrases.now in
    let b = c.tell.new.phrases in
    let n = c.args.node.now in
    let ns = c.args.told.now.phrases.items in
    let ws = c.args.told.now.weights.items in
    let t = tells-as a b _ (told v (those_at a ns) n) c.in_ok-phrase.phrase c.in_ok-phrase.ensures (ap (λ xs. told v (those_at a xs) n) c.deref.ensures.value) in
    let one = adds-one a b ns c.push.new.self.items (told v (those_at a ns) n) c.in_ok-phrase.phrase t c.in_ok-push.ensures.items c.requires.told.there in
    let weight = c.weigh-weight.ensures ∙ ap (λ xs. capped (weighed xs n)) c.deref-2.ensures.value in
    let more = ap length c.in_ok-push.ensures.items in
    let most = ap length c.in_ok-push-2.ensures.items in
    let same = c.requires.told.same in
    record {
      grows = t.grows;
      there = record {
        there = one.there;
        same = omega (arith, more, most, same, length-append ns (c.in_ok-phrase.phrase ∷ []), length-append ws (c.weigh-weight.result ∷ []));
      };
      phrases = one.are;
      weights = c.in_ok-push-2.ensures.items ∙ ap (λ w. ws ++ w ∷ []) weight;
    }
