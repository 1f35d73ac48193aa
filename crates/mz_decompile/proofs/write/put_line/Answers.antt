use Rattle.std.proofs.Common.{◌≡◌, ◌∙◌, ◌++◌, ℕ, List, [], ◌∷◌, ap, append_assoc}
use Rattle.mz_decompile_text.specs.Naming.{vocabulary_by}
use Rattle.mz_decompile_text.specs.Phrases.{Phrase, written}
use Rattle.mz_decompile_text.specs.Phrasing.{statement}
use Rattle.mz_decompile.proofs.write.put_line.Goals as goal

pub write-requires : goal.write-requires
write-requires c = (c.in_ok-told.ensures c.requires.0 c.requires.1 c.requires.2).phrase.0

pub returns : goal.returns
returns c env t stands =
    let v = vocabulary_by c.args.names.now in
    let told = c.in_ok-told.ensures env t stands in
    let line : c.write.new.out.items ≡ c.args.out.now.items ++ written (statement v t) =
    c.in_ok-write.ensures.ok ∙ ap (λ (p : Phrase). c.args.out.now.items ++ written p) told.phrase.1 in
    c.in_ok-push.ensures.items ∙ ap (λ (x : List ℕ). x ++ 10 ∷ []) line ∙ append_assoc c.args.out.now.items (written (statement v t)) (10 ∷ [])
