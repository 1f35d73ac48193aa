use Rattle.std.proofs.Common.{refl}
use Rattle.std.proofs.lemmas.Result.{on_ok_weaker}
use Rattle.mz_decompile_text.proofs.Lists.{goes, goes-open, goes-does, goes-less}
use Rattle.mz_decompile_text.proofs.writing.go_on.Goals as goal

pub begin-requires-clause-lists : goal.begin-requires-clause-lists
begin-requires-clause-lists c =
    let g = goes c.args.phrases.now c.args.list c.args.lists.now.items c.push-in-len1-up.new.self.items _ c.in_ok-push-in-len1-up.ensures.items refl refl c.in-len1-up.len_at_least in
    goes-open _ _ _ _ _ g.0 g.1 c.requires.lists c.requires.list

pub returns-in_ok-push-in-len1-up-clause-does : goal.returns-in_ok-push-in-len1-up-clause-does
returns-in_ok-push-in-len1-up-clause-does c =
    let g = goes c.args.phrases.now c.args.list c.args.lists.now.items c.push-in-len1-up.new.self.items _ c.in_ok-push-in-len1-up.ensures.items refl refl c.in-len1-up.len_at_least in
    on_ok_weaker c.begin.result
    (goes-does _ _ _ _ _ c.begin.new.lists.items g.0 c.args.out.now.items c.separate.new.out.items c.begin.new.out.items g.1 c.in_ok-separate-in-len1-up.ensures.ok)
    c.begin.ensures.does

pub returns-in_ok-push-in-len1-up-clause-less : goal.returns-in_ok-push-in-len1-up-clause-less
returns-in_ok-push-in-len1-up-clause-less c =
    let g = goes c.args.phrases.now c.args.list c.args.lists.now.items c.push-in-len1-up.new.self.items _ c.in_ok-push-in-len1-up.ensures.items refl refl c.in-len1-up.len_at_least in
    on_ok_weaker c.begin.result (goes-less _ _ _ _ _ c.begin.new.lists.items g.0 g.1) c.begin.ensures.less
