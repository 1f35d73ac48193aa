use Rattle.std.proofs.lemmas.Result.{on_ok_weaker}
use Rattle.mz_layout_tables.proofs.Offered.{block-written}
use Rattle.mz_layout.proofs.sections.put_block.Goals as goal

pub returns : goal.returns
returns c =
    on_ok_weaker c.put_zeros.result
    (λ written. block-written c.args.out.now.items c.put_words.new.out.items c.extend_from_slice.new.self.items c.put_zeros.new.out.items c.args.words.now c.args.stream.now c.gap.result c.in_ok-put_words.ensures c.in_ok-extend_from_slice.ensures.items c.gap.ensures written)
    c.put_zeros.ensures
