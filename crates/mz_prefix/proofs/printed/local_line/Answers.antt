use Rattle.std.proofs.Common.{◌∙◌, append_assoc}
use Rattle.mz_prefix.proofs.printed.local_line.Goals as goal

pub returns : goal.returns
returns c = rw c.into_bytes.ensures.value (c.in_ok-text.ensures.ok ∙ simp append_assoc)
