use Rattle.mz_tool.proofs.CompiledOnce.{answered_once}
use Rattle.mz_tool.proofs.compile.compiling_answers_once.Goals as goal

pub returns : goal.returns
returns c = answered_once c.compilation_is_decided.ensures c.texts_have_one_file.ensures c.compilable_texts_have_files.ensures
