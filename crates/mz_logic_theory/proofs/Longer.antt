-- What holds over an environment and a context holds over longer ones, and what a legal environment gives.
use Rattle.mz_logic_theory.specs.Declaration.{signatures}
use Rattle.mz_logic_theory.specs.Laws.{LongerKeepSorts, LongerKeepFits, LongerKeepVariables, LongerKeepDisjoint, LongerKeepConversions, LongerKeepDerivations, ConversionsKeepSorts, DerivedIsProvable}
use Rattle.std.proofs.Common.{◌++◌}
use Rattle.mz_logic_theory.proofs.Extend.{extends_append, env_extends_append, sort_extends, fits_extends, in_v_back, in_v_extends, disjoint_extends, between_extends, derives_extends}
use Rattle.mz_logic_theory.proofs.LegalIsRight.{legal_env_is_right}
use Rattle.mz_logic_theory.proofs.Sound.{same_sort, derived_is_provable}

pub keep_sorts : LongerKeepSorts
keep_sorts env more ctx further e s h =
    sort_extends (signatures env) (signatures (env ++ more)) ctx (ctx ++ further) (env_extends_append env more).signatures_too (extends_append ctx further) e s h

pub keep_fits : LongerKeepFits
keep_fits env more ctx further es ps h =
    fits_extends (signatures env) (signatures (env ++ more)) ctx (ctx ++ further) (env_extends_append env more).signatures_too (extends_append ctx further) es ps h

pub keep_variables : LongerKeepVariables
keep_variables sigs ctx further x e s h =
    (in_v_back sigs ctx (ctx ++ further) (extends_append ctx further) x e s h, in_v_extends ctx (ctx ++ further) (extends_append ctx further) x e)

pub keep_disjoint : LongerKeepDisjoint
keep_disjoint sigs ctx further es ps fits apart = disjoint_extends sigs ctx (ctx ++ further) (extends_append ctx further) es ps fits apart

pub keep_conversions : LongerKeepConversions
keep_conversions env more ctx further c l r h =
    between_extends env (env ++ more) ctx (ctx ++ further) (env_extends_append env more) (extends_append ctx further) c l r h

pub keep_derivations : LongerKeepDerivations
keep_derivations env more ctx further hyps d e h =
    derives_extends env (env ++ more) ctx (ctx ++ further) (env_extends_append env more) (extends_append ctx further) hyps d e h

pub conversion_keeps_sort : ConversionsKeepSorts
conversion_keeps_sort env legal ctx c l r s h k = same_sort env ctx (legal_env_is_right env legal) c l r s h k

pub derived_has_provable : DerivedIsProvable
derived_has_provable env legal ctx hyps given d e h = derived_is_provable env ctx (legal_env_is_right env legal) hyps given d e h
