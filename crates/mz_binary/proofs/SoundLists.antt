-- The statements of a good file are sound.
use Rattle.std.proofs.Common.{ℕ, Bool, true, false, List}
use Rattle.mz_logic_theory.specs.LegalLists.{Statement, LegalBy, allowed_with}
use Rattle.mz_logic_theory.proofs.Offered.{legal_list_is_closed}
use Rattle.mz_binary_theory.specs.Good.{Good}
use Rattle.mz_binary.specs.Judging.{AreSound}
use Rattle.mz_binary_theory.proofs.Offered.{good-legal, ungapped-free}
use Rattle.mz_binary_theory.specs.Standards.{Standard, lets_gaps}

pub good-sound : (standard : Standard) (file : List ℕ) (ss : List Statement) → Good standard file ss → AreSound (lets_gaps standard) file ss
good-sound standard file ss good = go (lets_gaps standard) (good-legal standard file ss good)
  where
    go : (gaps : Bool) → LegalBy (allowed_with gaps) ss → AreSound gaps file ss
    go false legal = (legal, legal_list_is_closed ss legal)
    go true legal = (legal, ungapped-free standard file ss good)
