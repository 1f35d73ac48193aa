use Rattle.std.proofs.Common.{◌≡◌, drop}
use Rattle.mz_lex.specs.Places.{place_of}
use Rattle.mz_lex.proofs.Placing.{named}
use Rattle.mz_lex.proofs.places.Places.among_few.Given as goal

-- what is found behind is what is found among all
abbrev pub invariant-keys : goal.invariant-keys
invariant-keys g l = place_of (named (λ k. k.items) (drop l.i l.self-inside.places.entries)) l.word ≡ place_of l.self l.word
