-- The printed messages of the rules (this project's own).
use Rattle.std.specs.Prelude.{ℕ, List, codes}
use Rattle.mz_sexpr.specs.declared.rule.U.{U}
use Rattle.mz_sexpr.specs.declared.rule.U.TheVariants as rules

abbrev pub rule_text : U → List ℕ
rule_text rules.Character = codes "U1 character"
rule_text rules.Parenthesis = codes "U2 parenthesis"
rule_text rules.Form = codes "U3 form"
rule_text rules.NameTwice = codes "U4 name twice"
rule_text rules.UnknownName = codes "U5 unknown name"
rule_text rules.Arity = codes "U6 arity"
rule_text rules.Sort = codes "U7 sort"
rule_text rules.Bound = codes "U8 bound"
rule_text rules.Disjoint = codes "U9 disjoint"
rule_text rules.Hypothesis = codes "U10 hypothesis differs"
rule_text rules.Conclusion = codes "U11 conclusion differs"
rule_text rules.Conversion = codes "U12 conversion differs"
rule_text rules.Declaration = codes "U13 declaration"
rule_text rules.DummySort = codes "U14 dummy sort"
rule_text rules.Sorry = codes "U15 sorry"
rule_text rules.Depth = codes "U16 depth"
