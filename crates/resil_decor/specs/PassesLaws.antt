-- The laws of a permitter of passes: proofs that must be in specs/, since the ghost members of an
-- `impl` may name nothing else of their own crate.
use Rattle.std.proofs.Common.{◌++◌, ◌∙◌, [], List, refl}
use Rattle.resil_bulkhead.specs.Passes.{PassView}
use Rattle.resil_decor.specs.declared.permitter.Asked.{Asked}
use Rattle.resil_decor.specs.Passes.{answers_of, GaveAnswers}
use Rattle.resil_decor.specs.Permitter.{AreAnswered-append}

-- no answer
pub none_between : (passes : List PassView) → GaveAnswers passes [] passes
none_between passes = record { same = record { sources = refl; numbers = refl }; answered = refl }

-- answers after others
pub append_between : (x y z : List PassView) (front back : List Asked) → GaveAnswers x front y → GaveAnswers y back z → GaveAnswers x (front ++ back) z
append_between x y z front back gave later = record {
  same = record { sources = later.same.sources ∙ gave.same.sources; numbers = later.same.numbers ∙ gave.same.numbers };
  answered = AreAnswered-append (answers_of x) (answers_of y) (answers_of z) front back gave.answered later.answered;
}
