-- Each step is the machine's by what it does to the rule's log, to the word and to the pass.
use Rattle.resil_permit.proofs.ProtocolSteps.{looking, loading, exchanging, giving, retiring, raising, numbering, ending_join}
use Rattle.resil_permit.proofs.RunningWord.{moves_as, stays_as, opens_as_machine, splits_as_no_step, enters_as_no_step, joins_as_no_step}
use Rattle.resil_permit.proofs.laws.running_word_is_the_machine.Goals as goal

pub returns : goal.returns
returns c = record {
  opening = opens_as_machine;
  load = λ max slots index me idle. moves_as (loading max slots index me idle);
  exchange = λ max slots index me old new loaded less. moves_as (exchanging max slots index me old new loaded less);
  add = λ max slots index me idle holds. moves_as (giving max slots index me idle holds);
  retire = λ max slots index me idle holds. moves_as (retiring max slots index me idle holds);
  raise = λ max slots index me idle has. moves_as (raising max slots index me idle has);
  plain_load = λ max slots index me idle. stays_as (looking max slots index me idle);
  new_pass = enters_as_no_step;
  split = splits_as_no_step;
  end_of_split = λ max slots index me new. stays_as (numbering max slots index me new);
  join = joins_as_no_step;
  end_of_join = λ max slots index me joining. stays_as (ending_join max slots index me _ _ _ joining.3);
}
