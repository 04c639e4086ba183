use Rattle.laws.proofs.ExampleDay.{a_whole_day}
use Rattle.laws.proofs.cases.a_whole_day.Goals as goal

pub returns : goal.returns
returns c = a_whole_day
